-- Two images that are the same to bay k: what it owns is alike, names by their places in the bay. An image that mirrors itself is one where the bay's expressions name
-- only the bay's names.
use Rattle.std.proofs.Common.{◌∙◌, ap, sym, append-nil, arith, length-append, length-set}
use Rattle.std.specs.Prelude.{◌≡◌, refl, ◌++◌, ◌+◌, ◌-◌, ◌<◌, ℕ, length, replicate, set}
use Rattle.std.proofs.Math.Option.{some}
use Rattle.std.proofs.lemmas.List.{length-replicate}
use Rattle.calculus.specs.Syntax.{Component, Config, at}
use Rattle.calculus.specs.Typing.{TypeNumbers}
use Rattle.calculus.specs.Owners.{Owners, Owned, owners_after, grown}
use Rattle.calculus.proofs.Theory.Lists.{get_d_at, at_bound, append_left, append_right, replicate_at}
use Rattle.calculus.specs.Shares.{of_bay, bay_components}
use Rattle.bays_apart.specs.Same.{Names, SameComponent, rank, SamePlace, Alike}
use Rattle.calculus.proofs.Theory.BaySums.{bay_append}
use Rattle.bays_apart.proofs.Theory.OfBay.{of_bay_at, of_bay_set, of_bay_all, rank_append, rank_new}
use Rattle.bays_apart.proofs.Theory.Alike.{alike_length, alike_at, alike_set, alike_append, alike_more}
use Rattle.bays_apart.proofs.Theory.Same.{component_more}

-- names of bay k with the same place in I and J
abbrev pub Mine : ℕ → Owned → Owned → Names
Mine k I J = SamePlace k I.owners J.owners

pub record Mirrors (k : ℕ) (τ σ : TypeNumbers) (I J : Owned) : Type 0 where
  pub sizes_left : length I.owners ≡ length I.config
  pub sizes_right : length J.owners ≡ length J.config
  pub parts : Alike (SameComponent (Mine k I J) τ σ) (bay_components k I) (bay_components k J)

-- another configuration with the same owners
abbrev pub with : Owned → Config → Owned
with I C = record { config = C; owners = I.owners }

-- owners when no name comes, and when names come
pub owners_stay : (O : Owners) (x : ℕ) (C' : Config) → length O ≡ length C' → owners_after O x C' ≡ O
unfolding owners_after
owners_stay O x C' s = let e : length C' - length O ≡ 0 = omega arith in rw (e, append-nil)

pub owners_come : (O : Owners) (x k : ℕ) (C N : Config) → length O ≡ length C → at O x ≡ some k → owners_after O x (C ++ N) ≡ O ++ replicate (length N) k
unfolding owners_after
owners_come O x k C N s h = let e : length (C ++ N) - length O ≡ length N = rw length-append (omega arith) in rw (e, get_d_at O x h)

module _ {k : ℕ} {τ σ : TypeNumbers} {I J : Owned} (B : Mirrors k τ σ I J) where
  -- what a name of the bay is, the name in its place is on the other side
  pub mirrors_at : {n m : ℕ} → Mine k I J n m → (c : Component) → at I.config n ≡ some c →
      (d : Component) × (at J.config m ≡ some d) × SameComponent (Mine k I J) τ σ c d
  mirrors_at {n} {m} p c h =
      let (d, g, s) = alike_at B.parts (rank k I.owners n) c (of_bay_at k I.owners I.config n B.sizes_left p.owned_left ∙ h) in
      (d, sym (of_bay_at k J.owners J.config m B.sizes_right p.owned_right) ∙ ap (at (bay_components k J)) (sym p.same_rank) ∙ g, s)

  -- a change of one name
  pub mirrors_set : {n m : ℕ} → Mine k I J n m → {c d : Component} → SameComponent (Mine k I J) τ σ c d →
      Mirrors k τ σ (with I (set I.config n c)) (with J (set J.config m d))
  mirrors_set {n} {m} p {c} {d} s = record {
    sizes_left = rw length-set B.sizes_left;
    sizes_right = rw length-set B.sizes_right;
    parts = rw (of_bay_set k I.owners I.config n c p.owned_left, of_bay_set k J.owners J.config m d p.owned_right, p.same_rank)
        (alike_set B.parts (rank k J.owners m) s);
  }

  -- new names: the old ones keep their places, and the new ones have the same
  abbrev pub Wide : ℕ → ℕ → ℕ → Type 0
  Wide a n m = SamePlace k (I.owners ++ replicate a k) (J.owners ++ replicate a k) n m

  pub widen : (a n m : ℕ) → Mine k I J n m → Wide a n m
  widen a n m p = record {
    owned_left = append_left I.owners _ n p.owned_left;
    owned_right = append_left J.owners _ m p.owned_right;
    same_rank = rank_append k I.owners (replicate a k) n (let l = at_bound I.owners n p.owned_left in omega arith) ∙ p.same_rank ∙
        sym (rank_append k J.owners (replicate a k) m (let l = at_bound J.owners m p.owned_right in omega arith));
  }

  pub fresh : (a i : ℕ) → i < a → Wide a (length I.config + i) (length J.config + i)
  fresh a i l = record {
    owned_left = rw (← B.sizes_left) (append_right I.owners (replicate a k) i ∙ replicate_at a k i l);
    owned_right = rw (← B.sizes_right) (append_right J.owners (replicate a k) i ∙ replicate_at a k i l);
    same_rank =
        let e = rank_new k I.owners I.config i a B.sizes_left (omega arith) in
        let f = rank_new k J.owners J.config i a B.sizes_right (omega arith) in
        let g : length (bay_components k I) ≡ length (bay_components k J) = alike_length B.parts in
        rw (← B.sizes_left, ← B.sizes_right, e, f, g);
  }

  -- thread x changes and names come
  pub mirrors_grow : {x y : ℕ} → Mine k I J x y → (a : ℕ) {c d : Component} {N M : Config} → length N ≡ a →
      SameComponent (Wide a) τ σ c d → Alike (SameComponent (Wide a) τ σ) N M →
      Mirrors k τ σ (grown I x (set I.config x c ++ N)) (grown J y (set J.config y d ++ M))
  mirrors_grow {x} {y} p a {c} {d} {N} {M} l s t =
      let l' : length M ≡ a = sym (alike_length t) ∙ l in
      let e : owners_after I.owners x (set I.config x c ++ N) ≡ I.owners ++ replicate a k =
      owners_come I.owners x k (set I.config x c) N (rw length-set B.sizes_left) p.owned_left ∙ ap (λ n. I.owners ++ replicate n k) l in
      let f : owners_after J.owners y (set J.config y d ++ M) ≡ J.owners ++ replicate a k =
      owners_come J.owners y k (set J.config y d) M (rw length-set B.sizes_right) p.owned_right ∙ ap (λ n. J.owners ++ replicate n k) l' in
      record {
        sizes_left = rw e (rw (length-append, length-replicate, length-append, length-set) (omega (arith, B.sizes_left, l)));
        sizes_right = rw f (rw (length-append, length-replicate, length-append, length-set) (omega (arith, B.sizes_right, l')));
        parts = rw (e, f) (rw (left_part, right_part l', p.same_rank)
            (alike_append (alike_set (alike_more (component_more (widen a)) B.parts) (rank k J.owners y) s) t));
      }
    where
      left_part : of_bay k (I.owners ++ replicate a k) (set I.config x c ++ N) ≡ set (bay_components k I) (rank k I.owners x) c ++ N
      left_part = bay_append k I.owners (replicate a k) (set I.config x c) N (rw length-set B.sizes_left) ∙
          rw (of_bay_set k I.owners I.config x c p.owned_left, ← l, of_bay_all)

      right_part : length M ≡ a → of_bay k (J.owners ++ replicate a k) (set J.config y d ++ M) ≡ set (bay_components k J) (rank k J.owners y) d ++ M
      right_part l' = bay_append k J.owners (replicate a k) (set J.config y d) M (rw length-set B.sizes_right) ∙
          rw (of_bay_set k J.owners J.config y d p.owned_right, ← l', of_bay_all)

-- no name comes
pub mirrors_grown : {k : ℕ} {τ σ : TypeNumbers} (I J : Owned) (C D : Config) (x y : ℕ) → Mirrors k τ σ (with I C) (with J D) →
    Mirrors k τ σ (grown I x C) (grown J y D)
mirrors_grown I J C D x y B = rw (owners_stay I.owners x C B.sizes_left, owners_stay J.owners y D B.sizes_right) B

-- from I to I' nothing of bay k moves
pub record Unmoved (k : ℕ) (I I' : Owned) : Type 0 where
  pub sizes : length I'.owners ≡ length I'.config
  pub same_part : bay_components k I' ≡ bay_components k I
  pub same_names : (n : ℕ) → at I.owners n ≡ some k → (at I'.owners n ≡ some k) × (rank k I'.owners n ≡ rank k I.owners n)

pub unmoved : {k : ℕ} {I : Owned} → length I.owners ≡ length I.config → Unmoved k I I
unmoved s = record { sizes = s; same_part = refl; same_names = λ n h. (h, refl) }

pub unmoved_trans : {k : ℕ} {I I' I'' : Owned} → Unmoved k I I' → Unmoved k I' I'' → Unmoved k I I''
unmoved_trans u w = record {
  sizes = w.sizes;
  same_part = w.same_part ∙ u.same_part;
  same_names = λ n h. let (p, q) = u.same_names n h in let (p', q') = w.same_names n p in (p', q' ∙ q);
}

pub mirrors_unmoved : {k : ℕ} {τ σ : TypeNumbers} {I J I' J' : Owned} → Mirrors k τ σ I J → Unmoved k I I' → Unmoved k J J' → Mirrors k τ σ I' J'
mirrors_unmoved {k} {I = I} {J = J} {I' = I'} {J' = J'} B u w = record {
  sizes_left = u.sizes;
  sizes_right = w.sizes;
  parts = rw (u.same_part, w.same_part) (alike_more (component_more wider) B.parts);
}
  where
    wider : (n m : ℕ) → Mine k I J n m → Mine k I' J' n m
    wider n m p =
        let (a, b) = u.same_names n p.owned_left in
        let (c, d) = w.same_names m p.owned_right in
        record { owned_left = a; owned_right = c; same_rank = b ∙ p.same_rank ∙ sym d }
