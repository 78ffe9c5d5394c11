-- What a bay owns: after a change of one place, after new names; and the places among its names.
use Rattle.std.proofs.Common.{◌∙◌, sym, suc-add, zero-add, arith}
use Rattle.std.specs.Prelude.{◌≡◌, Bool, eqb, length, replicate}
use Rattle.std.proofs.Math.Path.{ap, refl}
use Rattle.std.proofs.Math.Bool.{cond, false, true}
use Rattle.std.proofs.Math.Option.{some}
use mathlib.Core.List.{List, [], ◌++◌, ◌∷◌}
use Prim.Native.Nat.{◌+◌, ◌≤◌, suc, zero, ℕ}
use Rattle.std.proofs.Math.ListN.{set}
use Rattle.calculus.specs.Syntax.{at}
use Rattle.calculus.specs.Owners.{Owners}
use Rattle.calculus.proofs.Theory.Tests.{clash, eqb_complete, eqb_differ}
use Rattle.calculus.specs.Shares.{of_bay}
use Rattle.bays_apart.specs.Same.{rank}

module _ {A : Type 0} where
  -- what a name of the bay is, is at its rank
  pub of_bay_at : (k : ℕ) (O : Owners) (l : List A) (n : ℕ) → length O ≡ length l → at O n ≡ some k → at (of_bay k O l) (rank k O n) ≡ at l n
  unfolding of_bay rank
  of_bay_at k [] l n s h = absurd (clash (cc))
  of_bay_at k (o ∷ O) [] n s h = absurd (omega arith)
  of_bay_at k (o ∷ O) (a ∷ l) zero s h = let e : o ≡ k = cc in rw (eqb_complete o k e)
  of_bay_at k (o ∷ O) (a ∷ l) (suc n) s h = go (eqb o k) (of_bay_at k O l n (omega arith) h)
    where
      go : (b : Bool) → at (of_bay k O l) (rank k O n) ≡ at l n → at (cond b (a ∷ of_bay k O l) (of_bay k O l)) (cond b (suc (rank k O n)) (rank k O n)) ≡ at l n
      go true e = e
      go false e = e

  -- a change of one place
  pub of_bay_set : (k : ℕ) (O : Owners) (l : List A) (n : ℕ) (c : A) → at O n ≡ some k → of_bay k O (set l n c) ≡ set (of_bay k O l) (rank k O n) c
  unfolding of_bay rank
  of_bay_set k [] l n c h = absurd (clash (cc))
  of_bay_set k (o ∷ O) [] n c h = refl
  of_bay_set k (o ∷ O) (a ∷ l) zero c h = let e : o ≡ k = cc in rw (eqb_complete o k e)
  of_bay_set k (o ∷ O) (a ∷ l) (suc n) c h = go (eqb o k) (of_bay_set k O l n c h)
    where
      go : (b : Bool) → of_bay k O (set l n c) ≡ set (of_bay k O l) (rank k O n) c → cond b (a ∷ of_bay k O (set l n c)) (of_bay k O (set l n c)) ≡ set (cond b (a ∷ of_bay k O l) (of_bay k O l)) (cond b (suc (rank k O n)) (rank k O n)) c
      go true e = ap (λ m. a ∷ m) e
      go false e = e

  pub of_bay_set_other : (k j : ℕ) (O : Owners) (l : List A) (n : ℕ) (c : A) → at O n ≡ some j → ¬ (j ≡ k) → of_bay k O (set l n c) ≡ of_bay k O l
  unfolding of_bay
  of_bay_set_other k j [] l n c h d = absurd (clash (cc))
  of_bay_set_other k j (o ∷ O) [] n c h d = refl
  of_bay_set_other k j (o ∷ O) (a ∷ l) zero c h d = let e : o ≡ j = cc in rw (eqb_differ o k (λ q. d (sym e ∙ q)))
  of_bay_set_other k j (o ∷ O) (a ∷ l) (suc n) c h d = rw (of_bay_set_other k j O l n c h d)

  -- new names of one bay
  pub of_bay_all : (k : ℕ) (l : List A) → of_bay k (replicate (length l) k) l ≡ l
  unfolding of_bay
  of_bay_all k [] = refl
  of_bay_all k (a ∷ l) = rw (eqb_complete k k refl, of_bay_all k l)

  pub of_bay_none : (k j : ℕ) (n : ℕ) (l : List A) → ¬ (j ≡ k) → of_bay k (replicate n j) l ≡ []
  unfolding of_bay
  of_bay_none k j zero l d = refl
  of_bay_none k j (suc n) [] d = refl
  of_bay_none k j (suc n) (a ∷ l) d = rw (eqb_differ j k d) (of_bay_none k j n l d)

-- ranks of old names stay
pub rank_append : (k : ℕ) (O P : Owners) (n : ℕ) → n ≤ length O → rank k (O ++ P) n ≡ rank k O n
unfolding rank
rank_append k [] P zero l = start P
  where
    start : (P : Owners) → rank k P zero ≡ 0
    start [] = refl
    start (o ∷ P) = refl
rank_append k [] P (suc n) l = absurd (omega arith)
rank_append k (o ∷ O) P zero l = refl
rank_append k (o ∷ O) P (suc n) l = rw (rank_append k O P n (omega arith))

-- and new names come after all others of the bay
pub rank_new : {A : Type 0} (k : ℕ) (O : Owners) (l : List A) (i n : ℕ) → length O ≡ length l → i ≤ n →
    rank k (O ++ replicate n k) (length O + i) ≡ length (of_bay k O l) + i
unfolding rank of_bay
rank_new k [] [] i n s h = rw (zero-add i) (new i n h)
  where
    new : (i n : ℕ) → i ≤ n → rank k (replicate n k) i ≡ i
    new zero zero h = refl
    new zero (suc n) h = refl
    new (suc i) zero h = absurd (omega arith)
    new (suc i) (suc n) h = rw (eqb_complete k k refl, new i n (omega arith))
rank_new k [] (a ∷ l) i n s h = absurd (omega arith)
rank_new k (o ∷ O) [] i n s h = absurd (omega arith)
rank_new k (o ∷ O) (a ∷ l) i n s h = rw suc-add (go (eqb o k) (rank_new k O l i n (omega arith) h))
  where
    go : (b : Bool) → rank k (O ++ replicate n k) (length O + i) ≡ length (of_bay k O l) + i → cond b (suc (rank k (O ++ replicate n k) (length O + i))) (rank k (O ++ replicate n k) (length O + i)) ≡ length (cond b (a ∷ of_bay k O l) (of_bay k O l)) + i
    go true e = rw suc-add (ap suc e)
    go false e = e

-- a name of the bay has its own rank
pub rank_injective : (k : ℕ) (O : Owners) (n m : ℕ) → at O n ≡ some k → at O m ≡ some k → rank k O n ≡ rank k O m → n ≡ m
unfolding rank
rank_injective k [] n m p q e = absurd (clash (cc))
rank_injective k (o ∷ O) zero zero p q e = refl
rank_injective k (o ∷ O) zero (suc m) p q e = let f : o ≡ k = cc in absurd (let g : 0 ≡ suc (rank k O m) = rw (eqb_complete o k f) at e in omega arith)
rank_injective k (o ∷ O) (suc n) zero p q e = let f : o ≡ k = cc in absurd (let g : suc (rank k O n) ≡ 0 = rw (eqb_complete o k f) at e in omega arith)
rank_injective k (o ∷ O) (suc n) (suc m) p q e = ap suc (rank_injective k O n m p q (go (eqb o k) e))
  where
    go : (b : Bool) → cond b (suc (rank k O n)) (rank k O n) ≡ cond b (suc (rank k O m)) (rank k O m) → rank k O n ≡ rank k O m
    go true e = omega (arith, e)
    go false e = e
