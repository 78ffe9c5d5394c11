-- Lists alike: by their places, after `set` and `++`, what passes a test, through lists that they stand for.
use Rattle.std.proofs.Common.{ap₂, ap}
use Rattle.std.specs.Prelude.{◌≡◌, refl, Bool, cond, List, ◌++◌, ◌∷◌, map, suc, zero, ℕ, length, set}
use Rattle.std.proofs.Math.Bool.{false, true}
use Rattle.std.proofs.Math.Option.{some}
use Rattle.calculus.specs.Syntax.{at}
use Rattle.calculus.proofs.Theory.Tests.{clash}
use Rattle.bays_apart.specs.Same.{Alike, alike_nil, alike_cons}
use Rattle.bays_apart.specs.Turns.{passing}

module _ {A B : Type 0} {R : A → B → Type 0} where
  pub alike_length : {l : List A} {m : List B} → Alike R l m → length l ≡ length m
  alike_length alike_nil = refl
  alike_length (alike_cons r s) = ap suc (alike_length s)

  -- what stands in one place stands in the other
  pub alike_at : {l : List A} {m : List B} → Alike R l m → (i : ℕ) (a : A) → at l i ≡ some a → (b : B) × (at m i ≡ some b) × R a b
  alike_at alike_nil i a h = absurd (clash (cc))
  alike_at (alike_cons {a = c} {b = b} r s) zero a h = let e : c ≡ a = cc in (b, refl, rw e at r)
  alike_at (alike_cons r s) (suc i) a h = alike_at s i a h

  pub alike_set : {l : List A} {m : List B} → Alike R l m → (i : ℕ) {a : A} {b : B} → R a b → Alike R (set l i a) (set m i b)
  alike_set alike_nil i q = alike_nil
  alike_set (alike_cons r s) zero q = alike_cons q s
  alike_set (alike_cons r s) (suc i) q = alike_cons r (alike_set s i q)

  pub alike_append : {l l' : List A} {m m' : List B} → Alike R l m → Alike R l' m' → Alike R (l ++ l') (m ++ m')
  alike_append alike_nil t = t
  alike_append (alike_cons r s) t = alike_cons r (alike_append s t)

pub alike_more : {A B : Type 0} {R S : A → B → Type 0} → ((a : A) (b : B) → R a b → S a b) → {l : List A} {m : List B} → Alike R l m → Alike S l m
alike_more f alike_nil = alike_nil
alike_more f (alike_cons r s) = alike_cons (f _ _ r) (alike_more f s)

-- what passes tests that say the same, and what maps that say the same make of them
module _ {A B : Type 0} {R : A → B → Type 0} where
  pub alike_passing : (test : A → Bool) (test' : B → Bool) → ((a : A) (b : B) → R a b → test a ≡ test' b) → {l : List A} {m : List B} → Alike R l m → Alike R (passing test l) (passing test' m)
  unfolding passing
  alike_passing test test' f alike_nil = alike_nil
  alike_passing test test' f (alike_cons {a = a} {b = b} {l = l} {m = m} r s) = rw (f a b r) (go (test' b) (alike_passing test test' f s))
    where
      go : (t : Bool) → Alike R (passing test l) (passing test' m) → Alike R (cond t (a ∷ passing test l) (passing test l)) (cond t (b ∷ passing test' m) (passing test' m))
      go true q = alike_cons r q
      go false q = q

  pub alike_map : {C : Type 0} (f : A → C) (g : B → C) → ((a : A) (b : B) → R a b → f a ≡ g b) → {l : List A} {m : List B} → Alike R l m → map f l ≡ map g m
  alike_map f g h alike_nil = refl
  alike_map f g h (alike_cons r s) = ap₂ (λ c l. c ∷ l) (h _ _ r) (alike_map f g h s)

-- lists that stand for lists that are alike
pub alike_through : {A B C D : Type 0} {R : A → B → Type 0} {S : C → A → Type 0} {S' : D → B → Type 0} {Q : C → D → Type 0} →
    ((c : C) (d : D) (a : A) (b : B) → S c a → S' d b → R a b → Q c d) →
    {k : List C} {n : List D} {l : List A} {m : List B} → Alike S k l → Alike S' n m → Alike R l m → Alike Q k n
alike_through f alike_nil alike_nil alike_nil = alike_nil
alike_through f (alike_cons p ps) (alike_cons q qs) (alike_cons r rs) = alike_cons (f _ _ _ _ p q r) (alike_through f ps qs rs)
alike_through f alike_nil (alike_cons q qs) x15 = elim x15 [ ]
alike_through f (alike_cons p ps) alike_nil x12 = elim x12 [ ]
