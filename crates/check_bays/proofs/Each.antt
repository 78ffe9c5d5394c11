-- A test of all numbers below n, by a loop that ends at the first that fails; a part of a sum.
use mathlib.Core.Path.{◌∙◌, ◌≡◌, refl, sym}
use mathlib.Core.Bool.{Bool, false, false≢true, true}
use Prim.Native.Nat.{◌+◌, ◌<◌, ◌≤◌, suc, zero, zero-le, ℕ}
use native.Mathlib.Decide.{dec_lt}
use native.Mathlib.Numerals.{add-one}
use native.Mathlib.Omega.{arith}
use Rattle.calculus.specs.Lists.{each_below, sum_below}
use Rattle.calculus.proofs.Theory.Tests.{and_true}
use Rattle.calculus.proofs.Theory.Tabulate.{each_below_sound}

-- the loop stands at i, and all below passed
pub record Passed (n : ℕ) (test : ℕ → Bool) (i : ℕ) : Type 0 where
  pub inside : i ≤ n
  pub all : each_below i test ≡ true

pub passed_none : (n : ℕ) (test : ℕ → Bool) → Passed n test 0
unfolding each_below
passed_none n test = record { inside = zero-le; all = refl }

pub passed_next : {n : ℕ} {test : ℕ → Bool} {i : ℕ} → Passed n test i → i < n → (r : Bool) → r ≡ test i → r ≡ true → Passed n test (i + 1)
unfolding each_below
passed_next {i = i} w l r e p = record { inside = omega arith; all = rw (add-one i) (and_true w.all (sym e ∙ p)) }

pub passed_all : {n : ℕ} {test : ℕ → Bool} {i : ℕ} → Passed n test i → n ≤ i → each_below n test ≡ true
passed_all {n} {test} {i} w h = let z : n ≡ i = omega (arith, w.inside) in rw z w.all

pub failed : (n : ℕ) (test : ℕ → Bool) (i : ℕ) → i < n → (r : Bool) → r ≡ test i → r ≡ false → each_below n test ≡ false
failed n test i l r e p = go (each_below n test) refl
  where
    go : (b : Bool) → each_below n test ≡ b → b ≡ false
    go true h = absurd (false≢true (sym p ∙ e ∙ each_below_sound n test h i l))
    go false h = refl

-- a part is at most the sum
pub part_below : (n : ℕ) (f : ℕ → ℕ) (i : ℕ) → i < n → f i ≤ sum_below n f
unfolding sum_below
part_below zero f i l = absurd (omega arith)
part_below (suc n) f i l = elim (dec_lt i n) [
  | yes p ↦ omega (arith, part_below n f i p)
  | no p ↦ let q : i ≡ n = omega arith in rw q (omega arith)
]
