-- Document 01, "The lowest number that fits wins": causes in the order in which they are tried. Where that is the order of their numbers, the first that fits
-- is the lowest (Theory.Ascending, `ascending_lowest`).
use Rattle.std.specs.Prelude.{◌≡◌, Bool, cond, true, List, [], ◌∷◌, ℕ, ◌≤◌}
use Rattle.std.proofs.Math.Option.{some}
use Rattle.calculus.specs.Syntax.{at}

-- a cause: its number, and whether it fits
pub record Cause : Type 0 where
  pub number : ℕ
  pub fits : Bool

abbrev pub cause : ℕ → Bool → Cause
cause number fits = record { number = number; fits = fits }

-- the number of the first cause that fits; 0 where none does
abbrev pub first_cause : List Cause → ℕ
first_cause [] = 0
first_cause (c ∷ cs) = cond c.fits c.number (first_cause cs)

-- "The lowest number that fits wins": n is the number of a cause that fits, and none that fits has a lower one; 0 where none fits
pub record Lowest (causes : List Cause) (n : ℕ) : Type 0 where
  pub one_that_fits : ¬ (n ≡ 0) → (i : ℕ) × (at causes i ≡ some (cause n true))
  pub none_lower : (i k : ℕ) → at causes i ≡ some (cause k true) → (¬ (n ≡ 0)) × (n ≤ k)
