-- What every known edition keeps, and the edition that a file says.
use mathlib.Core.Path.{◌≡◌, refl}
use mathlib.Core.Bool.{true}
use mathlib.Core.List.{List, [], ◌∷◌}
use Prim.Native.Nat.{◌+◌, ◌-◌, ◌<◌, ◌≤◌, suc, zero, ℕ}
use native.Mathlib.Omega.{arith}
use lib.ListN.{get_or, length}
use Rattle.calculus.specs.Limits.{byte_values, max_bays}
use Rattle.calculus.proofs.Theory.Tests.{clash}
use Rattle.recipe_file.specs.declared.Edition.{Edition}
use Rattle.recipe_file.specs.Editions.{edition_1, editions}
use Rattle.recipe_file.specs.File.{edition_of, table_part}
use Rattle.recipe_file.specs.Starting.{starting_part}

pub record EditionRule (e : Edition) : Type 0 where
  -- the type table stands before the terms
  pub behind_table : table_part < e.terms
  -- and so does the starting part
  pub behind_starting : e.starting ≡ true → starting_part < e.terms
  -- "Byte 3 is n"
  pub one_byte : e.terms + max_bays < byte_values

-- each edition of a list does
abbrev AllKeep : List Edition → Type 0
AllKeep [] = Unit {0}
AllKeep (e ∷ es) = EditionRule e × AllKeep es

all_keep : AllKeep editions
all_keep = (
  record { behind_table = omega arith; behind_starting = λ e. absurd (clash (cc)); one_byte = omega arith },
  (
    record { behind_table = omega arith; behind_starting = λ e. absurd (clash (cc)); one_byte = omega arith },
    (record { behind_table = omega arith; behind_starting = λ e. omega arith; one_byte = omega arith }, tt),
  ),
)

keeps_at : (es : List Edition) (i : ℕ) → AllKeep es → EditionRule (get_or es i edition_1)
keeps_at [] i k = all_keep.0
keeps_at (e ∷ es) zero k = k.0
keeps_at (e ∷ es) (suc i) k = keeps_at es i k.1

pub edition_rule : (s : List ℕ) → EditionRule (edition_of s)
unfolding edition_of
edition_rule s = keeps_at editions (get_or s 2 0 - 1) all_keep

-- a file so short says none
pub says_none : (s : List ℕ) → length s ≤ 2 → edition_1 ≡ edition_of s
unfolding edition_of
says_none [] h = refl
says_none (a ∷ []) h = refl
says_none (a ∷ b ∷ []) h = refl
says_none (a ∷ b ∷ c ∷ s) h = absurd (omega arith)

-- the number that a file says, and the edition with it
module _ (s : List ℕ) (n : ℕ) (is : n ≡ get_or s 2 0) where
  pub says_0 : n ≡ 0 → edition_1 ≡ edition_of s
  unfolding edition_of
  says_0 z = rw (← is, z) refl

  pub says_unknown : length editions < n → edition_1 ≡ edition_of s
  unfolding edition_of
  says_unknown h = rw (← is) (beyond editions (n - 1) (omega arith))
    where
      beyond : (es : List Edition) (i : ℕ) → length es ≤ i → edition_1 ≡ get_or es i edition_1
      beyond [] i l = refl
      beyond (e ∷ es) zero l = absurd (omega arith)
      beyond (e ∷ es) (suc i) l = beyond es i (omega arith)

  pub says_known : (none : Edition) → (n ≡ 0 → ⊥) → n ≤ length editions → get_or editions (n - 1) none ≡ edition_of s
  unfolding edition_of
  says_known none f h = rw (← is) (inside editions (n - 1) (omega arith))
    where
      inside : (es : List Edition) (i : ℕ) → i < length es → get_or es i none ≡ get_or es i edition_1
      inside [] i l = absurd (omega arith)
      inside (e ∷ es) zero l = refl
      inside (e ∷ es) (suc i) l = inside es i (omega arith)
