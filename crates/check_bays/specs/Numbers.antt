-- Document 01, causes 9 to 11: the types of all bays.
use Rattle.std.specs.Prelude.{Option, ◌≡◌, Bool, not, true, List, [], ◌∷◌, ℕ, is_some, IfSome}
use Rattle.std.proofs.Math.Option as math
use Rattle.calculus.specs.Causes.{type_cause, linearity_cause, bay_once_cause}
use Rattle.calculus.specs.Lowest.{Cause, cause, first_cause}
use Rattle.calculus.specs.Lists.{each_below}
use Rattle.calculus.specs.Table.{is_many}
use Rattle.calculus.specs.Verdict.{linear, on_number, type_number}
use Rattle.recipe_file.specs.File.{bays}
use Rattle.recipe_table.specs.Entries.{type_table}
use Rattle.check_spec.specs.Bays.{bay_term}
use Rattle.check_spec.specs.Verdict.{bay_type_numbers}
use Rattle.check_bays.specs.declared.BayTypes.{BayTypes}

-- the number of the type of a bay's term
unfoldable pub bay_number : List ℕ → ℕ → math.Option ℕ
bay_number s bay = type_number (type_table s) [] (bay_term s bay)

-- document 01, cause 9 does not fit a bay's term: there is such a number
unfoldable pub has_type : List ℕ → ℕ → Bool
has_type s bay = on_number (bay_number s bay) (λ n. true)

-- nor does cause 11: it is the number of a many type
unfoldable pub has_many : List ℕ → ℕ → Bool
has_many s bay = on_number (bay_number s bay) (is_many (type_table s))

-- cause 10 does not fit a bay's term
unfoldable pub bay_linear : List ℕ → ℕ → Bool
bay_linear s bay = linear (type_table s) [] (bay_term s bay)

-- what is answered of all bays, where each has a type
pub record TypesOf (s : List ℕ) (types : BayTypes) : Type 0 where
  pub linear : types.linear ≡ each_below (bays s) (bay_linear s)
  pub many : types.many ≡ each_below (bays s) (has_many s)
  pub numbers : types.numbers ≡ bay_type_numbers s

-- the answer about all bays; where one has no type, nothing is said of the rest
pub record Numbered (s : List ℕ) (r : Option BayTypes) : Type 0 where
  pub each : is_some r ≡ each_below (bays s) (has_type s)
  pub types : IfSome r (TypesOf s)

-- causes 9 to 11 with their numbers, by the tests of all bays
abbrev pub walk_causes : List ℕ → List Cause
walk_causes s =
    cause type_cause (not (each_below (bays s) (has_type s)))
    ∷ cause linearity_cause (not (each_below (bays s) (bay_linear s)))
    ∷ cause bay_once_cause (not (each_below (bays s) (has_many s)))
    ∷ []

-- the number of the first of them that fits, 0 where none does
unfoldable pub types_refusal : List ℕ → ℕ
types_refusal s = first_cause (walk_causes s)
