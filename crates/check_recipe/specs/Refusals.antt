-- The number of the first cause that fits, 0 where none does: of causes 5 and 6, and of causes 5 to 8.
use Rattle.std.specs.Prelude.{not, List, [], ◌++◌, ◌∷◌, ℕ}
use Rattle.calculus.specs.Causes.{scope_cause, annotation_cause}
use Rattle.calculus.specs.Lowest.{Cause, cause, first_cause}
use Rattle.calculus.specs.Lists.{each_below}
use Rattle.recipe_file.specs.File.{bays}
use Rattle.check_spec.specs.Bays.{term_causes}
use Rattle.check_bays.specs.Tests.{all_scoped}
use Rattle.check_bays.specs.Standing.{bay_annotated}

-- causes 5 and 6
unfoldable pub terms_refusal : List ℕ → ℕ
terms_refusal s = first_cause (term_causes s)

-- causes 7 and 8 with their numbers, by the tests of all bays
abbrev pub scope_causes : List ℕ → List Cause
scope_causes s = cause scope_cause (not (all_scoped s)) ∷ cause annotation_cause (not (each_below (bays s) (bay_annotated s))) ∷ []

-- causes 5 to 8
unfoldable pub parts_refusal : List ℕ → ℕ
parts_refusal s = first_cause (term_causes s ++ scope_causes s)
