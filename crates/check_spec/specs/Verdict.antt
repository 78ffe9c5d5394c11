-- Document 01, the verdict on a file: "The lowest number that fits wins, each cause tried over the whole file". "Accepting answers b and each bay's type
-- number".
use Rattle.std.specs.Prelude.{cond, List, [], ◌++◌, ℕ, eqb, ltb, replicate}
use Rattle.std.proofs.Math.Option.{Option, none, some}
use Rattle.calculus.specs.Lowest.{Cause, first_cause}
use Rattle.calculus.specs.Lists.{tabulate}
use Rattle.calculus.specs.Limits.{max_bays}
use Rattle.calculus.specs.Verdict.{type_causes, type_number}
use Rattle.recipe_file.specs.File.{bays}
use Rattle.recipe_file.specs.Starting.{starting_causes}
use Rattle.recipe_table.specs.Entries.{type_table, table_causes}
use Rattle.check_spec.specs.declared.Verdict.{Verdict}
use Rattle.check_spec.specs.Bays.{bay_term, bay_terms, term_causes}

-- causes 1 to 11 of a file, of which 7 to 11 are the calculus's; T-07: 19, "tried after 11"
abbrev pub check_causes : List ℕ → List Cause
check_causes s = table_causes s ++ (term_causes s ++ (type_causes (type_table s) (bay_terms s) ++ starting_causes s))

-- the number of the first that fits, 0 where none does
unfoldable pub refusal : List ℕ → ℕ
refusal s = first_cause (check_causes s)

-- a number, or 0 where there is none
unfoldable pub number_in : Option ℕ → ℕ
number_in none = 0
number_in (some n) = n

-- the type number of a bay; 0 where there is no such bay
unfoldable pub bay_type_number : List ℕ → ℕ → ℕ
bay_type_number s bay = cond (ltb bay (bays s)) (number_in (type_number (type_table s) [] (bay_term s bay))) 0

-- "each bay's type number"
unfoldable pub bay_type_numbers : List ℕ → List ℕ
bay_type_numbers s = tabulate max_bays (bay_type_number s)

-- a refusal has its number and nothing else
abbrev pub refused : ℕ → Verdict
refused number = record { refusal = number; bays = 0; types = replicate max_bays 0 }

-- "Accepting answers b and each bay's type number"
abbrev pub accepted : List ℕ → Verdict
accepted s = record { refusal = 0; bays = bays s; types = bay_type_numbers s }

-- what checking a file answers
unfoldable pub verdict_of : List ℕ → Verdict
verdict_of s = cond (eqb (refusal s) 0) (accepted s) (refused (refusal s))
