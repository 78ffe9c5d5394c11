-- Document 01, causes 6 (nesting) and 7, bay by bay.
use Rattle.std.specs.Prelude.{Bool, List, ℕ, leb, length}
use Rattle.calculus.specs.Lists.{each_below}
use Rattle.calculus.specs.Limits.{max_nesting}
use Rattle.calculus.specs.Verdict.{scoped}
use Rattle.term.specs.Expressions.{nesting}
use Rattle.recipe_file.specs.File.{bays}
use Rattle.recipe_table.specs.Entries.{type_table}
use Rattle.check_spec.specs.Bays.{bay_term}

-- a bay's term nests no deeper than the limit
unfoldable pub bay_shallow : List ℕ → ℕ → Bool
bay_shallow s bay = leb (nesting (bay_term s bay)) max_nesting

-- what a bay's term names is there
unfoldable pub bay_scoped : List ℕ → ℕ → Bool
bay_scoped s bay = scoped (length (type_table s)) (bays s) 0 (bay_term s bay)

-- no term nests too deep
unfoldable pub all_shallow : List ℕ → Bool
all_shallow s = each_below (bays s) (bay_shallow s)

-- what the terms name is there
unfoldable pub all_scoped : List ℕ → Bool
all_scoped s = each_below (bays s) (bay_scoped s)
