-- `recipe_table::entries_stand` meets its contract. The loop's invariant: the entries passed keep their rule and differ, their keys stand in the array, and each key has its mark.
use mathlib.Core.Path.{◌≡◌}
use mathlib.Core.Bool.{true}
use Rattle.recipe_table.specs.Filled.{as_table}
use Rattle.recipe_table.specs.Keys.{Marked}
use Rattle.recipe_table.proofs.Keys.{Keyed}
use Rattle.recipe_table.proofs.Turns.{entries_from}
use Rattle.recipe_table.proofs.entries_stand.Given as goal

abbrev pub invariant-loop-i : goal.invariant-loop-i
invariant-loop-i l = (Keyed l.table l.count l.keys l.i × Marked l.keys l.marks l.i l.count) × (entries_from l.kinds (as_table l.table l.count) l.i ≡ true)
