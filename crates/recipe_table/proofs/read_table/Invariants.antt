-- `recipe_table::read_table` meets its contract. The loop's invariant: the entries passed are in the table, and the rest of it is unused.
use mathlib.Core.Path.{◌≡◌}
use Rattle.recipe_table.specs.Entries.{table_of}
use Rattle.recipe_table.proofs.Arrays.{filled_to}
use Rattle.recipe_table.proofs.read_table.Given as goal

abbrev pub invariant-loop-i : goal.invariant-loop-i
invariant-loop-i l = l.table ≡ filled_to (table_of l.bytes) l.i
