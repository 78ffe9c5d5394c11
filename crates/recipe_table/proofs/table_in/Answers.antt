-- `recipe_table::table_in` meets its contract.
use mathlib.Core.Path.{◌∙◌, ap}
use mathlib.Core.List.{List}
use Prim.Native.Nat.{ℕ}
use native.Mathlib.Omega.{arith}
use lib.ListN.{length}
use Rattle.recipe_file.proofs.LaidOut.{laid_where}
use Rattle.recipe_table.specs.Entries.{table_of, type_table}
use Rattle.recipe_table.specs.Filled.{filled}
use Rattle.recipe_table.proofs.Tables.{count_fits}
use Rattle.recipe_table.proofs.table_in.Goals as goal

pub read_table-requires : goal.read_table-requires
read_table-requires c = omega (arith, count_fits (laid_where _ c.args.recipe.laid), ap length c.table.ensures)

pub returns : goal.returns
unfolding type_table
returns c = c.read_table.ensures ∙ ap (λ (l : List ℕ). filled (table_of l)) c.table.ensures
