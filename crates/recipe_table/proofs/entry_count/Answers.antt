-- `recipe_table::entry_count` meets its contract.
use native.Mathlib.Omega.{arith}
use mathlib.Core.Path.{ap}
use lib.ListN.{length}
use Rattle.recipe_file.proofs.LaidOut.{laid_where}
use Rattle.recipe_table.proofs.Tables.{length_table}
use Rattle.recipe_table.proofs.entry_count.Goals as goal

pub returns : goal.returns
returns c = omega (arith, length_table (laid_where _ c.args.recipe.laid), ap length c.table.ensures)
