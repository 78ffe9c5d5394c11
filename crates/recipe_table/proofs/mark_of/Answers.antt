-- `recipe_table::mark_of` meets its contract.
use mathlib.Core.Path.{refl}
use native.Mathlib.Omega.{arith}
use Rattle.recipe_table.specs.Keys.{mark_of}
use Rattle.recipe_table.proofs.mark_of.Goals as goal

pub returns : goal.returns
unfolding mark_of
returns c = (refl, omega arith)
