-- `recipe_table::is_new` meets its contract. The loop's invariant: the keys passed and those still to come decide together.
use mathlib.Core.Path.{refl, sym, ◌∙◌}
use native.Mathlib.Omega.{arith}
use Rattle.recipe_table.proofs.Keys.{absent_done, absent_turn}
use Rattle.recipe_table.proofs.is_new.Goals as goal

pub loop-j-preserved : goal.loop-j-preserved
loop-j-preserved c = absent_turn _ _ _ _ c.loop-j.fresh _ _ (omega arith) refl refl ∙ c.loop-j.invariant

pub returns : goal.returns
returns c = sym (absent_done _ _ _ _ _ (omega arith)) ∙ c.loop-j.invariant
