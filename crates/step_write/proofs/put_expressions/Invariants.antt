-- `step_write::put_expressions` meets its contract.
use Rattle.step_rules.specs.Moves.{component_after}
use Rattle.step_write.proofs.put_expressions.Given as goal

abbrev pub ghost-put_expressions : goal.ghost-put_expressions
ghost-put_expressions a = component_after a.put.0.now.image.now a.put.0.now.step
