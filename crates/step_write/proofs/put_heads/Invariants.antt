-- `step_write::put_heads` meets its contract.
use Rattle.step_rules.specs.Moves.{component_after}
use Rattle.step_write.proofs.put_heads.Given as goal

abbrev pub ghost-put_heads : goal.ghost-put_heads
ghost-put_heads a = component_after a.head_of.0.now.image.now a.head_of.0.now.step
