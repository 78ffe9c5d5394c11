-- `step_write::put_expressions` meets its contract.
use native.Mathlib.Omega.{arith}
use Rattle.std.proofs.Common.{rules}
use Rattle.image_layout.proofs.Theory.Turns.{room_expressions}
use Rattle.step_write.proofs.put_expressions.Goals as goal

pub put_expressions-requires : goal.put_expressions-requires
put_expressions-requires c κs within =
    (search rules, (λ k next room below fits. grind arith, (λ k next last old new below wrote. search rules, rw c.requires.handed.0 (room_expressions _ _ c.requires.room c.requires.handed.1))))
