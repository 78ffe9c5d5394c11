use Rattle.run_turn.proofs.Along.{Along}
use Rattle.run_turn.proofs.look_along.Given as goal

abbrev pub invariant-loop-x : goal.invariant-loop-x
invariant-loop-x l = Along l.image.bytes.now l.from l.to l.before l.x l.lacked
