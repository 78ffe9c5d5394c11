use mathlib.Core.Path.{subst}
use native.Mathlib.Omega.{arith}
use Rattle.run_turn.specs.Turning.{Seen}
use Rattle.run_turn.proofs.Along.{along_end, along_goes, along_lacks, along_met, along_rests}
use Rattle.run_turn.proofs.look_along.Goals as goal
use Rattle.run_turn.proofs.look_along.Goals.{in-LacksRoom, in-Rests}

pub returns-in-Goes : goal.returns-in-Goes
returns-in-Goes c = along_goes c.loop-x.invariant (omega arith) (subst (Seen _ _) c.in-Goes.is c.see.ensures)

pub returns-in-PassesOn : goal.returns-in-PassesOn
returns-in-PassesOn c = along_met c.loop-x.invariant (omega arith) (subst (Seen _ _) c.in-PassesOn.is c.see.ensures)

pub loop-x-preserved : goal.loop-x-preserved
loop-x-preserved c = elim c.match-see.branch [
  | in-LacksRoom w ↦ rw w.lacked-is (along_lacks c.loop-x.invariant (omega arith) (subst (Seen _ _) w.in-LacksRoom.is c.see.ensures))
  | in-Rests w ↦ rw w.lacked-is (along_rests c.loop-x.invariant (omega arith) (subst (Seen _ _) w.in-Rests.is c.see.ensures))
]

pub returns : goal.returns
returns c = along_end c.loop-x.invariant (λ l. omega arith)
