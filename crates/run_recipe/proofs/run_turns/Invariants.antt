use lib.ListN.{take}
use Rattle.run_spec.specs.Course.{take_turns}
use Rattle.run_recipe.proofs.Underway.{Underway}
use Rattle.run_recipe.proofs.run_turns.Given as goal

abbrev pub invariant-loop-taken : goal.invariant-loop-taken
invariant-loop-taken l = Underway (take_turns l.turns l.initial.at.next (take l.initial.at.length l.initial.first)) l.turns l.first l.second l.at l.taken
