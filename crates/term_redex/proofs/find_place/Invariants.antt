-- `term_redex::find_place` meets its contract. The loop's invariant: the stop here has the place that is looked for (proofs/Sought.antt).
use Prim.Native.Nat.{◌-◌}
use lib.ListN.{length}
use Rattle.term_redex.proofs.Sought.{Sought}
use Rattle.term_redex.proofs.find_place.Given as goal

abbrev pub invariant-loop-inner : goal.invariant-loop-inner
invariant-loop-inner l = Sought l.s l.at l.node

abbrev pub decreases-loop-inner : goal.decreases-loop-inner
decreases-loop-inner l = length l.s - l.node
