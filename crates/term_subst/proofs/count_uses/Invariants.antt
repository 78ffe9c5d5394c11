-- `term_subst::count_uses` meets its contract. The loop's invariant: the uses counted and those in the terms still to come are those of the term
-- (proofs/Counting.antt). The measure is what is still unread.
use Prim.Native.Nat.{◌-◌}
use lib.ListN.{length}
use Rattle.term_subst.proofs.Counting.{Counting}
use Rattle.term_subst.proofs.count_uses.Given as goal

abbrev pub invariant-loop-frames : goal.invariant-loop-frames
invariant-loop-frames l = Counting l.s l.at l.here l.frames l.nodes l.inner l.outer

abbrev pub decreases-loop-frames : goal.decreases-loop-frames
decreases-loop-frames l = length l.s - l.here
