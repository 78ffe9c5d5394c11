-- `term_scan::nesting_within` meets its contract. The loop's invariant: the terms still to come, with the numbers of nodes above them that the frames are, give
-- the answer (proofs/Nesting.antt). The measure is what is still unread.
use Prim.Native.Nat.{◌-◌}
use lib.ListN.{length}
use Rattle.term_scan.proofs.Nesting.{Nesting}
use Rattle.term_scan.proofs.nesting_within.Given as goal

abbrev pub invariant-loop-frames : goal.invariant-loop-frames
invariant-loop-frames l = Nesting l.limit l.s l.at l.here l.frames

abbrev pub decreases-loop-frames : goal.decreases-loop-frames
decreases-loop-frames l = length l.s - l.here
