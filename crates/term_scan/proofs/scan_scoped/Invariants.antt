-- `term_scan::scan_scoped` meets its contract. The loop's invariant: the terms still to come, with their frames, give the answer (proofs/Scanning.antt). The
-- measure is what is still unread.
use Prim.Native.Nat.{◌-◌}
use lib.ListN.{length}
use Rattle.term_scan.proofs.Scanning.{Scanning}
use Rattle.term_scan.proofs.scan_scoped.Given as goal

abbrev pub invariant-loop-frames : goal.invariant-loop-frames
invariant-loop-frames l = Scanning l.types l.names l.limit l.s l.at l.here l.nodes l.frames

abbrev pub decreases-loop-frames : goal.decreases-loop-frames
decreases-loop-frames l = length l.s - l.here
