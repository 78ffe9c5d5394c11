-- `term_scan::scan_within` meets its contract. The loop's invariant: the terms still to come give the answer, and the nodes read are within the budget
-- (proofs/Editions.antt). The measure is what is still unread.
use Prim.Native.Nat.{◌-◌}
use lib.ListN.{length}
use Rattle.term_scan.proofs.Editions.{Within}
use Rattle.term_scan.proofs.scan_within.Given as goal

abbrev pub invariant-loop-waits : goal.invariant-loop-waits
invariant-loop-waits l = Within l.forms l.budget l.s l.at l.here l.nodes l.waits

abbrev pub decreases-loop-waits : goal.decreases-loop-waits
decreases-loop-waits l = length l.s - l.here
