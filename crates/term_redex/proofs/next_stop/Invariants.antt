-- `term_redex::next_stop` meets its contract. The loop's invariant: the terms still to come have the term's place, and are all values if it is one
-- (proofs/Search.antt).
use Prim.Native.Nat.{◌-◌}
use lib.ListN.{length}
use Rattle.term_redex.proofs.Search.{Searching}
use Rattle.term_redex.proofs.next_stop.Given as goal

abbrev pub invariant-loop-waits : goal.invariant-loop-waits
invariant-loop-waits l = Searching l.s l.at l.here l.waits

abbrev pub decreases-loop-waits : goal.decreases-loop-waits
decreases-loop-waits l = length l.s - l.here
