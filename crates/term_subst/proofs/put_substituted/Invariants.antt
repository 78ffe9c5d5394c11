-- `term_subst::put_substituted` meets its contract. The loop's invariant: what is written, and what is still to be written of the terms to come, is the
-- outcome (proofs/Putting.antt). The measure is what is still unread.
use Prim.Native.Nat.{◌-◌}
use lib.ListN.{length}
use Rattle.term_subst.proofs.Putting.{Putting}
use Rattle.term_subst.proofs.put_substituted.Given as goal

abbrev pub invariant-loop-inner : goal.invariant-loop-inner
invariant-loop-inner l = Putting l.s l.at l.inner l.outer l.initial.out l.pos l.here l.frames l.out l.next

abbrev pub decreases-loop-inner : goal.decreases-loop-inner
decreases-loop-inner l = length l.s - l.here
