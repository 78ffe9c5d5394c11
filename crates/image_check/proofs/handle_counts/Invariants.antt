-- `image_check::handle_counts` meets its contract. The loop's invariant: the names passed are counted (proofs/Handles.antt).
use Rattle.image_check.proofs.Handles.{Tallied}
use Rattle.image_check.proofs.handle_counts.Given as goal

abbrev pub invariant-loop-k : goal.invariant-loop-k
invariant-loop-k l = Tallied l.image l.names l.k l.counts
