-- `image_layout::heads_stand` meets its contract. The loop's invariant: k names have stood, and what is left of the test is the test of the others.
use Rattle.image_layout.proofs.Pass.{Passed}
use Rattle.image_layout.proofs.heads_stand.Given as goal

abbrev pub invariant-loop-k : goal.invariant-loop-k
invariant-loop-k l = Passed l.image l.names l.k l.end
