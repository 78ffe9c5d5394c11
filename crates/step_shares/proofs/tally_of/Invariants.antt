-- `step_shares::tally_of` meets its contract. The loop's invariant: the names passed are counted (proofs/Columns.antt).
use Rattle.step_shares.proofs.Columns.{Counting}
use Rattle.step_shares.proofs.tally_of.Given as goal

abbrev pub invariant-loop-k : goal.invariant-loop-k
invariant-loop-k l = Counting l.image.bytes.now l.all l.k l.names l.nodes
