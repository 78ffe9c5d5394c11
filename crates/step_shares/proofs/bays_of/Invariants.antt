-- `step_shares::bays_of` meets its contract. The loop's invariant: one more than the highest owner of the names passed (proofs/Highest.antt).
use Rattle.step_shares.proofs.Highest.{Highest}
use Rattle.step_shares.proofs.bays_of.Given as goal

abbrev pub invariant-loop-k : goal.invariant-loop-k
invariant-loop-k l = Highest l.image.bytes.now l.names l.k l.bays
