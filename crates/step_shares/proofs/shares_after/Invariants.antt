-- `step_shares::shares_after` meets its contract. The loop's invariant: the bays passed are within their shares (proofs/Weighing.antt).
use Rattle.step_shares.proofs.Weighing.{Passed}
use Rattle.step_shares.proofs.shares_after.Given as goal

abbrev pub invariant-loop-k : goal.invariant-loop-k
invariant-loop-k l = Passed l.tally l.flow l.bays l.k
