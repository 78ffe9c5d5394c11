-- `check_separate::names_only` meets its contract. The loop's invariant: the terms still to come give the answer (proofs/Owning.antt). The measure is what is
-- still unread.
use Prim.Native.Nat.{◌-◌}
use lib.ListN.{length}
use Rattle.check_separate.proofs.Owning.{Owning}
use Rattle.check_separate.proofs.names_only.Given as goal

abbrev pub invariant-loop-waits : goal.invariant-loop-waits
invariant-loop-waits l = Owning l.own l.s l.at l.here l.waits

abbrev pub decreases-loop-waits : goal.decreases-loop-waits
decreases-loop-waits l = length l.s - l.here
