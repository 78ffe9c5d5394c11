-- `buffer::put_bytes` meets its contract. The loop's invariant: `out` has the first i bytes of `src` written at `at`.
use Prim.Native.Nat.{◌+◌}
use lib.ListN.{take}
use Rattle.buffer.specs.Written.{Wrote}
use Rattle.buffer.proofs.put_bytes.Given as goal

abbrev pub invariant-loop-i : goal.invariant-loop-i
invariant-loop-i l = Wrote l.initial.out l.at (take l.i l.src) l.out (l.at + l.i)
