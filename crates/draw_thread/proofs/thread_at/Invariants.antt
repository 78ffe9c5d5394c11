-- `draw_thread::thread_at` meets its contract. The loop's invariant: the threads among the names passed are counted, and no more than the index.
use Prim.Native.Nat.{◌≤◌}
use Rattle.draw_thread.proofs.Counted.{Counted}
use Rattle.draw_thread.proofs.thread_at.Given as goal

abbrev pub invariant-loop-x : goal.invariant-loop-x
invariant-loop-x l = Counted l.image l.x l.passed × (l.passed ≤ l.index)
