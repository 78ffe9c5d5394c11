-- `draw_thread::count_threads` meets its contract. The loop's invariant: the threads among the names passed are counted.
use Rattle.draw_thread.proofs.Counted.{Counted}
use Rattle.draw_thread.proofs.count_threads.Given as goal

abbrev pub invariant-loop-x : goal.invariant-loop-x
invariant-loop-x l = Counted l.image l.x l.count
