-- `draw_thread::count_threads` meets its contract. The loop's invariant: the threads among the names passed are counted.
use native.Mathlib.Omega.{arith}
use mathlib.Core.Path.{◌∙◌, sym}
use Rattle.image_layout.proofs.Theory.Reading.{has_names}
use Rattle.draw_thread.proofs.Counted.{counted_few, counted_none, counted_one, counted_skip, next_head}
use Rattle.draw_thread.proofs.count_threads.Goals as goal
use Rattle.draw_thread.proofs.count_threads.Goals.{then-has_thread_kind, else-has_thread_kind}

pub names_of-x-end-requires : goal.names_of-x-end-requires
names_of-x-end-requires c = has_names _ c.requires

pub loop-x-init : goal.loop-x-init
loop-x-init c = counted_none

pub has_thread_kind-requires : goal.has_thread_kind-requires
has_thread_kind-requires c = next_head c.loop-x.invariant c.requires (omega (arith, c.names_of-x-end.ensures.0))

pub overflow_add-count : goal.overflow_add-count
overflow_add-count c = omega (arith, counted_few c.loop-x.invariant, c.names_of-x-end.ensures.1)

pub loop-x-preserved : goal.loop-x-preserved
loop-x-preserved c = elim c.if-has_thread_kind.branch [
  | then-has_thread_kind w ↦ rw w.count-is (counted_one c.loop-x.invariant (omega (arith, c.names_of-x-end.ensures.0)) (sym c.has_thread_kind.ensures ∙ w.if-has_thread_kind.true))
  | else-has_thread_kind w ↦ rw w.count-is (counted_skip c.loop-x.invariant (omega (arith, c.names_of-x-end.ensures.0)) (sym c.has_thread_kind.ensures ∙ w.if-has_thread_kind.false))
]
