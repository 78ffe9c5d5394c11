-- `draw_thread::thread_at` meets its contract. The loop's invariant: the threads among the names passed are counted, and no more than the index.
use native.Mathlib.Omega.{arith}
use mathlib.Core.Path.{◌∙◌, sym}
use Rattle.image_layout.proofs.Theory.Reading.{has_names}
use Rattle.draw_thread.proofs.Counted.{counted_found, counted_none, counted_one, counted_skip, next_head}
use Rattle.draw_thread.proofs.thread_at.Goals as goal
use Rattle.draw_thread.proofs.thread_at.Goals.{then-has_thread_kind+else-passed-index, else-has_thread_kind}

pub names_of-x-end-requires : goal.names_of-x-end-requires
names_of-x-end-requires c = has_names _ c.requires.0

pub loop-x-init : goal.loop-x-init
loop-x-init c = (counted_none, omega arith)

pub has_thread_kind-requires : goal.has_thread_kind-requires
has_thread_kind-requires c = next_head c.loop-x.invariant.0 c.requires.0 (omega (arith, c.names_of-x-end.ensures.0))

pub returns-then-passed-index : goal.returns-then-passed-index
returns-then-passed-index c =
    counted_found c.loop-x.invariant.0 c.if-passed-index.true (omega (arith, c.names_of-x-end.ensures.0)) (sym c.has_thread_kind.ensures ∙ c.if-has_thread_kind.true)

pub loop-x-preserved : goal.loop-x-preserved
loop-x-preserved c = elim c.if-has_thread_kind.branch [
  | then-has_thread_kind+else-passed-index w ↦
      rw w.passed-is
      (counted_one c.loop-x.invariant.0 (omega (arith, c.names_of-x-end.ensures.0)) (sym c.has_thread_kind.ensures ∙ w.if-has_thread_kind.true), omega (arith, w.if-passed-index.false))
  | else-has_thread_kind w ↦
      rw w.passed-is (counted_skip c.loop-x.invariant.0 (omega (arith, c.names_of-x-end.ensures.0)) (sym c.has_thread_kind.ensures ∙ w.if-has_thread_kind.false), c.loop-x.invariant.1)
]
