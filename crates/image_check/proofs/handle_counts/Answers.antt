-- `image_check::handle_counts` meets its contract. The loop's invariant: the names passed are counted (proofs/Handles.antt).
use native.Mathlib.Omega.{arith}
use borrow.Author.Rules.{rules}
use Rattle.image_layout.proofs.Theory.Reading.{has_names}
use Rattle.image_check.proofs.Components.{named_head}
use Rattle.image_check.proofs.Handles.{next_named, small, tallied_all, tallied_none, tallied_one, tallied_skip}
use Rattle.image_check.proofs.handle_counts.Goals as goal
use Rattle.image_check.proofs.handle_counts.Goals.{then-kind_at-eq-OPEN_HANDLE, else-kind_at-eq-OPEN_HANDLE}

pub names_of-names-requires : goal.names_of-names-requires
names_of-names-requires c = has_names _ c.requires

pub loop-k-init : goal.loop-k-init
loop-k-init c = tallied_none _ _ c.names_of-names.ensures.0 c.requires

pub kind_at-requires : goal.kind_at-requires
kind_at-requires c = named_head (next_named c.loop-k.invariant (omega arith))

pub companion_at-requires : goal.companion_at-requires
companion_at-requires c = named_head (next_named c.loop-k.invariant (omega arith))

pub overflow_add-counts : goal.overflow_add-counts
overflow_add-counts c = omega (arith, small c.loop-k.invariant c.companion_at.result (search rules), c.names_of-names.ensures.1)

pub loop-k-preserved : goal.loop-k-preserved
loop-k-preserved c = elim c.if-kind_at-eq-OPEN_HANDLE.branch [
  | then-kind_at-eq-OPEN_HANDLE w ↦
      rw w.counts-is (tallied_one c.loop-k.invariant (omega arith) c.kind_at.ensures w.if-kind_at-eq-OPEN_HANDLE.true w.companion_at.ensures (search rules))
  | else-kind_at-eq-OPEN_HANDLE w ↦ rw w.counts-is (tallied_skip c.loop-k.invariant (omega arith) c.kind_at.ensures w.if-kind_at-eq-OPEN_HANDLE.false)
]

pub returns : goal.returns
returns c = tallied_all c.loop-k.invariant (omega arith)
