-- `image_layout::expression_at` meets its contract.
use native.Mathlib.Nat.{add-sub_cancel_left}
use Rattle.image_layout.specs.Slice.{expression_at}
use Rattle.image_layout.proofs.expression_at.Goals as goal

pub returns : goal.returns
unfolding expression_at
returns c = simp (add-sub_cancel_left, c.offset_at-begin.ensures.0, c.length_at-size.ensures.0)
