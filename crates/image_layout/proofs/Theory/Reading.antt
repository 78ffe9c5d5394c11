-- A slice that keeps the layout can be read: each head and each expression is inside it.
use Rattle.std.specs.Prelude.{◌≡◌, true, List, ℕ, ◌≤◌, ◌<◌, length}
use Rattle.std.proofs.Common.{arith}
use Rattle.calculus.specs.Limits.{first_head}
use Rattle.image_layout.specs.Slice.{names, expression_at, length_at, encoded_at}
use Rattle.image_layout.specs.Layout.{LayoutRule, heads_stand}
use Rattle.image_layout.specs.Readable.{HasHead, HasExpression}
use Rattle.image_layout.proofs.Theory.Test.{laid_heads, heads_stand_iff}
use Rattle.image_layout.proofs.Theory.Exactly.{length_expression}

module _ (s : List ℕ) (stands : heads_stand s ≡ true) where
  laid : LayoutRule s
  laid = (heads_stand_iff s).0 stands

  -- m is there
  pub has_names : first_head ≤ length s
  has_names = omega (arith, laid.heads_inside)

  module _ (k : ℕ) (below : k < names s) where
    pub has_head : HasHead s k
    has_head = record { head_inside = omega (arith, laid.heads_inside) }

    pub has_expression : HasExpression s k
    has_expression = record {
      head_inside = has_head.head_inside;
      expression_inside = omega (arith, laid.offsets k below, (laid_heads s laid k below).inside);
    }

    -- an expression is as long as its head says
    pub expression_length : length (expression_at s k) ≡ length_at s k
    unfolding encoded_at
    expression_length = length_expression s laid k below
