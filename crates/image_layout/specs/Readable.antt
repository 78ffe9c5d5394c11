-- What a slice must have for a head or an expression to be read.
use Rattle.std.specs.Prelude.{◌≡◌, List, ℕ, ◌+◌, ◌≤◌, length}
use Rattle.calculus.specs.Kinds.{open_handle_kind}
use Rattle.calculus.specs.Limits.{head_length}
use Rattle.image_layout.specs.Encoded.{head_offset}
use Rattle.image_layout.specs.Slice.{kind_at, companion_at, offset_at, length_at}

-- the head of name k is inside s
pub record HasHead (s : List ℕ) (k : ℕ) : Type 0 where
  pub head_inside : head_offset k + head_length ≤ length s

-- so is the head of its future, where it is an open handle
pub record HasOwner (s : List ℕ) (k : ℕ) : Type 0 where
  pub own : HasHead s k
  pub future : kind_at s k ≡ open_handle_kind → HasHead s (companion_at s k)

-- and its expression
pub record HasExpression (s : List ℕ) (k : ℕ) : Type 0 where
  pub head_inside : head_offset k + head_length ≤ length s
  pub expression_inside : offset_at s k + length_at s k ≤ length s
