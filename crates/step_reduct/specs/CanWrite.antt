-- What a writer of the image after a step needs of the image before it and of the step.
use Rattle.std.specs.Prelude.{◌≡◌, true, List, ℕ, ◌<◌, ◌≤◌, length}
use Rattle.calculus.specs.Bytes.{two_byte_values}
use Rattle.calculus.specs.Limits.{max_names}
use Rattle.image_layout.specs.Layout.{heads_stand}
use Rattle.image_layout.specs.Readable.{HasOwner}
use Rattle.image_layout.specs.Slice.{names}
use Rattle.step_rules.specs.declared.Step.{Step}
use Rattle.step_rules.specs.Moves.{names_after}
use Rattle.step_rules.specs.Stepped.{Movable}

-- the image before and the step
pub record CanWrite (s : List ℕ) (step : Step) : Type 0 where
  -- the places that the step names are inside the image
  pub movable : Movable s step
  -- the image keeps its layout, and its limit of bytes
  pub stands : heads_stand s ≡ true
  -- T-08: each name's owner can be read
  pub owners : (k : ℕ) → k < names s → HasOwner s k
  pub short : length s < two_byte_values
  -- "At most 256 names"
  pub few : names_after s step ≤ max_names
