-- What a step makes of a name: the component that comes of it, as the code finds it.
use Rattle.std.specs.Prelude.{◌≡◌, List, [], ℕ, ◌<◌}
use Rattle.calculus.specs.Limits.{byte_values}
use Rattle.image_layout.specs.Encoded.{Encoded}
use Rattle.image_layout.specs.Slice.{names, encoded_at}
use Rattle.image.specs.Holding.{thread_holding, handle_open}
use Rattle.step_rules.specs.declared.Step.{Step}
use Rattle.step_rules.specs.Effects.{argument_bytes, started_bytes}
use Rattle.step_rules.specs.Moves.{expression_after, owner_after}
use Rattle.step_write.specs.declared.Change.{Change}
use Rattle.step_write.specs.declared.Change.TheVariants.{Kept, Goes, Starts, Holds, Opens, Bare}

-- the component that a change of name k makes
unfoldable pub changed : List ℕ → Step → ℕ → Change → Encoded
changed s step k Kept = encoded_at s k
changed s step k Goes = thread_holding (expression_after s step) (owner_after s step.thread k)
changed s step k Starts = thread_holding (started_bytes s step.meeting) (owner_after s step.thread k)
changed s step k (Holds kind) = record { kind = kind; companion = owner_after s step.thread k; expression = argument_bytes s step.meeting }
changed s step k (Opens future) = handle_open future (owner_after s step.thread k)
changed s step k (Bare kind) = record { kind = kind; companion = owner_after s step.thread k; expression = [] }

-- what is known by a change: a name that stays was there before, and the name of a new thread has a byte
abbrev pub Sure : List ℕ → ℕ → Change → Type 0
Sure s k Kept = k < names s
Sure s k Goes = Unit {0}
Sure s k Starts = names s < byte_values
Sure s k (Holds kind) = Unit {0}
Sure s k (Opens future) = Unit {0}
Sure s k (Bare kind) = Unit {0}

-- name k becomes this component, by this change
pub record Becomes (s : List ℕ) (step : Step) (k : ℕ) (change : Change) (component : Encoded) : Type 0 where
  pub is : component ≡ changed s step k change
  pub sure : Sure s k change
