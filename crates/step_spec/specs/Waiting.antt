-- An awaited name is one of the names that an image may have.
use Rattle.std.specs.Prelude.{◌≡◌, ◌<◌, ℕ}
use Rattle.calculus.specs.Limits.{max_names}
use Rattle.step_spec.specs.declared.Outcome.{Outcome}
use Rattle.step_spec.specs.declared.Outcome.TheVariants.{Waiting}

-- an awaited name is one of the names that an image may have
pub record NameSmall (o : Outcome) : Type 0 where
  pub small : (y : ℕ) → o ≡ Waiting y → y < max_names
