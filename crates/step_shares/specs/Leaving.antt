-- Whether no bay is above its share after a step.
use Rattle.std.specs.Prelude.{Bool, List, ℕ}
use Rattle.calculus.specs.Shares.{bays_in, shares_test}
use Rattle.image.specs.Configuration.{owners_of}
use Rattle.step_look.specs.Leaving.{left_by}

-- "a rule whose outcome leaves any bay above its share gives 15 instead"
unfoldable pub shares_after : List ℕ → ℕ → Bool
shares_after s x = shares_test (bays_in (owners_of s)) (left_by s x)
