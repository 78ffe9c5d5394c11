-- T-09: what the second profile keeps of every image of a run.
use Rattle.std.specs.Prelude.{◌≡◌, ℕ}
use Rattle.std.proofs.Math.Option.{some}
use Rattle.calculus.specs.Syntax.{Component, at, sum_in}
use Rattle.calculus.specs.Names.{count}
use Rattle.calculus.specs.Owners.{Owned}
use Rattle.calculus.specs.Shares.{bays_in, WithinShares}

-- an image of a house of b bays whose bays are apart
pub record Apart (b : ℕ) (I : Owned) : Type 0 where
  -- the stepper's b is the number of bays
  pub bays : bays_in I.owners ≡ b
  -- no bay is above its share
  pub shares : WithinShares b I
  -- "one tenant's recipe can't reach another's vents": what stands at a name of bay k names only bay k's names
  pub own_names : (k x : ℕ) (c : Component) → at I.owners x ≡ some k → at I.config x ≡ some c → (n : ℕ) → ¬ (at I.owners n ≡ some k) → sum_in (count n) c ≡ 0
