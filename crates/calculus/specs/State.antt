-- An image as the calculus sees it, and document 01's "each cell and finished thread has a value of its type".
use Rattle.std.specs.Prelude.{◌≡◌, List, ℕ}
use Rattle.std.proofs.Math.Option.{some}
use Rattle.calculus.specs.Types.{LinType, ref}
use Rattle.calculus.specs.Syntax.{Exp, Value, thread_of, holds, at}
use Rattle.calculus.specs.Owners.{Owned}
use Rattle.calculus.specs.Typing.{TypeNumbers}
use Rattle.calculus.specs.Names.{HasType}

-- a configuration with the owners of its names, and their types
pub record State : Type 0 where
  pub names : List LinType
  pub owned : Owned

-- document 01, "each cell and finished thread has a value of its type"
pub record ValuesTyped (τ : TypeNumbers) (s : State) : Type 0 where
  pub cells : (x : ℕ) (v : Exp) → at s.owned.config x ≡ some (holds v) → (α : LinType) × (at s.names x ≡ some (ref α)) × HasType τ s.names v α
  pub finished : (x : ℕ) (v : Exp) → at s.owned.config x ≡ some (thread_of v) → Value v → (α : LinType) × (at s.names x ≡ some α) × HasType τ s.names v α
