-- The two ways of a look, told apart by what it answers.
use Rattle.std.specs.Prelude.{List, ℕ, Ok, Err}
use Rattle.step_spec.specs.declared.Outcome.{Outcome}
use Rattle.step_look.specs.declared.Going.{Going}
use Rattle.step_look.specs.Looked.{Goes, Looked, Staying, goes, stays_so}

module _ {s : List ℕ} {x : ℕ} where
  pub looked_goes : {going : Going} → Looked s x (Ok going) → Goes s x going
  looked_goes (goes g) = g

  pub looked_stays : {outcome : Outcome} → Looked s x (Err outcome) → Staying s x outcome
  looked_stays (stays_so t) = t
