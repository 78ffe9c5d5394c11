-- Document 02, T-09: what a list of steps on bytes shows of one bay, and when two such lists show the same. Quoted is the request.
use Rattle.std.specs.Prelude.{◌≡◌, List, ◌≤◌, ℕ, length}
use Rattle.std.proofs.Math.Option.{some}
use Rattle.calculus.specs.Causes.{room_cause}
use Rattle.calculus.specs.Limits.{max_image_length}
use Rattle.calculus.specs.Profile.{separate}
use Rattle.calculus.specs.Syntax.{at}
use Rattle.calculus.specs.Typing.{TypeNumbers}
use Rattle.image.specs.Configuration.{owned_of, owners_of}
use Rattle.step_spec.specs.declared.Outcome.{Outcome}
use Rattle.step_spec.specs.declared.Outcome.TheVariants.{Rule, Done, Waiting, Refused}
use Rattle.runs.specs.Run.{Call, Step, answer, left, steps_of}
use Rattle.bays_apart.specs.Same.{Names, SamePlace}
use Rattle.bays_apart.specs.Turns.{is_turn, whose_turn, passing, SameSetting}

-- the steps that are turns of bay k: the number is a thread of the image handed in, and bay k's
abbrev pub turns_of : ℕ → List Step → List Step
turns_of k ns = passing (λ n. is_turn k (owned_of n.image) n.call.thread) ns

-- which of the bay's threads takes its turn, "counted within the bay"
abbrev pub turn_by : ℕ → Step → ℕ
turn_by k n = whose_turn k (owned_of n.image) n.call.thread

-- the turns of bay k in the steps that these calls make of a recipe, loaded into `out`; each step is handed "the image last written"
abbrev pub history : ℕ → List ℕ → List ℕ → List Call → List Step
history k file out calls = turns_of k (steps_of separate file out calls)

-- "each step with a buffer long enough"
abbrev pub Long : List Call → Type 0
Long calls = (i : ℕ) (call : Call) → at calls i ≡ some call → max_image_length ≤ length call.out

-- "Its sequence of rules, done, waiting and room answers is the same", and there are no other answers; an awaited name by its place among the bay's names
pub data SameAnswer (N : Names) : Outcome → Outcome → Type 0 where
  same_rule : {rule size size' : ℕ} → SameAnswer N (Rule rule size) (Rule rule size')
  same_done : SameAnswer N Done Done
  same_waiting : {y z : ℕ} → N y z → SameAnswer N (Waiting y) (Waiting z)
  same_room : SameAnswer N (Refused room_cause) (Refused room_cause)

-- two turns of bay k show the same: the answer, "and so is its setting after each of them; numbers of names may differ"
pub record SameTurn (k : ℕ) (τ σ : TypeNumbers) (n m : Step) : Type 0 where
  pub same_answer : SameAnswer (SamePlace k (owners_of n.image) (owners_of m.image)) (answer n) (answer m)
  pub same_setting : SameSetting k τ σ (owned_of (left n)) (owned_of (left m))
