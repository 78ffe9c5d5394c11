-- What is known of an image once 13 does not fit, and what a look at one of its threads says of the calculus's step.
use Rattle.std.specs.Prelude.{◌≡◌, Bool, ◌&&◌, true, List, ℕ, Result, Ok, Err, eqb, ltb}
use Rattle.calculus.specs.Image.{limits_test, nodes_all}
use Rattle.calculus.specs.Profile.{common}
use Rattle.calculus.specs.Kinds.{thread_kind}
use Rattle.calculus.specs.Reply.{Reply, reply_to}
use Rattle.numbers.specs.Refusals.{number_of}
use Rattle.image_layout.specs.Slice.{kind_at, names}
use Rattle.image.specs.Configuration.{config_of, owned_of}
use Rattle.image.specs.Stands.{image_stands}
use Rattle.step_rules.specs.Stepped.{Stepped}
use Rattle.step_room.specs.Counting.{Handed}
use Rattle.step_decide.specs.declared.Decision.{Decision}
use Rattle.step_decide.specs.declared.Decision.TheVariants.{Goes as DecisionGoes, Waits, Refuses}
use Rattle.step_spec.specs.declared.Outcome.{Outcome}
use Rattle.step_spec.specs.declared.Outcome.TheVariants.{Rule, Done, Waiting, Refused}
use Rattle.step_spec.specs.Stepping.{outcome_of_reply}
use Rattle.step_look.specs.declared.Going.{Going}

-- 13 does not fit: the image keeps its rules, and it has n nodes
pub record Stands (s : List ℕ) (n : ℕ) : Type 0 where
  pub stands : image_stands s ≡ true
  pub counted : nodes_all (config_of s) ≡ n

-- document 01, refusal 14: "number is no thread"
unfoldable pub is_thread : List ℕ → ℕ → Bool
is_thread s x = ltb x (names s) && eqb (kind_at s x) thread_kind

-- the answer to a decision by which no thread goes
unfoldable pub stays : Decision → Outcome
stays (DecisionGoes step) = Done
stays (Waits y) = Waiting y
stays (Refuses cause) = Refused (number_of cause)

-- the calculus's reply to a step of thread x, by document 01's limits
abbrev pub reply_in : List ℕ → ℕ → Reply
reply_in s x = reply_to common (owned_of s) x

-- the thread goes by this step, and the outcome is within the limits; what the writer is handed, and how many nodes there are then
pub record Goes (s : List ℕ) (x : ℕ) (going : Going) : Type 0 where
  pub stepped : Stepped s x going.step
  pub fits : limits_test stepped.outcome ≡ true
  pub handed : Handed s going.step going.after
  pub counted : going.after.nodes ≡ nodes_all stepped.outcome

-- it stays: what is answered, and that it is no rule
pub record Staying (s : List ℕ) (x : ℕ) (outcome : Outcome) : Type 0 where
  pub answered : outcome ≡ outcome_of_reply (reply_in s x)
  pub no_rule : (rule size : ℕ) → ¬ (outcome ≡ Rule rule size)

pub data Looked (s : List ℕ) (x : ℕ) : Result Going Outcome → Type 0 where
  goes : {going : Going} → Goes s x going → Looked s x (Ok going)
  stays_so : {outcome : Outcome} → Staying s x outcome → Looked s x (Err outcome)
