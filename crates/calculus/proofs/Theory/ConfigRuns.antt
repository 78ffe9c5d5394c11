-- A run on configurations, and what the third demand says of it there: a lemma of the demand on bytes (crate demands).
use Rattle.std.specs.Prelude.{◌≡◌, ◌↔◌, cond, List, [], ◌++◌, ◌∷◌, ◌<◌, ℕ, ltb}
use Rattle.std.proofs.Math.Option.{some}
use Rattle.calculus.specs.Syntax.{Exp, name, thread_of, open_for, Config, at}
use Rattle.calculus.specs.Owners.{Owned, grown}
use Rattle.calculus.specs.Typing.{TypeNumbers}
use Rattle.calculus.specs.NewTypes.{function_at, new_types}
use Rattle.calculus.specs.Limits.{max_image_length}
use Rattle.calculus.specs.Image.{image_test}
use Rattle.calculus.specs.Profile.{Profile}
use Rattle.calculus.specs.State.{State, ValuesTyped}
use Rattle.calculus.specs.Reply.{Reply, moved, waits, finished, refuses, reply_to}

-- document 01, "Each step has any thread number and any out buffer, of any length"
pub record ConfigCall : Type 0 where
  pub thread : ℕ
  pub buffer : ℕ

-- document 01, "The lowest number that fits wins": 12, 13, then the others
unfoldable pub config_reply : Profile → Owned → ConfigCall → Reply
config_reply p I a = cond (ltb a.buffer max_image_length) (refuses 12) (cond (image_test I.config) (reply_to p I a.thread) (refuses 13))

-- document 01, "the new image if that answered a rule, else the same image again". New names have their types.
abbrev pub state_with : TypeNumbers → State → ℕ → Owned → State
state_with τ s x I' = record { names = s.names ++ new_types τ s.owned.config x; owned = I' }

abbrev pub state_grown : TypeNumbers → State → ℕ → Config → State
state_grown τ s x C' = state_with τ s x (grown s.owned x C')

unfoldable pub state_left : TypeNumbers → State → ℕ → Reply → State
state_left τ s x (moved r I') = state_with τ s x I'
state_left τ s x (waits y) = s
state_left τ s x finished = s
state_left τ s x (refuses k) = s

abbrev pub state_after : Profile → TypeNumbers → State → ConfigCall → State
state_after p τ s a = state_left τ s a.thread (config_reply p s.owned a)

-- document 01, "Each later one is handed what the step before it left": the steps of a run, each with the state handed to it
pub record ConfigStep : Type 0 where
  pub before : State
  pub call : ConfigCall

unfoldable pub config_steps : Profile → TypeNumbers → State → List ConfigCall → List ConfigStep
config_steps p τ s [] = []
config_steps p τ s (a ∷ rest) = record { before = s; call = a } ∷ config_steps p τ (state_after p τ s a) rest

-- what a step of a run answers
abbrev pub config_replied : Profile → ConfigStep → Reply
config_replied p n = config_reply p n.before.owned n.call

-- document 01, "A step that answers rule 5 applies the handle whose name is the function at its place"
abbrev pub ConfigApplies : Profile → ConfigStep → ℕ → Type 0
ConfigApplies p n z = (I' : Owned) × (config_replied p n ≡ moved 5 I') × (function_at n.before.owned.config n.call.thread ≡ some (name z))

-- document 01, "and binds the future that is this handle's companion in the image handed in"
abbrev pub ConfigBinds : Profile → ConfigStep → ℕ → Type 0
ConfigBinds p n y = (z : ℕ) × ConfigApplies p n z × (at n.before.owned.config z ≡ some (open_for y))

-- document 01, "its number is .. [a] thread of the image handed in"
abbrev pub ConfigIsThread : ConfigStep → Type 0
ConfigIsThread n = (e : Exp) × (at n.before.owned.config n.call.thread ≡ some (thread_of e))

-- document 01, "a rule, done, waiting or 15"
abbrev pub ReplyGoes : Reply → Type 0
ReplyGoes (moved r I') = Unit {0}
ReplyGoes (waits y) = Unit {0}
ReplyGoes finished = Unit {0}
ReplyGoes (refuses k) = k ≡ 15

-- document 01, the third demand: "For every run: ..", for a run from state s
pub record ConfigDemand (p : Profile) (τ : TypeNumbers) (s : State) (run : List ConfigCall) : Type 0 where
  -- "no handle is applied in two of its steps"
  pub one_application : (z i j : ℕ) (m n : ConfigStep) → at (config_steps p τ s run) i ≡ some m → at (config_steps p τ s run) j ≡ some n → ConfigApplies p m z → ConfigApplies p n z → i ≡ j
  -- "and no future is bound in two"
  pub one_binding : (y i j : ℕ) (m n : ConfigStep) → at (config_steps p τ s run) i ≡ some m → at (config_steps p τ s run) j ≡ some n → ConfigBinds p m y → ConfigBinds p n y → i ≡ j
  -- "no step answers 13, 16 or 17"
  pub no_13_16_17 : (i : ℕ) (n : ConfigStep) → at (config_steps p τ s run) i ≡ some n →
      (¬ (config_replied p n ≡ refuses 13)) × (¬ (config_replied p n ≡ refuses 16)) × (¬ (config_replied p n ≡ refuses 17))
  -- "a step answers 12 exactly when its out buffer is under 13,826 bytes"
  pub twelve : (i : ℕ) (n : ConfigStep) → at (config_steps p τ s run) i ≡ some n → (config_replied p n ≡ refuses 12) ↔ (n.call.buffer < max_image_length)
  -- "otherwise 14 exactly when its number is no thread of the image handed in"
  pub fourteen : (i : ℕ) (n : ConfigStep) → at (config_steps p τ s run) i ≡ some n → ¬ (n.call.buffer < max_image_length) → (config_replied p n ≡ refuses 14) ↔ (¬ ConfigIsThread n)
  -- "and otherwise a rule, done, waiting or 15"
  pub otherwise : (i : ℕ) (n : ConfigStep) → at (config_steps p τ s run) i ≡ some n → ¬ (n.call.buffer < max_image_length) → ConfigIsThread n → ReplyGoes (config_replied p n)
  -- "after the load and after every step each cell and finished thread has a value of its type"
  pub typed_loaded : ValuesTyped τ s
  pub typed_after : (i : ℕ) (n : ConfigStep) → at (config_steps p τ s run) i ≡ some n → ValuesTyped τ (state_after p τ n.before n.call)
