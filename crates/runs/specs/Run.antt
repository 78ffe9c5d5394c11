-- Document 01, "A run", in bytes: "an accepted recipe, its load into a buffer that is long enough, and a list of steps, none or many". What is loaded is said by
-- `loaded_of` and `out_after_load`, what a step answers and leaves by `outcome_of` and `out_after_step`: the definitions that the contracts of load and step cite.
use Rattle.std.specs.Prelude.{◌≡◌, List, [], ◌∷◌, ◌++◌, map, ℕ, ◌≤◌, length, take}
use Rattle.std.proofs.Math.Option.{some}
use Rattle.calculus.specs.Types.{LinType}
use Rattle.calculus.specs.Syntax.{Exp, name, thread_of, open_for, at}
use Rattle.calculus.specs.Typing.{TypeNumbers}
use Rattle.calculus.specs.Reduction.{HANDLE_BIND, number}
use Rattle.calculus.specs.NewTypes.{function_at, new_types}
use Rattle.calculus.specs.Causes.{room_cause}
use Rattle.calculus.specs.Limits.{max_image_length}
use Rattle.calculus.specs.Profile.{Profile}
use Rattle.calculus.specs.Table.{type_at}
use Rattle.calculus.specs.State.{ValuesTyped}
use Rattle.recipe_table.specs.Entries.{type_table}
use Rattle.image.specs.Configuration.{config_of, owned_of}
use Rattle.load_spec.specs.Starting.{starting_state}
use Rattle.load_spec.specs.Loading.{loaded_of, out_after_load}
use Rattle.step_spec.specs.declared.Outcome.{Outcome}
use Rattle.step_spec.specs.declared.Outcome.TheVariants.{Rule, Done, Waiting, Refused}
use Rattle.step_spec.specs.Stepping.{outcome_of, out_after_step}

-- document 01, "Each step has any thread number and any out buffer, of any length and holding any bytes"
pub record Call : Type 0 where
  pub thread : ℕ
  pub out : List ℕ

-- what a step is handed: an image; beside it the types of its names, which nobody hands over: "A name's type is fixed when the name comes"; and by which profile's stepper (T-09)
pub record Step : Type 0 where
  pub profile : Profile
  pub image : List ℕ
  pub types : List LinType
  pub call : Call

-- what it answers
abbrev pub answer : Step → Outcome
answer n = outcome_of n.profile n.image n.call.thread n.call.out

-- what is new where a rule was answered, by the new image's length, and else what was before
unfoldable pub renewed : {A : Type 0} → Outcome → (ℕ → A) → A → A
renewed (Rule rule size) new before = new size
renewed Done new before = before
renewed (Waiting y) new before = before
renewed (Refused cause) new before = before

-- what it leaves: "the new image if that answered a rule, else the same image again"; that is in the out buffer's first bytes
abbrev pub left : Step → List ℕ
left n = renewed (answer n) (λ size. take size (out_after_step n.profile n.image n.call.thread n.call.out)) n.image

-- the types of the names of the image that it leaves
abbrev pub types_left : TypeNumbers → Step → List LinType
types_left τ n = renewed (answer n) (λ size. n.types ++ new_types τ (config_of n.image) n.call.thread) n.types

-- "Each later one is handed what the step before it left": the steps of a list of calls, the first being handed this image with these types
unfoldable pub steps : Profile → TypeNumbers → List ℕ → List LinType → List Call → List Step
steps p τ image types [] = []
steps p τ image types (c ∷ calls) =
    let n : Step = record { profile = p; image = image; types = types; call = c } in
    n ∷ steps p τ (left n) (types_left τ n) calls

-- "A step that answers rule 5 applies the handle whose name is the function at its place"
abbrev pub Applies : Step → ℕ → Type 0
Applies n z = (size : ℕ) × (answer n ≡ Rule (number HANDLE_BIND) size) × (function_at (config_of n.image) n.call.thread ≡ some (name z))

-- "and binds the future that is this handle's companion in the image handed in"
abbrev pub Binds : Step → ℕ → Type 0
Binds n y = (z : ℕ) × Applies n z × (at (config_of n.image) z ≡ some (open_for y))

-- its number is a "thread of the image handed in"
abbrev pub IsThread : Step → Type 0
IsThread n = (e : Exp) × (at (config_of n.image) n.call.thread ≡ some (thread_of e))

-- "a rule, done, waiting or 15"
abbrev pub Goes : Outcome → Type 0
Goes (Rule rule size) = Unit {0}
Goes Done = Unit {0}
Goes (Waiting y) = Unit {0}
Goes (Refused cause) = cause ≡ room_cause

-- "each cell and finished thread has a value of its type", names so typed
abbrev pub ValuesTypedIn : TypeNumbers → List ℕ → List LinType → Type 0
ValuesTypedIn τ image types = ValuesTyped τ (record { names = types; owned = owned_of image })

-- "The first step is handed the image that the load wrote, all of it and no byte beyond": of the recipe in the file, loaded into this out buffer
abbrev pub image_loaded : Profile → List ℕ → List ℕ → List ℕ
image_loaded p file out = take (loaded_of p file (length out)).length (out_after_load p file out)

-- the types of its names: "cell of num for a setting, the bay's type for its first thread"
abbrev pub types_loaded : List ℕ → List LinType
types_loaded file = (starting_state file).names

-- the steps of these calls, the first being handed the image that a load into `out` wrote
abbrev pub steps_of : Profile → List ℕ → List ℕ → List Call → List Step
steps_of p file out calls = steps p (type_at (type_table file)) (image_loaded p file out) (types_loaded file) calls

-- calls that step these threads, into any buffers that are long enough
pub record Follows (xs : List ℕ) (calls : List Call) : Type 0 where
  pub threads : map (λ (call : Call). call.thread) calls ≡ xs
  pub long : (i : ℕ) (call : Call) → at calls i ≡ some call → max_image_length ≤ length call.out
