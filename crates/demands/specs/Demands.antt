-- The three demands, each as one type. A check answers `verdict_of`; a load answers `loaded_of` and leaves `out_after_load`; a step answers `outcome_of` and leaves
-- `out_after_step`: the right-hand sides of the contracts of fikarehu_check, fikarehu_load and fikarehu_step; in the separate profile of T-09 of fikarehu_load_separate and fikarehu_step_separate. Quoted are the demands and document 01.
use Rattle.std.specs.Prelude.{◌≡◌, ◌↔◌, List, [], ◌++◌, ℕ, ◌<◌, ◌≤◌, length, drop, get_or}
use Rattle.std.proofs.Math.Option.{some}
use Rattle.calculus.specs.Bytes.{Bytes}
use Rattle.calculus.specs.Limits.{max_bays, max_image_length}
use Rattle.calculus.specs.Lowest.{Lowest}
use Rattle.calculus.specs.Causes.{buffer_cause, image_cause, no_thread_cause, room_cause, used_handle_cause, wrong_kind_cause}
use Rattle.calculus.specs.Types.{LinType}
use Rattle.calculus.specs.Syntax.{Exp, Value, thread_of, Config, at, EachAll}
use Rattle.calculus.specs.Owners.{Owned, grown, OwnersRule}
use Rattle.calculus.specs.Typing.{TypeNumbers, Derivation}
use Rattle.calculus.specs.Reduction.{HANDLE_BIND, Rule as RuleName, number, Reduces}
use Rattle.calculus.specs.Step.{Needs, Unready, AppliesUsed, Meets}
use Rattle.calculus.specs.Image.{ImageRule, Writable}
use Rattle.calculus.specs.Profile.{Profile, HasRoom, Suits}
use Rattle.calculus.specs.Table.{Table, type_at}
use Rattle.calculus.specs.Recipe.{setting_types, start}
use Rattle.recipe_table.specs.Entries.{type_table}
use Rattle.check_spec.specs.Verdict.{check_causes, refused, verdict_of}
use Rattle.check_spec.specs.Recipe.{Recipe}
use Rattle.image.specs.Configuration.{image_of}
use Rattle.load_spec.specs.Loading.{not_loaded, loaded_of, out_after_load, profile_causes}
use Rattle.step_spec.specs.declared.Outcome.TheVariants.{Rule, Done, Waiting, Refused}
use Rattle.step_spec.specs.Stepping.{outcome_of, out_after_step}
use Rattle.runs.specs.Run.{Call, Step, answer, left, types_left, steps, Applies, Binds, IsThread, Goes, ValuesTypedIn, image_loaded, types_loaded}

-- The first demand: "Whatever is wrong with a recipe, an image, a thread number or a lent buffer, the call ends, refuses with the number that the documents fix, and
-- writes nothing." Nothing is asked of the bytes, the number or the buffer. That the call ends, Rattle proves of every function. Of either profile's loader and stepper.
pub record FirstDemand (p : Profile) : Type 0 where
  -- "The lowest number that fits wins, each cause tried over the whole file"
  pub check_number : (file : List ℕ) → Lowest (check_causes file) (verdict_of file).refusal
  -- "loading and stepping try 12 first": "out buffer under 13,826 bytes"
  pub load_12 : (file out : List ℕ) → ((loaded_of p file (length out)).refusal ≡ buffer_cause) ↔ (length out < max_image_length)
  -- then what a check refuses, with its number; T-09: then 20 and 21, in the separate profile
  pub load_as_check : (file out : List ℕ) → ¬ (length out < max_image_length) → ¬ ((verdict_of file).refusal ≡ 0) → (loaded_of p file (length out)).refusal ≡ (verdict_of file).refusal
  pub load_number : (file out : List ℕ) → ¬ (length out < max_image_length) → Lowest (check_causes file ++ profile_causes p file) (loaded_of p file (length out)).refusal
  pub step_12 : (image : List ℕ) (x : ℕ) (out : List ℕ) → (outcome_of p image x out ≡ Refused buffer_cause) ↔ (length out < max_image_length)
  -- a step refuses with 12 to 17; when with which, the second demand says
  pub step_number : (image : List ℕ) (x : ℕ) (out : List ℕ) (n : ℕ) → outcome_of p image x out ≡ Refused n → (buffer_cause ≤ n) × (n ≤ wrong_kind_cause)
  -- "Returned: number": on a refusal every other field is 0
  pub check_number_alone : (file : List ℕ) → ¬ ((verdict_of file).refusal ≡ 0) → verdict_of file ≡ refused (verdict_of file).refusal
  pub load_number_alone : (file : List ℕ) (room : ℕ) → ¬ ((loaded_of p file room).refusal ≡ 0) → loaded_of p file room ≡ not_loaded (loaded_of p file room).refusal
  -- "Left as it was: all"; "Nothing is written on done or waiting"
  pub load_writes_nothing : (file out : List ℕ) → ¬ ((loaded_of p file (length out)).refusal ≡ 0) → out_after_load p file out ≡ out
  pub step_writes_nothing : (image : List ℕ) (x : ℕ) (out : List ℕ) → ((rule size : ℕ) → ¬ (outcome_of p image x out ≡ Rule rule size)) → out_after_step p image x out ≡ out

-- a file that says a recipe which the papers accept: table, starting nums and terms
abbrev pub Accepted : List ℕ → Type 0
Accepted file = (T : Table) × (ns : List ℕ) × (es : List Exp) × Recipe file T ns es

-- and which a profile takes: all of them, or (T-09) those whose bays name only their own setting and start within their share
abbrev pub Taken : Profile → List ℕ → Type 0
Taken p file = (T : Table) × (ns : List ℕ) × (es : List Exp) × Recipe file T ns es × Suits p es (start T ns es).owned

-- "the out buffer holds the image in its first bytes and is unchanged beyond", where it was `before` and is `after`
abbrev pub Written : List ℕ → List ℕ → List ℕ → Type 0
Written image before after = (after ≡ image ++ drop (length image) before) × (length image ≤ length before)

-- what is answered and left of a file that says the table T, the starting nums ns and the terms es
pub record RecipeDemand (p : Profile) (file : List ℕ) (T : Table) (ns : List ℕ) (es : List Exp) : Type 0 where
  -- "Accepting answers b and each bay's type number": the type that a derivation gives; beyond the bays 0
  pub bays : (verdict_of file).bays ≡ length es
  pub types : (bay : ℕ) (e : Exp) → at es bay ≡ some e → (α : LinType) →
      (type_at T (get_or (verdict_of file).types bay 0) ≡ some α) ↔ Derivation (type_at T) (setting_types (length es)) [] e α
  pub types_beyond : (bay : ℕ) → length es ≤ bay → get_or (verdict_of file).types bay 0 ≡ 0
  -- "loading also the image's length": what a check answers, and the starting image's length
  pub loaded_answer : Suits p es (start T ns es).owned → (out : List ℕ) → max_image_length ≤ length out →
      loaded_of p file (length out) ≡ record { refusal = 0; bays = length es; types = (verdict_of file).types; length = length (image_of (start T ns es).owned) }
  -- "After a load .. the out buffer holds the image in its first bytes and is unchanged beyond"
  pub loaded_image : Suits p es (start T ns es).owned → (out : List ℕ) → max_image_length ≤ length out → Written (image_of (start T ns es).owned) out (out_after_load p file out)

-- a slice that is the image of a configuration whose names have owners, every rule and limit of "The image" kept
pub record ImageOf (s : List ℕ) (I : Owned) : Type 0 where
  pub bytes : s ≡ image_of I
  pub rule : ImageRule I.config
  pub owners : OwnersRule max_bays I
  pub writable : EachAll Writable I.config

-- what an answer of a step to the slice s means, where P is what it says of the configuration and its owners: 12 and 13 do not fit
abbrev pub Means : List ℕ → List ℕ → (Owned → Type 0) → Type 0
Means s out P = (max_image_length ≤ length out) × (I : Owned) × ImageOf s I × P I

-- "a rule applies": Fig. 5 has a move of thread x by the rule with this number, to a configuration that has room under the profile and whose image has this length
abbrev pub Moves : Profile → ℕ → ℕ → ℕ → Owned → Type 0
Moves p x rule size I = (by : RuleName) × (C' : Config) × Reduces I.config x by C' × HasRoom p I (grown I x C') × (rule ≡ number by) × (size ≡ length (image_of (grown I x C')))

-- "a rule applies, outcome above 256 names or 4,096 nodes"; T-09: "a rule whose outcome leaves any bay above its share"
abbrev pub LacksRoom : Profile → ℕ → Owned → Type 0
LacksRoom p x I = (by : RuleName) × (C' : Config) × Reduces I.config x by C' × ¬ HasRoom p I (grown I x C')

-- "two values meet, neither a rule, nor waiting, nor 16"
abbrev pub WrongKind : ℕ → Owned → Type 0
WrongKind x I =
    Meets I.config x × ((by : RuleName) (C' : Config) → ¬ Reduces I.config x by C') × ((y : ℕ) → ¬ (Needs I.config x y × Unready I.config y)) × ¬ AppliesUsed I.config x

-- what a step of thread x of the slice s answers, and leaves in the out buffer
pub record StepDemand (p : Profile) (s : List ℕ) (x : ℕ) (out : List ℕ) : Type 0 where
  -- "A step answers with its rule and the new image's length"
  pub rule : (rule size : ℕ) → (outcome_of p s x out ≡ Rule rule size) ↔ Means s out (Moves p x rule size)
  -- "After a .. step the out buffer holds the image in its first bytes and is unchanged beyond"; a new name has the owner of the thread (T-08)
  pub rule_image : (I : Owned) (C' : Config) (by : RuleName) → ImageOf s I → Reduces I.config x by C' → HasRoom p I (grown I x C') → max_image_length ≤ length out →
      Written (image_of (grown I x C')) out (out_after_step p s x out)
  -- "A thread whose expression is a value .. answers done"
  pub done : (outcome_of p s x out ≡ Done) ↔ Means s out (λ I. (v : Exp) × Value v × (at I.config x ≡ some (thread_of v)))
  -- "A thread that needs the value of a thread not done, or of a future not bound, answers waiting with that name"
  pub waiting : (y : ℕ) → (outcome_of p s x out ≡ Waiting y) ↔ Means s out (λ I. Needs I.config x y × Unready I.config y)
  -- 13: "image breaks a rule or limit under "The image""
  pub thirteen : (outcome_of p s x out ≡ Refused image_cause) ↔ ((max_image_length ≤ length out) × ((I : Owned) → ¬ ImageOf s I))
  -- 14: "number is no thread"
  pub fourteen : (outcome_of p s x out ≡ Refused no_thread_cause) ↔ Means s out (λ I. (e : Exp) → ¬ (at I.config x ≡ some (thread_of e)))
  -- 15: "a rule applies, outcome above 256 names or 4,096 nodes"; or above a share
  pub fifteen : (outcome_of p s x out ≡ Refused room_cause) ↔ Means s out (LacksRoom p x)
  -- 16: "used handle applied"
  pub sixteen : (outcome_of p s x out ≡ Refused used_handle_cause) ↔ Means s out (λ I. AppliesUsed I.config x)
  -- 17: "two values meet, neither a rule, nor waiting, nor 16"
  pub seventeen : (outcome_of p s x out ≡ Refused wrong_kind_cause) ↔ Means s out (WrongKind x)

-- The second demand: "A recipe within the limits is accepted exactly when each bay's term has a derivation under the paper's linear rules .., under a many type. Exactly
-- those are loaded, as the starting image. A thread is stepped exactly when a rule moves it and outcome and buffer fit; the new image is exactly what the rule gives."
pub record SecondDemand (p : Profile) : Type 0 where
  -- accepted exactly when; the file says one recipe; there is a type number for each bay that there may be
  pub accepted : (file : List ℕ) → Bytes file → ((verdict_of file).refusal ≡ 0) ↔ Accepted file
  pub one_recipe : (file : List ℕ) (T T' : Table) (ns ns' : List ℕ) (es es' : List Exp) → Recipe file T ns es → Recipe file T' ns' es' → (T ≡ T') × (ns ≡ ns') × (es ≡ es')
  pub types_length : (file : List ℕ) → length (verdict_of file).types ≡ max_bays
  -- loaded exactly when
  pub loaded : (file out : List ℕ) → Bytes file → ((loaded_of p file (length out)).refusal ≡ 0) ↔ (Taken p file × (max_image_length ≤ length out))
  -- what check and load answer then; what a step answers, to any slice, thread number and buffer
  pub recipe : (file : List ℕ) → Bytes file → (T : Table) (ns : List ℕ) (es : List Exp) → Recipe file T ns es → RecipeDemand p file T ns es
  pub step : (s : List ℕ) → Bytes s → (x : ℕ) (out : List ℕ) → StepDemand p s x out

-- the third demand of the calls from this image with these types
pub record RunDemand (p : Profile) (τ : TypeNumbers) (image : List ℕ) (types : List LinType) (calls : List Call) : Type 0 where
  -- "A step that answers rule 5 applies the handle whose name is the function at its place, and binds the future that is this handle's companion"
  pub applies : (i : ℕ) (n : Step) (size : ℕ) → at (steps p τ image types calls) i ≡ some n → answer n ≡ Rule (number HANDLE_BIND) size → (z y : ℕ) × Applies n z × Binds n y
  -- "no handle is applied in two of its steps"
  pub one_application : (z i j : ℕ) (m n : Step) → at (steps p τ image types calls) i ≡ some m → at (steps p τ image types calls) j ≡ some n → Applies m z → Applies n z → i ≡ j
  -- "and no future is bound in two"
  pub one_binding : (y i j : ℕ) (m n : Step) → at (steps p τ image types calls) i ≡ some m → at (steps p τ image types calls) j ≡ some n → Binds m y → Binds n y → i ≡ j
  -- "no step answers 13, 16 or 17"
  pub no_13_16_17 : (i : ℕ) (n : Step) → at (steps p τ image types calls) i ≡ some n →
      (¬ (answer n ≡ Refused image_cause)) × (¬ (answer n ≡ Refused used_handle_cause)) × (¬ (answer n ≡ Refused wrong_kind_cause))
  -- "a step answers 12 exactly when its out buffer is under 13,826 bytes"
  pub twelve : (i : ℕ) (n : Step) → at (steps p τ image types calls) i ≡ some n → (answer n ≡ Refused buffer_cause) ↔ (length n.call.out < max_image_length)
  -- "otherwise 14 exactly when its number is no thread of the image handed in"
  pub fourteen : (i : ℕ) (n : Step) → at (steps p τ image types calls) i ≡ some n → ¬ (length n.call.out < max_image_length) → (answer n ≡ Refused no_thread_cause) ↔ (¬ IsThread n)
  -- "and otherwise a rule, done, waiting or 15"
  pub otherwise : (i : ℕ) (n : Step) → at (steps p τ image types calls) i ≡ some n → ¬ (length n.call.out < max_image_length) → IsThread n → Goes (answer n)
  -- "after the load and after every step each cell and finished thread has a value of its type"
  pub typed_loaded : ValuesTypedIn τ image types
  pub typed_after : (i : ℕ) (n : Step) → at (steps p τ image types calls) i ≡ some n → ValuesTypedIn τ (left n) (types_left τ n)

-- The third demand: "For every run", that is for every recipe and out buffer with which a load is accepted, and every list of calls: "That is a single claim about the list,
-- and not one for each step."
abbrev pub ThirdDemand : Profile → Type 0
ThirdDemand p = (file : List ℕ) → Bytes file → (out : List ℕ) → (loaded_of p file (length out)).refusal ≡ 0 → (calls : List Call) →
    RunDemand p (type_at (type_table file)) (image_loaded p file out) (types_loaded file) calls
