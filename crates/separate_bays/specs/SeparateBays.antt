-- Document 02, T-09, "Separate bays": what it says of the second loader and the second stepper, a field for each sentence. What is loaded and what a step answers and leaves is as in
-- the demands, under the profile `separate`. Quoted is the request.
use Rattle.std.specs.Prelude.{◌≡◌, ◌↔◌, ◌⊎◌, false, List, map, ◌*◌, ◌+◌, ◌<◌, ◌≤◌, suc, ℕ, length}
use Rattle.std.proofs.Math.Option.{some}
use Rattle.calculus.specs.Bytes.{Bytes}
use Rattle.calculus.specs.Causes.{other_setting_cause, room_cause, share_cause}
use Rattle.calculus.specs.Limits.{max_image_length, max_names, max_nodes}
use Rattle.calculus.specs.Names.{count}
use Rattle.calculus.specs.Owners.{Owned, Owners, owner, grown}
use Rattle.calculus.specs.Profile.{common, separate, OwnSettings}
use Rattle.calculus.specs.Reduction.{Rule as RuleName, Reduces}
use Rattle.calculus.specs.Shares.{bay_components, bays_in, names_share, nodes_share, Share, WithinShares}
use Rattle.calculus.specs.Syntax.{Config, at}
use Rattle.calculus.specs.Table.{type_at}
use Rattle.recipe_file.specs.File.{bays}
use Rattle.recipe_file.specs.Starting.{starting_nums}
use Rattle.recipe_table.specs.Entries.{type_table}
use Rattle.check_spec.specs.Bays.{bay_term, bay_terms}
use Rattle.check_spec.specs.Verdict.{verdict_of}
use Rattle.image.specs.Configuration.{owned_of}
use Rattle.load_spec.specs.Loading.{loaded_of, out_after_load}
use Rattle.load_spec.specs.Starting.{starting_state}
use Rattle.step_spec.specs.declared.Outcome.TheVariants.{Rule, Refused}
use Rattle.step_spec.specs.Stepping.{outcome_of, out_after_step}
use Rattle.runs.specs.Run.{Call, Step, left, steps_of}
use Rattle.demands.specs.Demands.{FirstDemand, ImageOf, SecondDemand, ThirdDemand}
use Rattle.bays_apart.specs.Apart.{Apart}
use Rattle.bays_apart.specs.Same.{Alike, SameBay}
use Rattle.bays_apart.specs.Turns.{is_turn}
use Rattle.separate_bays.specs.Histories.{history, turn_by, Long, SameTurn}

-- "A second loader .. otherwise like the first"
pub record LoaderDemand : Type 0 where
  -- what the second loads, the first loads alike: the answer, and every byte of the buffer
  pub loads_alike : (file out : List ℕ) → (loaded_of separate file (length out)).refusal ≡ 0 →
      (loaded_of separate file (length out) ≡ loaded_of common file (length out)) × (out_after_load separate file out ≡ out_after_load common file out)
  -- what the first refuses, the second refuses alike
  pub refuses_alike : (file out : List ℕ) → ¬ ((loaded_of common file (length out)).refusal ≡ 0) → loaded_of separate file (length out) ≡ loaded_of common file (length out)
  -- "In this profile bay k's terms name only setting k"
  pub own_settings : (file out : List ℕ) → (loaded_of separate file (length out)).refusal ≡ 0 → (bay : ℕ) → bay < bays file → (k : ℕ) → ¬ (k ≡ bay) → count k (bay_term file bay) ≡ 0
  -- "The loader refuses a bay that names another's setting with 20": exactly when it is accepted by all that comes before
  pub twenty : (file out : List ℕ) → ((loaded_of separate file (length out)).refusal ≡ other_setting_cause) ↔
      ((max_image_length ≤ length out) × ((verdict_of file).refusal ≡ 0) × ¬ OwnSettings (bay_terms file))
  -- "and then a bay that starts above its share with 21"
  pub twenty_one : (file out : List ℕ) → ((loaded_of separate file (length out)).refusal ≡ share_cause) ↔
      ((max_image_length ≤ length out) × ((verdict_of file).refusal ≡ 0) × OwnSettings (bay_terms file) × ¬ WithinShares (bays file) (starting_state file).owned)

-- "Each bay has its own limit: 4,096 divided by b nodes and 256 divided by b names, rounded down, counted over what it owns"
pub record SharesDemand : Type 0 where
  -- "divided by b .., rounded down"
  pub names_rounded : (b : ℕ) → 0 < b → (b * names_share b ≤ max_names) × (max_names < b * (names_share b + 1))
  pub nodes_rounded : (b : ℕ) → 0 < b → (b * nodes_share b ≤ max_nodes) × (max_nodes < b * (nodes_share b + 1))
  -- "The stepper takes b as one more than the highest owner in the image"
  pub highest_owner : (O : Owners) → ¬ (length O ≡ 0) → ((x : ℕ) → x < length O → owner O x < bays_in O) × ((x : ℕ) × (x < length O) × (suc (owner O x) ≡ bays_in O))
  -- "a rule whose outcome leaves any bay above its share gives 15 instead": any, touched or not; only the outcome counts
  pub fifteen : (s : List ℕ) (I : Owned) → Bytes s → ImageOf s I → (x : ℕ) (by : RuleName) (C' : Config) → Reduces I.config x by C' → (out : List ℕ) → max_image_length ≤ length out →
      (outcome_of separate s x out ≡ Refused room_cause) ↔ ((k : ℕ) × (k < bays_in I.owners) × ¬ Share (bays_in I.owners) (grown I x C') k)

-- "and a second stepper .. otherwise like the first"
pub record StepperDemand : Type 0 where
  -- every answer but 15 is the first stepper's, and so is every byte of the buffer
  pub steps_alike : (s : List ℕ) (x : ℕ) (out : List ℕ) → ¬ (outcome_of separate s x out ≡ Refused room_cause) →
      (outcome_of separate s x out ≡ outcome_of common s x out) × (out_after_step separate s x out ≡ out_after_step common s x out)
  -- "15 instead": the first stepper answers a rule there, or 15 too
  pub instead : (s : List ℕ) (x : ℕ) (out : List ℕ) → outcome_of separate s x out ≡ Refused room_cause →
      (outcome_of common s x out ≡ Refused room_cause) ⊎ ((rule size : ℕ) × (outcome_of common s x out ≡ Rule rule size))

-- two recipes with a bay in common, and two step orders
pub record BothAccepted (k : ℕ) (file file' out out' : List ℕ) : Type 0 where
  pub bytes_left : Bytes file
  pub bytes_right : Bytes file'
  -- "Take two recipes that this loader accepts"
  pub accepts_left : (loaded_of separate file (length out)).refusal ≡ 0
  pub accepts_right : (loaded_of separate file' (length out')).refusal ≡ 0
  -- "with the same number of bays"
  pub same_bays : bays file ≡ bays file'
  -- "and, in one bay, the same starting value and the same term, type numbers read as types"
  pub same_bay : SameBay k (type_table file) (type_table file') (starting_nums file) (starting_nums file') (bay_terms file) (bay_terms file')

pub record SameTurns (k : ℕ) (file file' out out' : List ℕ) (calls calls' : List Call) : Type 0 where
  -- "each step with a buffer long enough"
  pub long_left : Long calls
  pub long_right : Long calls'
  -- "that give that bay's threads, counted within the bay, the same turns"
  pub same_turns : map (turn_by k) (history k file out calls) ≡ map (turn_by k) (history k file' out' calls')

pub record SeparateBays : Type 0 where
  pub loader : LoaderDemand
  pub shares : SharesDemand
  pub stepper : StepperDemand
  -- "Its sequence of rules, done, waiting and room answers is the same in both, and so is its setting after each of them; numbers of names may differ"
  pub claim : (k : ℕ) (file file' out out' : List ℕ) → BothAccepted k file file' out out' → (calls calls' : List Call) → SameTurns k file file' out out' calls calls' →
      Alike (SameTurn k (type_at (type_table file)) (type_at (type_table file'))) (history k file out calls) (history k file' out' calls')
  -- "one tenant's recipe can't reach another's vents": a step that is no turn of bay k leaves all that bay k owns as it is
  pub out_of_reach : (file out : List ℕ) → Bytes file → (loaded_of separate file (length out)).refusal ≡ 0 → (calls : List Call) (i : ℕ) (n : Step) →
      at (steps_of separate file out calls) i ≡ some n → (k : ℕ) → is_turn k (owned_of n.image) n.call.thread ≡ false → bay_components k (owned_of (left n)) ≡ bay_components k (owned_of n.image)
  -- and every image of a run keeps its bays apart: the stepper's b is the recipe's, no bay is above its share, and no bay names another's names
  pub kept_apart : (file out : List ℕ) → Bytes file → (loaded_of separate file (length out)).refusal ≡ 0 → (calls : List Call) (i : ℕ) (n : Step) →
      at (steps_of separate file out calls) i ≡ some n → Apart (bays file) (owned_of n.image) × Apart (bays file) (owned_of (left n))
  -- the three demands, of this loader and this stepper
  pub first : FirstDemand separate
  pub second : SecondDemand separate
  pub third : ThirdDemand separate
