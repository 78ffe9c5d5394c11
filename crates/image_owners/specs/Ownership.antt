-- Document 02, T-08, "Every name knows its bay": what it says of images, loads, steps and runs, a field for each sentence. What is loaded and what a step answers and leaves is as in the
-- demands, of either profile; the owner that bytes say is `owner_at`. Quoted is the request.
use Rattle.std.specs.Prelude.{◌≡◌, List, ℕ, ◌+◌, ◌<◌, ◌≤◌, length, take}
use Rattle.std.proofs.Math.Option.{some}
use Rattle.calculus.specs.Profile.{Profile}
use Rattle.calculus.specs.Bytes.{Bytes}
use Rattle.calculus.specs.Causes.{image_cause}
use Rattle.calculus.specs.Kinds.{open_handle_kind}
use Rattle.calculus.specs.Limits.{max_bays, max_image_length}
use Rattle.calculus.specs.Syntax.{open_for, at, EachAll}
use Rattle.calculus.specs.Owners.{Owned, owner, OwnersRule}
use Rattle.calculus.specs.Image.{ImageRule, Writable}
use Rattle.recipe_file.specs.File.{bays}
use Rattle.image_layout.specs.Slice.{names, kind_at, companion_at, owner_at}
use Rattle.image.specs.Configuration.{config_of, image_of}
use Rattle.load_spec.specs.Loading.{loaded_of}
use Rattle.step_spec.specs.declared.Outcome.TheVariants.{Rule, Refused}
use Rattle.step_spec.specs.Stepping.{outcome_of, out_after_step}
use Rattle.runs.specs.Run.{Call, Step, left, image_loaded, steps_of}
use Rattle.demands.specs.Demands.{ImageOf, ThirdDemand}

-- what the slice s says, where it is an image
pub record SaysOwners (s : List ℕ) (I : Owned) : Type 0 where
  -- "The companion byte of kinds 1, 2, 4 and 5 now holds the owning bay"
  pub own_byte : (k : ℕ) → k < names s → ¬ (kind_at s k ≡ open_handle_kind) → companion_at s k ≡ owner I.owners k
  -- "an open handle has the owner of its future": its byte is its future's number, and its future's byte is its owner
  pub future_byte : (z y : ℕ) → at I.config z ≡ some (open_for y) → (companion_at s z ≡ y) × (companion_at s y ≡ owner I.owners z)
  -- so every owner is told by the bytes
  pub told : (k : ℕ) → k < names s → owner_at s k ≡ owner I.owners k
  pub each_has : names s ≡ length I.owners

-- a rule moves thread x of s, and leaves s'
pub record KeepsOwners (s : List ℕ) (x : ℕ) (s' : List ℕ) : Type 0 where
  -- "a new name to the creating thread's bay"
  pub new_name : (k : ℕ) → names s ≤ k → k < names s' → owner_at s' k ≡ owner_at s x
  -- "and a future or handle keeps its owner when used", and so does every other name
  pub old_name : (k : ℕ) → k < names s → owner_at s' k ≡ owner_at s k
  -- no name goes
  pub no_fewer : names s ≤ names s'
  -- a used handle's byte is its owner then, which stood in its future's byte before
  pub used_handle : (z y : ℕ) → at (config_of s) z ≡ some (open_for y) → ¬ (kind_at s' z ≡ open_handle_kind) → companion_at s' z ≡ companion_at s y

-- the names of an image belong to b bays, and an open handle to its future's
pub record OwnedBy (b : ℕ) (s : List ℕ) : Type 0 where
  pub below : (k : ℕ) → k < names s → owner_at s k < b
  pub handles : (z y : ℕ) → at (config_of s) z ≡ some (open_for y) → owner_at s z ≡ owner_at s y

pub record Ownership (p : Profile) : Type 0 where
  -- the bytes say the owners, and there is one configuration with owners that a slice is the image of
  pub says : (s : List ℕ) (I : Owned) → ImageOf s I → SaysOwners s I
  pub one_image : (s : List ℕ) (I J : Owned) → ImageOf s I → ImageOf s J → I ≡ J
  -- "Settings and first threads belong to their bay"
  pub loaded_names : (file : List ℕ) → Bytes file → (out : List ℕ) → (loaded_of p file (length out)).refusal ≡ 0 → names (image_loaded p file out) ≡ bays file + bays file
  pub settings : (file : List ℕ) → Bytes file → (out : List ℕ) → (loaded_of p file (length out)).refusal ≡ 0 → (bay : ℕ) → bay < bays file →
      owner_at (image_loaded p file out) bay ≡ bay
  pub first_threads : (file : List ℕ) → Bytes file → (out : List ℕ) → (loaded_of p file (length out)).refusal ≡ 0 → (bay : ℕ) → bay < bays file →
      owner_at (image_loaded p file out) (bays file + bay) ≡ bay
  -- of every step that answers a rule, whatever the image
  pub steps : (s : List ℕ) → Bytes s → (x : ℕ) (out : List ℕ) (rule size : ℕ) → outcome_of p s x out ≡ Rule rule size → KeepsOwners s x (take size (out_after_step p s x out))
  -- "An image with an owner not below 16 breaks the layout": 13
  pub sixteen : (s : List ℕ) → Bytes s → (x : ℕ) (out : List ℕ) → max_image_length ≤ length out → (k : ℕ) → k < names s → ¬ (kind_at s k ≡ open_handle_kind) →
      max_bays ≤ companion_at s k → outcome_of p s x out ≡ Refused image_cause
  -- and no more is asked of owners: any below 16, with or without gaps, that handles share with their futures
  pub any_owners : (I : Owned) → ImageRule I.config → EachAll Writable I.config → OwnersRule max_bays I → (x : ℕ) (out : List ℕ) →
      ¬ (outcome_of p (image_of I) x out ≡ Refused image_cause)
  -- of every run: every image that is loaded, handed to a step or left by it has owners among the recipe's bays
  pub run_loaded : (file : List ℕ) → Bytes file → (out : List ℕ) → (loaded_of p file (length out)).refusal ≡ 0 → OwnedBy (bays file) (image_loaded p file out)
  pub run_owners : (file : List ℕ) → Bytes file → (out : List ℕ) → (loaded_of p file (length out)).refusal ≡ 0 → (calls : List Call) (i : ℕ) (n : Step) →
      at (steps_of p file out calls) i ≡ some n → OwnedBy (bays file) n.image × OwnedBy (bays file) (left n)
  -- "case A's image is unchanged, its bay being 0": with one bay all is bay 0's, and every companion byte but an open handle's is 0, as before
  pub one_bay : (file : List ℕ) → Bytes file → bays file ≡ 1 → (out : List ℕ) → (loaded_of p file (length out)).refusal ≡ 0 → (calls : List Call) (i : ℕ) (n : Step) →
      at (steps_of p file out calls) i ≡ some n → (k : ℕ) → k < names (left n) → ¬ (kind_at (left n) k ≡ open_handle_kind) → companion_at (left n) k ≡ 0
  -- and the third demand holds as before
  pub demanded : ThirdDemand p
