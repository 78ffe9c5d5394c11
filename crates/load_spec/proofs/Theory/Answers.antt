-- What a load answers and leaves, from the first cause that fits.
use Rattle.std.proofs.Common.{◌∙◌}
use Rattle.std.specs.Prelude.{◌≡◌, Bool, cond, List, ◌++◌, ◌<◌, ◌≤◌, ℕ, drop, length}
use Rattle.std.proofs.Math.Path.{refl, sym}
use Rattle.std.proofs.Math.Bool.{false, true}
use Rattle.std.proofs.Math.Dec.{eqb}
use Rattle.calculus.specs.Limits.{max_image_length}
use Rattle.calculus.specs.Causes.{buffer_cause}
use Rattle.calculus.specs.Lowest.{first_cause}
use Rattle.calculus.specs.Profile.{Profile, common}
use Rattle.calculus.proofs.Theory.Lowest.{first_cause_front, first_cause_parts, first_cause_rest, none_first, none_fits}
use Rattle.calculus.proofs.Theory.Tests.{eqb_complete, eqb_differ, eqb_sound, ltb_complete, ltb_not}
use Rattle.check_spec.specs.Verdict.{check_causes, refusal, verdict_of}
use Rattle.check_spec.proofs.Theory.Answers.{accepted_is}
use Rattle.load_spec.specs.Starting.{starting_image}
use Rattle.load_spec.specs.Loading.{is_loaded, loaded_of, load_refusal, not_loaded, out_after_load, profile_causes}

-- the first cause of a file that fits under a profile, 0 where none does
abbrev pub profile_refusal : Profile → List ℕ → ℕ
profile_refusal p s = first_cause (check_causes s ++ profile_causes p s)

module _ (p : Profile) (s : List ℕ) where
  -- the file's own causes come first
  pub checked_first : ¬ (refusal s ≡ 0) → profile_refusal p s ≡ refusal s
  unfolding refusal
  checked_first n = first_cause_front (check_causes s) (profile_causes p s) n

  -- then the profile's
  pub checked_then : refusal s ≡ 0 → profile_refusal p s ≡ first_cause (profile_causes p s)
  unfolding refusal
  checked_then e = first_cause_rest (check_causes s) (profile_causes p s) (none_fits (check_causes s) tt e)

  -- a file that a profile takes is accepted, and none of the profile's causes fits
  pub profile_parts : profile_refusal p s ≡ 0 → (refusal s ≡ 0) × (first_cause (profile_causes p s) ≡ 0)
  unfolding refusal
  profile_parts e = let (n, z) = first_cause_parts (check_causes s) (profile_causes p s) tt e in (none_first (check_causes s) n, z)

module _ (p : Profile) (s : List ℕ) (room : ℕ) where
  -- 12 is tried first, then the causes of the file
  pub short : room < max_image_length → load_refusal p s room ≡ buffer_cause
  unfolding load_refusal
  short l = rw (ltb_complete room max_image_length l) refl

  pub long : max_image_length ≤ room → load_refusal p s room ≡ profile_refusal p s
  unfolding load_refusal
  long l = rw (ltb_not room max_image_length l) refl

  pub load_refusal_is : (loaded_of p s room).refusal ≡ load_refusal p s room
  unfolding loaded_of
  load_refusal_is = go (eqb (load_refusal p s room) 0) refl
    where
      go : (b : Bool) → eqb (load_refusal p s room) 0 ≡ b → (cond b (is_loaded s) (not_loaded (load_refusal p s room))).refusal ≡ load_refusal p s room
      go true q = sym (eqb_sound (load_refusal p s room) 0 q)
      go false q = refl

  pub loaded_is : load_refusal p s room ≡ 0 → loaded_of p s room ≡ is_loaded s
  unfolding loaded_of
  loaded_is e = rw (eqb_complete (load_refusal p s room) 0 e) refl

  pub not_loaded_is : ¬ (load_refusal p s room ≡ 0) → loaded_of p s room ≡ not_loaded (load_refusal p s room)
  unfolding loaded_of
  not_loaded_is n = rw (eqb_differ (load_refusal p s room) 0 n) refl

module _ (p : Profile) (s out : List ℕ) where
  pub left_alone : ¬ (load_refusal p s (length out) ≡ 0) → out_after_load p s out ≡ out
  unfolding out_after_load
  left_alone n = rw (eqb_differ (load_refusal p s (length out)) 0 n) refl

  pub left_loaded : load_refusal p s (length out) ≡ 0 → out_after_load p s out ≡ starting_image s ++ drop (length (starting_image s)) out
  unfolding out_after_load
  left_loaded e = rw (eqb_complete (load_refusal p s (length out)) 0 e) refl

-- an accepted recipe is loaded with the bays and types that a check answers
pub loaded_as_checked : (s : List ℕ) → refusal s ≡ 0 → ((is_loaded s).bays ≡ (verdict_of s).bays) × ((is_loaded s).types ≡ (verdict_of s).types)
loaded_as_checked s e = let v = accepted_is s e in (rw v refl, rw v refl)

-- document 01's load refuses what a check refuses
pub long_common : (s : List ℕ) (room : ℕ) → max_image_length ≤ room → load_refusal common s room ≡ refusal s
unfolding refusal
long_common s room l = long common s room l ∙ refl
