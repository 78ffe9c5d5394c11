-- What a check answers, from the first cause that fits.
use Rattle.std.specs.Prelude.{◌≡◌, Bool, ◌||◌, cond, List, ℕ, ◌<◌, ◌≤◌, ltb, length}
use Rattle.std.proofs.Math.Path.{refl, sym}
use Rattle.std.proofs.Math.Bool.{false, true}
use Rattle.std.proofs.Common.{arith}
use Rattle.std.proofs.Math.Dec.{eqb}
use Rattle.calculus.specs.Lowest.{Lowest}
use Rattle.calculus.specs.Causes.{buffer_cause, file_length_cause, seed_cause, starting_cause}
use Rattle.calculus.specs.Limits.{max_file_length, min_file_length}
use Rattle.calculus.proofs.Theory.Ascending.{ascending_lowest, first_cause_at_most}
use Rattle.calculus.proofs.Theory.Lowest.{not_answered}
use Rattle.calculus.proofs.Theory.Tests.{eqb_complete, eqb_differ, eqb_sound, ltb_complete}
use Rattle.recipe_file.specs.File.{cause_1, outside}
use Rattle.check_spec.specs.Verdict.{accepted, check_causes, refusal, refused, verdict_of}

module _ (s : List ℕ) where
  pub refusal_is : (verdict_of s).refusal ≡ refusal s
  unfolding verdict_of
  refusal_is = go (eqb (refusal s) 0) refl
    where
      go : (b : Bool) → eqb (refusal s) 0 ≡ b → (cond b (accepted s) (refused (refusal s))).refusal ≡ refusal s
      go true q = sym (eqb_sound (refusal s) 0 q)
      go false q = refl

  pub accepted_is : refusal s ≡ 0 → verdict_of s ≡ accepted s
  unfolding verdict_of
  accepted_is e = rw (eqb_complete (refusal s) 0 e) refl

  pub refused_is : ¬ (refusal s ≡ 0) → verdict_of s ≡ refused (refusal s)
  unfolding verdict_of
  refused_is n = rw (eqb_differ (refusal s) 0 n) refl

pub lowest_cause : (file : List ℕ) → Lowest (check_causes file) (refusal file)
unfolding refusal
lowest_cause file =
    ascending_lowest 0 (check_causes file)
    (omega arith, (omega arith, (omega arith, (omega arith, (omega arith, (omega arith, (omega arith, (omega arith, (omega arith, (omega arith, (omega arith, (omega arith, tt))))))))))))

-- the causes of a file end with 19
pub refusal_small : (file : List ℕ) → refusal file ≤ starting_cause
unfolding refusal
refusal_small file =
    first_cause_at_most starting_cause (check_causes file)
    (omega arith, (omega arith, (omega arith, (omega arith, (omega arith, (omega arith, (omega arith, (omega arith, (omega arith, (omega arith, (omega arith, (omega arith, tt))))))))))))

-- and none has the number 12 of a load, or 18 of a test load
pub not_12 : (file : List ℕ) → ¬ (refusal file ≡ buffer_cause)
unfolding refusal
not_12 file = not_answered buffer_cause (check_causes file) refl

pub not_18 : (file : List ℕ) → ¬ (refusal file ≡ seed_cause)
unfolding refusal
not_18 file = not_answered seed_cause (check_causes file) refl

or_right : (a b : Bool) → b ≡ true → (a || b) ≡ true
or_right true b e = refl
or_right false b e = e

-- document 01, cause 1, of a file that is too long
is_cause_1 : (s : List ℕ) → max_file_length < length s → cause_1 s ≡ true
unfolding cause_1 outside
is_cause_1 s l = or_right (ltb (length s) min_file_length) (ltb max_file_length (length s)) (ltb_complete max_file_length (length s) l)

pub long_refused : (s : List ℕ) → max_file_length < length s → refusal s ≡ file_length_cause
unfolding refusal
long_refused s l = rw (is_cause_1 s l) refl
