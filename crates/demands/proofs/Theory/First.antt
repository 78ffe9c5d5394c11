-- The first demand.
use Rattle.std.proofs.Common.{◌∙◌}
use Rattle.std.specs.Prelude.{◌≡◌, ◌↔◌, Bool, List, ◌++◌, ℕ, ◌<◌, ◌≤◌, length}
use Rattle.std.proofs.Math.Path.{ap, refl, sym}
use Rattle.std.proofs.Math.Bool.{false, true}
use Rattle.std.proofs.Math.Decide.{dec_lt}
use native.Mathlib.Omega.{arith}
use Rattle.calculus.specs.Limits.{max_image_length}
use Rattle.calculus.specs.Causes.{buffer_cause, wrong_kind_cause}
use Rattle.calculus.specs.Lowest.{Lowest}
use Rattle.calculus.specs.Profile.{Profile, common, separate, room_test}
use Rattle.calculus.proofs.Theory.Ascending.{ascending_lowest}
use Rattle.calculus.proofs.Theory.Lowest.{not_answered}
use Rattle.calculus.specs.Syntax.{Config}
use Rattle.calculus.specs.Owners.{Owned, grown}
use Rattle.calculus.specs.Step.{Answer, step_of}
use Rattle.calculus.specs.Reply.{Reply, moved, waits, finished, refuses}
use Rattle.check_spec.specs.Verdict.{check_causes, refusal, refused, verdict_of}
use Rattle.check_spec.proofs.Theory.Answers.{refusal_is, refused_is, lowest_cause}
use Rattle.image.specs.Configuration.{config_of, owned_of}
use Rattle.image.specs.Stands.{image_stands}
use Rattle.load_spec.specs.Loading.{loaded_of, not_loaded, profile_causes}
use Rattle.load_spec.proofs.Theory.Answers.{profile_refusal, checked_first, short, long, load_refusal_is, not_loaded_is, left_alone}
use Rattle.step_spec.specs.declared.Outcome.{Outcome}
use Rattle.step_spec.specs.declared.Outcome.TheVariants.{Rule, Refused}
use Rattle.step_spec.specs.Stepping.{step_reply, outcome_of_reply, out_after_reply, outcome_of, out_after_step}
use Rattle.step_spec.proofs.Theory.Replies.{reply_short, reply_broken, reply_stands, Told, told_room, told_no_thread, told_used, told_wrong, tells}
use Rattle.demands.specs.Demands.{FirstDemand}

-- the causes of a file under a profile come in the order of their numbers, and none is 12
lowest_in : (p : Profile) (file : List ℕ) → Lowest (check_causes file ++ profile_causes p file) (profile_refusal p file)
unfolding refusal
lowest_in common file = lowest_cause file
lowest_in separate file =
    ascending_lowest 0 (check_causes file ++ profile_causes separate file)
    (omega arith, (omega arith, (omega arith, (omega arith, (omega arith, (omega arith, (omega arith, (omega arith, (omega arith, (omega arith, (omega arith, (omega arith, (omega arith, (omega arith, tt))))))))))))))

not_12 : (p : Profile) (file : List ℕ) → ¬ (profile_refusal p file ≡ buffer_cause)
not_12 common file = not_answered buffer_cause (check_causes file ++ profile_causes common file) refl
not_12 separate file = not_answered buffer_cause (check_causes file ++ profile_causes separate file) refl

load_12 : (p : Profile) (file out : List ℕ) → ((loaded_of p file (length out)).refusal ≡ buffer_cause) ↔ (length out < max_image_length)
load_12 p file out = (
  λ e.
      elim (dec_lt (length out) max_image_length) [
        | yes l ↦ l
        | no l ↦ absurd (not_12 p file (sym (long p file (length out) (omega arith)) ∙ sym (load_refusal_is p file (length out)) ∙ e))
      ],
  λ l. load_refusal_is p file (length out) ∙ short p file (length out) l,
)

module _ (p : Profile) (file out : List ℕ) (n : ¬ (length out < max_image_length)) where
  load_refusal_long : (loaded_of p file (length out)).refusal ≡ profile_refusal p file
  load_refusal_long = load_refusal_is p file (length out) ∙ long p file (length out) (omega arith)

  load_as_check : ¬ ((verdict_of file).refusal ≡ 0) → (loaded_of p file (length out)).refusal ≡ (verdict_of file).refusal
  load_as_check f = load_refusal_long ∙ checked_first p file (λ e. f (refusal_is file ∙ e)) ∙ sym (refusal_is file)

  load_number : Lowest (check_causes file ++ profile_causes p file) (loaded_of p file (length out)).refusal
  load_number = rw load_refusal_long (lowest_in p file)

-- a step's number: 12 or 13, or that of the calculus's answer
told_number : {room : Owned → Bool} {left : Config → Owned} {a : Answer} {n : ℕ} → Told room left a (Refused n) → (14 ≤ n) × (n ≤ wrong_kind_cause)
told_number (told_room e) = (omega arith, omega arith)
told_number told_no_thread = (omega arith, omega arith)
told_number told_used = (omega arith, omega arith)
told_number told_wrong = (omega arith, omega arith)

refused_same : {m n : ℕ} → ◌≡◌ {A = Outcome} (Refused m) (Refused n) → m ≡ n
refused_same e = cc

module _ (p : Profile) (image : List ℕ) (x : ℕ) (out : List ℕ) where
  outcome_short : length out < max_image_length → outcome_of p image x out ≡ Refused buffer_cause
  unfolding outcome_of outcome_of_reply
  outcome_short l = ap outcome_of_reply (reply_short p image x (length out) l)

  outcome_long : max_image_length ≤ length out → (n : ℕ) → outcome_of p image x out ≡ Refused n → (13 ≤ n) × (n ≤ wrong_kind_cause)
  unfolding outcome_of outcome_of_reply
  outcome_long l n e = go (image_stands image) refl
    where
      go : (b : Bool) → image_stands image ≡ b → (13 ≤ n) × (n ≤ wrong_kind_cause)
      go false q =
          let m = refused_same (sym (ap outcome_of_reply (reply_broken p image x (length out) l q)) ∙ e) in
          (omega arith, omega arith)
      go true q =
          let h = sym (ap outcome_of_reply (reply_stands p image x (length out) l q)) ∙ e in
          let (a, b) = told_number (rw h at (tells (room_test p (owned_of image)) (grown (owned_of image) x) (step_of (config_of image) x))) in
          (omega arith, b)

  step_12 : (outcome_of p image x out ≡ Refused buffer_cause) ↔ (length out < max_image_length)
  step_12 = (
    λ e. elim (dec_lt (length out) max_image_length) [ yes l ↦ l | no l ↦ absurd (let (a, b) = outcome_long (omega arith) buffer_cause e in omega arith) ],
    outcome_short,
  )

  step_number : (n : ℕ) → outcome_of p image x out ≡ Refused n → (buffer_cause ≤ n) × (n ≤ wrong_kind_cause)
  step_number n e =
      elim (dec_lt (length out) max_image_length) [
        | yes l ↦ let m = refused_same (sym (outcome_short l) ∙ e) in (omega arith, omega arith)
        | no l ↦ let (a, b) = outcome_long (omega arith) n e in (omega arith, b)
      ]

  step_writes_nothing : ((rule size : ℕ) → ¬ (outcome_of p image x out ≡ Rule rule size)) → out_after_step p image x out ≡ out
  unfolding outcome_of out_after_step outcome_of_reply out_after_reply
  step_writes_nothing n = go (step_reply p image x (length out)) n
    where
      go : (q : Reply) → ((rule size : ℕ) → ¬ (outcome_of_reply q ≡ Rule rule size)) → out_after_reply q out ≡ out
      go (moved rule I') n = absurd (n _ _ refl)
      go (waits y) n = refl
      go finished n = refl
      go (refuses cause) n = refl

pub first_demand : (p : Profile) → FirstDemand p
first_demand p = record {
  check_number = λ file. rw (refusal_is file) (lowest_cause file);
  load_12 = load_12 p;
  load_as_check = load_as_check p;
  load_number = load_number p;
  step_12 = step_12 p;
  step_number = step_number p;
  check_number_alone = λ file n. refused_is file (λ e. n (refusal_is file ∙ e)) ∙ ap refused (sym (refusal_is file));
  load_number_alone = λ file room n. not_loaded_is p file room (λ e. n (load_refusal_is p file room ∙ e)) ∙ ap not_loaded (sym (load_refusal_is p file room));
  load_writes_nothing = λ file out n. left_alone p file out (λ e. n (load_refusal_is p file (length out) ∙ e));
  step_writes_nothing = step_writes_nothing p;
}
