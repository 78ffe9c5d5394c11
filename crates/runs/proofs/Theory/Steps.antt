-- A step on the image of a configuration is the calculus's step of that configuration.
use Rattle.std.proofs.Common.{◌∙◌}
use Rattle.std.specs.Prelude.{◌≡◌, ◌↔◌, List, [], ◌∷◌, ◌++◌, map, ℕ, zero, suc, ◌≤◌, ltb, drop, length}
use Rattle.std.proofs.Math.Path.{ap, refl}
use Rattle.std.proofs.Math.Bool.{cond}
use Rattle.std.proofs.Math.Option.{some}
use Rattle.std.proofs.Math.ListN.{take}
use Rattle.std.proofs.Math.Seq.{take-append_seam}
use Rattle.calculus.specs.Syntax.{Config, at}
use Rattle.calculus.specs.Owners.{Owned}
use Rattle.calculus.specs.Limits.{max_bays, max_image_length}
use Rattle.calculus.specs.Causes.{buffer_cause}
use Rattle.calculus.specs.Typing.{TypeNumbers}
use Rattle.calculus.specs.NewTypes.{new_types}
use Rattle.calculus.specs.Profile.{Profile}
use Rattle.calculus.proofs.Theory.ConfigRuns as calculus
use Rattle.calculus.specs.State.{State}
use Rattle.calculus.specs.Reply.{Reply, moved, waits, finished, refuses, reply_to}
use Rattle.calculus.proofs.Theory.ConfigRuns.{state_left, config_reply}
use Rattle.calculus.proofs.Theory.Tests.{clash}
use Rattle.calculus.proofs.Theory.ImageTest.{image_test_iff}
use Rattle.calculus.proofs.Theory.Images.{Kept}
use Rattle.image.specs.Configuration.{image_of, config_of}
use Rattle.image.proofs.Theory.Exactly.{read_again, owned_again, image_written}
use Rattle.step_spec.specs.declared.Outcome.TheVariants.{Rule, Refused}
use Rattle.step_spec.specs.Stepping.{step_reply, outcome_of_reply, out_after_reply, outcome_of, out_after_step}
use Rattle.runs.specs.Run.{Call, Follows, Step, answer, left, types_left, Goes, renewed}

-- the calculus's call: a buffer's length is all that counts
abbrev pub call_of : Call → calculus.ConfigCall
call_of c = record { thread = c.thread; buffer = length c.out }

-- what the answers say
pub answered_rule : (q : Reply) {rule size : ℕ} → outcome_of_reply q ≡ Rule rule size → (I' : Owned) × (q ≡ moved rule I')
unfolding outcome_of_reply
answered_rule (moved rule I') e = (I', cc)
answered_rule (waits y) e = absurd (clash (cc))
answered_rule finished e = absurd (clash (cc))
answered_rule (refuses number) e = absurd (clash (cc))

pub answered_refused : (q : Reply) (number : ℕ) → (outcome_of_reply q ≡ Refused number) ↔ (q ≡ refuses number)
unfolding outcome_of_reply
answered_refused (moved rule I') number = (λ e. absurd (clash (cc)), λ e. absurd (clash (cc)))
answered_refused (waits y) number = (λ e. absurd (clash (cc)), λ e. absurd (clash (cc)))
answered_refused finished number = (λ e. absurd (clash (cc)), λ e. absurd (clash (cc)))
answered_refused (refuses k) number = (λ e. cc, λ e. cc)

pub answered_goes : (q : Reply) → calculus.ReplyGoes q → Goes (outcome_of_reply q)
unfolding outcome_of_reply
answered_goes (moved rule I') g = tt
answered_goes (waits y) g = tt
answered_goes finished g = tt
answered_goes (refuses number) g = g

module _ (p : Profile) (τ : TypeNumbers) (s : State) (k : Kept max_bays s.owned) (c : Call) where
  abbrev handed : Step
  handed = record { profile = p; image = image_of s.owned; types = s.names; call = c }

  reads : config_of (image_of s.owned) ≡ s.owned.config
  reads = read_again s.owned k

  pub replies : step_reply p (image_of s.owned) c.thread (length c.out) ≡ config_reply p s.owned (call_of c)
  unfolding step_reply config_reply
  replies =
      rw (image_written s.owned k, (image_test_iff s.owned.config).1 k.keeps)
      (ap (λ (J : Owned). cond (ltb (length c.out) max_image_length) (refuses buffer_cause) (reply_to p J c.thread)) (owned_again s.owned k))

  pub answers : answer handed ≡ outcome_of_reply (config_reply p s.owned (call_of c))
  unfolding outcome_of
  answers = ap outcome_of_reply replies

  -- it leaves the image of what the calculus's step leaves
  pub leaves_image : left handed ≡ image_of (calculus.state_after p τ s (call_of c)).owned
  unfolding outcome_of out_after_step renewed outcome_of_reply out_after_reply state_left
  leaves_image = ap (λ (q : Reply). renewed (outcome_of_reply q) (λ size. take size (out_after_reply q c.out)) (image_of s.owned)) replies ∙ go (config_reply p s.owned (call_of c))
    where
      go : (q : Reply) → renewed (outcome_of_reply q) (λ size. take size (out_after_reply q c.out)) (image_of s.owned) ≡ image_of (state_left τ s c.thread q).owned
      go (moved rule I') = take-append_seam (image_of I') (drop (length (image_of I')) c.out)
      go (waits y) = refl
      go finished = refl
      go (refuses number) = refl

  -- and its names have the types that the calculus gives them
  pub leaves_types : types_left τ handed ≡ (calculus.state_after p τ s (call_of c)).names
  unfolding outcome_of renewed outcome_of_reply state_left
  leaves_types =
      ap (λ (q : Reply). renewed (outcome_of_reply q) (λ size. s.names ++ new_types τ (config_of (image_of s.owned)) c.thread) s.names) replies
      ∙ ap (λ (C : Config). renewed (outcome_of_reply (config_reply p s.owned (call_of c))) (λ size. s.names ++ new_types τ C c.thread) s.names) reads
      ∙ go (config_reply p s.owned (call_of c))
    where
      go : (q : Reply) → renewed (outcome_of_reply q) (λ size. s.names ++ new_types τ s.owned.config c.thread) s.names ≡ (state_left τ s c.thread q).names
      go (moved rule I') = refl
      go (waits y) = refl
      go finished = refl
      go (refuses number) = refl

-- there are calls that step these threads: each into this buffer
abbrev calls_into : List ℕ → List ℕ → List Call
calls_into out xs = map (λ (x : ℕ). record { thread = x; out = out }) xs

pub follows_into : (out : List ℕ) → max_image_length ≤ length out → (xs : List ℕ) → (calls : List Call) × Follows xs calls
follows_into out long xs = (calls_into out xs, record { threads = go xs; long = all xs })
  where
    go : (xs : List ℕ) → map (λ (c : Call). c.thread) (calls_into out xs) ≡ xs
    go [] = refl
    go (x ∷ xs) = ap (λ (l : List ℕ). x ∷ l) (go xs)

    all : (xs : List ℕ) (i : ℕ) (c : Call) → at (calls_into out xs) i ≡ some c → max_image_length ≤ length c.out
    all [] i c h = absurd (clash (cc))
    all (x ∷ xs) zero c h = let e : record { thread = x; out = out } ≡ c = cc in rw (← e) long
    all (x ∷ xs) (suc i) c h = all xs i c h
