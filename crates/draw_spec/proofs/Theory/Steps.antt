-- A draw is a step of document 01: what it answers, and the image that it leaves, into any buffer that is long enough.
use Rattle.std.proofs.Common.{◌∙◌, sym, arith}
use Rattle.std.specs.Prelude.{◌≡◌, List, ℕ, ◌≤◌, drop}
use Rattle.std.proofs.Math.Path.{ap, refl}
use Rattle.std.proofs.Math.ListN.{length, length-append, take}
use Rattle.std.proofs.Math.Seq.{take-append_seam}
use Rattle.calculus.specs.Profile.{common}
use Rattle.calculus.specs.Limits.{max_image_length}
use Rattle.calculus.specs.Reply.{Reply, moved, waits, finished, refuses}
use Rattle.calculus.proofs.Theory.Tests.{clash}
use Rattle.image.specs.Configuration.{image_of}
use Rattle.step_spec.specs.declared.Outcome.{Outcome}
use Rattle.step_spec.specs.declared.Outcome.TheVariants.{Rule}
use Rattle.step_spec.specs.Stepping.{out_after_reply, out_after_step, outcome_of, outcome_of_reply, step_reply}
use Rattle.step_spec.proofs.Theory.Replies.{long_outcome, reply_long}
use Rattle.runs.specs.Run.{renewed}
use Rattle.draw_spec.specs.Draws.{image_after}

-- "A refused or idle draw keeps the image"
pub kept_image : (q : Reply) (image : List ℕ) → ((rule size : ℕ) → ¬ (outcome_of_reply q ≡ Rule rule size)) → image_after q image ≡ image
unfolding image_after outcome_of_reply
kept_image (moved k I') image n = absurd (n k (length (image_of I')) refl)
kept_image (waits y) image n = refl
kept_image finished image n = refl
kept_image (refuses k) image n = refl

module _ (image : List ℕ) (x : ℕ) (out : List ℕ) (long : max_image_length ≤ length out) where
  same_reply : step_reply common image x (length out) ≡ step_reply common image x max_image_length
  same_reply = reply_long common image x (length out) long

  -- what a run of document 01 hands on: the new image where a rule was answered, else the same
  pub handed_on : renewed (outcome_of common image x out) (λ size. take size (out_after_step common image x out)) image ≡ image_after (step_reply common image x max_image_length) image
  unfolding outcome_of out_after_step renewed outcome_of_reply out_after_reply image_after
  handed_on = ap (λ (q : Reply). renewed (outcome_of_reply q) (λ size. take size (out_after_reply q out)) image) same_reply ∙ go (step_reply common image x max_image_length)
    where
      go : (q : Reply) → renewed (outcome_of_reply q) (λ size. take size (out_after_reply q out)) image ≡ image_after q image
      go (moved rule I') = take-append_seam (image_of I') (drop (length (image_of I')) out)
      go (waits y) = refl
      go finished = refl
      go (refuses number) = refl

  -- a rule: the new image is in the first bytes of the buffer
  pub new_image : {rule size : ℕ} → outcome_of common image x out ≡ Rule rule size → take size (out_after_step common image x out) ≡ image_after (step_reply common image x max_image_length) image
  unfolding renewed
  new_image {rule} {size} e = ap (λ (o : Outcome). renewed o (λ n. take n (out_after_step common image x out)) image) (sym e) ∙ handed_on

  pub new_inside : {rule size : ℕ} → outcome_of common image x out ≡ Rule rule size → size ≤ length (out_after_step common image x out)
  unfolding outcome_of out_after_step outcome_of_reply out_after_reply
  new_inside {rule} {size} e = go (step_reply common image x (length out)) e
    where
      go : (q : Reply) → outcome_of_reply q ≡ Rule rule size → size ≤ length (out_after_reply q out)
      go (moved k I') h =
          let s : length (image_of I') ≡ size = cc in
          rw length-append (omega (arith, s))
      go (waits y) h = absurd (clash (cc))
      go finished h = absurd (clash (cc))
      go (refuses n) h = absurd (clash (cc))

  -- another answer: the image is kept
  pub same_image : ((rule size : ℕ) → ¬ (outcome_of common image x out ≡ Rule rule size)) → image ≡ image_after (step_reply common image x max_image_length) image
  same_image n = sym (kept_image (step_reply common image x max_image_length) image (λ rule size e. n rule size (long_outcome common image x out long ∙ e)))
