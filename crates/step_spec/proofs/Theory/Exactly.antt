-- The second demand of a step: a rule answers exactly when Fig. 5 has that move and outcome and buffer fit, and then the new image is exactly that outcome's.
-- What done, waiting, 14, 16 and 17 mean is the calculus's (Theory.Step): `step_is` hands each of them on.
use Rattle.std.proofs.Common.{◌∙◌, ap, sym}
use Rattle.std.specs.Prelude.{◌≡◌, ◌↔◌, ◌≤◌, ℕ}
use Rattle.std.proofs.Math.Path.{refl}
use Rattle.calculus.specs.Syntax.{Config}
use Rattle.calculus.specs.Owners.{Owned, grown}
use Rattle.calculus.specs.Reduction.{Rule, number, Reduces}
use Rattle.calculus.specs.Step.{step_of}
use Rattle.calculus.specs.Limits.{max_bays, max_image_length}
use Rattle.calculus.specs.Profile.{Profile, HasRoom}
use Rattle.calculus.specs.Reply.{moved, reply_of, reply_to}
use Rattle.calculus.proofs.Theory.Tests.{ltb_not}
use Rattle.calculus.proofs.Theory.Step.{rule_iff}
use Rattle.calculus.proofs.Theory.Replies.{moved_answer}
use Rattle.calculus.proofs.Theory.Shares.{room_iff}
use Rattle.calculus.proofs.Theory.Images.{Kept}
use Rattle.image.specs.Configuration.{image_of}
use Rattle.image.proofs.Theory.Exactly.{owned_again, image_written}
use Rattle.step_spec.specs.Stepping.{step_reply}

-- on the image of a configuration that keeps its rules, and with a buffer that is long enough, a step answers what the calculus's does
module _ (p : Profile) (I : Owned) (k : Kept max_bays I) (x room : ℕ) (long : max_image_length ≤ room) where
  pub step_is : step_reply p (image_of I) x room ≡ reply_to p I x
  unfolding step_reply
  step_is = rw (ltb_not room max_image_length long, image_written I k) (ap (λ (J : Owned). reply_to p J x) (owned_again I k))

  -- a rule, exactly when Fig. 5 has that move and the outcome has room
  pub rule_exactly : (n : ℕ) (C' : Config) → (step_reply p (image_of I) x room ≡ moved n (grown I x C')) ↔ ((r : Rule) × (number r ≡ n) × Reduces I.config x r C' × HasRoom p I (grown I x C'))
  unfolding reply_of
  rule_exactly n C' = (there, back)
    where
      there : step_reply p (image_of I) x room ≡ moved n (grown I x C') → (r : Rule) × (number r ≡ n) × Reduces I.config x r C' × HasRoom p I (grown I x C')
      there e = let (r, q, d, w, g) = moved_answer p I x (step_of I.config x) refl (sym step_is ∙ e) in (r, q, d, w)

      back : (r : Rule) × (number r ≡ n) × Reduces I.config x r C' × HasRoom p I (grown I x C') → step_reply p (image_of I) x room ≡ moved n (grown I x C')
      back (r, q, m, l) = step_is ∙ rw ((rule_iff I.config C' x r).1 m, (room_iff p I (grown I x C')).1 l, q) refl
