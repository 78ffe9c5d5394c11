-- What a step answers and leaves under a profile, by what leads to each answer: what the entries of both profiles share.
use Rattle.std.proofs.Common.{◌∙◌, ap, sym, arith}
use Rattle.std.specs.Prelude.{◌≡◌, Bool, cond, false, true, List, ◌<◌, ◌≤◌, ℕ}
use Rattle.std.proofs.Math.Path.{refl}
use Rattle.std.proofs.Math.ListN.{length}
use Rattle.calculus.specs.Owners.{Owned, grown}
use Rattle.calculus.specs.Reduction.{number}
use Rattle.calculus.specs.Limits.{max_image_length}
use Rattle.calculus.specs.Image.{limits_test}
use Rattle.calculus.specs.Profile.{Profile, common, separate, room_test}
use Rattle.calculus.specs.Step.{Answer, rule, waiting, done, no_thread, used_handle, wrong_kind, step_of}
use Rattle.calculus.specs.Reply.{Reply, moved, waits, finished, refuses, reply_of, reply_to}
use Rattle.calculus.specs.Causes.{buffer_cause, image_cause, room_cause}
use Rattle.calculus.proofs.Theory.Tests.{false_left}
use Rattle.calculus.proofs.Theory.ImageTest.{limits_test_iff}
use Rattle.buffer.specs.Written.{Wrote}
use Rattle.buffer.proofs.Theory.Writes.{beyond}
use Rattle.image.specs.Configuration.{image_of, owned_of}
use Rattle.image.specs.Stands.{image_stands}
use Rattle.image.proofs.Theory.Lengths.{within_length}
use Rattle.step_rules.specs.Effects.{rule_of}
use Rattle.step_rules.specs.Moves.{image_after}
use Rattle.step_spec.specs.declared.Outcome.{Outcome}
use Rattle.step_spec.specs.declared.Outcome.TheVariants.{Refused, Rule}
use Rattle.step_spec.specs.Stepping.{outcome_of_reply, out_after_step, outcome_of, out_after_reply}
use Rattle.step_spec.proofs.Theory.Replies.{reply_broken, reply_short, reply_stands}
use Rattle.step_look.specs.Leaving.{left_by, outcome_from}
use Rattle.step_look.specs.declared.Going.{Going}
use Rattle.step_look.specs.Looked.{Goes, Staying, reply_in}

-- an outcome above document 01's limits has no room under either profile
no_room : (p : Profile) (I I' : Owned) → limits_test I'.config ≡ false → room_test p I I' ≡ false
no_room common I I' e = e
no_room separate I I' e = false_left _ e

-- only a rule moves
no_move : (q : Reply) → ((rule size : ℕ) → ¬ (outcome_of_reply q ≡ Rule rule size)) → (r : ℕ) (I' : Owned) → ¬ (q ≡ moved r I')
unfolding outcome_of_reply
no_move q n r I' e = n r (length (image_of I')) (ap outcome_of_reply e)

-- and where none does by document 01's limits, none does under the other profile's
same_reply : (p : Profile) (I : Owned) (x : ℕ) → ((r : ℕ) (I' : Owned) → ¬ (reply_to common I x ≡ moved r I')) → reply_to p I x ≡ reply_to common I x
unfolding reply_of
same_reply p I x n = go (step_of I.config x) n
  where
    go : (a : Answer) → ((r : ℕ) (I' : Owned) → ¬ (reply_of (room_test common I) (grown I x) a ≡ moved r I')) → reply_of (room_test p I) (grown I x) a ≡ reply_of (room_test common I) (grown I x) a
    go (rule r C') n = tested (limits_test C') refl n
      where
        tested : (b : Bool) → limits_test C' ≡ b → ((k : ℕ) (I' : Owned) → ¬ (cond (limits_test C') (moved (number r) (grown I x C')) (refuses room_cause) ≡ moved k I')) →
            cond (room_test p I (grown I x C')) (moved (number r) (grown I x C')) (refuses room_cause) ≡ cond (limits_test C') (moved (number r) (grown I x C')) (refuses room_cause)
        tested true e n = absurd (n (number r) (grown I x C') (rw e refl))
        tested false e n = rw (e, no_room p I (grown I x C') e) refl
    go (waiting y) n = refl
    go done n = refl
    go no_thread n = refl
    go used_handle n = refl
    go wrong_kind n = refl

-- the reply to a step of thread x under a profile
abbrev pub reply_under : Profile → List ℕ → ℕ → Reply
reply_under p s x = reply_to p (owned_of s) x

-- it stays
module _ (p : Profile) {s : List ℕ} {x : ℕ} {outcome : Outcome} (t : Staying s x outcome) where
  unmoved : (rule size : ℕ) → ¬ (outcome_of_reply (reply_in s x) ≡ Rule rule size)
  unmoved r size e = t.no_rule r size (t.answered ∙ e)

  stays_same : reply_under p s x ≡ reply_in s x
  stays_same = same_reply p (owned_of s) x (no_move (reply_in s x) unmoved)

  pub stays_answer : outcome ≡ outcome_of_reply (reply_under p s x)
  stays_answer = t.answered ∙ ap outcome_of_reply (sym stays_same)

  pub stays_unmoved : (r : ℕ) (I' : Owned) → ¬ (reply_under p s x ≡ moved r I')
  stays_unmoved r I' e = no_move (reply_in s x) unmoved r I' (sym stays_same ∙ e)

-- only a rule writes
pub unwritten : (q : Reply) (out : List ℕ) → ((r : ℕ) (I' : Owned) → ¬ (q ≡ moved r I')) → out ≡ out_after_reply q out
unfolding out_after_reply
unwritten (moved r I') out n = absurd (n r I' refl)
unwritten (waits y) out n = refl
unwritten finished out n = refl
unwritten (refuses n) out unmoved = refl

-- what a thread that goes leaves
abbrev pub left : {s : List ℕ} {x : ℕ} {going : Going} → Goes s x going → Owned
left {s} {x} g = grown (owned_of s) x g.stepped.outcome

-- it is what the step of that thread leaves
pub left_is : {s : List ℕ} {x : ℕ} {going : Going} (g : Goes s x going) → left_by s x ≡ left g
unfolding outcome_from
left_is g = let e = g.stepped.steps in rw e refl

-- and within document 01's limits
pub left_fits : {s : List ℕ} {x : ℕ} {going : Going} → Goes s x going → limits_test (left_by s x).config ≡ true
left_fits g = ap (λ (I : Owned). limits_test I.config) (left_is g) ∙ g.fits

-- it goes: there is room, or there is none
module _ (p : Profile) {s : List ℕ} {x : ℕ} {going : Going} (g : Goes s x going) where
  pub goes_reply : room_test p (owned_of s) (left g) ≡ true → reply_under p s x ≡ moved (number (rule_of going.step.by)) (left g)
  unfolding reply_of
  goes_reply room = let e = g.stepped.steps in rw (e, room) refl

  pub room_reply : room_test p (owned_of s) (left g) ≡ false → reply_under p s x ≡ refuses room_cause
  unfolding reply_of
  room_reply room = let e = g.stepped.steps in rw (e, room) refl

  -- the new image is written
  pub goes_writes : room_test p (owned_of s) (left g) ≡ true → (out out' : List ℕ) → max_image_length ≤ length out → (n k : ℕ) → k ≡ number (rule_of going.step.by) → Wrote out 0 (image_after s going.step) out' n →
      (Rule k n ≡ outcome_of_reply (reply_under p s x)) × (out' ≡ out_after_reply (reply_under p s x) out)
  unfolding outcome_of_reply out_after_reply
  goes_writes room out out' long n k numbered w =
      let S = g.stepped in
      let v : Wrote out 0 (image_of (left g)) out' n = rw S.written at w in
      let size : n ≡ length (image_of (left g)) = omega (arith, v.ends) in
      let e = goes_reply room in
      (rw (e, numbered, size) refl, rw e (beyond v (omega (arith, within_length (left g) ((limits_test_iff S.outcome).0 g.fits)))))

-- the whole step
module _ (p : Profile) (s : List ℕ) (x : ℕ) (out : List ℕ) where
  pub too_short : length out < max_image_length → (Refused buffer_cause ≡ outcome_of p s x out) × (out ≡ out_after_step p s x out)
  unfolding outcome_of out_after_step outcome_of_reply out_after_reply
  too_short l = (rw (reply_short p s x (length out) l) refl, rw (reply_short p s x (length out) l) refl)

  module _ (long : max_image_length ≤ length out) where
    pub broken : image_stands s ≡ false → (Refused image_cause ≡ outcome_of p s x out) × (out ≡ out_after_step p s x out)
    unfolding outcome_of out_after_step outcome_of_reply out_after_reply
    broken f = (rw (reply_broken p s x (length out) long f) refl, rw (reply_broken p s x (length out) long f) refl)

    pub checked : image_stands s ≡ true → {r : Outcome} {out' : List ℕ} → (r ≡ outcome_of_reply (reply_under p s x)) × (out' ≡ out_after_reply (reply_under p s x) out) →
        (r ≡ outcome_of p s x out) × (out' ≡ out_after_step p s x out)
    unfolding outcome_of out_after_step
    checked t (a, b) = (rw (reply_stands p s x (length out) long t) a, rw (reply_stands p s x (length out) long t) b)
