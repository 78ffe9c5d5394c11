-- What a step replies to any slice, and what is answered and left for each answer of the calculus.
use Rattle.std.specs.Prelude.{◌≡◌, Bool, cond, false, true, List, ◌<◌, ◌≤◌, ℕ, length}
use Rattle.std.proofs.Common.{ap}
use Rattle.std.proofs.Math.Path.{refl}
use Rattle.calculus.specs.Syntax.{Config}
use Rattle.calculus.specs.Owners.{Owned}
use Rattle.calculus.specs.Reduction.{Rule as RuleName, number}
use Rattle.calculus.specs.Step.{Answer, rule, waiting, done, no_thread, used_handle, wrong_kind}
use Rattle.calculus.specs.Limits.{max_image_length}
use Rattle.calculus.specs.Causes.{buffer_cause, image_cause, no_thread_cause, room_cause, used_handle_cause, wrong_kind_cause}
use Rattle.calculus.specs.Profile.{Profile}
use Rattle.calculus.specs.Reply.{moved, refuses, reply_of, reply_to}
use Rattle.calculus.proofs.Theory.Tests.{ltb_complete, ltb_not}
use Rattle.image.specs.Configuration.{image_of, owned_of}
use Rattle.image.specs.Stands.{image_stands}
use Rattle.step_spec.specs.declared.Outcome.{Outcome}
use Rattle.step_spec.specs.declared.Outcome.TheVariants.{Rule, Done, Waiting, Refused}
use Rattle.step_spec.specs.Stepping.{outcome_of, outcome_of_reply, step_reply}

-- 12, then 13, then the calculus
module _ (p : Profile) (s : List ℕ) (x room : ℕ) where
  pub reply_short : room < max_image_length → step_reply p s x room ≡ refuses buffer_cause
  unfolding step_reply
  reply_short l = rw (ltb_complete room max_image_length l) refl

  module _ (long : max_image_length ≤ room) where
    -- a buffer that is long enough changes nothing
    pub reply_long : step_reply p s x room ≡ step_reply p s x max_image_length
    unfolding step_reply
    reply_long = rw (ltb_not room max_image_length long) refl

    pub reply_broken : image_stands s ≡ false → step_reply p s x room ≡ refuses image_cause
    unfolding step_reply
    reply_broken e = rw (ltb_not room max_image_length long, e) refl

    pub reply_stands : image_stands s ≡ true → step_reply p s x room ≡ reply_to p (owned_of s) x
    unfolding step_reply
    reply_stands e = rw (ltb_not room max_image_length long, e) refl

-- what is answered does not depend on the buffer, if it is long enough
pub long_outcome : (p : Profile) (s : List ℕ) (x : ℕ) (out : List ℕ) → max_image_length ≤ length out → outcome_of p s x out ≡ outcome_of_reply (step_reply p s x max_image_length)
unfolding outcome_of
long_outcome p s x out long = ap outcome_of_reply (reply_long p s x (length out) long)

-- the outcome that each answer of the calculus is told as; `room` is the test of an outcome, `left` what an outcome is with its owners
pub data Told (room : Owned → Bool) (left : Config → Owned) : Answer → Outcome → Type 0 where
  told_moved : {r : RuleName} {C' : Config} → room (left C') ≡ true → Told room left (rule r C') (Rule (number r) (length (image_of (left C'))))
  told_room : {r : RuleName} {C' : Config} → room (left C') ≡ false → Told room left (rule r C') (Refused room_cause)
  told_waiting : {y : ℕ} → Told room left (waiting y) (Waiting y)
  told_done : Told room left done Done
  told_no_thread : Told room left no_thread (Refused no_thread_cause)
  told_used : Told room left used_handle (Refused used_handle_cause)
  told_wrong : Told room left wrong_kind (Refused wrong_kind_cause)

pub tells : (room : Owned → Bool) (left : Config → Owned) (a : Answer) → Told room left a (outcome_of_reply (reply_of room left a))
unfolding outcome_of_reply reply_of
tells room left (rule r C') = go (room (left C')) refl
  where
    go : (b : Bool) → room (left C') ≡ b → Told room left (rule r C') (outcome_of_reply (cond b (moved (number r) (left C')) (refuses room_cause)))
    go true e = told_moved e
    go false e = told_room e
tells room left (waiting y) = told_waiting
tells room left done = told_done
tells room left no_thread = told_no_thread
tells room left used_handle = told_used
tells room left wrong_kind = told_wrong
