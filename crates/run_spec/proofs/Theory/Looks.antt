-- A look at a name of any slice: what it says of the reply to a step, and of the answers of steps into all buffers that are long enough (`CanStep`, `OutOfRoom`).
use Rattle.std.proofs.Common.{◌∙◌, sym, arith}
use Rattle.std.specs.Prelude.{◌≡◌, refl, ◌↔◌, Bool, cond, false, true, List, ℕ, ◌≤◌, eqb, replicate}
use Rattle.std.proofs.Math.Path.{ap}
use Rattle.std.proofs.Math.ListN.{length}
use Rattle.std.proofs.lemmas.List.{length-replicate}
use Rattle.calculus.specs.Profile.{common}
use Rattle.calculus.specs.Owners.{Owned}
use Rattle.calculus.specs.Limits.{max_image_length}
use Rattle.calculus.specs.Causes.{no_thread_cause, room_cause}
use Rattle.calculus.specs.Reply.{Reply, moved, waits, finished, refuses}
use Rattle.calculus.proofs.Theory.Tests.{clash, eqb_sound}
use Rattle.image.specs.Configuration.{image_of}
use Rattle.step_spec.specs.Stepping.{step_reply, outcome_of_reply, outcome_of}
use Rattle.step_spec.proofs.Theory.Replies.{long_outcome}
use Rattle.runs.proofs.Theory.Steps.{answered_refused, answered_rule}
use Rattle.run_spec.specs.Course.{goes, lacks_room, rests, passes_on, look_of, look}
use Rattle.run_spec.specs.HouseRunner.{CanStep, OutOfRoom}
use Rattle.run_spec.proofs.Theory.Searching.{GoesAt}

-- a name that is no thread is passed over
pub no_thread_rests : look_of (refuses no_thread_cause) ≡ rests
unfolding look_of
no_thread_rests = refl

-- what looks say of the replies
pub look_goes : (q : Reply) {image' : List ℕ} → look_of q ≡ goes image' → (k : ℕ) × (I' : Owned) × (q ≡ moved k I') × (image' ≡ image_of I')
unfolding look_of
look_goes (moved k I') e = (k, I', refl, cc)
look_goes (waits y) e = absurd (clash (cc))
look_goes finished e = absurd (clash (cc))
look_goes (refuses n) {image'} e = absurd (go (eqb n room_cause) (eqb n no_thread_cause) e)
  where
    go : (b c : Bool) → ¬ (cond b lacks_room (cond c rests (passes_on n)) ≡ goes image')
    go true c e = clash (cc)
    go false true e = clash (cc)
    go false false e = clash (cc)

pub look_lacks : (q : Reply) → look_of q ≡ lacks_room → q ≡ refuses room_cause
unfolding look_of
look_lacks (moved k I') e = absurd (clash (cc))
look_lacks (waits y) e = absurd (clash (cc))
look_lacks finished e = absurd (clash (cc))
look_lacks (refuses n) e = go (eqb n room_cause) (eqb n no_thread_cause) refl e
  where
    go : (b c : Bool) → eqb n room_cause ≡ b → cond b lacks_room (cond c rests (passes_on n)) ≡ lacks_room → refuses n ≡ refuses room_cause
    go true c q e = ap refuses (eqb_sound n room_cause q)
    go false true q e = absurd (clash (cc))
    go false false q e = absurd (clash (cc))

-- a buffer that is long enough for any image
abbrev long_out : List ℕ
long_out = replicate max_image_length 0

is_long : max_image_length ≤ length long_out
is_long = omega (arith, length-replicate {A = ℕ} max_image_length 0)

module _ (s : List ℕ) (x : ℕ) where
  -- such a buffer's answer
  answered : outcome_of_reply (step_reply common s x max_image_length) ≡ outcome_of common s x long_out
  answered = sym (long_outcome common s x long_out is_long)

  -- "that a rule moves and that has room"
  pub goes_iff : GoesAt s x ↔ CanStep s x
  unfolding look look_of outcome_of_reply
  goes_iff = (there, back)
    where
      there : GoesAt s x → CanStep s x
      there (image', g) = let (k, I', e, i) = look_goes (step_reply common s x max_image_length) g in (k, length (image_of I'), λ out l. long_outcome common s x out l ∙ ap outcome_of_reply e)

      back : CanStep s x → GoesAt s x
      back (rule, size, f) =
          let (I', e) = answered_rule (step_reply common s x max_image_length) (answered ∙ f long_out is_long) in
          (image_of I', ap look_of e)

  -- "whether one lacked room"
  pub lacks_iff : (look s x ≡ lacks_room) ↔ OutOfRoom s x
  unfolding look look_of outcome_of_reply
  lacks_iff = (there, back)
    where
      there : look s x ≡ lacks_room → OutOfRoom s x
      there g = let e = look_lacks (step_reply common s x max_image_length) g in λ out l. long_outcome common s x out l ∙ ap outcome_of_reply e

      back : OutOfRoom s x → look s x ≡ lacks_room
      back f =
          let e = (answered_refused (step_reply common s x max_image_length) room_cause).0 (answered ∙ f long_out is_long) in
          ap look_of e
