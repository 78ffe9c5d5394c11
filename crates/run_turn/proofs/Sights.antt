-- What is seen of a name, by the look at it.
use mathlib.Core.Path.{◌∙◌, ◌≡◌, refl}
use mathlib.Core.Bool.{Bool, cond, false, true}
use mathlib.Core.List.{List}
use Prim.Native.Nat.{ℕ}
use lib.Dec.{eqb}
use Rattle.calculus.specs.Image.{limits_test}
use Rattle.calculus.specs.Causes.{no_thread_cause, room_cause}
use Rattle.calculus.specs.Reply.{Reply, moved, waits, finished, refuses, reply_of}
use Rattle.image.specs.Stands.{image_stands}
use Rattle.step_rules.specs.Moves.{image_after}
use Rattle.step_spec.specs.declared.Outcome.{Outcome}
use Rattle.step_spec.specs.declared.Outcome.TheVariants.{Rule}
use Rattle.step_spec.specs.Stepping.{outcome_of_reply, step_reply}
use Rattle.step_look.specs.declared.Going.{Going}
use Rattle.step_look.specs.Looked.{Goes, Staying, reply_in}
use Rattle.run_spec.specs.Course as course
use Rattle.run_spec.specs.Course.{look, look_of}
use Rattle.run_turn.specs.declared.Sight.TheVariants.{LacksRoom, Rests, PassesOn}
use Rattle.run_turn.specs.Turning.{Seen, lacks_room, rests, passes_on, sight_of, sight_of_refusal}

-- 13 does not fit, so a look is the calculus's step
look_stands : (s : List ℕ) → image_stands s ≡ true → (x : ℕ) → look s x ≡ look_of (reply_in s x)
unfolding look step_reply
look_stands s stands x = rw stands refl

module _ {s : List ℕ} (stands : image_stands s ≡ true) {x : ℕ} where
  -- a thread that goes
  pub by_going : {going : Going} → Goes s x going → look s x ≡ course.goes (image_after s going.step)
  unfolding look_of reply_of limits_test
  by_going g = let S = g.stepped in look_stands s stands x ∙ rw (S.steps, g.fits, S.written) refl

  -- one that stays: each reply is seen as the look has it
  by_refusal : (number : ℕ) → look s x ≡ look_of (refuses number) → Seen s x (sight_of_refusal number)
  unfolding look_of sight_of_refusal
  by_refusal number e = go (eqb number room_cause) (eqb number no_thread_cause) e
    where
      go : (a b : Bool) → look s x ≡ cond a course.lacks_room (cond b course.rests (course.passes_on number)) → Seen s x (cond a LacksRoom (cond b Rests (PassesOn number)))
      go true b e = lacks_room e
      go false true e = rests e
      go false false e = passes_on e

  by_reply : (q : Reply) → look s x ≡ look_of q → ((rule size : ℕ) → ¬ (outcome_of_reply q ≡ Rule rule size)) → Seen s x (sight_of (outcome_of_reply q))
  unfolding look_of outcome_of_reply sight_of
  by_reply (moved rule I') e n = absurd (n _ _ refl)
  by_reply (waits y) e n = rests e
  by_reply finished e n = rests e
  by_reply (refuses number) e n = by_refusal number e

  pub by_staying : {outcome : Outcome} → Staying s x outcome → Seen s x (sight_of outcome)
  by_staying {outcome} t =
      rw t.answered (by_reply (reply_in s x) (look_stands s stands x) (λ rule size e. t.no_rule rule size (t.answered ∙ e)))
