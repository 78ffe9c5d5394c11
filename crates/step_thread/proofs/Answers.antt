-- What a step answers and leaves under a profile, and the nodes of the image that is left.
use mathlib.Core.Path.{◌∙◌, ◌≡◌, ap, refl, subst, sym}
use mathlib.Core.Bool.{Bool, false, true}
use mathlib.Core.List.{List}
use Prim.Native.Nat.{◌≤◌, ℕ}
use lib.ListN.{length}
use Rattle.calculus.specs.Owners.{Owned}
use Rattle.calculus.specs.Profile.{Profile, room_test}
use Rattle.calculus.specs.Reduction.{number}
use Rattle.calculus.specs.Limits.{max_image_length}
use Rattle.calculus.specs.Causes.{room_cause}
use Rattle.calculus.specs.Reply.{Reply, moved, waits, finished, refuses}
use Rattle.buffer.specs.Written.{Wrote}
use Rattle.image.specs.Configuration.{owned_of}
use Rattle.step_rules.specs.Effects.{rule_of}
use Rattle.step_rules.specs.Moves.{image_after}
use Rattle.step_spec.specs.declared.Outcome.{Outcome}
use Rattle.step_spec.specs.declared.Outcome.TheVariants.{Refused, Rule}
use Rattle.step_spec.specs.Stepping.{outcome_of_reply, out_after_reply}
use Rattle.step_look.specs.Leaving.{left_by}
use Rattle.step_look.specs.declared.Going.{Going}
use Rattle.step_look.specs.Looked.{Goes, Staying}
use Rattle.step_look.proofs.Theory.Answers.{goes_reply, goes_writes, left, left_is, reply_under, room_reply, stays_answer, stays_unmoved, unwritten}
use Rattle.step_thread.specs.Counted.{nodes_after}

-- the answer to a step of thread x, what is left in the out buffer, and the nodes of the image that is left, where there were `nodes`
abbrev pub Answers : Profile → List ℕ → ℕ → List ℕ → ℕ → Outcome → List ℕ → ℕ → Type 0
Answers p s x out nodes r out' nodes' =
    (r ≡ outcome_of_reply (reply_under p s x)) × ((out' ≡ out_after_reply (reply_under p s x) out) × (nodes' ≡ nodes_after (reply_under p s x) nodes))

-- only a rule changes the nodes
uncounted : (q : Reply) (nodes : ℕ) → ((r : ℕ) (I' : Owned) → ¬ (q ≡ moved r I')) → nodes ≡ nodes_after q nodes
unfolding nodes_after
uncounted (moved rule I') nodes n = absurd (n rule I' refl)
uncounted (waits y) nodes n = refl
uncounted finished nodes n = refl
uncounted (refuses number) nodes n = refl

-- the thread that goes is the one that was looked at
pub goer_goes : {s : List ℕ} {x : ℕ} {going : Going} → Goes s x going → Goes s going.step.thread going
goer_goes {s} {x} {going} g = subst (λ (y : ℕ). Goes s y going) (sym g.stepped.carries.goer) g

module _ (p : Profile) {s : List ℕ} {x : ℕ} (out : List ℕ) (nodes : ℕ) where
  pub by_staying : {outcome : Outcome} → Staying s x outcome → Answers p s x out nodes outcome out nodes
  by_staying t = let u = stays_unmoved p t in (stays_answer p t, (unwritten (reply_under p s x) out u, uncounted (reply_under p s x) nodes u))

  module _ {going : Going} (g : Goes s x going) {room : Bool} (asked : room ≡ room_test p (owned_of s) (left_by s going.step.thread)) where
    room_is : room_test p (owned_of s) (left g) ≡ room
    room_is = ap (room_test p (owned_of s)) (sym (left_is g)) ∙ ap (λ (y : ℕ). room_test p (owned_of s) (left_by s y)) (sym g.stepped.carries.goer) ∙ sym asked

    pub by_room : room ≡ false → Answers p s x out nodes (Refused room_cause) out nodes
    unfolding outcome_of_reply out_after_reply nodes_after
    by_room f = let e = room_reply p g (room_is ∙ f) in (rw e refl, (rw e refl, rw e refl))

    pub by_going : room ≡ true → max_image_length ≤ length out → (out' : List ℕ) (n k : ℕ) → k ≡ number (rule_of going.step.by) → Wrote out 0 (image_after s going.step) out' n →
        Answers p s x out nodes (Rule k n) out' going.after.nodes
    unfolding nodes_after
    by_going t long out' n k numbered w =
        let (a, b) = goes_writes p g (room_is ∙ t) out out' long n k numbered w in
        (a, (b, rw (goes_reply p g (room_is ∙ t)) g.counted))
