-- The draws one after the other: from state to state and from image to image, each the step of a run of document 01.
use Rattle.std.proofs.Common.{◌∙◌, ap, sym}
use Rattle.std.specs.Prelude.{◌≡◌, length}
use Rattle.std.proofs.Math.Path.{refl}
use Rattle.std.proofs.Math.Option.{some}
use mathlib.Core.List.{List, [], ◌∷◌, map}
use Prim.Native.Nat.{ℕ, zero, suc, ◌≤◌}
use Rattle.calculus.specs.Profile.{common}
use Rattle.calculus.specs.Limits.{max_image_length}
use Rattle.calculus.specs.Syntax.{at}
use Rattle.calculus.specs.Types.{LinType}
use Rattle.calculus.specs.Typing.{TypeNumbers}
use Rattle.calculus.proofs.Theory.Tests.{clash}
use Rattle.step_spec.specs.Stepping.{outcome_of_reply, step_reply}
use Rattle.step_spec.proofs.Theory.Replies.{long_outcome}
use Rattle.runs.specs.Run.{Call, Follows, Step, left, steps, types_left}
use Rattle.draw_spec.specs.State.{drawn}
use Rattle.draw_spec.specs.Draws.{Draw, draws, image_after, reply, thread}
use Rattle.draw_spec.specs.TestLoad.{IsStep}
use Rattle.draw_spec.proofs.Theory.Alive.{Alive, alive_after}
use Rattle.draw_spec.proofs.Theory.Steps.{handed_on}

-- the first draw from this state and this image
abbrev first_of : ℕ → List ℕ → Draw
first_of state image = record { image = image; state = drawn state }

pub first_is : (n state : ℕ) (image : List ℕ) (d : Draw) → at (draws n state image) 0 ≡ some d → d ≡ first_of state image
unfolding draws
first_is zero state image d h = absurd (clash (cc))
first_is (suc n) state image d h = let e : first_of state image ≡ d = cc in sym e

-- each later one is drawn from the state before, and from the image that the draw before left
pub next_is : (n state : ℕ) (image : List ℕ) (i : ℕ) (d e : Draw) → at (draws n state image) i ≡ some d → at (draws n state image) (suc i) ≡ some e →
    e ≡ first_of d.state (image_after (reply d) d.image)
unfolding draws
next_is zero state image i d e h g = absurd (clash (cc))
next_is (suc n) state image zero d e h g =
    let p : first_of state image ≡ d = cc in
    rw (← p) (first_is n (drawn state) (image_after (reply (first_of state image)) image) e g)
next_is (suc n) state image (suc i) d e h g = next_is n (drawn state) (image_after (reply (first_of state image)) image) i d e h g

-- every image is one that a run comes to, with a thread
pub each_alive : (n state : ℕ) (image : List ℕ) → Alive image → (i : ℕ) (d : Draw) → at (draws n state image) i ≡ some d → Alive d.image
unfolding draws
each_alive zero state image a i d h = absurd (clash (cc))
each_alive (suc n) state image a zero d h = let p : first_of state image ≡ d = cc in rw (← p) a
each_alive (suc n) state image a (suc i) d h = each_alive n (drawn state) _ (alive_after a (thread (first_of state image))) i d h

-- "that thread is stepped"
module _ (τ : TypeNumbers) where
  -- the first of some calls
  first_step : (state : ℕ) (image : List ℕ) (types : List LinType) (c : Call) → c.thread ≡ thread (first_of state image) → max_image_length ≤ length c.out →
      let m : Step = record { profile = common; image = image; types = types; call = c } in IsStep (first_of state image) m × (left m ≡ image_after (reply (first_of state image)) image)
  first_step state image types c e long = (
    record { image_is = refl; thread_is = e; answer_is = long_outcome common image c.thread c.out long ∙ ap (λ (x : ℕ). outcome_of_reply (step_reply common image x max_image_length)) e },
    handed_on image c.thread c.out long ∙ ap (λ (x : ℕ). image_after (step_reply common image x max_image_length) image) e,
  )

  pub are_steps : (n state : ℕ) (image : List ℕ) (types : List LinType) (calls : List Call) → Follows (map thread (draws n state image)) calls →
      (i : ℕ) (d : Draw) → at (draws n state image) i ≡ some d → (m : Step) × (at (steps common τ image types calls) i ≡ some m) × IsStep d m
  unfolding draws steps
  are_steps zero state image types calls f i d h = absurd (clash (cc))
  are_steps (suc n) state image types [] f i d h = let e = f.threads in absurd (clash (cc))
  are_steps (suc n) state image types (c ∷ calls) f zero d h =
      let e = f.threads in
      let p : first_of state image ≡ d = cc in
      let (is, l) = first_step state image types c (cc) (f.long 0 c refl) in
      (record { profile = common; image = image; types = types; call = c }, refl, rw (← p) is)
  are_steps (suc n) state image types (c ∷ calls) f (suc i) d h =
      let e = f.threads in
      let m : Step = record { profile = common; image = image; types = types; call = c } in
      let (is, l) = first_step state image types c (cc) (f.long 0 c refl) in
      let rest : Follows (map thread (draws n (drawn state) (image_after (reply (first_of state image)) image))) calls = record { threads = cc; long = λ j d q. f.long (suc j) d q } in
      rw l (are_steps n (drawn state) (image_after (reply (first_of state image)) image) (types_left τ m) calls rest i d h)
