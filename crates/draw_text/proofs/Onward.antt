-- One draw more: what is known of it, and what is left, by its outcome.
use mathlib.Core.Path.{◌∙◌, ◌≡◌, ap, refl, subst, subst⁻¹, sym}
use mathlib.Core.Bool.{Bool, cond, false, not, true}
use mathlib.Core.List.{List}
use Prim.Native.Nat.{ℕ, ◌<◌, ◌≤◌}
use native.Mathlib.Omega.{arith}
use lib.ListN.{length, take}
use Rattle.calculus.specs.Profile.{common}
use Rattle.calculus.specs.Image.{nodes_all}
use Rattle.calculus.specs.Limits.{max_image_length, max_names}
use Rattle.buffer.specs.Written.{Wrote}
use Rattle.buffer.proofs.Theory.Writes.{known_as}
use Rattle.image.specs.Configuration.{config_of}
use Rattle.step_spec.specs.declared.Outcome.TheVariants.{Rule}
use Rattle.step_spec.proofs.Theory.Replies.{long_outcome}
use Rattle.step_spec.specs.Waiting.{NameSmall}
use Rattle.step_spec.proofs.Theory.Waiting.{waiting_small}
use Rattle.draw_spec.specs.State.{drawn}
use Rattle.draw_spec.specs.Draws.{Draw, image_after, outcome, reply, thread}
use Rattle.draw_spec.specs.Lines.{line}
use Rattle.draw_spec.proofs.Theory.Alive.{Alive, alive_after, alive_few, picked_listed}
use Rattle.draw_spec.proofs.Theory.Steps.{new_image, new_inside, same_image}
use Rattle.draw_thread.specs.declared.Drawn.{Drawn}
use Rattle.draw_thread.specs.Drawing.{Drew, Ready}
use Rattle.draw_text.specs.declared.At.{At}
use Rattle.draw_text.specs.Lines.{Onward, draw_at}

module _ {image out out' : List ℕ} {state : ℕ} {d : Drawn} (a : Alive image) (long : max_image_length ≤ length out) (w : Drew image state out d out') where
  abbrev this : Draw
  this = record { image = image; state = state }

  -- an awaited name and a thread's are below 256
  pub name_small : NameSmall d.outcome
  name_small = subst⁻¹ NameSmall w.answers (waiting_small common image d.thread out)

  pub thread_small : d.thread < max_names
  thread_small = omega (arith, w.picks, (picked_listed a state).0, alive_few a)

  -- its line
  pub line_is : line d.thread d.outcome ≡ line (thread this) (outcome this)
  line_is = rw (w.answers, long_outcome common image d.thread out long, w.picks) refl

  -- the nodes of the image that is left
  pub counts_is : nodes_all (config_of (image_after (reply this) image)) ≡ d.nodes
  counts_is = rw (← w.picks) w.counts

  -- a rule: the new image is in the first bytes of the other buffer
  module _ {rule size : ℕ} (e : d.outcome ≡ Rule rule size) where
    pub goes_inside : size ≤ length out'
    goes_inside = rw w.leaves (new_inside image d.thread out long (sym w.answers ∙ e))

    pub goes_image : take size out' ≡ image_after (reply this) image
    goes_image = rw (w.leaves, ← w.picks) (new_image image d.thread out long (sym w.answers ∙ e))

  -- another answer: the image is kept
  pub stays_image : ((rule size : ℕ) → ¬ (d.outcome ≡ Rule rule size)) → image ≡ image_after (reply this) image
  stays_image n = rw (← w.picks) (same_image image d.thread out long (λ rule size e. n rule size (w.answers ∙ e)))

-- the other buffer
turned : (b : Bool) (x y : List ℕ) → cond (not b) x y ≡ cond b y x
turned true x y = refl
turned false x y = refl

long_one : (b : Bool) (x y : List ℕ) → max_image_length ≤ length x → max_image_length ≤ length y → max_image_length ≤ length (cond b x y)
long_one true x y l m = l
long_one false x y l m = m

-- a draw from `at` on, and its line
module _ (at : At) {first second : List ℕ} (first' second' : List ℕ) (r : Ready at.odd at.length at.nodes first second) {state : ℕ} (s : state ≡ drawn at.state) {d : Drawn}
    (w : Drew (take at.length (cond at.odd second first)) state (cond at.odd first second) d (cond at.odd first' second'))
    (same : cond at.odd second' first' ≡ cond at.odd second first) (f : length first' ≡ length first) (g : length second' ≡ length second) where
  long : max_image_length ≤ length (cond at.odd first second)
  long = long_one at.odd first second r.first_long r.second_long

  pub ready_line : NameSmall d.outcome × (d.thread < max_names)
  ready_line = (name_small r.present.alive long w, thread_small r.present.alive long w)

  drew : Drew (take at.length (cond at.odd second first)) (drawn at.state) (cond at.odd first second) d (cond at.odd first' second')
  drew = subst (λ (n : ℕ). Drew (take at.length (cond at.odd second first)) n (cond at.odd first second) d (cond at.odd first' second')) s w

  after : Alive (image_after (reply (draw_at at first second)) (draw_at at first second).image)
  after = alive_after r.present.alive (thread (draw_at at first second))

  module _ {text text' : List ℕ} {next : ℕ} (p : Wrote text at.next (line d.thread d.outcome) text' next) where
    pub onward_rule : {rule size : ℕ} → d.outcome ≡ Rule rule size →
        Onward at first second text (record { state = state; length = size; nodes = d.nodes; odd = not at.odd; next = next }) first' second' text'
    onward_rule {rule} {size} e =
        let image : take size (cond (not at.odd) second' first') ≡ image_after (reply (draw_at at first second)) (draw_at at first second).image =
        ap (take size) (turned at.odd second' first') ∙ goes_image r.present.alive long drew e in
        record {
          put = known_as p (line_is r.present.alive long drew);
          state_is = s;
          image_is = image;
          ready = record {
            inside = rw (turned at.odd second' first') (goes_inside r.present.alive long drew e);
            present = record { alive = subst⁻¹ Alive image after; counted = ap (λ (i : List ℕ). nodes_all (config_of i)) image ∙ counts_is r.present.alive long drew };
            first_long = omega (arith, r.first_long);
            second_long = omega (arith, r.second_long);
          };
        }

    pub onward_same : ((rule size : ℕ) → ¬ (d.outcome ≡ Rule rule size)) →
        Onward at first second text (record { state = state; length = at.length; nodes = d.nodes; odd = at.odd; next = next }) first' second' text'
    onward_same n =
        let image : take at.length (cond at.odd second' first') ≡ image_after (reply (draw_at at first second)) (draw_at at first second).image =
        ap (take at.length) same ∙ stays_image r.present.alive long drew n in
        record {
          put = known_as p (line_is r.present.alive long drew);
          state_is = s;
          image_is = image;
          ready = record {
            inside = rw same r.inside;
            present = record { alive = subst⁻¹ Alive image after; counted = ap (λ (i : List ℕ). nodes_all (config_of i)) image ∙ counts_is r.present.alive long drew };
            first_long = omega (arith, r.first_long);
            second_long = omega (arith, r.second_long);
          };
        }
