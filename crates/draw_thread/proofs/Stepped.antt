-- What the contract of a step on an image that stands says of a draw.
use mathlib.Core.Path.{◌∙◌, ◌≡◌, ap, refl, sym}
use mathlib.Core.List.{List}
use Prim.Native.Nat.{ℕ, ◌≤◌}
use native.Mathlib.Omega.{arith}
use lib.ListN.{length}
use Rattle.calculus.specs.Profile.{common}
use Rattle.calculus.specs.Image.{nodes_all}
use Rattle.calculus.specs.Limits.{max_image_length}
use Rattle.calculus.specs.Reply.{Reply, moved, waits, finished, refuses}
use Rattle.image.specs.Configuration.{config_of}
use Rattle.step_spec.specs.declared.Outcome.{Outcome}
use Rattle.step_spec.specs.Stepping.{out_after_reply, out_after_step, outcome_of, outcome_of_reply, step_reply}
use Rattle.step_spec.proofs.Theory.Replies.{reply_stands}
use Rattle.step_look.specs.Looked.{reply_in}
use Rattle.step_thread.specs.Counted.{nodes_after}
use Rattle.draw_spec.specs.Draws.{image_after}
use Rattle.draw_spec.proofs.Theory.Alive.{Alive, alive_stands, moved_reads}

module _ {image : List ℕ} (alive : Alive image) where
  -- the reply to a step into a buffer that is long enough
  replied : (x room : ℕ) → max_image_length ≤ room → reply_in image x ≡ step_reply common image x room
  replied x room long = sym (reply_stands common image x room long (alive_stands alive))

  module _ (x : ℕ) (out : List ℕ) (long : max_image_length ≤ length out) where
    pub stepped_answers : {o : Outcome} → o ≡ outcome_of_reply (reply_in image x) → o ≡ outcome_of common image x out
    unfolding outcome_of
    stepped_answers e = e ∙ ap outcome_of_reply (replied x (length out) long)

    pub stepped_leaves : {out' : List ℕ} → out' ≡ out_after_reply (reply_in image x) out → out' ≡ out_after_step common image x out
    unfolding out_after_step
    stepped_leaves e = e ∙ ap (λ (q : Reply). out_after_reply q out) (replied x (length out) long)

  pub stepped_counts : (x : ℕ) {nodes n : ℕ} → nodes_all (config_of image) ≡ nodes → n ≡ nodes_after (reply_in image x) nodes → nodes_all (config_of (image_after (step_reply common image x max_image_length) image)) ≡ n
  unfolding image_after nodes_after
  stepped_counts x {nodes} counted e = go (step_reply common image x max_image_length) refl ∙ ap (λ (q : Reply). nodes_after q nodes) (sym (replied x max_image_length (omega arith))) ∙ sym e
    where
      go : (q : Reply) → step_reply common image x max_image_length ≡ q → nodes_all (config_of (image_after q image)) ≡ nodes_after q nodes
      go (moved k I') h = ap nodes_all (moved_reads alive x h)
      go (waits y) h = counted
      go finished h = counted
      go (refuses k) h = counted
