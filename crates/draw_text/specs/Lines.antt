-- A test load on its way: a line more, and where the draws are then.
use Rattle.std.specs.Prelude.{◌≡◌, cond, List, ℕ, eqb, take}
use Rattle.calculus.specs.Causes.{seed_cause}
use Rattle.buffer.specs.Written.{Wrote}
use Rattle.draw_spec.specs.State.{drawn}
use Rattle.draw_spec.specs.Draws.{Draw, image_after, outcome, reply, thread}
use Rattle.draw_spec.specs.Lines.{line}
use Rattle.draw_thread.specs.Drawing.{Ready}
use Rattle.draw_text.specs.declared.At.{At}

-- the present image
abbrev pub present : At → List ℕ → List ℕ → List ℕ
present at first second = take at.length (cond at.odd second first)

-- the draw from it
abbrev pub draw_at : At → List ℕ → List ℕ → Draw
draw_at at first second = record { image = present at first second; state = drawn at.state }

-- before the first draw
pub record Starts (at : At) (first second : List ℕ) : Type 0 where
  pub ready : Ready at.odd at.length at.nodes first second
  pub no_line : at.next ≡ 0

-- one draw more: its line, and where the draws are then
pub record Onward (at : At) (first second text : List ℕ) (at' : At) (first' second' text' : List ℕ) : Type 0 where
  pub put : Wrote text at.next (line (thread (draw_at at first second)) (outcome (draw_at at first second))) text' at'.next
  pub state_is : at'.state ≡ drawn at.state
  pub image_is : present at' first' second' ≡ image_after (reply (draw_at at first second)) (draw_at at first second).image
  pub ready : Ready at'.odd at'.length at'.nodes first' second'

-- the recipe's refusal, then 18
unfoldable pub refusal_of : ℕ → ℕ → ℕ
refusal_of recipe seed = cond (eqb recipe 0) (cond (eqb seed 0) seed_cause 0) recipe
