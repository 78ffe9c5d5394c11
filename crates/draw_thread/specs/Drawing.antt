-- A draw on its way: what is known of the present image, and what the draw says and leaves.
use Rattle.std.specs.Prelude.{◌≡◌, Bool, cond, List, ℕ, ◌≤◌, length, take}
use Rattle.calculus.specs.Profile.{common}
use Rattle.calculus.specs.Image.{nodes_all}
use Rattle.calculus.specs.Limits.{max_image_length}
use Rattle.image.specs.Configuration.{config_of}
use Rattle.step_spec.specs.Stepping.{out_after_step, outcome_of, step_reply}
use Rattle.draw_spec.specs.Draws.{image_after, picked}
use Rattle.draw_spec.proofs.Theory.Alive.{Alive}
use Rattle.draw_thread.specs.declared.Drawn.{Drawn}

-- an image that draws come to, with so many nodes
pub record Present (image : List ℕ) (nodes : ℕ) : Type 0 where
  pub alive : Alive image
  pub counted : nodes_all (config_of image) ≡ nodes

-- a draw from this image with the out buffer `out`: the thread picked, what the contract of step says of it, and the nodes of the image that is left
pub record Drew (image : List ℕ) (state : ℕ) (out : List ℕ) (d : Drawn) (out' : List ℕ) : Type 0 where
  pub picks : d.thread ≡ picked image state
  pub answers : d.outcome ≡ outcome_of common image d.thread out
  pub leaves : out' ≡ out_after_step common image d.thread out
  pub counts : nodes_all (config_of (image_after (step_reply common image d.thread max_image_length) image)) ≡ d.nodes

-- a draw can be made from the buffer that holds the present image, the second if `odd`, into the other
pub record Ready (odd : Bool) (size nodes : ℕ) (first second : List ℕ) : Type 0 where
  pub inside : size ≤ length (cond odd second first)
  pub present : Present (take size (cond odd second first)) nodes
  pub first_long : max_image_length ≤ length first
  pub second_long : max_image_length ≤ length second
