-- A run on its way: what is known of the present image, and where the last one is.
use Rattle.std.specs.Prelude.{◌≡◌, Bool, cond, List, ℕ, ◌≤◌, length, take}
use Rattle.calculus.specs.Profile.{common}
use Rattle.calculus.specs.Typing.{TypeNumbers}
use Rattle.calculus.specs.State.{State}
use Rattle.calculus.specs.Limits.{max_image_length}
use Rattle.calculus.specs.Image.{nodes_all}
use Rattle.image_layout.specs.Slice.{names}
use Rattle.image.specs.Configuration.{image_of}
use Rattle.step_look.specs.Looked.{Stands}
use Rattle.run_turn.specs.declared.At.{At}
use Rattle.run_spec.specs.Course.{Course}
use Rattle.run_spec.specs.Ending.{ends_in_first}
use Rattle.demands.proofs.Theory.Reached.{Reached}

-- a turn can be taken from the buffer that holds the present image, the second if `odd`, into the other
pub record Ready (odd : Bool) (at : At) (first second : List ℕ) : Type 0 where
  pub inside : at.length ≤ length (cond odd second first)
  pub stands : Stands (take at.length (cond odd second first)) at.nodes
  pub below : at.next ≤ names (take at.length (cond odd second first))
  pub first_long : max_image_length ≤ length first
  pub second_long : max_image_length ≤ length second

-- a run of an accepted recipe comes to this state, and a buffer holds its image in its first bytes
pub record Present (at : At) (buffer : List ℕ) : Type 0 where
  pub numbers : TypeNumbers
  pub state : State
  pub reached : Reached common numbers state
  pub holds : take at.length buffer ≡ image_of state.owned
  pub long : at.length ≡ length (image_of state.owned)
  pub nodes : at.nodes ≡ nodes_all state.owned.config
  pub below : at.next ≤ length state.owned.config

pub record Starts (at : At) (first second : List ℕ) : Type 0 where
  pub present : Present at first
  pub first_long : max_image_length ≤ length first
  pub second_long : max_image_length ≤ length second

-- the last image in the first bytes of its buffer
pub record Holds (c : Course) (first second : List ℕ) : Type 0 where
  pub image : take (length c.last) (cond (ends_in_first c) first second) ≡ c.last
