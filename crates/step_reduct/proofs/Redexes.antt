-- What a writer has of the image besides the step.
use mathlib.Core.Path.{◌≡◌, subst}
use mathlib.Core.List.{List}
use Prim.Native.Nat.{ℕ, ◌+◌, ◌≤◌}
use lib.ListN.{length}
use Rattle.calculus.specs.Limits.{max_names}
use Rattle.image_layout.specs.Slice.{names}
use Rattle.image_layout.specs.Readable.{HasHead}
use Rattle.image_layout.proofs.Theory.Reading.{has_head}
use Rattle.step_rules.specs.declared.Move.{Move}
use Rattle.step_rules.specs.declared.Step.{Step}
use Rattle.step_rules.specs.Effects.{effect_of}
use Rattle.step_rules.specs.Moves.{names_after}
use Rattle.step_reduct.specs.CanWrite.{CanWrite}

module _ {s : List ℕ} {step : Step} (w : CanWrite s step) where
  -- the head of the thread is there
  pub has_thread : HasHead s step.thread
  has_thread = has_head s w.stands step.thread w.movable.thread_below

  -- by a move that is known, the new names have room
  pub names_by : {by : Move} → step.by ≡ by → names s + length (effect_of s step.meeting by).new ≤ max_names
  unfolding names_after
  names_by e = subst (λ (k : Move). names s + length (effect_of s step.meeting k).new ≤ max_names) e w.few
