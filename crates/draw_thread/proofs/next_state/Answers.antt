-- `draw_thread::next_state` meets its contract: the machine's shifts and xors are the definition's.
use mathlib.Core.Path.{refl}
use Rattle.draw_spec.specs.State.{drawn}
use Rattle.draw_thread.proofs.next_state.Goals as goal

pub returns : goal.returns
unfolding drawn
returns c = refl
