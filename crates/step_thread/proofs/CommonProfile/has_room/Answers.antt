-- `step_thread::Common::has_room` meets its contract.
use mathlib.Core.Path.{sym}
use Rattle.step_look.proofs.Theory.Answers.{left_fits}
use Rattle.step_thread.proofs.CommonProfile.has_room.Goals as goal

pub returns : goal.returns
returns c = sym (left_fits c.requires)
