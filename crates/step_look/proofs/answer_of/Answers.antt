use native.Mathlib.Omega.{arith}
use mathlib.Core.Path.{ap, sym}
use Rattle.step_look.specs.Looked.{stays}
use Rattle.step_look.proofs.answer_of.Goals as goal

pub returns-in-Goes : goal.returns-in-Goes
unfolding stays
returns-in-Goes c = sym (ap stays c.in-Goes.is)

pub returns-in-Waits : goal.returns-in-Waits
unfolding stays
returns-in-Waits c = sym (ap stays c.in-Waits.is)

pub returns-in-Refuses : goal.returns-in-Refuses
unfolding stays
returns-in-Refuses c = grind (arith, c.in-Refuses.is)
