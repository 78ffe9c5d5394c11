use native.Mathlib.Omega.{arith}
use Rattle.fikarehu.proofs.step_numbers.Goals as goal

pub overflow_cast-result-in-Waiting : goal.overflow_cast-result-in-Waiting
overflow_cast-result-in-Waiting c = omega (arith, c.requires.small _ c.in-Waiting.is)
