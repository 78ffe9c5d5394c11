-- `draw_text::seed_of` meets its contract.
use native.Mathlib.Omega.{arith}
use Rattle.draw_spec.specs.Lines.{seed_in}
use Rattle.draw_text.proofs.seed_of.Goals as goal

pub returns : goal.returns
unfolding seed_in
returns c = omega (arith, c.front_word-high.ensures.0, c.front_word-low.ensures.0)
