-- `draw_text::number_of` meets its contract.
use native.Mathlib.Omega.{arith}
use Rattle.draw_spec.specs.Lines.{number_in}
use Rattle.draw_text.proofs.number_of.Goals as goal

pub returns-then-number-gt-MAX_DRAWS : goal.returns-then-number-gt-MAX_DRAWS
unfolding number_in
returns-then-number-gt-MAX_DRAWS c = omega (arith, c.front_word-number.ensures.0, c.if-number-gt-MAX_DRAWS.true)

pub returns : goal.returns
unfolding number_in
returns c = omega (arith, c.front_word-number.ensures.0, c.if-number-gt-MAX_DRAWS.false)
