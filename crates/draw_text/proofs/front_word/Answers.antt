-- `draw_text::front_word` meets its contract.
use native.Mathlib.Omega.{arith}
use Rattle.calculus.specs.Bytes.{word}
use Rattle.draw_text.proofs.front_word.Goals as goal

pub returns : goal.returns
unfolding word
returns c = (omega (arith, c.front_byte-2.ensures, c.front_byte.ensures), omega arith)
