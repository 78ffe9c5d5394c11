-- `buffer::word_at` meets its contract.
use native.Mathlib.Omega.{arith}
use Rattle.calculus.specs.Bytes.{word}
use Rattle.buffer.proofs.word_at.Goals as goal

pub returns : goal.returns
unfolding word
returns c = (omega (arith, c.from_le_bytes.ensures), omega (arith, c.from.ensures))
