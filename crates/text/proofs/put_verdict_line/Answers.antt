-- `text::put_verdict_line` meets its contract: the word, the number, the end of the line.
use native.Mathlib.Omega.{arith}
use Rattle.buffer.proofs.Theory.Writes.{same, then}
use Rattle.text.specs.Ascii.{verdict_line}
use Rattle.text.proofs.Theory.Digits.{length_decimal}
use Rattle.text.proofs.put_verdict_line.Goals as goal

pub put_bytes-requires : goal.put_bytes-requires
put_bytes-requires c = omega (arith, c.put_bytes-after_word.ensures.ends, same c.put_bytes-after_word.ensures, c.put_decimal-after_number.ensures.ends, same c.put_decimal-after_number.ensures, length_decimal c.args.number, c.requires)

pub returns : goal.returns
unfolding verdict_line
returns c = then (then c.put_bytes-after_word.ensures c.put_decimal-after_number.ensures) c.put_bytes.ensures
