-- `draw_text::put_line` meets its contract: the name, the outcome, the end of the line.
use native.Mathlib.Omega.{arith}
use Rattle.buffer.proofs.Theory.Writes.{same, then}
use Rattle.text.proofs.Theory.Digits.{length_decimal}
use Rattle.draw_spec.specs.Lines.{line}
use Rattle.draw_spec.proofs.Theory.Lines.{length_outcome}
use Rattle.draw_text.proofs.put_line.Goals as goal

pub put_outcome-after_outcome-requires : goal.put_outcome-after_outcome-requires
put_outcome-after_outcome-requires c = (c.requires.0, omega (arith, c.put_decimal-after_name.ensures.ends, same c.put_decimal-after_name.ensures, length_decimal c.args.thread, c.requires.1.1))

pub put_bytes-requires : goal.put_bytes-requires
put_bytes-requires c = omega (arith, c.put_outcome-after_outcome.ensures.ends, same c.put_outcome-after_outcome.ensures, length_outcome c.args.outcome, c.put_decimal-after_name.ensures.ends, same c.put_decimal-after_name.ensures, length_decimal c.args.thread, c.requires.1.1)

pub returns : goal.returns
unfolding line
returns c = then (then c.put_decimal-after_name.ensures c.put_outcome-after_outcome.ensures) c.put_bytes.ensures
