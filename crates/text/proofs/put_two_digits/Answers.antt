-- `text::put_two_digits` meets its contract: two digits in a row.
use mathlib.Core.Path.{refl}
use Rattle.buffer.proofs.Theory.Writes.{known_as, then}
use Rattle.text.proofs.put_two_digits.Goals as goal

pub returns : goal.returns
returns c = known_as (then c.put_byte-next.ensures c.put_byte.ensures) (rw (c.digit_of.ensures, c.digit_of-2.ensures) refl)
