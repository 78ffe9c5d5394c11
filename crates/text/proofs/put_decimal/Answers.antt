-- `text::put_decimal` meets its contract: one digit, two, or three in a row.
use native.Mathlib.Omega.{arith}
use Rattle.buffer.proofs.Theory.Writes.{known_as, then}
use Rattle.text.proofs.Theory.Digits.{decimal_one, decimal_rest, decimal_two}
use Rattle.text.proofs.put_decimal.Goals as goal

pub returns-then-n-lt10 : goal.returns-then-n-lt10
returns-then-n-lt10 c = known_as c.put_byte.ensures (rw c.digit_of.ensures (decimal_one _ (omega (arith, c.if-n-lt10.true))))

pub returns-then-n-lt100 : goal.returns-then-n-lt100
returns-then-n-lt100 c = known_as c.put_two_digits.ensures (decimal_two _ (omega (arith, c.if-n-lt10.false)) (omega (arith, c.if-n-lt100.true)))

pub returns : goal.returns
returns c = known_as (then c.put_byte-next.ensures c.put_two_digits-2.ensures) (rw c.digit_of-2.ensures (decimal_rest _ (omega (arith, c.if-n-lt100.false))))
