-- `list_skip::next_number` meets its contract (proofs/Numbers.antt).
use native.Mathlib.Omega.{arith}
use Rattle.list_skip.proofs.Numbers.{one_further, past_wanted, to_wanted}
use Rattle.list_skip.proofs.next_number.Goals as goal

pub returns-then-want-ge-ANY : goal.returns-then-want-ge-ANY
returns-then-want-ge-ANY c = one_further _ _ _ _ _ c.requires.byte

pub returns-then-spine-gt2 : goal.returns-then-spine-gt2
returns-then-spine-gt2 c = one_further _ _ _ _ _ c.requires.byte

pub returns-then-number-want : goal.returns-then-number-want
returns-then-number-want c = to_wanted _ _ _ _ _ c.requires.byte (omega (arith, c.if-want-ge-ANY.false)) (omega (arith, c.if-spine-gt0.false)) c.if-number-want.true

pub returns : goal.returns
returns c = past_wanted _ _ _ _ _ c.requires.byte (omega (arith, c.if-want-ge-ANY.false)) (omega (arith, c.if-spine-gt0.false)) c.if-number-want.false
