-- `recipe_text::put_hexadecimal` meets its contract. The loop's invariant: `text` has the bytes passed in hexadecimal written at `at`, and `next` is the place after them.
use mathlib.Core.Path.{ap, sym}
use native.Mathlib.Omega.{arith}
use lib.Seq.{take_all}
use Rattle.buffer.proofs.Theory.Writes.{known_as, same, still, then}
use Rattle.recipe_text.specs.Text.{hexadecimal}
use Rattle.recipe_text.proofs.Theory.Digits.{hexadecimal_turn, length_so_far}
use Rattle.recipe_text.proofs.put_hexadecimal.Goals as goal

pub loop-byte-init : goal.loop-byte-init
unfolding hexadecimal
loop-byte-init c = still

pub put_hexadecimal_byte-next-requires : goal.put_hexadecimal_byte-next-requires
put_hexadecimal_byte-next-requires c =
    let l = c.loop-byte in
    omega (arith, same l.invariant, length_so_far c.args.bytes.now l.byte-index l.auto.byte-index-end)

pub loop-byte-preserved : goal.loop-byte-preserved
loop-byte-preserved c = known_as (then c.loop-byte.invariant c.put_hexadecimal_byte-next.ensures) (sym (hexadecimal_turn _ _ c.loop-byte-test.true))

pub returns : goal.returns
returns c = known_as c.loop-byte.invariant (ap hexadecimal (take_all _ _ c.loop-byte-test.false))
