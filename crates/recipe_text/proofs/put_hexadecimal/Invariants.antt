-- `recipe_text::put_hexadecimal` meets its contract. The loop's invariant: `text` has the bytes passed in hexadecimal written at `at`, and `next` is the place after them.
use lib.ListN.{take}
use Rattle.buffer.specs.Written.{Wrote}
use Rattle.recipe_text.specs.Text.{hexadecimal}
use Rattle.recipe_text.proofs.put_hexadecimal.Given as goal

abbrev pub invariant-loop-byte : goal.invariant-loop-byte
invariant-loop-byte l = Wrote l.initial.text l.at (hexadecimal (take l.byte-index l.bytes)) l.text l.next
