-- `recipe_text::put_hexadecimal_byte` meets its contract: two digits in a row.
use mathlib.Core.Path.{refl}
use Rattle.buffer.proofs.Theory.Writes.{known_as, then}
use Rattle.recipe_text.specs.Text.{hexadecimal_byte}
use Rattle.recipe_text.proofs.put_hexadecimal_byte.Goals as goal

pub returns : goal.returns
unfolding hexadecimal_byte
returns c = known_as (then c.put_byte-next.ensures c.put_byte.ensures) (rw (c.digit_of.ensures, c.digit_of-2.ensures) refl)
