-- `recipe_text::put_image_line` meets its contract: the word, the image, the end of the line.
use native.Mathlib.Omega.{arith}
use Rattle.buffer.proofs.Theory.Writes.{same, then}
use Rattle.recipe_text.specs.Text.{image_line}
use Rattle.recipe_text.proofs.Theory.Digits.{length_hexadecimal}
use Rattle.recipe_text.proofs.put_image_line.Goals as goal

pub put_bytes-requires : goal.put_bytes-requires
put_bytes-requires c = omega (arith, c.put_bytes-after_word.ensures.ends, same c.put_bytes-after_word.ensures, c.put_hexadecimal-after_image.ensures.ends, same c.put_hexadecimal-after_image.ensures, length_hexadecimal c.args.image.now, c.requires)

pub returns : goal.returns
unfolding image_line
returns c = then (then c.put_bytes-after_word.ensures c.put_hexadecimal-after_image.ensures) c.put_bytes.ensures
