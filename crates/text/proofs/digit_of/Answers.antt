-- `text::digit_of` meets its contract: the table in code is that of the definition.
use mathlib.Core.Path.{refl}
use Rattle.text.proofs.digit_of.Goals as goal

pub returns : goal.returns
returns c = refl
