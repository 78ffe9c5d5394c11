-- `recipe_file::table_length_stands` meets its contract.
use mathlib.Core.Path.{◌∙◌, ap}
use mathlib.Core.Bool.{not}
use Rattle.recipe_file.proofs.Causes.{no_multiple, multiple}
use Rattle.recipe_file.proofs.table_length_stands.Goals as goal

pub returns-then-size-ne0 : goal.returns-then-size-ne0
returns-then-size-ne0 c = no_multiple _ c.if-size-ne0.true

pub returns : goal.returns
returns c = ap not c.is_outside.ensures ∙ multiple _ c.if-size-ne0.false
