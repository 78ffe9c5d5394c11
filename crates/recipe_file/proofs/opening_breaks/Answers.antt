-- `recipe_file::opening_breaks` meets its contract.
use mathlib.Core.Path.{◌∙◌}
use native.Mathlib.Omega.{arith}
use Rattle.recipe_file.proofs.Editions.{EditionRule, edition_rule}
use Rattle.recipe_file.proofs.Causes.{other_first, other_second, other_edition, opening_stands}
use Rattle.recipe_file.proofs.opening_breaks.Goals as goal

pub returns-then-recipe : goal.returns-then-recipe
returns-then-recipe c = other_first _ c.if-recipe.true

pub returns-then-recipe-2 : goal.returns-then-recipe-2
returns-then-recipe-2 c = other_second _ c.if-recipe.false c.if-recipe-2.true

pub returns-then-recipe-edition : goal.returns-then-recipe-edition
returns-then-recipe-edition c = other_edition _ c.if-recipe.false c.if-recipe-2.false _ c.requires.1 c.if-recipe-edition.true

pub overflow_add-least : goal.overflow_add-least
overflow_add-least c =
    let says : EditionRule c.args.edition = rw c.requires.1 (edition_rule c.args.recipe.now) in
    omega (arith, says.one_byte)

pub overflow_add-most : goal.overflow_add-most
overflow_add-most c =
    let says : EditionRule c.args.edition = rw c.requires.1 (edition_rule c.args.recipe.now) in
    omega (arith, says.one_byte)

pub returns : goal.returns
returns c = c.is_outside.ensures ∙ opening_stands _ c.if-recipe.false c.if-recipe-2.false _ c.requires.1 c.if-recipe-edition.false _ c.wide.ensures.0
