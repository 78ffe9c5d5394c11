-- `recipe_file::edition_of` meets its contract.
use Rattle.recipe_file.proofs.Editions.{says_none, says_0, says_unknown, says_known}
use Rattle.recipe_file.proofs.edition_of.Goals as goal

pub returns-then-recipe-le2 : goal.returns-then-recipe-le2
returns-then-recipe-le2 c = says_none _ c.if-recipe-le2.true

pub returns-then-number-eq0 : goal.returns-then-number-eq0
returns-then-number-eq0 c = says_0 _ _ c.wide-number.ensures.0 c.if-number-eq0.true

pub returns-then-number-gt-COUNT : goal.returns-then-number-gt-COUNT
returns-then-number-gt-COUNT c = says_unknown _ _ c.wide-number.ensures.0 c.if-number-gt-COUNT.true

pub returns : goal.returns
returns c = says_known _ _ c.wide-number.ensures.0 _ c.if-number-eq0.false c.if-number-gt-COUNT.false
