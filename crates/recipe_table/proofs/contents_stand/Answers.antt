-- `recipe_table::contents_stand` meets its contract.
use mathlib.Core.Path.{◌∙◌, sym}
use Rattle.recipe_table.proofs.Rules.{list_contents, other_contents, pair_contents_first, pair_contents_second}
use Rattle.recipe_table.proofs.contents_stand.Goals as goal

pub returns-then-is_many : goal.returns-then-is_many
returns-then-is_many c = pair_contents_second _ _ _ c.if-kind-eq-MANY_PAIR.true c.is_many.ensures c.if-is_many.true c.is_many-then-is_many.ensures

pub returns-else-is_many : goal.returns-else-is_many
returns-else-is_many c = pair_contents_first _ _ _ c.if-kind-eq-MANY_PAIR.true c.is_many.ensures c.if-is_many.false

pub returns-then-kind-eq-MANY_LIST : goal.returns-then-kind-eq-MANY_LIST
returns-then-kind-eq-MANY_LIST c = c.is_many-then-kind-eq-MANY_LIST.ensures ∙ sym (list_contents _ _ _ c.if-kind-eq-MANY_PAIR.false c.if-kind-eq-MANY_LIST.true)

pub returns : goal.returns
returns c = sym (other_contents _ _ _ c.if-kind-eq-MANY_PAIR.false c.if-kind-eq-MANY_LIST.false)
