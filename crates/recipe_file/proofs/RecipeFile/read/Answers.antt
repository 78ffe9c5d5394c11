-- `recipe_file::RecipeFile::read` meets its contract.
use mathlib.Core.Path.{sym}
use Rattle.recipe_file.proofs.Causes.{lowest_1, long_enough, lowest_2, lowest_3, none_fits}
use Rattle.recipe_file.proofs.RecipeFile.read.Goals as goal

pub returns-then-is_outside-clause-refusal : goal.returns-then-is_outside-clause-refusal
returns-then-is_outside-clause-refusal c = lowest_1 _ _ c.is_outside.ensures c.if-is_outside.true

pub opening_breaks-requires : goal.opening_breaks-requires
opening_breaks-requires c = (long_enough c.args.bytes.now _ c.is_outside.ensures c.if-is_outside.false, c.edition_of-edition.ensures)

pub returns-then-opening_breaks-clause-refusal : goal.returns-then-opening_breaks-clause-refusal
returns-then-opening_breaks-clause-refusal c = lowest_2 _ _ c.is_outside.ensures c.if-is_outside.false _ c.opening_breaks.ensures c.if-opening_breaks.true

pub layout_breaks-requires : goal.layout_breaks-requires
layout_breaks-requires c = long_enough c.args.bytes.now _ c.is_outside.ensures c.if-is_outside.false

pub returns-then-layout_breaks-clause-refusal : goal.returns-then-layout_breaks-clause-refusal
returns-then-layout_breaks-clause-refusal c = lowest_3 _ _ c.is_outside.ensures c.if-is_outside.false _ c.opening_breaks.ensures c.if-opening_breaks.false _ c.layout_breaks.ensures c.if-layout_breaks.true

pub invariant_of-result : goal.invariant_of-result
invariant_of-result c = record {
  said = c.edition_of-edition.ensures;
  laid = sym (none_fits _ _ c.is_outside.ensures c.if-is_outside.false _ c.opening_breaks.ensures c.if-opening_breaks.false _ c.layout_breaks.ensures c.if-layout_breaks.false);
  fit = λ i. (c.type_inv.bytes i).fits;
}
