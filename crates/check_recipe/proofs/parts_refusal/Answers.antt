-- `check_recipe::parts_refusal` meets its contract.
use mathlib.Core.Path.{◌∙◌, sym}
use Rattle.numbers.proofs.Refusals.{handed_on}
use Rattle.recipe_file.proofs.LaidOut.{laid_where}
use Rattle.check_recipe.proofs.Parts.{all_clear, by_annotations, by_scope, by_terms, terms_stand}
use Rattle.check_recipe.proofs.parts_refusal.Goals as goal

pub returns-then-each_stands : goal.returns-then-each_stands
returns-then-each_stands c = all_clear _ (sym c.if-each_stands.true ∙ c.each_stands.ensures)

pub returns-in_err-terms_refusal : goal.returns-in_err-terms_refusal
returns-in_err-terms_refusal c = handed_on _ _ c.from_residual.ensures.1 ∙ by_terms _ _ c.in_err-terms_refusal.ensures

pub all_scoped-requires : goal.all_scoped-requires
all_scoped-requires c = terms_stand _ (laid_where _ c.args.recipe.laid) c.requires c.in_ok-terms_refusal.ensures

pub returns-then-not-all_scoped : goal.returns-then-not-all_scoped
returns-then-not-all_scoped c =
    by_scope _ (laid_where _ c.args.recipe.laid) c.requires c.in_ok-terms_refusal.ensures (sym c.all_scoped.ensures ∙ c.if-not-all_scoped.true)

pub returns : goal.returns
returns c =
    by_annotations _ (laid_where _ c.args.recipe.laid) c.requires c.in_ok-terms_refusal.ensures (sym c.all_scoped.ensures ∙ c.if-not-all_scoped.false)
    (sym c.each_stands.ensures ∙ c.if-each_stands.false)
