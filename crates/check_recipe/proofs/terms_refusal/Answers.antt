-- `check_recipe::terms_refusal` meets its contract.
use mathlib.Core.Path.{◌∙◌, sym}
use Rattle.recipe_file.proofs.LaidOut.{laid_where}
use Rattle.check_recipe.proofs.Terms.{many_nodes, no_term, terms_known, terms_pass, too_deep}
use Rattle.check_recipe.proofs.terms_refusal.Goals as goal

pub returns-in_default : goal.returns-in_default
returns-in_default c = no_term _ (sym c.in_default.is ∙ c.count_nodes.ensures)

pub returns-then-nodes-gt-MAX_NODES : goal.returns-then-nodes-gt-MAX_NODES
returns-then-nodes-gt-MAX_NODES c = many_nodes _ _ (sym c.in-Some.is ∙ c.count_nodes.ensures) c.if-nodes-gt-MAX_NODES.true

pub all_shallow-requires : goal.all_shallow-requires
all_shallow-requires c =
    terms_known _ _ (sym c.in-Some.is ∙ c.count_nodes.ensures) (laid_where _ c.args.recipe.laid) c.requires c.if-nodes-gt-MAX_NODES.false

pub returns-then-not-all_shallow : goal.returns-then-not-all_shallow
returns-then-not-all_shallow c =
    too_deep _ _ (sym c.in-Some.is ∙ c.count_nodes.ensures) c.if-nodes-gt-MAX_NODES.false
    _ c.all_shallow.ensures c.if-not-all_shallow.true

pub returns : goal.returns
returns c =
    terms_pass _ _ (sym c.in-Some.is ∙ c.count_nodes.ensures) c.if-nodes-gt-MAX_NODES.false
    _ c.all_shallow.ensures c.if-not-all_shallow.false
