-- `list_place::may_stand` meets its contract: a law for each tag (proofs/Asking.antt).
use Rattle.std.proofs.Common.{arith, sym, ◌∙◌}
use Rattle.calculus.proofs.Theory.Tests.{eqb_differ, ltb_not}
use Rattle.term.specs.Tree.{HasForm}
use Rattle.list_place.specs.Candidates.{tag_in}
use Rattle.list_place.proofs.Asking.{leaf_form, may_apply, may_lambda, may_leaf, may_no_lambda, may_no_leaf, may_not_apply}
use Rattle.list_place.proofs.may_stand.Goals as goal

pub returns-then-pending-left : goal.returns-then-pending-left
returns-then-pending-left c = may_lambda _ _ _ _ _ _ _ _ c.requires.enough c.in-1.is c.if-pending-left.true _ c.lambda_stands.ensures

pub returns-else-pending-left : goal.returns-else-pending-left
returns-else-pending-left c = rw (ltb_not _ _ c.if-pending-left.false) (may_no_lambda _ _ _ _ _ _ _ _ c.requires.enough c.in-1.is c.if-pending-left.false)

pub returns-then-arg-eq0 : goal.returns-then-arg-eq0
returns-then-arg-eq0 c = may_apply _ _ _ _ _ _ _ _ c.requires.enough c.in-2.is c.if-arg-eq0.true

pub returns-else-arg-eq0 : goal.returns-else-arg-eq0
returns-else-arg-eq0 c = rw (eqb_differ _ _ c.if-arg-eq0.false) (may_not_apply _ _ _ _ _ _ _ _ c.requires.enough c.in-2.is c.if-arg-eq0.false)

pub leaf_stands-requires : goal.leaf_stands-requires
leaf_stands-requires c =
    let form : HasForm (tag_in c.args.code) 0 = leaf_form _ (omega (arith, c.requires.below)) (λ e. omega (arith, e)) (λ e. omega (arith, e)) in
    let p = c.requires in
    record { few = p.few; few_types = p.few_types; known = p.known; form = form; first_forms = omega (arith, p.below) }

pub returns-then-has_leaf_room : goal.returns-then-has_leaf_room
returns-then-has_leaf_room c =
    let form : HasForm (tag_in c.args.code) 0 = leaf_form _ (omega (arith, c.requires.below)) (λ e. omega (arith, e)) (λ e. omega (arith, e)) in
    let p = c.requires in
    may_leaf _ _ _ _ _ _ _ _ p.enough p.few_types form p.some_pending (sym c.has_leaf_room.ensures ∙ c.if-has_leaf_room.true) _ c.leaf_stands.ensures

pub returns-else-has_leaf_room : goal.returns-else-has_leaf_room
returns-else-has_leaf_room c =
    let form : HasForm (tag_in c.args.code) 0 = leaf_form _ (omega (arith, c.requires.below)) (λ e. omega (arith, e)) (λ e. omega (arith, e)) in
    let p = c.requires in
    rw c.if-has_leaf_room.false (may_no_leaf _ _ _ _ _ _ _ _ p.enough p.few_types form p.some_pending (sym c.has_leaf_room.ensures ∙ c.if-has_leaf_room.false))
