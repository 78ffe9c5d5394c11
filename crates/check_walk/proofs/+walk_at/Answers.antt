-- The proof of the cycle of calls {walk_at}: what falls is the part still unread, and each return is a law of proofs/Together.antt.
use Rattle.std.proofs.Common.{◌≡◌, refl, sym, true, ◌+◌, ◌-◌, ◌<◌, ◌∙◌, arith, length, length-set}
use Rattle.std.proofs.lemmas.List.{map-set}
use Rattle.term.proofs.Views.{leaf_from, node_there, not_bad, past_first}
use Rattle.check_linearity.proofs.Theory.Levels.{floor_below}
use Rattle.check_types.specs.Two.{can_open}
use Rattle.check_walk.proofs.Marks.{at_level}
use Rattle.check_walk.proofs.Ways.{annotated, leaf_scope, leaf_there, level_below, ready_body, ready_first, ready_second, room_inside, lambda_there, room_there, two_there, type_below}
use Rattle.check_walk.proofs.Together.{second_is, walked_closed, walked_lambda, walked_leaf, walked_no_first, walked_two}
use Rattle.check_walk.specs.Marks.{numbers}
use Rattle.check_walk.proofs.+walk_at.Goals as goal

pub node_at-requires : goal.node_at-requires
node_at-requires t c = c.requires.good.inside

pub returns-in_err-node : goal.returns-in_err-node
returns-in_err-node t c = absurd (not_bad c.requires.good (sym c.node_at.ensures ∙ c.in_err-node.was))

pub overflow_add-next : goal.overflow_add-next
overflow_add-next t c =
    omega (arith, (node_there c.requires.good.inside (sym c.node_at.ensures ∙ c.in_ok-node.was)).inside)

pub leaf_type-number-requires : goal.leaf_type-number-requires
leaf_type-number-requires t c =
    leaf_there c.requires (leaf_from (sym c.node_at.ensures ∙ c.in_ok-node.was) c.requires.good c.if-subterms-eq0.true)

pub spend_leaf-kept-requires : goal.spend_leaf-kept-requires
spend_leaf-kept-requires t c =
    leaf_scope c.requires (leaf_from (sym c.node_at.ensures ∙ c.in_ok-node.was) c.requires.good c.if-subterms-eq0.true)

pub returns-then-subterms-eq0 : goal.returns-then-subterms-eq0
returns-then-subterms-eq0 t c =
    walked_leaf _ _ _ _ _ _ _ _ (leaf_from (sym c.node_at.ensures ∙ c.in_ok-node.was) c.requires.good c.if-subterms-eq0.true) c.leaf_type-number.ensures c.spend_leaf-kept.ensures

pub entry_at-entry-requires : goal.entry_at-entry-requires
entry_at-entry-requires t c =
    let there = lambda_there c.requires.good (sym c.node_at.ensures ∙ c.in_ok-node.was) c.if-tag-eq-LAMBDA.true in
    omega (arith, type_below c.requires there.one)

pub bounds-scope-above : goal.bounds-scope-above
bounds-scope-above t c =
    let there = lambda_there c.requires.good (sym c.node_at.ensures ∙ c.in_ok-node.was) c.if-tag-eq-LAMBDA.true in
    (level_below c.requires there.one)

pub bounds-scope-above-then-tag-eq-LAMBDA-2 : goal.bounds-scope-above-then-tag-eq-LAMBDA-2
bounds-scope-above-then-tag-eq-LAMBDA-2 t c =
    let there = lambda_there c.requires.good (sym c.node_at.ensures ∙ c.in_ok-node.was) c.if-tag-eq-LAMBDA.true in
    (level_below c.requires there.one)

pub overflow_add-above : goal.overflow_add-above
overflow_add-above t c =
    let there = lambda_there c.requires.good (sym c.node_at.ensures ∙ c.in_ok-node.was) c.if-tag-eq-LAMBDA.true in
    omega (arith, (level_below c.requires there.one))

pub walk_at-body-requires : goal.walk_at-body-requires
walk_at-body-requires t c =
    let there = lambda_there c.requires.good (sym c.node_at.ensures ∙ c.in_ok-node.was) c.if-tag-eq-LAMBDA.true in
    let falls_at : length c.args.s.now - (c.args.at + c.in_ok-node.node.size) < t = omega (arith, there.here.inside, there.here.onward) in
    let under = c.floor_under-under.ensures in
    let low = floor_below c.entry_at-entry.result.kind c.args.floor c.args.above c.requires.low in
    (falls_at, ready_body c.requires there.one (omega (arith, under, low)) (length-set c.args.scope.now.env c.args.above _) (rw map-set (length-set (numbers c.args.scope.now.marks) c.args.above _)))

pub overflow_cast-arg : goal.overflow_cast-arg
overflow_cast-arg t c =
    let there = lambda_there c.requires.good (sym c.node_at.ensures ∙ c.in_ok-node.was) c.if-tag-eq-LAMBDA.true in
    omega (arith, type_below c.requires there.one)

pub bounds-scope-above-then-tag-eq-LAMBDA : goal.bounds-scope-above-then-tag-eq-LAMBDA
bounds-scope-above-then-tag-eq-LAMBDA t c =
    let there = lambda_there c.requires.good (sym c.node_at.ensures ∙ c.in_ok-node.was) c.if-tag-eq-LAMBDA.true in
    (level_below c.requires there.one)

pub returns-then-tag-eq-LAMBDA : goal.returns-then-tag-eq-LAMBDA
returns-then-tag-eq-LAMBDA t c =
    let there = lambda_there c.requires.good (sym c.node_at.ensures ∙ c.in_ok-node.was) c.if-tag-eq-LAMBDA.true in
    let room : c.args.above < length c.args.scope.now.env = omega (arith, (level_below c.requires there.one), c.requires.wide) in
    let space : c.args.above < length (numbers c.args.scope.now.marks) = omega (arith, (level_below c.requires there.one), c.requires.long) in
    walked_lambda _ _ _ _ _ _ _ _ there.one _ c.entry_at-entry.ensures _ _ _ _ room space c.requires.low
    c.floor_under-under.ensures c.new_mark.ensures _ (rw map-set at c.walk_at-body.ensures) (rw (← at_level c.walk_at-body.new.scope.marks c.args.above refl) at c.close_lambda.ensures)

pub walk_at-requires : goal.walk_at-requires
walk_at-requires t c =
    let there = two_there c.requires.good (sym c.node_at.ensures ∙ c.in_ok-node.was) c.if-subterms-eq0.false c.if-tag-eq-LAMBDA.false in
    let falls_at : length c.args.s.now - (c.args.at + c.in_ok-node.node.size) < t = omega (arith, there.here.inside, there.here.onward) in
    (falls_at, ready_first c.requires there.two there.form)

pub returns-in_err-first : goal.returns-in_err-first
returns-in_err-first t c =
    let there = two_there c.requires.good (sym c.node_at.ensures ∙ c.in_ok-node.was) c.if-subterms-eq0.false c.if-tag-eq-LAMBDA.false in
    rw c.from_residual-in_err-first.ensures (walked_no_first _ _ _ _ _ _ _ _ there.two there.form _ _ c.walk_at.ensures c.in_err-first.was)

pub deciding-t-requires : goal.deciding-t-requires
deciding-t-requires t c =
    let there = two_there c.requires.good (sym c.node_at.ensures ∙ c.in_ok-node.was) c.if-subterms-eq0.false c.if-tag-eq-LAMBDA.false in
    annotated c.requires there.two there.form

pub returns-then-not-can_open : goal.returns-then-not-can_open
returns-then-not-can_open t c =
    let there = two_there c.requires.good (sym c.node_at.ensures ∙ c.in_ok-node.was) c.if-subterms-eq0.false c.if-tag-eq-LAMBDA.false in
    walked_closed _ _ _ _ _ _ _ _ there.two there.form _ _ c.walk_at.ensures _ _ _ c.in_ok-first.was
    _ c.deciding-t.ensures _ c.entry_at-entry-2.ensures (sym c.can_open.ensures ∙ c.if-not-can_open.true)

pub open_scope-inside-requires : goal.open_scope-inside-requires
open_scope-inside-requires t c =
    let there = two_there c.requires.good (sym c.node_at.ensures ∙ c.in_ok-node.was) c.if-subterms-eq0.false c.if-tag-eq-LAMBDA.false in
    let k = c.walk_at.ensures.left _ _ _ c.in_ok-first.was in
    room_there c.requires there.two there.form there.here.bound k.wide k.same

pub walk_at-rest-requires : goal.walk_at-rest-requires
walk_at-rest-requires t c =
    let there = two_there c.requires.good (sym c.node_at.ensures ∙ c.in_ok-node.was) c.if-subterms-eq0.false c.if-tag-eq-LAMBDA.false in
    let second_at : past_first c.args.s.now c.args.at c.in_ok-node.node ≡ c.in_ok-first.first.end = second_is _ _ _ _ _ _ _ _ there.two there.form _ _ c.walk_at.ensures _ _ _ c.in_ok-first.was in
    let k = c.walk_at.ensures.left _ _ _ c.in_ok-first.was in (
      omega (arith, there.here.onward, there.two.onward, there.two.second.inside, second_at),
      ready_second c.requires there.two there.form (sym second_at) there.here.bound k.wide k.same c.open_scope-inside.ensures,
    )

pub are_used-used-requires : goal.are_used-used-requires
are_used-used-requires t c =
    let there = two_there c.requires.good (sym c.node_at.ensures ∙ c.in_ok-node.was) c.if-subterms-eq0.false c.if-tag-eq-LAMBDA.false in
    room_inside c.requires there.two there.form

pub returns : goal.returns
returns t c =
    let there = two_there c.requires.good (sym c.node_at.ensures ∙ c.in_ok-node.was) c.if-subterms-eq0.false c.if-tag-eq-LAMBDA.false in
    let opens : can_open c.in_ok-node.node.tag c.entry_at-entry-2.result.kind ≡ true = sym c.can_open.ensures ∙ c.if-not-can_open.false in
    let w = c.walk_at.ensures in
    let k = w.left _ _ _ c.in_ok-first.was in
    let room = room_inside c.requires there.two there.form in
    walked_two _ _ _ _ _ _ _ _ there.two there.form _ _ w _ _ _ c.in_ok-first.was _ c.deciding-t.ensures _ c.entry_at-entry-2.ensures
    opens c.requires.low (omega (arith, room, k.wide, c.requires.wide)) (omega (arith, room, k.same, c.requires.long)) _ _ _ _ _ _
    c.second_component-q.ensures c.open_scope-inside.ensures c.walk_at-rest.ensures c.are_used-used.ensures c.close_two.ensures
