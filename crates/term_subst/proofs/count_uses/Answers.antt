-- `term_subst::count_uses` meets its contract. The loop's invariant: the uses counted and those in the terms still to come are those of the term
-- (proofs/Counting.antt). The measure is what is still unread.
use mathlib.Core.Path.{sym, ◌∙◌}
use native.Mathlib.Omega.{arith}
use Rattle.term.proofs.Views.{some_unless}
use Rattle.term_scan.proofs.Going.{going_not_bad}
use Rattle.term_subst.proofs.Counting.{counting_done, counting_met, counting_on, counting_room, counting_start}
use Rattle.term_subst.proofs.count_uses.Goals as goal

pub loop-frames-init : goal.loop-frames-init
loop-frames-init c = counting_start _ _ c.requires.0 c.requires.1 c.new-frames.ensures

pub unwrap-node-requires : goal.unwrap-node-requires
unwrap-node-requires c =
    some_unless c.node_at.result (λ e. going_not_bad c.loop-frames.invariant.going (omega arith) c.loop-frames.invariant.good (sym c.node_at.ensures ∙ e))

pub overflow_add-last : goal.overflow_add-last
overflow_add-last c =
    let m = counting_met c.loop-frames.invariant (omega arith) (sym c.node_at.ensures ∙ c.unwrap-node.ensures) in
    omega (arith, m.node.bound, m.low, c.top-around.ensures)

pub overflow_add-nodes : goal.overflow_add-nodes
overflow_add-nodes c = omega (arith, (counting_room c.loop-frames.invariant (omega arith)).0)

pub overflow_add-inner : goal.overflow_add-inner
overflow_add-inner c = omega (arith, (counting_room c.loop-frames.invariant (omega arith)).1.0, c.use_of-inner.ensures.1)

pub overflow_add-outer : goal.overflow_add-outer
overflow_add-outer c = omega (arith, (counting_room c.loop-frames.invariant (omega arith)).1.1, c.use_of-outer.ensures.1)

pub pass-requires : goal.pass-requires
pass-requires c =
    let m = counting_met c.loop-frames.invariant (omega arith) (sym c.node_at.ensures ∙ c.unwrap-node.ensures) in
    (omega arith, (m.some, (m.room, m.node.few)))

pub overflow_add-here : goal.overflow_add-here
overflow_add-here c =
    let m = counting_met c.loop-frames.invariant (omega arith) (sym c.node_at.ensures ∙ c.unwrap-node.ensures) in
    omega (arith, m.node.inside)

pub loop-frames-smaller : goal.loop-frames-smaller
loop-frames-smaller c =
    let m = counting_met c.loop-frames.invariant (omega arith) (sym c.node_at.ensures ∙ c.unwrap-node.ensures) in
    omega (arith, m.node.inside, m.node.onward)

pub loop-frames-preserved : goal.loop-frames-preserved
loop-frames-preserved c =
    rw (c.use_of-inner.ensures.0, c.use_of-outer.ensures.0, c.top-around.ensures)
    (counting_on c.loop-frames.invariant (omega arith) (sym c.node_at.ensures ∙ c.unwrap-node.ensures) (rw c.top-around.ensures at c.pass.ensures))

pub returns : goal.returns
returns c = counting_done c.loop-frames.invariant (omega arith)
