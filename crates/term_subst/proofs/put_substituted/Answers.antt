-- `term_subst::put_substituted` meets its contract. The loop's invariant: what is written, and what is still to be written of the terms to come, is the
-- outcome (proofs/Putting.antt). The measure is what is still unread.
use mathlib.Core.Path.{sym, ◌∙◌}
use native.Mathlib.Omega.{arith}
use Rattle.term.proofs.Views.{some_unless}
use Rattle.buffer.proofs.Theory.Writes.{same}
use Rattle.term_scan.proofs.Going.{going_not_bad}
use Rattle.term_subst.proofs.Putting.{putting_asks, putting_copied, putting_done, putting_met, putting_on, putting_start}
use Rattle.term_subst.proofs.put_substituted.Goals as goal

pub loop-inner-init : goal.loop-inner-init
loop-inner-init c =
    let p = c.requires in
    putting_start _ _ _ _ _ _ (λ i. omega (arith, c.type_inv.s i)) p.good.0 p.good.1
    (record { good = p.good_inner.0; ends = p.good_inner.1 }) (record { good = p.good_outer.0; ends = p.good_outer.1 }) p.room c.new-frames.ensures

pub unwrap-node-requires : goal.unwrap-node-requires
unwrap-node-requires c =
    some_unless c.node_at.result (λ e. going_not_bad c.loop-inner.invariant.going (omega arith) c.loop-inner.invariant.good (sym c.node_at.ensures ∙ e))

pub overflow_add-last : goal.overflow_add-last
overflow_add-last c =
    let m = putting_met c.loop-inner.invariant (omega arith) (sym c.node_at.ensures ∙ c.unwrap-node.ensures) in
    omega (arith, m.node.bound, m.low, c.top-around.ensures)

pub overflow_add-past : goal.overflow_add-past
overflow_add-past c =
    let m = putting_met c.loop-inner.invariant (omega arith) (sym c.node_at.ensures ∙ c.unwrap-node.ensures) in
    omega (arith, m.node.inside)

pub span_for-span-requires : goal.span_for-span-requires
span_for-span-requires c =
    let m = putting_met c.loop-inner.invariant (omega arith) (sym c.node_at.ensures ∙ c.unwrap-node.ensures) in
    omega (arith, m.low, c.top-around.ensures)

pub put_part-next-requires : goal.put_part-next-requires
put_part-next-requires c =
    let is = sym c.node_at.ensures ∙ c.unwrap-node.ensures in
    putting_asks c.loop-inner.invariant (omega arith) is
    (putting_copied c.loop-inner.invariant (omega arith) is (rw c.top-around.ensures at c.span_for-span.ensures))

pub pass-requires : goal.pass-requires
pass-requires c =
    let m = putting_met c.loop-inner.invariant (omega arith) (sym c.node_at.ensures ∙ c.unwrap-node.ensures) in
    (omega arith, (m.some, (m.room, m.node.few)))

pub loop-inner-smaller : goal.loop-inner-smaller
loop-inner-smaller c =
    let m = putting_met c.loop-inner.invariant (omega arith) (sym c.node_at.ensures ∙ c.unwrap-node.ensures) in
    omega (arith, m.node.inside, m.node.onward)

pub loop-inner-preserved : goal.loop-inner-preserved
loop-inner-preserved c =
    let is = sym c.node_at.ensures ∙ c.unwrap-node.ensures in
    putting_on c.loop-inner.invariant (omega arith) is
    (putting_copied c.loop-inner.invariant (omega arith) is (rw c.top-around.ensures at c.span_for-span.ensures)) c.put_part-next.ensures
    (rw c.top-around.ensures at c.pass.ensures)

pub shape_of-out : goal.shape_of-out
shape_of-out c = same c.loop-inner.invariant.wrote

pub returns : goal.returns
returns c = putting_done c.loop-inner.invariant (omega arith)
