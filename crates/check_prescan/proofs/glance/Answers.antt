-- `check_prescan::glance` meets its contract. The loop's invariant: the terms still to come give the answer (proofs/Glancing.antt). The measure: a node takes a byte.
use mathlib.Core.Path.{sym, ◌∙◌}
use native.Mathlib.Omega.{arith}
use Rattle.check_prescan.proofs.Glancing.{glancing_bad, glancing_end, glancing_met, glancing_on, glancing_start}
use Rattle.check_prescan.proofs.glance.Goals as goal

pub loop-frames-init : goal.loop-frames-init
loop-frames-init c = glancing_start _ _ _ _ c.new-frames.ensures

pub next_node-requires : goal.next_node-requires
next_node-requires c = (c.requires, c.loop-frames.invariant.seen.inside)

pub returns-in_err-node : goal.returns-in_err-node
returns-in_err-node c =
    rw c.from_residual.ensures
    (glancing_bad c.loop-frames.invariant (omega arith) (rw c.top-frame.ensures at (sym c.next_node.ensures ∙ c.in_err-node.was)))

pub overflow_add-below : goal.overflow_add-below
overflow_add-below c =
    let m = glancing_met c.loop-frames.invariant (omega arith) (rw c.top-frame.ensures at (sym c.next_node.ensures ∙ c.in_ok-node.was)) in
    omega (arith, m.high, c.top-frame.ensures)

pub overflow_add-below-in-loop-frames : goal.overflow_add-below-in-loop-frames
overflow_add-below-in-loop-frames c =
    let m = glancing_met c.loop-frames.invariant (omega arith) (rw c.top-frame.ensures at (sym c.next_node.ensures ∙ c.in_ok-node.was)) in
    omega (arith, m.high, m.more.node.bound, c.top-frame.ensures)

pub pass-requires : goal.pass-requires
pass-requires c =
    let m = glancing_met c.loop-frames.invariant (omega arith) (rw c.top-frame.ensures at (sym c.next_node.ensures ∙ c.in_ok-node.was)) in
    (omega arith, (omega arith, (omega (arith, m.room), m.more.node.few)))

pub overflow_add-here : goal.overflow_add-here
overflow_add-here c =
    let m = glancing_met c.loop-frames.invariant (omega arith) (rw c.top-frame.ensures at (sym c.next_node.ensures ∙ c.in_ok-node.was)) in
    omega (arith, m.more.node.inside)

pub overflow_add-nodes : goal.overflow_add-nodes
overflow_add-nodes c =
    let m = glancing_met c.loop-frames.invariant (omega arith) (rw c.top-frame.ensures at (sym c.next_node.ensures ∙ c.in_ok-node.was)) in
    omega (arith, m.more.seen.passed, m.more.seen.inside)

pub loop-frames-smaller : goal.loop-frames-smaller
loop-frames-smaller c =
    let m = glancing_met c.loop-frames.invariant (omega arith) (rw c.top-frame.ensures at (sym c.next_node.ensures ∙ c.in_ok-node.was)) in
    omega (arith, m.more.node.inside, m.more.node.onward)

pub loop-frames-preserved : goal.loop-frames-preserved
loop-frames-preserved c =
    let m = glancing_met c.loop-frames.invariant (omega arith) (rw c.top-frame.ensures at (sym c.next_node.ensures ∙ c.in_ok-node.was)) in
    glancing_on c.loop-frames.invariant (omega arith) m.next.is m.next.stood (rw c.top-frame.ensures at c.pass.ensures)

pub returns : goal.returns
returns c = c.ended.ensures ∙ glancing_end c.loop-frames.invariant (omega arith)
