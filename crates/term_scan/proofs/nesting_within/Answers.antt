-- `term_scan::nesting_within` meets its contract. The loop's invariant: the terms still to come, with the numbers of nodes above them that the frames are, give
-- the answer (proofs/Nesting.antt). The measure is what is still unread.
use mathlib.Core.Path.{sym, ◌∙◌}
use native.Mathlib.Omega.{arith}
use Rattle.term.proofs.Views.{some_unless}
use Rattle.term_scan.proofs.Nesting.{nesting_deep, nesting_done, nesting_met, nesting_not_bad, nesting_on, nesting_start}
use Rattle.term_scan.proofs.nesting_within.Goals as goal

pub loop-frames-init : goal.loop-frames-init
loop-frames-init c = nesting_start _ _ _ c.requires.0 c.requires.1 c.new-frames.ensures

pub returns-then-limit-above : goal.returns-then-limit-above
returns-then-limit-above c = nesting_deep c.loop-frames.invariant (omega arith) (omega (arith, c.top-above.ensures, c.if-limit-above.true))

pub node_at-requires : goal.node_at-requires
node_at-requires c = c.loop-frames.invariant.seen.inside

pub unwrap-node-requires : goal.unwrap-node-requires
unwrap-node-requires c = some_unless c.node_at.result (λ e. nesting_not_bad c.loop-frames.invariant (omega arith) (sym c.node_at.ensures ∙ e))

pub pass-requires : goal.pass-requires
pass-requires c =
    let m = nesting_met c.loop-frames.invariant (omega arith) (sym c.node_at.ensures ∙ c.unwrap-node.ensures) (omega (arith, c.top-above.ensures)) in
    (omega arith, (m.some, (omega (arith, m.room), m.node.few)))

pub overflow_add-here : goal.overflow_add-here
overflow_add-here c =
    let m = nesting_met c.loop-frames.invariant (omega arith) (sym c.node_at.ensures ∙ c.unwrap-node.ensures) (omega (arith, c.top-above.ensures)) in
    omega (arith, m.node.inside)

pub loop-frames-smaller : goal.loop-frames-smaller
loop-frames-smaller c =
    let m = nesting_met c.loop-frames.invariant (omega arith) (sym c.node_at.ensures ∙ c.unwrap-node.ensures) (omega (arith, c.top-above.ensures)) in
    omega (arith, m.node.inside, m.node.onward)

pub loop-frames-preserved : goal.loop-frames-preserved
loop-frames-preserved c =
    nesting_on c.loop-frames.invariant (omega arith) (sym c.node_at.ensures ∙ c.unwrap-node.ensures) (omega (arith, c.top-above.ensures))
    (rw c.top-above.ensures at c.pass.ensures)

pub returns : goal.returns
returns c = nesting_done c.loop-frames.invariant (omega arith)
