-- `term_scan::scan_scoped` meets its contract. The loop's invariant: the terms still to come, with their frames, give the answer (proofs/Scanning.antt). The
-- measure is what is still unread.
use mathlib.Core.Path.{sym, ◌∙◌}
use native.Mathlib.Omega.{arith}
use Rattle.calculus.specs.Bytes.{Bytes}
use Rattle.term.proofs.Views.{small_arg}
use Rattle.term_scan.proofs.Scanning.{scanning_bad, scanning_done, scanning_loose, scanning_met, scanning_on, scanning_over, scanning_start}
use Rattle.term_scan.proofs.scan_scoped.Goals as goal

pub loop-frames-init : goal.loop-frames-init
loop-frames-init c = scanning_start _ _ _ _ _ c.requires.0 c.requires.1 c.restart.ensures

pub returns-then-limit-nodes : goal.returns-then-limit-nodes
returns-then-limit-nodes c = scanning_over c.loop-frames.invariant (omega arith)

pub returns-in_err-node : goal.returns-in_err-node
returns-in_err-node c = rw c.from_residual.ensures (scanning_bad c.loop-frames.invariant (omega arith) (sym c.node_at.ensures ∙ c.in_err-node.was))

pub is_there-requires : goal.is_there-requires
is_there-requires c =
    let m = scanning_met c.loop-frames.invariant (omega arith) (sym c.node_at.ensures ∙ c.in_ok-node.was) (omega arith) in
    let bytes : Bytes c.args.s.now = λ i. omega (arith, c.type_inv.s i) in
    (m.node.referent, small_arg _ _ bytes m.is)

pub returns-then-not-is_there : goal.returns-then-not-is_there
returns-then-not-is_there c =
    scanning_loose c.loop-frames.invariant (omega arith) (sym c.node_at.ensures ∙ c.in_ok-node.was)
    (rw c.top-around.ensures at (sym c.is_there.ensures ∙ c.if-not-is_there.true))

pub overflow_add-around : goal.overflow_add-around
overflow_add-around c =
    let m = scanning_met c.loop-frames.invariant (omega arith) (sym c.node_at.ensures ∙ c.in_ok-node.was) (omega arith) in
    omega (arith, m.node.bound, m.low, c.top-around.ensures)

pub pass-requires : goal.pass-requires
pass-requires c =
    let m = scanning_met c.loop-frames.invariant (omega arith) (sym c.node_at.ensures ∙ c.in_ok-node.was) (omega arith) in
    (omega arith, (m.some, (m.room, m.node.few)))

pub overflow_add-here : goal.overflow_add-here
overflow_add-here c =
    let m = scanning_met c.loop-frames.invariant (omega arith) (sym c.node_at.ensures ∙ c.in_ok-node.was) (omega arith) in
    omega (arith, m.node.inside)

pub overflow_add-nodes-in-loop-frames : goal.overflow_add-nodes-in-loop-frames
overflow_add-nodes-in-loop-frames c = omega (arith, c.loop-frames.invariant.limited)

pub loop-frames-smaller : goal.loop-frames-smaller
loop-frames-smaller c =
    let m = scanning_met c.loop-frames.invariant (omega arith) (sym c.node_at.ensures ∙ c.in_ok-node.was) (omega arith) in
    omega (arith, m.node.inside, m.node.onward)

pub loop-frames-preserved : goal.loop-frames-preserved
loop-frames-preserved c =
    scanning_on c.loop-frames.invariant (omega arith) (sym c.node_at.ensures ∙ c.in_ok-node.was) (omega arith)
    (rw c.top-around.ensures at (sym c.is_there.ensures ∙ c.if-not-is_there.false))
    (rw c.top-around.ensures at c.pass.ensures)

pub returns : goal.returns
returns c = scanning_done c.loop-frames.invariant (omega arith)
