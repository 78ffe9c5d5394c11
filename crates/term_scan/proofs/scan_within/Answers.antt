-- `term_scan::scan_within` meets its contract. The loop's invariant: the terms still to come give the answer, and the nodes read are within the budget
-- (proofs/Editions.antt). The measure is what is still unread.
use mathlib.Core.Path.{sym, ◌∙◌}
use native.Mathlib.Omega.{arith}
use Rattle.term_scan.proofs.Plain.{asking_node}
use Rattle.term_scan.proofs.Editions.{within_bad, within_done, within_on, within_out, within_over, within_start}
use Rattle.term_scan.proofs.scan_within.Goals as goal

pub loop-waits-init : goal.loop-waits-init
loop-waits-init c = within_start _ _ _ _ c.requires

pub returns-then-budget-nodes : goal.returns-then-budget-nodes
returns-then-budget-nodes c = within_over c.loop-waits.invariant (omega (arith, c.loop-waits-test.true))

pub node_at-requires : goal.node_at-requires
node_at-requires c = c.loop-waits.invariant.asking.seen.inside

pub returns-in_err-node : goal.returns-in_err-node
returns-in_err-node c = rw c.from_residual.ensures (within_bad c.loop-waits.invariant c.loop-waits-test.true (sym c.node_at.ensures ∙ c.in_err-node.was))

pub returns-then-forms-tag : goal.returns-then-forms-tag
returns-then-forms-tag c = within_out c.loop-waits.invariant c.loop-waits-test.true (sym c.node_at.ensures ∙ c.in_ok-node.was) c.if-forms-tag.true

pub overflow_add-here : goal.overflow_add-here
overflow_add-here c =
    let more = asking_node c.loop-waits.invariant.asking c.loop-waits-test.true (sym c.node_at.ensures ∙ c.in_ok-node.was) in
    omega (arith, more.seen.inside)

pub overflow_add-nodes : goal.overflow_add-nodes
overflow_add-nodes c =
    let more = asking_node c.loop-waits.invariant.asking c.loop-waits-test.true (sym c.node_at.ensures ∙ c.in_ok-node.was) in
    omega (arith, more.seen.inside, more.seen.passed)

pub overflow_cast-waits : goal.overflow_cast-waits
overflow_cast-waits c =
    let more = asking_node c.loop-waits.invariant.asking c.loop-waits-test.true (sym c.node_at.ensures ∙ c.in_ok-node.was) in
    omega (arith, more.node.few)

pub overflow_add-waits : goal.overflow_add-waits
overflow_add-waits c =
    let more = asking_node c.loop-waits.invariant.asking c.loop-waits-test.true (sym c.node_at.ensures ∙ c.in_ok-node.was) in
    omega (arith, more.seen.inside, more.seen.passed, more.seen.few, c.well_formed.0.1)

pub loop-waits-smaller : goal.loop-waits-smaller
loop-waits-smaller c =
    let more = asking_node c.loop-waits.invariant.asking c.loop-waits-test.true (sym c.node_at.ensures ∙ c.in_ok-node.was) in
    omega (arith, more.node.inside, more.node.onward)

pub loop-waits-preserved : goal.loop-waits-preserved
loop-waits-preserved c =
    within_on c.loop-waits.invariant c.loop-waits-test.true (sym c.node_at.ensures ∙ c.in_ok-node.was) (omega arith) c.if-forms-tag.false

pub returns : goal.returns
returns c = within_done c.loop-waits.invariant (omega (arith, c.loop-waits-test.false))
