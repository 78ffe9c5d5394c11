-- `step_shares::shares_after` meets its contract. The loop's invariant: the bays passed are within their shares (proofs/Weighing.antt).
use mathlib.Core.Path.{◌∙◌, sym}
use native.Mathlib.Omega.{arith}
use Rattle.step_shares.proofs.Weighing.{enough, kept_is, passed_all, passed_fault, passed_none, passed_one}
use Rattle.step_shares.proofs.shares_after.Goals as goal

pub loop-k-init : goal.loop-k-init
loop-k-init c = passed_none _ _ _

pub names_left-names_then-requires : goal.names_left-names_then-requires
names_left-names_then-requires c = (c.tally_of-tally.ensures.few_names _ (omega (arith, c.loop-k-test.true, c.bays_of-bays.ensures.1)), c.flow_of-flow.ensures.1)

pub nodes_left-nodes_then-requires : goal.nodes_left-nodes_then-requires
nodes_left-nodes_then-requires c =
    let tallied = c.tally_of-tally.ensures in
    let (changed, few) = c.flow_of-flow.ensures in
    ((tallied.few_nodes _ (omega (arith, c.loop-k-test.true, c.bays_of-bays.ensures.1)), few), enough tallied changed _ (omega (arith, c.loop-k-test.true, c.bays_of-bays.ensures.1)))

pub returns-then-not-within_share : goal.returns-then-not-within_share
returns-then-not-within_share c =
    passed_fault _ _ c.tally_of-tally.ensures c.flow_of-flow.ensures.0 c.bays_of-bays.ensures c.loop-k.invariant c.loop-k-test.true
    (sym (kept_is _ _ _ _ _ c.names_left-names_then.ensures c.nodes_left-nodes_then.ensures) ∙ sym c.within_share.ensures ∙ c.if-not-within_share.true)

pub loop-k-preserved : goal.loop-k-preserved
loop-k-preserved c =
    passed_one c.loop-k.invariant c.loop-k-test.true
    (sym (kept_is _ _ _ _ _ c.names_left-names_then.ensures c.nodes_left-nodes_then.ensures) ∙ sym c.within_share.ensures ∙ c.if-not-within_share.false)

pub returns : goal.returns
returns c = passed_all _ _ c.tally_of-tally.ensures c.flow_of-flow.ensures.0 c.bays_of-bays.ensures c.loop-k.invariant c.loop-k-test.false
