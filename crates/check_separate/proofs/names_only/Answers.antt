-- `check_separate::names_only` meets its contract. The loop's invariant: the terms still to come give the answer (proofs/Owning.antt). The measure is what is
-- still unread.
use Rattle.term.proofs.Views.{some_unless}
use mathlib.Core.Path.{sym, ◌∙◌}
use native.Mathlib.Omega.{arith}
use Rattle.check_separate.proofs.Owning.{owning_done, owning_node, owning_not_bad, owning_on, owning_out, owning_start}
use Rattle.check_separate.proofs.names_only.Goals as goal

pub loop-waits-init : goal.loop-waits-init
loop-waits-init c = owning_start _ c.requires

pub node_at-requires : goal.node_at-requires
node_at-requires c = c.loop-waits.invariant.asking.seen.inside

pub unwrap-node-requires : goal.unwrap-node-requires
unwrap-node-requires c = some_unless c.node_at.result (λ e. (owning_not_bad c.loop-waits.invariant c.loop-waits-test.true
    (sym c.node_at.ensures ∙ e)))

pub returns-then-not-is_own : goal.returns-then-not-is_own
returns-then-not-is_own c =
    owning_out c.loop-waits.invariant c.loop-waits-test.true (sym c.node_at.ensures ∙ c.unwrap-node.ensures) (sym c.is_own.ensures ∙ c.if-not-is_own.true)

pub overflow_add-here : goal.overflow_add-here
overflow_add-here c =
    let more = owning_node c.loop-waits.invariant c.loop-waits-test.true (sym c.node_at.ensures ∙ c.unwrap-node.ensures) in
    omega (arith, more.seen.inside)

pub overflow_sub-waits : goal.overflow_sub-waits
overflow_sub-waits c =
    omega (arith, c.loop-waits-test.true)

pub overflow_cast-waits : goal.overflow_cast-waits
overflow_cast-waits c =
    let more = owning_node c.loop-waits.invariant c.loop-waits-test.true (sym c.node_at.ensures ∙ c.unwrap-node.ensures) in
    omega (arith, more.node.few)

pub overflow_add-waits : goal.overflow_add-waits
overflow_add-waits c =
    let more = owning_node c.loop-waits.invariant c.loop-waits-test.true (sym c.node_at.ensures ∙ c.unwrap-node.ensures) in
    omega (arith, more.seen.inside, more.seen.passed, more.seen.few, c.well_formed.0.1)

pub loop-waits-smaller : goal.loop-waits-smaller
loop-waits-smaller c =
    let more = owning_node c.loop-waits.invariant c.loop-waits-test.true (sym c.node_at.ensures ∙ c.unwrap-node.ensures) in
    omega (arith, more.node.inside, more.node.onward)

pub loop-waits-preserved : goal.loop-waits-preserved
loop-waits-preserved c =
    owning_on c.loop-waits.invariant c.loop-waits-test.true (sym c.node_at.ensures ∙ c.unwrap-node.ensures) (sym c.is_own.ensures ∙ c.if-not-is_own.false)

pub returns : goal.returns
returns c = owning_done c.loop-waits.invariant (omega (arith, c.loop-waits-test.false))
