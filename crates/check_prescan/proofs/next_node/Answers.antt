-- `check_prescan::next_node` meets its contract.
use mathlib.Core.Path.{sym, ◌∙◌}
use native.Mathlib.Omega.{arith}
use Rattle.term.proofs.Views.{node_there, small_arg}
use Rattle.check_prescan.proofs.Tests.{next_bad, next_picked}
use Rattle.check_prescan.proofs.next_node.Goals as goal

pub returns-in_err-node : goal.returns-in_err-node
returns-in_err-node c = rw c.from_residual.ensures (next_bad _ _ _ _ (sym c.node_at.ensures ∙ c.in_err-node.was))

pub node_stands-requires : goal.node_stands-requires
node_stands-requires c =
    let is = sym c.node_at.ensures ∙ c.in_ok-node.was in
    let n = node_there c.requires.1 is in
    (c.requires.0, record { known = n.form.known; refers = n.refers; small = small_arg _ _ (λ i. omega (arith, c.shared_slice_known-2-1.given i)) is })

pub returns-then-not-node_stands : goal.returns-then-not-node_stands
returns-then-not-node_stands c = next_picked _ _ _ _ (sym c.node_at.ensures ∙ c.in_ok-node.was) (sym c.node_stands.ensures ∙ c.if-not-node_stands.true)

pub returns : goal.returns
returns c = next_picked _ _ _ _ (sym c.node_at.ensures ∙ c.in_ok-node.was) (sym c.node_stands.ensures ∙ c.if-not-node_stands.false)
