-- `image_check::all_nodes` meets its contract. The loop's invariant: the names passed have taken their nodes off the budget (proofs/Budgets.antt).
use mathlib.Core.Path.{sym, ◌∙◌}
use native.Mathlib.Omega.{arith}
use Rattle.image_layout.proofs.Theory.Reading.{has_names}
use Rattle.image_check.proofs.Budgets.{enough, spent_all, spent_fault, spent_none, spent_one}
use Rattle.image_check.proofs.all_nodes.Goals as goal

pub names_of-names-requires : goal.names_of-names-requires
names_of-names-requires c = has_names _ c.requires

pub loop-k-init : goal.loop-k-init
loop-k-init c = spent_none _ _ c.names_of-names.ensures.0 c.requires

pub returns-in_err-nodes : goal.returns-in_err-nodes
returns-in_err-nodes c = rw c.from_residual.ensures (spent_fault c.loop-k.invariant (omega arith) (sym c.in_err-nodes.was ∙ c.component_nodes.ensures))

pub overflow_sub-left : goal.overflow_sub-left
overflow_sub-left c = enough c.loop-k.invariant (omega arith) _ (sym c.in_ok-nodes.was ∙ c.component_nodes.ensures)

pub loop-k-preserved : goal.loop-k-preserved
loop-k-preserved c = spent_one c.loop-k.invariant (omega arith) _ (sym c.in_ok-nodes.was ∙ c.component_nodes.ensures)

pub returns : goal.returns
returns c = spent_all c.loop-k.invariant (omega arith)
