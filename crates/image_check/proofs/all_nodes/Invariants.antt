-- `image_check::all_nodes` meets its contract. The loop's invariant: the names passed have taken their nodes off the budget (proofs/Budgets.antt).
use Rattle.image_check.proofs.Budgets.{Spent}
use Rattle.image_check.proofs.all_nodes.Given as goal

abbrev pub invariant-loop-k : goal.invariant-loop-k
invariant-loop-k l = Spent l.image l.names l.k l.left
