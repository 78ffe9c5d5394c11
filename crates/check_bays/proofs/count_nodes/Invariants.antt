-- `check_bays::count_nodes` meets its contract. The loop's invariant: the parts passed are terms, and `total` is the sum of their nodes.
use Rattle.check_bays.proofs.Counting.{NodesCounted}
use Rattle.check_bays.proofs.count_nodes.Given as goal

abbrev pub invariant-loop-bay : goal.invariant-loop-bay
invariant-loop-bay l = NodesCounted l.recipe.bytes.now l.bay l.total
