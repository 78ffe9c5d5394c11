-- `check_bays::each_stands` meets its contract. The loop's invariant: the parts passed stand, and `total` is the sum of their nodes.
use Rattle.check_bays.proofs.Standing.{Stood}
use Rattle.check_bays.proofs.each_stands.Given as goal

abbrev pub invariant-loop-bay : goal.invariant-loop-bay
invariant-loop-bay l = Stood l.recipe.bytes.now l.bay l.total
