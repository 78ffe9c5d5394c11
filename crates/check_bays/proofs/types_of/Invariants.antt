-- `check_bays::types_of` meets its contract. The loop's invariant: the bays passed have types, and their numbers stand in the array.
use Rattle.check_bays.proofs.Typing.{Typing}
use Rattle.check_bays.proofs.types_of.Given as goal

abbrev pub invariant-loop-bay : goal.invariant-loop-bay
invariant-loop-bay l = Typing l.recipe.bytes.now l.bay l.linear l.many l.numbers
