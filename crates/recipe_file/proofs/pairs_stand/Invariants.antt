-- `recipe_file::pairs_stand` meets its contract. The loop's invariant: the pairs passed keep the layout, so that those still to come decide.
use Rattle.recipe_file.proofs.Walks.{PairsWalked}
use Rattle.recipe_file.proofs.pairs_stand.Given as goal

abbrev pub invariant-loop-pair : goal.invariant-loop-pair
invariant-loop-pair l = PairsWalked l.recipe l.n l.pair l.end
