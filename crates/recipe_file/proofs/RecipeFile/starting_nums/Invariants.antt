-- `recipe_file::RecipeFile::starting_nums` meets its contract. The loop's invariant: the nums of the bays passed stand in the array.
use Rattle.recipe_file.proofs.Starting.{NumsRead}
use Rattle.recipe_file.proofs.RecipeFile.starting_nums.Given as goal

abbrev pub invariant-loop-bay : goal.invariant-loop-bay
invariant-loop-bay l = NumsRead l.self.bytes.now l.bay l.nums
