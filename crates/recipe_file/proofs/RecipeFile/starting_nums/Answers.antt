-- `recipe_file::RecipeFile::starting_nums` meets its contract. The loop's invariant: the nums of the bays passed stand in the array.
use Rattle.recipe_file.proofs.LaidOut.{laid_where}
use Rattle.recipe_file.proofs.Starting.{one_more, read_all, read_next, read_none}
use Rattle.recipe_file.proofs.RecipeFile.starting_nums.Goals as goal

pub loop-bay-init : goal.loop-bay-init
loop-bay-init c = read_none _

pub bounds-nums-bay : goal.bounds-nums-bay
bounds-nums-bay c = one_more c.starting-starting.ensures (laid_where _ c.args.self.laid) c.requires _ c.loop-bay-test.true

pub loop-bay-preserved : goal.loop-bay-preserved
loop-bay-preserved c =
    read_next c.starting-starting.ensures (laid_where _ c.args.self.laid) c.requires _ c.loop-bay-test.true c.loop-bay.invariant _ c.word_at.ensures.0

pub returns : goal.returns
returns c = read_all c.starting-starting.ensures (laid_where _ c.args.self.laid) c.requires _ c.loop-bay.invariant c.loop-bay-test.false
