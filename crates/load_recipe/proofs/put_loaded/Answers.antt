-- `load_recipe::put_loaded` meets its contract.
use Rattle.check_spec.proofs.Theory.Accepted.{laid_and_started}
use Rattle.load_recipe.proofs.Answers.{put}
use Rattle.load_recipe.proofs.put_loaded.Goals as goal

pub starting_nums-nums-requires : goal.starting_nums-nums-requires
starting_nums-nums-requires c = (laid_and_started _ c.requires.0).1

pub put_starting-length-requires : goal.put_starting-length-requires
put_starting-length-requires c = let p = c.requires in (p.0, p.2, c.starting_nums-nums.ensures)

pub returns : goal.returns
returns c =
    let p = c.requires in
    let (value, out_after) = put c.args.recipe.bytes.now c.args.out.now _ p.0 p.1 p.2 c.put_starting-length.ensures in
    record { value = value; out_after = out_after }
