-- `step_separate::Separate::has_room` meets its contract.
use Rattle.step_look.proofs.Theory.Answers.{left_fits}
use Rattle.step_shares.specs.Leaving.{shares_after}
use Rattle.step_separate.proofs.SeparateProfile.has_room.Goals as goal

pub returns : goal.returns
unfolding shares_after
returns c = rw (left_fits c.requires) c.shares_after.ensures
