-- `check_walk::walk` meets its contract: the walk begins below no lambda.
use mathlib.Core.Path.{refl}
use Rattle.check_walk.proofs.Ways.{ready_whole}
use Rattle.check_walk.proofs.Together.{walked_whole}
use Rattle.check_walk.proofs.walk.Goals as goal

pub walk_at-requires : goal.walk_at-requires
walk_at-requires c = ready_whole c.requires refl refl

pub returns : goal.returns
returns c = walked_whole c.walk_at.ensures
