-- The measure of `walk_at`: the part still unread.
use Rattle.std.proofs.Common.{length, ◌-◌}
use Rattle.check_walk.proofs.+walk_at.Given as goal

abbrev pub decreases-walk_at : goal.decreases-walk_at
decreases-walk_at l = length l.s.now - l.at
