-- `check_prescan::ended` meets its contract.
use borrow.Author.Tests.{le-ltb, lt-ltb}
use Rattle.check_prescan.specs.Stands.{ended}
use Rattle.check_prescan.proofs.ended.Goals as goal

pub returns-then-here-s : goal.returns-then-here-s
unfolding ended
returns-then-here-s c = simp (lt-ltb _ _ c.if-here-s.true)

pub returns : goal.returns
unfolding ended
returns c = simp (le-ltb _ _ c.if-here-s.false)
