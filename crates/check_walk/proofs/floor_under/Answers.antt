-- `check_walk::floor_under` meets its contract: the test of the code is that of the definition.
use borrow.Author.Tests.{eq-eqb, ne_eqb}
use Rattle.check_linearity.specs.Levels.{floor_under}
use Rattle.check_walk.proofs.floor_under.Goals as goal

pub returns-then-kind-eq-ONCE : goal.returns-then-kind-eq-ONCE
unfolding floor_under
returns-then-kind-eq-ONCE c = simp (eq-eqb _ _ c.if-kind-eq-ONCE.true)

pub returns : goal.returns
unfolding floor_under
returns c = simp (ne_eqb _ _ c.if-kind-eq-ONCE.false)
