-- `check_separate::is_own` meets its contract.
use mathlib.Core.Path.{refl}
use borrow.Author.Tests.{ne_eqb, eq-eqb}
use Rattle.check_separate.specs.Tests.{own_operand}
use Rattle.check_separate.proofs.is_own.Goals as goal

pub returns-then-refers-ne-TO_NAME : goal.returns-then-refers-ne-TO_NAME
unfolding own_operand
returns-then-refers-ne-TO_NAME c = rw (ne_eqb _ _ c.if-refers-ne-TO_NAME.true) refl

pub returns : goal.returns
unfolding own_operand
returns c = rw (eq-eqb _ _ c.if-refers-ne-TO_NAME.false) refl
