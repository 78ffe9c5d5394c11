-- `term_subst::is_variable` meets its contract, by its test.
use borrow.Author.Tests.{eq-eqb, ne_eqb}
use Rattle.term_subst.specs.Variable.{is_variable}
use Rattle.term_subst.proofs.is_variable.Goals as goal

pub returns-then-refers-eq-TO_VARIABLE : goal.returns-then-refers-eq-TO_VARIABLE
unfolding is_variable
returns-then-refers-eq-TO_VARIABLE c = simp (eq-eqb _ _ c.if-refers-eq-TO_VARIABLE.true)

pub returns : goal.returns
unfolding is_variable
returns c = simp (ne_eqb _ _ c.if-refers-eq-TO_VARIABLE.false)
