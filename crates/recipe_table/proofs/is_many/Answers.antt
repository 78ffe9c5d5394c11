-- `recipe_table::is_many` meets its contract.
use borrow.Author.Tests.{eq-eqb, ne_eqb}
use Rattle.recipe_table.proofs.is_many.Goals as goal

pub returns-then-kind-eq-ONCE : goal.returns-then-kind-eq-ONCE
returns-then-kind-eq-ONCE c = simp (eq-eqb _ _ c.if-kind-eq-ONCE.true)

pub returns-then-kind-eq-ONCE_PAIR : goal.returns-then-kind-eq-ONCE_PAIR
returns-then-kind-eq-ONCE_PAIR c = simp (ne_eqb _ _ c.if-kind-eq-ONCE.false, eq-eqb _ _ c.if-kind-eq-ONCE_PAIR.true)

pub returns : goal.returns
returns c = simp (ne_eqb _ _ c.if-kind-eq-ONCE.false, ne_eqb _ _ c.if-kind-eq-ONCE_PAIR.false)
