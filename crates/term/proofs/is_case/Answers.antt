-- `term::is_case` meets its contract: the tests are those of the definition.
use borrow.Author.Tests.{eq-eqb, ne_eqb}
use Rattle.term.specs.Forms.{case_pair_tag, is_case_tag}
use Rattle.term.proofs.is_case.Goals as goal

pub returns-then-tag-eq-CASE_PAIR : goal.returns-then-tag-eq-CASE_PAIR
unfolding is_case_tag
returns-then-tag-eq-CASE_PAIR c = simp (eq-eqb c.args.tag case_pair_tag c.if-tag-eq-CASE_PAIR.true)

pub returns-else-tag-eq-CASE_PAIR : goal.returns-else-tag-eq-CASE_PAIR
unfolding is_case_tag
returns-else-tag-eq-CASE_PAIR c = simp (ne_eqb c.args.tag case_pair_tag c.if-tag-eq-CASE_PAIR.false)
