-- `check_walk::are_used` meets its contract: the tests are those of the definition.
use Rattle.std.proofs.Common.{refl, sym, ◌∙◌}
use Rattle.check_walk.specs.Walk.{all_used}
use Rattle.check_walk.proofs.Walks.{both_used}
use Rattle.check_walk.proofs.are_used.Goals as goal

pub returns-then-binders-eq0 : goal.returns-then-binders-eq0
unfolding all_used
returns-then-binders-eq0 c = rw c.if-binders-eq0.true

pub returns-then-is_used : goal.returns-then-is_used
returns-then-is_used c = both_used _ c.args.marks.now _ c.if-binders-eq0.false (sym c.if-is_used.true ∙ c.is_used.ensures) c.is_used-then-is_used.ensures

pub returns-else-is_used : goal.returns-else-is_used
returns-else-is_used c = c.if-is_used.false ∙ both_used _ c.args.marks.now _ c.if-binders-eq0.false (sym c.if-is_used.false ∙ c.is_used.ensures) refl
