-- `check_walk::open_scope` meets its contract: a case's two variables stand where the definition puts them.
use Rattle.std.proofs.lemmas.List.{map-set}
use Rattle.check_walk.proofs.Walks.{opened_both, opened_none}
use Rattle.check_walk.proofs.open_scope.Goals as goal

pub returns-then-binders-eq0 : goal.returns-then-binders-eq0
returns-then-binders-eq0 c = opened_none _ _ c.if-binders-eq0.true

pub returns : goal.returns
returns c = simp map-set (opened_both _ c.if-binders-eq0.false c.new_mark.ensures c.new_mark-2.ensures)
