-- `recipe_table::entry_stands` meets its contract.
use Rattle.recipe_table.proofs.Rules.{plain_zero, plain_not, cell_below, cell_not, two_below, two_not, list_zero, list_not, kind_known, kind_not, unknown}
use Rattle.recipe_table.proofs.entry_stands.Goals as goal

pub returns-then-kinds-kind : goal.returns-then-kinds-kind
returns-then-kinds-kind c = kind_not _ _ _ c.if-kinds-kind.true

pub returns-then-p-eq0 : goal.returns-then-p-eq0
returns-then-p-eq0 c = kind_known _ _ _ c.if-kinds-kind.false (plain_zero _ _ _ _ c.if-kind-le-NUM.true c.if-p-eq0.true)

pub returns-else-p-eq0 : goal.returns-else-p-eq0
returns-else-p-eq0 c = kind_known _ _ _ c.if-kinds-kind.false (plain_not _ _ _ _ c.if-kind-le-NUM.true c.if-p-eq0.false)

pub returns-then-p-k : goal.returns-then-p-k
returns-then-p-k c = kind_known _ _ _ c.if-kinds-kind.false (cell_below _ _ _ _ c.if-kind-eq-CELL.true c.if-p-k.true)

pub returns-else-p-k : goal.returns-else-p-k
returns-else-p-k c = kind_known _ _ _ c.if-kinds-kind.false (cell_not _ _ _ _ c.if-kind-eq-CELL.true c.if-p-k.false)

pub returns-then-p-k-2 : goal.returns-then-p-k-2
returns-then-p-k-2 c = kind_known _ _ _ c.if-kinds-kind.false (two_below _ _ _ _ c.if-kind-le-NUM.false c.if-kind-eq-CELL.false c.if-kind-le-MANY_PAIR.true c.if-p-k-2.true)

pub returns-else-p-k-2 : goal.returns-else-p-k-2
returns-else-p-k-2 c = kind_known _ _ _ c.if-kinds-kind.false (two_not _ _ _ _ c.if-kind-le-NUM.false c.if-kind-eq-CELL.false c.if-kind-le-MANY_PAIR.true c.if-p-k-2.false)

pub returns-then-q-eq0 : goal.returns-then-q-eq0
returns-then-q-eq0 c = kind_known _ _ _ c.if-kinds-kind.false (list_zero _ _ _ _ c.if-kind-le-MANY_PAIR.false c.if-kind-le-MANY_LIST.true c.if-q-eq0.true)

pub returns-else-q-eq0 : goal.returns-else-q-eq0
returns-else-q-eq0 c = kind_known _ _ _ c.if-kinds-kind.false (list_not _ _ _ _ c.if-kind-le-MANY_PAIR.false c.if-kind-le-MANY_LIST.true c.if-q-eq0.false)

pub returns : goal.returns
returns c = kind_known _ _ _ c.if-kinds-kind.false (unknown _ _ _ _ c.if-kind-le-MANY_PAIR.false c.if-kind-le-MANY_LIST.false)
