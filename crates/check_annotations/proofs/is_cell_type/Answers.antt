-- `check_annotations::is_cell_type` meets its contract: the entries are looked up, then tested (proofs/Instances.antt).
use Rattle.std.proofs.Common.{rules}
use Rattle.check_annotations.proofs.Instances.{cell_tests}
use Rattle.check_annotations.proofs.is_cell_type.Goals as goal

pub returns-then-result-eq-CELL : goal.returns-then-result-eq-CELL
returns-then-result-eq-CELL c = rw (cell_tests _ _ _ _ c.entry_at-result.ensures) (search rules)

pub returns-else-result-eq-CELL : goal.returns-else-result-eq-CELL
returns-else-result-eq-CELL c = rw (cell_tests _ _ _ _ c.entry_at-result.ensures) (search rules)
