-- `check_annotations::is_exch_type` meets its contract: the entries are looked up, then tested (proofs/Instances.antt).
use Rattle.std.proofs.Common.{rules}
use Rattle.check_annotations.proofs.Instances.{exch_tests}
use Rattle.check_annotations.proofs.is_exch_type.Goals as goal

pub returns-then-parameter-eq-CELL : goal.returns-then-parameter-eq-CELL
returns-then-parameter-eq-CELL c = rw (exch_tests _ _ _ _ _ c.entry_at-parameter.ensures c.entry_at-result.ensures) (search rules)

pub returns-else-parameter-eq-CELL : goal.returns-else-parameter-eq-CELL
returns-else-parameter-eq-CELL c = rw (exch_tests _ _ _ _ _ c.entry_at-parameter.ensures c.entry_at-result.ensures) (search rules)
