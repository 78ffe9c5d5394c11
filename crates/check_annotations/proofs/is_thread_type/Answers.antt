-- `check_annotations::is_thread_type` meets its contract: the entries are looked up, then tested (proofs/Instances.antt).
use Rattle.std.proofs.Common.{rules}
use Rattle.check_annotations.proofs.Instances.{thread_tests}
use Rattle.check_annotations.proofs.is_thread_type.Goals as goal

pub returns-then-is_from_to : goal.returns-then-is_from_to
returns-then-is_from_to c = rw (thread_tests _ _ _ _ c.entry_at-parameter.ensures) (search rules)

pub returns-else-is_from_to : goal.returns-else-is_from_to
returns-else-is_from_to c = rw (thread_tests _ _ _ _ c.entry_at-parameter.ensures) (search rules)
