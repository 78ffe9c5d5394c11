-- `check_annotations::is_handle_type` meets its contract: the entries are looked up, then tested (proofs/Instances.antt).
use Rattle.std.proofs.Common.{rules}
use Rattle.check_annotations.proofs.Instances.{handle_type_tests}
use Rattle.check_annotations.proofs.is_handle_type.Goals as goal

pub returns-then-inner-whole : goal.returns-then-inner-whole
returns-then-inner-whole c = rw (handle_type_tests _ _ _ _ _ _ c.entry_at-outer.ensures c.entry_at-inner.ensures c.entry_at-handle.ensures) (search rules)

pub returns-else-inner-whole : goal.returns-else-inner-whole
returns-else-inner-whole c = rw (handle_type_tests _ _ _ _ _ _ c.entry_at-outer.ensures c.entry_at-inner.ensures c.entry_at-handle.ensures) (search rules)
