-- `check_annotations::both_annotated` meets its contract.
use Rattle.std.proofs.Common.{◌∙◌}
use Rattle.check_annotations.proofs.Fronts.{front_kind}
use Rattle.check_annotations.proofs.both_annotated.Goals as goal

pub returns : goal.returns
returns c = c.is_kind_of.ensures ∙ front_kind _ _ _ _ c.entry_at-entry.ensures
