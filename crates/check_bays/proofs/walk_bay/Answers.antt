-- `check_bays::walk_bay` meets its contract.
use Rattle.check_bays.proofs.Answers.{walked_is, whole}
use Rattle.check_bays.proofs.walk_bay.Goals as goal

pub walk-requires : goal.walk-requires
walk-requires c = let p = c.requires in whole p.0 p.1 c.term-term.ensures

pub returns : goal.returns
returns c = let p = c.requires in walked_is p.0 p.1 c.term-term.ensures c.table-table.ensures c.walk.ensures
