-- `check_bays::bay_scoped` meets its contract.
use Rattle.check_bays.proofs.Known.{few_nodes, good_part}
use Rattle.check_bays.proofs.Answers.{scoped_is}
use Rattle.check_bays.proofs.bay_scoped.Goals as goal

pub scoped_within-requires : goal.scoped_within-requires
scoped_within-requires c = let p = c.requires in let e = c.term-term.ensures in (good_part p.0 p.1 e, few_nodes p.0 p.1 e)

pub returns : goal.returns
returns c = scoped_is _ _ c.term-term.ensures _ _ _ c.entry_count-types.ensures c.bays-names.ensures c.scoped_within.ensures
