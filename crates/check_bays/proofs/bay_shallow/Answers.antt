-- `check_bays::bay_shallow` meets its contract.
use native.Mathlib.Omega.{arith}
use Rattle.check_bays.proofs.Known.{good_part}
use Rattle.check_bays.proofs.Answers.{shallow_is}
use Rattle.check_bays.proofs.bay_shallow.Goals as goal

pub nesting_within-requires : goal.nesting_within-requires
nesting_within-requires c =
    let p = c.requires in
    (good_part p.0 p.1 c.term-term.ensures, omega arith)

pub returns : goal.returns
returns c = shallow_is _ _ c.term-term.ensures _ c.nesting_within.ensures
