-- `term_scan::is_there` meets its contract: every operand is below what two bytes say.
use Rattle.term_scan.proofs.Scopes.{there}
use Rattle.term_scan.proofs.is_there.Goals as goal

pub returns : goal.returns
returns c =
    let a = c.args in
    there a.types a.names a.around a.arg a.refers c.requires.0 c.requires.1 c.bound_of.ensures
