-- `term_redex::end_of` meets its contract: a scan of a term that stands answers.
use mathlib.Core.Path.{sym, ◌∙◌}
use Rattle.term_scan.proofs.Answers.{scan_some, scan_stands}
use Rattle.term_redex.proofs.end_of.Goals as goal

pub unwrap-requires : goal.unwrap-requires
unwrap-requires c = rw c.scan.ensures (scan_some c.requires)

pub returns : goal.returns
returns c = sym (scan_stands _ _ _ _ c.requires.inside (sym c.unwrap.ensures ∙ c.scan.ensures)).end
