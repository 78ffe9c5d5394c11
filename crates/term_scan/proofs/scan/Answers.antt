-- `term_scan::scan` meets its contract, by that of `scan_small`.
use mathlib.Core.Path.{◌∙◌}
use native.Mathlib.Omega.{arith}
use Rattle.term_scan.proofs.Answers.{small_all}
use Rattle.term_scan.proofs.scan.Goals as goal

pub returns : goal.returns
returns c = c.scan_small.ensures ∙ small_all _ c.args.s.now c.args.at c.requires (omega arith)
