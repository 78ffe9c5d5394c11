-- `term_scan::scoped_within` meets its contract: of a term within the limit the scan says the scope.
use Rattle.std.specs.Prelude.{is_some}
use mathlib.Core.Path.{ap, ◌∙◌}
use Rattle.calculus.specs.Limits.{max_nodes}
use Rattle.term_scan.proofs.Answers.{scope_said}
use Rattle.term_scan.proofs.scoped_within.Goals as goal

pub returns : goal.returns
returns c = c.is_some.ensures ∙ ap is_some c.scan_scoped.ensures ∙ scope_said max_nodes c.requires.0 c.requires.1 _
