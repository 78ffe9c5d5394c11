-- `term_scan::scan_small` meets its contract: an edition with all forms has every term.
use mathlib.Core.Path.{ap, ◌∙◌}
use Rattle.term_scan.specs.Extents.{small}
use Rattle.term_scan.proofs.Editions.{all_tags}
use Rattle.term_scan.proofs.scan_small.Goals as goal

pub returns : goal.returns
returns c = c.scan_within.ensures ∙ ap (small c.args.budget) (all_tags c.args.s.now c.args.at)
