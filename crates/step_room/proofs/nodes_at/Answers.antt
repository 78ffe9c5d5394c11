-- `step_room::nodes_at` meets its contract.
use Rattle.term.proofs.Views.{some_unless}
use mathlib.Core.Path.{sym, ◌∙◌}
use Rattle.term_scan.proofs.Answers.{not_refused, scanned_nodes}
use Rattle.step_room.proofs.nodes_at.Goals as goal

pub unwrap-requires : goal.unwrap-requires
unwrap-requires c = some_unless c.scan.result (λ e. (not_refused c.requires (sym e ∙ c.scan.ensures)))

pub returns : goal.returns
returns c = scanned_nodes c.requires (sym c.unwrap.ensures ∙ c.scan.ensures)
