-- `draw_text::put_draws` meets its contract. The loop's invariant: the lines of the draws made are put, those of the draws to come are the rest of the text
-- (proofs/Underway.antt).
use Rattle.draw_spec.specs.Draws.{draws}
use Rattle.draw_spec.specs.Lines.{lines}
use Rattle.draw_text.specs.Lines.{present}
use Rattle.draw_text.proofs.Underway.{Underway}
use Rattle.draw_text.proofs.put_draws.Given as goal

abbrev pub invariant-loop : goal.invariant-loop
invariant-loop l = Underway (lines (draws l.count l.initial.at.state (present l.initial.at l.initial.first l.initial.second))) l.count l.initial.text l.first l.second l.text l.at l.counter
