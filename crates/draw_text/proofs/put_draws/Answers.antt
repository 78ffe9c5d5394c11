-- `draw_text::put_draws` meets its contract. The loop's invariant: the lines of the draws made are put, those of the draws to come are the rest of the text
-- (proofs/Underway.antt).
use native.Mathlib.Omega.{arith}
use Rattle.draw_text.proofs.Underway.{underway_end, underway_on, underway_start}
use Rattle.draw_text.proofs.put_draws.Goals as goal

pub loop-init : goal.loop-init
loop-init c = underway_start c.args.count c.args.start c.requires.0

pub loop-preserved : goal.loop-preserved
loop-preserved c = underway_on c.loop.invariant (omega arith) c.put_draw-at.ensures

pub returns : goal.returns
returns c = underway_end c.loop.invariant (omega arith)
