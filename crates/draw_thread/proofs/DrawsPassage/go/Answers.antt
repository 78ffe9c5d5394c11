-- `draw_thread::Draws::go` meets its contract.
use Rattle.draw_spec.proofs.Theory.Alive.{alive_stands}
use Rattle.draw_thread.proofs.DrawsPassage.go.Goals as goal

pub invariant_of-image : goal.invariant_of-image
invariant_of-image c = let p = c.requires.0 in record { stands = alive_stands p.alive; counted = p.counted; fit = λ i. (c.type_inv.image i).fits }
