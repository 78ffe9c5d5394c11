use mathlib.Core.Path.{subst, subst⁻¹}
use Rattle.step_look.specs.Looked.{Looked}
use Rattle.step_look.proofs.Theory.Ways.{looked_goes, looked_stays}
use Rattle.run_turn.specs.Turning.{Seen, goes}
use Rattle.run_turn.proofs.Sights.{by_going, by_staying}
use Rattle.run_turn.proofs.see.Goals as goal

pub returns-in-Ok : goal.returns-in-Ok
returns-in-Ok c =
    let g = looked_goes (subst (Looked _ _) c.in-Ok.is c.look_at.ensures) in
    goes g (by_going c.args.image.stands g)

pub returns-in-Err : goal.returns-in-Err
returns-in-Err c = subst⁻¹ (Seen _ _) c.sight_of.ensures (by_staying c.args.image.stands (looked_stays (subst (Looked _ _) c.in-Err.is c.look_at.ensures)))
