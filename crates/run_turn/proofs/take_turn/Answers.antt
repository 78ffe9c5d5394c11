use mathlib.Core.Path.{subst}
use native.Mathlib.Omega.{arith}
use Rattle.step_look.proofs.Theory.Writing.{after_fits, can_write}
use Rattle.run_turn.specs.Turning.{Finds, went}
use Rattle.run_turn.proofs.Turns.{few_names, found_goes, goes_below, turn_stops, turn_went}
use Rattle.run_turn.proofs.take_turn.Goals as goal

pub returns-in_err-going : goal.returns-in_err-going
returns-in_err-going c = turn_stops c.from_residual.ensures.1 (subst (Finds _ _) c.in_err-going.was c.go_round.ensures)

pub put_image_after-length-requires : goal.put_image_after-length-requires
put_image_after-length-requires c =
    let (g, e) = found_goes (subst (Finds _ _) c.in_ok-going.was c.go_round.ensures) in
    let l = after_fits g in
    record {
      can_write = (can_write g c.args.image.fit c.args.image.stands, g.handed);
      room = (omega (arith, l, c.requires.1), omega (arith, l));
    }

pub overflow_add-result : goal.overflow_add-result
overflow_add-result c = omega (arith, goes_below (found_goes (subst (Finds _ _) c.in_ok-going.was c.go_round.ensures)).0, few_names c.args.image.bytes.now c.args.image.stands)

pub returns : goal.returns
returns c =
    let (g, e) = found_goes (subst (Finds _ _) c.in_ok-going.was c.go_round.ensures) in
    went (turn_went g e c.args.out.now c.requires.1 _ _ c.put_image_after-length.ensures)
