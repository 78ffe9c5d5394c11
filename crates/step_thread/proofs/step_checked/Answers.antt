-- `step_thread::step_checked` meets its contract.
use mathlib.Core.Path.{subst}
use native.Mathlib.Omega.{arith}
use Rattle.step_look.specs.Looked.{Goes, Looked}
use Rattle.step_look.proofs.Theory.Ways.{looked_goes, looked_stays}
use Rattle.step_look.proofs.Theory.Writing.{after_fits, can_write}
use Rattle.step_thread.proofs.Answers.{by_going, by_room, by_staying, goer_goes}
use Rattle.step_thread.proofs.step_checked.Goals as goal

pub has_room-requires : goal.has_room-requires
has_room-requires g c =
    let goes_by : Goes c.args.image.bytes.now c.args.thread c.in-Ok.going = looked_goes (subst (Looked _ _) c.in-Ok.is c.look_at.ensures) in
    goer_goes goes_by

pub returns-then-not-has_room : goal.returns-then-not-has_room
returns-then-not-has_room g c =
    let goes_by : Goes c.args.image.bytes.now c.args.thread c.in-Ok.going = looked_goes (subst (Looked _ _) c.in-Ok.is c.look_at.ensures) in
    let (value, (left, counted)) = by_room g.P.Profile.profile c.args.out.now c.args.image.nodes goes_by c.has_room.ensures c.if-not-has_room.true in
    record { outcome_value = value; out_after = left; nodes_value = counted }

pub put_image_after-length-requires : goal.put_image_after-length-requires
put_image_after-length-requires g c =
    let goes_by : Goes c.args.image.bytes.now c.args.thread c.in-Ok.going = looked_goes (subst (Looked _ _) c.in-Ok.is c.look_at.ensures) in
    let f = after_fits goes_by in
    record {
      can_write = (can_write goes_by c.args.image.fit c.args.image.stands, goes_by.handed);
      room = (omega (arith, f, c.requires), omega (arith, f));
    }

pub returns-else-not-has_room : goal.returns-else-not-has_room
returns-else-not-has_room g c =
    let goes_by : Goes c.args.image.bytes.now c.args.thread c.in-Ok.going = looked_goes (subst (Looked _ _) c.in-Ok.is c.look_at.ensures) in
    let (value, (left, counted)) = by_going g.P.Profile.profile c.args.out.now c.args.image.nodes goes_by c.has_room.ensures c.if-not-has_room.false c.requires _ _ _ c.rule_of-rule.ensures c.put_image_after-length.ensures in
    record { outcome_value = value; out_after = left; nodes_value = counted }

pub returns-in-Err : goal.returns-in-Err
returns-in-Err g c =
    let (value, (left, counted)) = by_staying g.P.Profile.profile c.args.out.now c.args.image.nodes (looked_stays (subst (Looked _ _) c.in-Err.is c.look_at.ensures)) in
    record { outcome_value = value; out_after = left; nodes_value = counted }
