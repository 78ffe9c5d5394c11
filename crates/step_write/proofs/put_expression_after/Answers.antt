-- `step_write::put_expression_after` meets its contract.
use mathlib.Core.Path.{ap, sym, ◌∙◌}
use native.Mathlib.Omega.{arith}
use lib.ListN.{length}
use Rattle.buffer.proofs.Theory.Writes.{still, known_as}
use Rattle.image_layout.proofs.Theory.Slice.{encoded_expression}
use Rattle.image_layout.proofs.Theory.Reading.{has_expression}
use Rattle.step_write.specs.Changes.{changed}
use Rattle.step_write.proofs.Components.{becomes_as, same_expression}
use Rattle.step_write.proofs.put_expression_after.Goals as goal

pub expression_at-requires : goal.expression_at-requires
expression_at-requires c = has_expression _ c.args.writable.can_write.stands _ (becomes_as c.change_of-change.ensures c.in-Kept.is).sure

pub put_bytes-requires : goal.put_bytes-requires
unfolding changed
put_bytes-requires c =
    omega (arith, ap length c.expression_at.ensures, ap length (encoded_expression c.args.writable.image.now c.args.k), ap length (same_expression (becomes_as c.change_of-change.ensures c.in-Kept.is).is), c.requires.room)

pub put_thread_after-requires : goal.put_thread_after-requires
unfolding changed
put_thread_after-requires c = omega (arith, ap length (same_expression (becomes_as c.change_of-change.ensures c.in-Goes.is).is), c.requires.room)

pub put_started-requires : goal.put_started-requires
unfolding changed
put_started-requires c =
    let e = c.in-Starts.is in
    record {
      few = (becomes_as c.change_of-change.ensures e).sure;
      room = omega (arith, ap length (same_expression (becomes_as c.change_of-change.ensures e).is), c.requires.room);
    }

pub put_argument-requires : goal.put_argument-requires
unfolding changed
put_argument-requires c = omega (arith, ap length (same_expression (becomes_as c.change_of-change.ensures c.in-Holds.is).is), c.requires.room)

pub returns-in-Kept : goal.returns-in-Kept
unfolding changed
returns-in-Kept c =
    known_as c.put_bytes.ensures
    (c.expression_at.ensures ∙ sym (encoded_expression c.args.writable.image.now c.args.k) ∙ same_expression (becomes_as c.change_of-change.ensures c.in-Kept.is).is)

pub returns-in-Goes : goal.returns-in-Goes
unfolding changed
returns-in-Goes c = known_as c.put_thread_after.ensures (same_expression (becomes_as c.change_of-change.ensures c.in-Goes.is).is)

pub returns-in-Starts : goal.returns-in-Starts
unfolding changed
returns-in-Starts c = known_as c.put_started.ensures (same_expression (becomes_as c.change_of-change.ensures c.in-Starts.is).is)

pub returns-in-Holds : goal.returns-in-Holds
unfolding changed
returns-in-Holds c = known_as c.put_argument.ensures (same_expression (becomes_as c.change_of-change.ensures c.in-Holds.is).is)

pub returns-in-Opens : goal.returns-in-Opens
unfolding changed
returns-in-Opens c = known_as still (same_expression (becomes_as c.change_of-change.ensures c.in-Opens.is).is)

pub returns-in-Bare : goal.returns-in-Bare
unfolding changed
returns-in-Bare c = known_as still (same_expression (becomes_as c.change_of-change.ensures c.in-Bare.is).is)
