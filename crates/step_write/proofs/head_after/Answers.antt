-- `step_write::head_after` meets its contract.
use mathlib.Core.Path.{ap, sym, ◌∙◌}
use lib.ListN.{length}
use Rattle.image_layout.proofs.Theory.Slice.{encoded_kind, encoded_companion, encoded_expression}
use Rattle.image_layout.proofs.Theory.Reading.{has_head, expression_length}
use Rattle.step_write.specs.Changes.{changed}
use Rattle.step_write.proofs.Components.{becomes_as, as_head, started_length}
use Rattle.step_rules.proofs.Theory.Lengths.{argument_length}
use Rattle.step_write.proofs.head_after.Goals as goal

pub kind_at-requires : goal.kind_at-requires
kind_at-requires c = has_head _ c.args.writable.can_write.stands _ (becomes_as c.change_of-change.ensures c.in-Kept.is).sure

pub companion_at-requires : goal.companion_at-requires
companion_at-requires c = has_head _ c.args.writable.can_write.stands _ (becomes_as c.change_of-change.ensures c.in-Kept.is).sure

pub length_at-requires : goal.length_at-requires
length_at-requires c = has_head _ c.args.writable.can_write.stands _ (becomes_as c.change_of-change.ensures c.in-Kept.is).sure

pub returns-in-Kept : goal.returns-in-Kept
unfolding changed
returns-in-Kept c =
    let s = c.args.writable.image.now in
    let k = c.args.k in
    let b = becomes_as c.change_of-change.ensures c.in-Kept.is in
    as_head b.is (record {
      kinds = c.kind_at.ensures ∙ sym (encoded_kind s k);
      companions = c.companion_at.ensures ∙ sym (encoded_companion s k);
      sizes = c.length_at.ensures.0 ∙ sym (ap length (encoded_expression s k) ∙ expression_length s c.args.writable.can_write.stands k b.sure);
    })

pub returns-in-Goes : goal.returns-in-Goes
unfolding changed
returns-in-Goes c =
    let h = c.holding.ensures in
    as_head (becomes_as c.change_of-change.ensures c.in-Goes.is).is (record { kinds = h.0; companions = h.1.0 ∙ c.owner_after-owner.ensures; sizes = h.1.1 ∙ c.requires.0 })

pub returns-in-Starts : goal.returns-in-Starts
unfolding changed
returns-in-Starts c =
    let h = c.holding-in-Starts.ensures in
    as_head (becomes_as c.change_of-change.ensures c.in-Starts.is).is (record { kinds = h.0; companions = h.1.0 ∙ c.owner_after-owner.ensures; sizes = h.1.1 ∙ c.started_size.ensures ∙ sym (started_length c.args.writable.can_write) })

pub returns-in-Holds : goal.returns-in-Holds
unfolding changed
returns-in-Holds c =
    let h = c.holding-in-Holds.ensures in
    as_head (becomes_as c.change_of-change.ensures c.in-Holds.is).is (record { kinds = h.0; companions = h.1.0 ∙ c.owner_after-owner.ensures; sizes = h.1.1 ∙ c.argument_size.ensures ∙ sym (argument_length c.args.writable.can_write.movable) })

pub returns-in-Opens : goal.returns-in-Opens
unfolding changed
returns-in-Opens c =
    let h = c.holding-in-Opens.ensures in
    as_head (becomes_as c.change_of-change.ensures c.in-Opens.is).is (record { kinds = h.0; companions = h.1.0; sizes = h.1.1 })

pub returns-in-Bare : goal.returns-in-Bare
unfolding changed
returns-in-Bare c =
    let h = c.holding-in-Bare.ensures in
    as_head (becomes_as c.change_of-change.ensures c.in-Bare.is).is (record { kinds = h.0; companions = h.1.0 ∙ c.owner_after-owner.ensures; sizes = h.1.1 })
