-- `step_write::put_image_after` meets its contract.
use mathlib.Core.Path.{ap, ◌∙◌, ◌≡◌}
use Prim.Native.Nat.{◌≤◌, ◌<◌}
use native.Mathlib.Omega.{arith}
use lib.ListN.{length}
use Rattle.calculus.specs.Bytes.{two_bytes, two_byte_values}
use Rattle.calculus.specs.Limits.{first_head}
use Rattle.buffer.specs.Written.{Wrote}
use Rattle.buffer.proofs.Theory.Writes.{same, known_as}
use Rattle.buffer.proofs.Theory.TwoBytes.{length_two_bytes}
use Rattle.image_layout.specs.Room.{Room}
use Rattle.image_layout.proofs.Theory.Turns.{room_kept, room_names, heads_end, image_turns}
use Rattle.step_rules.specs.Moves.{component_after, names_after}
use Rattle.step_write.proofs.Components.{image_room, image_is}
use Rattle.step_write.proofs.put_image_after.Goals as goal

pub put_u16-after_names-requires : goal.put_u16-after_names-requires
put_u16-after_names-requires c =
    let has_room : Room (names_after c.args.image.now c.args.step) (component_after c.args.image.now c.args.step) c.args.out.now = image_room c.args.image.now c.args.step c.requires.room.0 c.requires.room.1 in
    let few : (first_head ≤ length c.args.out.now) × (names_after c.args.image.now c.args.step < two_byte_values) = room_names (names_after c.args.image.now c.args.step) (component_after c.args.image.now c.args.step) has_room in
    omega (arith, c.requires.can_write.1.names, few)

pub put_heads-after_heads-requires : goal.put_heads-after_heads-requires
put_heads-after_heads-requires c =
    let names-wrote : (c.put_u16-after_names.result ≡ first_head) × Wrote c.args.out.now 0 (two_bytes (names_after c.args.image.now c.args.step)) c.put_u16-after_names.new.out c.put_u16-after_names.result = let w = c.put_u16-after_names.ensures in
    (omega (arith, w.ends, length_two_bytes c.args.after.names), known_as w (ap two_bytes c.requires.can_write.1.names)) in
    let has_room : Room (names_after c.args.image.now c.args.step) (component_after c.args.image.now c.args.step) c.args.out.now = image_room c.args.image.now c.args.step c.requires.room.0 c.requires.room.1 in
    record {
      handed = (c.requires.can_write.1, names-wrote.0);
      room = room_kept _ _ {old = c.args.out.now} has_room (same names-wrote.1);
    }

pub put_expressions-requires : goal.put_expressions-requires
put_expressions-requires c =
    let names-wrote : (c.put_u16-after_names.result ≡ first_head) × Wrote c.args.out.now 0 (two_bytes (names_after c.args.image.now c.args.step)) c.put_u16-after_names.new.out c.put_u16-after_names.result = let w = c.put_u16-after_names.ensures in
    (omega (arith, w.ends, length_two_bytes c.args.after.names), known_as w (ap two_bytes c.requires.can_write.1.names)) in
    let has_room : Room (names_after c.args.image.now c.args.step) (component_after c.args.image.now c.args.step) c.args.out.now = image_room c.args.image.now c.args.step c.requires.room.0 c.requires.room.1 in
    let w = c.put_heads-after_heads.ensures in record {
      handed = (c.requires.can_write.1.names, heads_end (names_after c.args.image.now c.args.step) (component_after c.args.image.now c.args.step) names-wrote.0 w.ends);
      room = room_kept _ _ {old = c.args.out.now} has_room (same w ∙ same names-wrote.1);
    }

pub returns : goal.returns
returns c =
    let names-wrote : (c.put_u16-after_names.result ≡ first_head) × Wrote c.args.out.now 0 (two_bytes (names_after c.args.image.now c.args.step)) c.put_u16-after_names.new.out c.put_u16-after_names.result = let w = c.put_u16-after_names.ensures in
    (omega (arith, w.ends, length_two_bytes c.args.after.names), known_as w (ap two_bytes c.requires.can_write.1.names)) in
    let s = c.args.image.now in
    let m = c.args.step in
    known_as (image_turns (names_after s m) (component_after s m) names-wrote.1 c.put_heads-after_heads.ensures c.put_expressions.ensures) (image_is s m)
