-- `load_image::put_starting` meets its contract.
use mathlib.Core.Path.{ap}
use Prim.Native.Nat.{◌-◌, ℕ}
use native.Mathlib.Omega.{arith}
use lib.ListN.{get_or, length, take, drop}
use Rattle.recipe_file.proofs.LaidOut.{laid_where}
use Rattle.buffer.proofs.Theory.Writes.{same, known_as}
use Rattle.image_layout.specs.Encoded.{expressions}
use Rattle.image_layout.proofs.Theory.Turns.{room_kept, heads_end}
use Rattle.load_image.specs.Starting.{starting_at, starting_names}
use Rattle.load_image.proofs.Theory.Parts.{terms_begin_inside}
use Rattle.load_spec.proofs.Theory.Image.{starting_fits}
use Rattle.load_image.proofs.Names.{few_bays, names_wrote, starting_room, settings_length, settings_read, starting_length, starting_wrote}
use Rattle.load_image.proofs.put_starting.Goals as goal

pub overflow_add-bays : goal.overflow_add-bays
overflow_add-bays c =
    let is-laid = laid_where c.args.recipe.bytes.now c.args.recipe.laid in
    omega (arith, c.bays-bays.ensures, few_bays is-laid)

pub put_u16-after_names-requires : goal.put_u16-after_names-requires
put_u16-after_names-requires c =
    let is-laid = laid_where c.args.recipe.bytes.now c.args.recipe.laid in
    omega (arith, c.bays-bays.ensures, few_bays is-laid, c.requires.1)

pub put_heads-after_heads-requires : goal.put_heads-after_heads-requires
put_heads-after_heads-requires c =
    let (begins, w) = names_wrote c.args.recipe.bytes.now c.bays-bays.ensures c.put_u16-after_names.ensures in
    (room_kept _ _ {old = c.args.out.now} (starting_room c.args.recipe.bytes.now c.args.recipe.fit c.requires.0 c.requires.1) (same w), begins)

pub put_settings-after_settings-requires : goal.put_settings-after_settings-requires
put_settings-after_settings-requires c =
    let s = c.args.recipe.bytes.now in
    let is-laid = laid_where s c.args.recipe.laid in
    let (begins, u) = names_wrote s c.bays-bays.ensures c.put_u16-after_names.ensures in
    let w = c.put_heads-after_heads.ensures in
    let h = heads_end (starting_names s) (starting_at s) begins w.ends in
    omega (arith, h, starting_length s c.args.recipe.fit c.requires.0, same w, same u, c.bays-bays.ensures, few_bays is-laid, c.requires.1)

pub put_part-requires : goal.put_part-requires
put_part-requires c =
    let s = c.args.recipe.bytes.now in
    let is-laid = laid_where s c.args.recipe.laid in
    let (begins, u) = names_wrote s c.bays-bays.ensures c.put_u16-after_names.ensures in
    let w = c.put_heads-after_heads.ensures in
    let v = c.put_settings-after_settings.ensures in
    let h = heads_end (starting_names s) (starting_at s) begins w.ends in
    let f = c.first_term.ensures in (
      omega (arith, f, terms_begin_inside s is-laid),
      (
        omega arith,
        omega (
          arith,
          f,
          c.bays-bays.ensures,
          h,
          starting_length s c.args.recipe.fit c.requires.0,
          v.ends,
          settings_length (λ k. get_or c.args.nums k 0) c.bays-bays.result,
          same v,
          same w,
          same u,
          c.requires.1,
        ),
      ),
    )

pub returns : goal.returns
returns c =
    let s = c.args.recipe.bytes.now in
    let is-laid = laid_where s c.args.recipe.laid in
    let (begins, u) = names_wrote s c.bays-bays.ensures c.put_u16-after_names.ensures in
    let w = starting_wrote s c.args.recipe.fit c.requires.0 u c.put_heads-after_heads.ensures
    (known_as c.put_settings-after_settings.ensures (ap expressions (settings_read s c.args.nums is-laid c.requires.2 c.bays-bays.ensures)))
    (known_as c.put_part.ensures (ap (λ (k : ℕ). take (length s - k) (drop k s)) c.first_term.ensures)) in
    (w, omega (arith, w.ends, starting_fits s c.args.recipe.fit c.requires.0))
