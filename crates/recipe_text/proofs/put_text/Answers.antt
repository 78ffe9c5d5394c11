-- `recipe_text::put_text` meets its contract.
use mathlib.Core.Path.{◌≡◌, ap, sym}
use mathlib.Core.List.{List}
use Prim.Native.Nat.{◌≤◌, ℕ}
use native.Mathlib.Omega.{arith}
use lib.ListN.{length, take}
use lib.Seq.{length-take-le}
use Rattle.calculus.specs.Limits.{max_image_length}
use Rattle.buffer.proofs.Theory.Writes.{known_as, same}
use Rattle.text.specs.Ascii.{verdict_line}
use Rattle.text.proofs.Theory.Digits.{length_accepted}
use Rattle.text.proofs.Theory.Put.{too_short}
use Rattle.load_spec.specs.Starting.{starting_image}
use Rattle.load_spec.proofs.Theory.Told.{accepted_told, image_told, length_inside, length_told, refusal_told, refusal_told_small}
use Rattle.recipe_text.specs.Text.{image_line, max_text_length, text_of}
use Rattle.recipe_text.proofs.Ways.{puts_image, puts_refusal}
use Rattle.calculus.specs.Profile.{common}
use Rattle.load_spec.specs.declared.Loaded.{Loaded}
use Rattle.load_spec.specs.Loading.{loaded_of, out_after_load}
use Rattle.recipe_text.proofs.put_text.Goals as goal

-- the image in the out buffer, where the recipe is accepted
told : (s out : List ℕ) {l : Loaded} {out' : List ℕ} → out' ≡ out_after_load common s out → l ≡ loaded_of common s (length out) → max_image_length ≤ length out →
    length out' ≡ max_image_length → l.refusal ≡ 0 →
    (l.length ≤ length out') × (length (starting_image s) ≤ max_image_length) × (take l.length out' ≡ starting_image s)
told s out left is long kept z =
    let inside = length_inside s out left is long z in
    (inside, omega (arith, inside, kept, length_told s is long z), image_told s out left is long z)

pub returns-then-text-lt-MAX_LENGTH : goal.returns-then-text-lt-MAX_LENGTH
returns-then-text-lt-MAX_LENGTH c = let a = c.args in too_short max_text_length (text_of a.recipe.now) a.text.now c.if-text-lt-MAX_LENGTH.true

pub overflow_cast-loaded : goal.overflow_cast-loaded
overflow_cast-loaded c =
    let small = refusal_told_small c.args.recipe.now c.load-loaded.ensures.value (omega arith) in
    record { fits = omega (arith, small) }

pub put_verdict_line-after_verdict-requires : goal.put_verdict_line-after_verdict-requires
put_verdict_line-after_verdict-requires c = omega (arith, c.if-text-lt-MAX_LENGTH.false)

pub returns-then-loaded-ne0 : goal.returns-then-loaded-ne0
returns-then-loaded-ne0 c =
    let a = c.args in
    let told = refusal_told a.recipe.now c.load-loaded.ensures.value (omega arith) in
    puts_refusal a.recipe.now a.text.now (omega (arith, c.if-text-lt-MAX_LENGTH.false)) (omega (arith, told, c.if-loaded-ne0.true)) (known_as c.put_verdict_line-after_verdict.ensures (ap verdict_line told))

pub slice_bounds-out-end : goal.slice_bounds-out-end
slice_bounds-out-end c =
    (told c.args.recipe.now _ c.load-loaded.ensures.out_after c.load-loaded.ensures.value (omega arith) c.load-loaded.auto.out (omega (arith, c.if-loaded-ne0.false))).0

pub slice_bounds-put_image_line-end : goal.slice_bounds-put_image_line-end
slice_bounds-put_image_line-end c =
    sym (length-take-le c.load-loaded.result.length c.load-loaded.new.out (told c.args.recipe.now _ c.load-loaded.ensures.out_after c.load-loaded.ensures.value (omega arith) c.load-loaded.auto.out (omega (arith, c.if-loaded-ne0.false))).0)

pub put_image_line-requires : goal.put_image_line-requires
put_image_line-requires c =
    let z : c.load-loaded.result.refusal ≡ 0 = omega (arith, c.if-loaded-ne0.false) in
    let (inside, fits, image) = told c.args.recipe.now _ c.load-loaded.ensures.out_after c.load-loaded.ensures.value (omega arith) c.load-loaded.auto.out z in
    let w = known_as c.put_verdict_line-after_verdict.ensures (ap verdict_line z) in
    rw image (omega (arith, fits, w.ends, same w, length_accepted, c.if-text-lt-MAX_LENGTH.false))

pub returns : goal.returns
returns c =
    let a = c.args in
    let accepted : c.load-loaded.result.refusal ≡ 0 = omega (arith, c.if-loaded-ne0.false) in
    let (inside, fits, image) = told c.args.recipe.now _ c.load-loaded.ensures.out_after c.load-loaded.ensures.value (omega arith) c.load-loaded.auto.out accepted in
    let is-0 = accepted_told a.recipe.now c.load-loaded.ensures.value (omega arith) accepted in
    puts_image a.recipe.now a.text.now (omega (arith, c.if-text-lt-MAX_LENGTH.false)) is-0 fits
    (known_as c.put_verdict_line-after_verdict.ensures (ap verdict_line accepted))
    (known_as c.put_image_line.ensures (ap image_line image))
