-- The table of node forms in numbers, a byte for a form and eight forms to a number, is the table.
use mathlib.Core.Path.{◌≡◌, refl}
use mathlib.Core.List.{List, [], ◌∷◌}
use Prim.Native.Nat.{◌%◌, ◌*◌, ◌/◌, ◌<◌, ◌^◌, ℕ}
use lib.ListN.{get_or}
use Rattle.term.specs.declared.Form.{Form}
use Rattle.term.specs.Forms.{form, form_of, forms, tags}
use Rattle.term.proofs.Table.{below, end_of_row, Row, ◌∣◌}

-- the first form of eight in the lowest byte
abbrev packed : List ℕ
packed = 0x8181810200089541 ∷ 0x28288989C181 ∷ []

abbrev byte_for : ℕ → ℕ
byte_for tag = get_or packed (tag / 8) 0 / 2 ^ (tag % 8 * 8) % 256

abbrev unpacked : ℕ → Form
unpacked x = form (x % 4) (x / 4 % 4) (x / 16 % 4) (x / 64)

pub unpacked_form : (tag : ℕ) → tag < tags → unpacked (byte_for tag) ≡ form_of tag
unfolding form_of forms
unpacked_form = below row
  where
    row : Row (λ tag. unpacked (byte_for tag) ≡ form_of tag) 0 tags
    row = refl ∣ refl ∣ refl ∣ refl ∣ refl ∣ refl ∣ refl ∣ refl ∣ refl ∣ refl ∣ refl ∣ refl ∣ refl ∣ refl ∣ end_of_row
