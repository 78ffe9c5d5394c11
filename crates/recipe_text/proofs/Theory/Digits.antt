-- Hexadecimal, byte after byte, and the length of the line with the image.
use Rattle.std.specs.Prelude.{◌≡◌, refl, List, [], ◌∷◌, ◌++◌, ℕ, ◌+◌, ◌*◌, ◌/◌, ◌%◌, ◌<◌, ◌≤◌, get_or, length, take}
use Rattle.std.proofs.Common.{◌∙◌, ap, add-one, arith, length-append, length-take-le, take-suc}
use Rattle.text.specs.Ascii.{digit}
use Rattle.recipe_text.specs.Text.{hexadecimal, hexadecimal_byte, image_line}

-- what follows stands behind
pub hexadecimal_append : (a b : List ℕ) → hexadecimal (a ++ b) ≡ hexadecimal a ++ hexadecimal b
unfolding hexadecimal hexadecimal_byte
hexadecimal_append [] b = refl
hexadecimal_append (x ∷ a) b = ap (λ (s : List ℕ). digit (x / 16) ∷ digit (x % 16) ∷ s) (hexadecimal_append a b)

hexadecimal_one : (x : ℕ) → hexadecimal (x ∷ []) ≡ hexadecimal_byte x
unfolding hexadecimal hexadecimal_byte
hexadecimal_one x = refl

pub length_hexadecimal : (s : List ℕ) → length (hexadecimal s) ≡ 2 * length s
unfolding hexadecimal hexadecimal_byte
length_hexadecimal [] = refl
length_hexadecimal (x ∷ s) = omega (arith, length_hexadecimal s)

-- a loop that writes bytes one by one: where it stands, and a turn
pub length_so_far : (s : List ℕ) (i : ℕ) → i ≤ length s → length (hexadecimal (take i s)) ≡ 2 * i
length_so_far s i h = omega (arith, length_hexadecimal (take i s), length-take-le i s h)

pub hexadecimal_turn : (s : List ℕ) (i : ℕ) → i < length s → hexadecimal (take (i + 1) s) ≡ hexadecimal (take i s) ++ hexadecimal_byte (get_or s i 0)
hexadecimal_turn s i h =
    ap hexadecimal (rw (add-one i) (take-suc s i 0 h)) ∙ hexadecimal_append (take i s) (get_or s i 0 ∷ []) ∙ ap (λ (b : List ℕ). hexadecimal (take i s) ++ b) (hexadecimal_one (get_or s i 0))

pub length_image_line : (s : List ℕ) → length (image_line s) ≡ 7 + 2 * length s
unfolding image_line
length_image_line s = simp length-append (omega (arith, length_hexadecimal s))
