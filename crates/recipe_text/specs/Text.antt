-- Document 01, "The supplier's host": "A program reads a recipe from standard input and writes two lines: the word verdict and the number (0 for accepted), then, if
-- accepted, the word image and the image in upper-case hexadecimal." Characters are bytes of ASCII.
use Rattle.std.specs.Prelude.{cond, List, [], ◌∷◌, ◌++◌, ℕ, ◌+◌, ◌*◌, ◌/◌, ◌%◌, eqb}
use Rattle.calculus.specs.Limits.{max_image_length}
use Rattle.text.specs.Ascii.{digit, line_end, verdict_line}
use Rattle.check_spec.specs.Verdict.{verdict_of}
use Rattle.load_spec.specs.Starting.{starting_image}

-- "the word image", and a space
abbrev pub image_word : List ℕ
image_word = 0x69 ∷ 0x6D ∷ 0x61 ∷ 0x67 ∷ 0x65 ∷ 0x20 ∷ []

-- a byte in hexadecimal: two digits, the higher first
unfoldable pub hexadecimal_byte : ℕ → List ℕ
hexadecimal_byte byte = digit (byte / 16) ∷ digit (byte % 16) ∷ []

-- "in upper-case hexadecimal": byte after byte
unfoldable pub hexadecimal : List ℕ → List ℕ
hexadecimal [] = []
hexadecimal (byte ∷ bytes) = hexadecimal_byte byte ++ hexadecimal bytes

-- "the word image and the image in upper-case hexadecimal"
unfoldable pub image_line : List ℕ → List ℕ
image_line image = image_word ++ hexadecimal image ++ line_end

-- "two lines: .. the number .., then, if accepted, .. the image"
unfoldable pub text_of : List ℕ → List ℕ
text_of file = verdict_line (verdict_of file).refusal ++ cond (eqb (verdict_of file).refusal 0) (image_line (starting_image file)) []

-- the longest text: "verdict 0", "image " and the longest image, and what ends the two lines
abbrev pub max_text_length : ℕ
max_text_length = 10 + 7 + 2 * max_image_length
