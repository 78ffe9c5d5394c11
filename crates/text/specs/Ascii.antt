-- Digits, decimal numbers and the line with a verdict. Document 01, "The supplier's host": "the word verdict and the number (0 for accepted)". Characters are bytes of ASCII.
use Rattle.std.specs.Prelude.{cond, List, [], ◌∷◌, ◌++◌, ℕ, ◌/◌, ◌%◌, ltb, get_or}

-- "the word verdict", and a space
abbrev pub verdict_word : List ℕ
verdict_word = 0x76 ∷ 0x65 ∷ 0x72 ∷ 0x64 ∷ 0x69 ∷ 0x63 ∷ 0x74 ∷ 0x20 ∷ []

-- "lines": what ends each
abbrev pub line_end : List ℕ
line_end = 0x0A ∷ []

-- "upper-case hexadecimal": 0 to 9, then A to F
abbrev pub digits : List ℕ
digits = 0x30 ∷ 0x31 ∷ 0x32 ∷ 0x33 ∷ 0x34 ∷ 0x35 ∷ 0x36 ∷ 0x37 ∷ 0x38 ∷ 0x39 ∷ 0x41 ∷ 0x42 ∷ 0x43 ∷ 0x44 ∷ 0x45 ∷ 0x46 ∷ []

-- the digit of a number below 16
abbrev pub digit : ℕ → ℕ
digit n = get_or digits n 0

-- "in decimal": no zeros in front; one digit, two from 10, three from 100 to 999
unfoldable pub decimal : ℕ → List ℕ
decimal n =
    cond (ltb n 10) (digit n ∷ []) (cond (ltb n 100) (digit (n / 10) ∷ digit (n % 10) ∷ []) (digit (n / 100) ∷ digit (n / 10 % 10) ∷ digit (n % 10) ∷ []))

-- "the word verdict and the number (0 for accepted)"
unfoldable pub verdict_line : ℕ → List ℕ
verdict_line number = verdict_word ++ decimal number ++ line_end

-- the longest of these: the word, three digits, the end
abbrev pub max_verdict_line_length : ℕ
max_verdict_line_length = 12
