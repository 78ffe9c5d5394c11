-- What a program puts of a text into a lent buffer, and what it has read of its input.
use Rattle.std.specs.Prelude.{◌≡◌, cond, List, [], ◌++◌, ℕ, ltb, drop, length, take}

-- what is put into a lent buffer of so many bytes: all of the text, or nothing where the longest one, of `most` bytes, might not fit
unfoldable pub within : ℕ → ℕ → List ℕ → List ℕ
within most room text = cond (ltb room most) [] text

-- r bytes of a text were put into a lent buffer, which took it from `old` to `new`: the text in its first bytes, and unchanged beyond
pub record Puts (most : ℕ) (text old : List ℕ) (r : ℕ) (new : List ℕ) : Type 0 where
  pub answer : r ≡ length (within most (length old) text)
  pub leaves : new ≡ within most (length old) text ++ drop (length (within most (length old) text)) old

-- "from standard input": the first n bytes of a buffer were read, all that the input has or as many as the buffer holds
abbrev pub Read : List ℕ → List ℕ → ℕ → Type 0
Read input buffer n = take n buffer ≡ take (length buffer) input

-- the text of the whole input was put into a lent buffer
abbrev pub PutsInput : ℕ → (List ℕ → List ℕ) → List ℕ → ℕ → List ℕ → ℕ → List ℕ → Type 0
PutsInput most text_of buffer n old r new = (input : List ℕ) → Read input buffer n → Puts most (text_of input) old r new
