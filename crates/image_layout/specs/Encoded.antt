-- A component in bytes, and document 01's bytes of an image: "a two-byte m, the number of names. Then come m heads of six bytes: kind, companion byte,
-- offset, length; then the expressions."
use Rattle.std.specs.Prelude.{List, [], ◌∷◌, ◌++◌, ℕ, ◌+◌, ◌*◌, length}
use Rattle.calculus.specs.Bytes.{two_bytes}
use Rattle.calculus.specs.Limits.{first_head, head_length}

-- what the head of a name and its expression say, but for where the expression stands
pub record Encoded : Type 0 where
  pub kind : ℕ
  pub companion : ℕ
  pub expression : List ℕ

-- "heads of six bytes: kind, companion byte, offset, length"
unfoldable pub head : ℕ → ℕ → ℕ → ℕ → List ℕ
head kind companion offset size = (kind ∷ companion ∷ []) ++ two_bytes offset ++ two_bytes size

-- where the head of name k stands; with m for k, where the heads end
abbrev pub head_offset : ℕ → ℕ
head_offset k = first_head + head_length * k

-- the heads of the components, the first expression being due at `offset`: "each next begins where the former ends"
unfoldable pub heads : ℕ → List Encoded → List ℕ
heads offset [] = []
heads offset (e ∷ E) = head e.kind e.companion offset (length e.expression) ++ heads (offset + length e.expression) E

-- "then the expressions"
unfoldable pub expressions : List Encoded → List ℕ
expressions [] = []
expressions (e ∷ E) = e.expression ++ expressions E

-- the image: "The first expression's offset is 2 + 6m"
unfoldable pub image_bytes : List Encoded → List ℕ
image_bytes E = two_bytes (length E) ++ heads (head_offset (length E)) E ++ expressions E
