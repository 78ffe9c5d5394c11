-- A slice read as an image: m, and the heads and expressions of its names. These compute for any slice; what they say of it is `Layout`'s.
use Rattle.std.specs.Prelude.{cond, List, ℕ, ◌+◌, eqb, get_or, take, drop}
use Rattle.calculus.specs.Bytes.{word}
use Rattle.calculus.specs.Kinds.{open_handle_kind}
use Rattle.calculus.specs.Lists.{tabulate}
use Rattle.image_layout.specs.Encoded.{Encoded, head_offset}

-- document 01, "It starts with a two-byte m, the number of names"
unfoldable pub names : List ℕ → ℕ
names s = word s 0

-- document 01, "heads of six bytes: kind, companion byte, offset, length"
unfoldable pub kind_at : List ℕ → ℕ → ℕ
kind_at s k = get_or s (head_offset k) 0

unfoldable pub companion_at : List ℕ → ℕ → ℕ
companion_at s k = get_or s (head_offset k + 1) 0

-- T-08, "The companion byte of kinds 1, 2, 4 and 5 now holds the owning bay; an open handle has the owner of its future": the owner of name k
unfoldable pub owner_at : List ℕ → ℕ → ℕ
owner_at s k = companion_at s (cond (eqb (kind_at s k) open_handle_kind) (companion_at s k) k)

unfoldable pub offset_at : List ℕ → ℕ → ℕ
offset_at s k = word s (head_offset k + 2)

unfoldable pub length_at : List ℕ → ℕ → ℕ
length_at s k = word s (head_offset k + 4)

-- the expression of name k: so many bytes from its offset on
unfoldable pub expression_at : List ℕ → ℕ → List ℕ
expression_at s k = take (length_at s k) (drop (offset_at s k) s)

-- the component of name k
unfoldable pub encoded_at : List ℕ → ℕ → Encoded
encoded_at s k = record { kind = kind_at s k; companion = companion_at s k; expression = expression_at s k }

-- the components of all names
unfoldable pub encoded_all : List ℕ → List Encoded
encoded_all s = tabulate (names s) (encoded_at s)
