-- An entry as one number, so that two entries are compared at once.
use Rattle.std.specs.Prelude.{◌≡◌, Bool, ◌&&◌, false, not, true, List, ◌%◌, ◌*◌, ◌+◌, ◌<◌, ◌≤◌, suc, zero, ℕ, eqb, get_or, length}
use Rattle.calculus.specs.Bytes.{two_byte_values}
use Rattle.calculus.specs.Limits.{byte_values}
use Rattle.calculus.specs.Table.{Entry}

-- a number that says an entry of bytes
pub record Coded (x : Entry) (key : ℕ) : Type 0 where
  pub code : key ≡ x.kind + byte_values * x.p + two_byte_values * x.q
  pub kind : x.kind < byte_values
  pub p : x.p < byte_values

-- how many marks there are for keys, and where that of a key stands
abbrev pub marks_room : ℕ
marks_room = 509

unfoldable pub mark_of : ℕ → ℕ
mark_of key = key % marks_room

-- each key from a place on has its mark
pub record Marked (keys : List ℕ) (marks : List Bool) (from count : ℕ) : Type 0 where
  pub room : length marks ≡ marks_room
  pub each : (j : ℕ) → from ≤ j → j < count → get_or marks (mark_of (get_or keys j 0)) false ≡ true

-- a key is not among n of them from place j on
unfoldable pub absent : ℕ → List ℕ → ℕ → ℕ → Bool
absent key keys j zero = true
absent key keys j (suc n) = not (eqb (get_or keys j 0) key) && absent key keys (suc j) n
