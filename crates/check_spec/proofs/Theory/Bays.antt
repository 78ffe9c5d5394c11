-- The bays' parts and terms: from the tests to the expressions, and back.
use Rattle.std.specs.Prelude.{◌≡◌, refl, List, [], ◌∷◌, ◌*◌, suc, zero, ℕ, drop, length}
use Rattle.std.proofs.Common.{ap, arith}
use Rattle.calculus.specs.Bytes.{Bytes}
use Rattle.calculus.specs.Table.{Table, entry}
use Rattle.term.proofs.Terms.{bytes_drop, bytes_take}
use Rattle.recipe_file.specs.File.{part, offset_of, length_of}
use Rattle.recipe_table.specs.Entries.{table_of}
use Rattle.check_spec.specs.Recipe.{entry_bytes}

-- parts of a list of bytes are lists of bytes
pub part_bytes : (s : List ℕ) (i : ℕ) → Bytes s → Bytes (part s i)
unfolding part
part_bytes s i b = bytes_take (length_of s i) (drop (offset_of s i) s) (bytes_drop (offset_of s i) s b)

-- the table: its bytes, and back
pub entry_bytes_of : (n : ℕ) (l : List ℕ) → length l ≡ 3 * n → entry_bytes (table_of l) ≡ l
unfolding entry_bytes table_of
entry_bytes_of n [] e = refl
entry_bytes_of n (kind ∷ []) e = absurd (omega arith)
entry_bytes_of n (kind ∷ p ∷ []) e = absurd (omega arith)
entry_bytes_of zero (kind ∷ p ∷ q ∷ l) e = absurd (omega arith)
entry_bytes_of (suc n) (kind ∷ p ∷ q ∷ l) e = ap (λ r. kind ∷ p ∷ q ∷ r) (entry_bytes_of n l (omega arith))

pub table_of_entries : (T : Table) → table_of (entry_bytes T) ≡ T
unfolding entry_bytes table_of
table_of_entries [] = refl
table_of_entries (x ∷ T) = ap (λ r. entry x.kind x.p x.q ∷ r) (table_of_entries T)
