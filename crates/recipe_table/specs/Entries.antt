-- Document 01, "The type table has t entries of three bytes: kind, p, q"; cause 4 of a file.
use Rattle.std.specs.Prelude.{Bool, not, List, [], ◌++◌, ◌∷◌, ℕ}
use Rattle.calculus.specs.Causes.{type_entry_cause}
use Rattle.calculus.specs.Lowest.{Cause, cause, first_cause}
use Rattle.calculus.specs.Table.{entry, Table, table_test}
use Rattle.recipe_file.specs.File.{edition_of, table_bytes, layout_causes}

-- the entries that the bytes of a table say; bytes that make no whole entry say none
unfoldable pub table_of : List ℕ → Table
table_of [] = []
table_of (kind ∷ []) = []
table_of (kind ∷ p ∷ []) = []
table_of (kind ∷ p ∷ q ∷ l) = entry kind p q ∷ table_of l

-- the type table of a file
unfoldable pub type_table : List ℕ → Table
type_table s = table_of (table_bytes s)

-- document 01, cause 4: "a type entry breaks its rule"
unfoldable pub cause_4 : List ℕ → Bool
cause_4 s = not (table_test (edition_of s).kinds (type_table s))

-- causes 1 to 4 with their numbers
abbrev pub table_causes : List ℕ → List Cause
table_causes s = layout_causes s ++ (cause type_entry_cause (cause_4 s) ∷ [])

-- the number of the first of them that fits, 0 where none does
unfoldable pub table_refusal : List ℕ → ℕ
table_refusal s = first_cause (table_causes s)
