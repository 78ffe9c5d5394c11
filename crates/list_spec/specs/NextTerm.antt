-- Document 02, T-10: the answer of a call, for any bytes of a table, any size and any bytes to come after.
use Rattle.std.specs.Prelude.{cond, not, List, [], ◌++◌, ◌∷◌, ◌-◌, ℕ, eqb, length, replicate, take}
use Rattle.std.proofs.Math.Option.{Option, none, some}
use Rattle.calculus.specs.Causes.{layout_cause, size_cause, type_entry_cause}
use Rattle.calculus.specs.Limits.{min_term_nodes, max_term_nodes, max_term_length}
use Rattle.calculus.specs.Lowest.{Cause, cause, first_cause}
use Rattle.calculus.specs.Table.{Table, table_test}
use Rattle.recipe_file.specs.Editions.{edition_1}
use Rattle.recipe_file.specs.File.{outside, table_length_test}
use Rattle.recipe_table.specs.Entries.{table_of}
use Rattle.list_spec.specs.declared.NextTerm.{NextTerm}
use Rattle.list_spec.specs.Order.{above}
use Rattle.list_spec.specs.Listed.{listed_test}
use Rattle.list_spec.specs.Search.{find}
use Rattle.list_spec.specs.Goals.{beginning, branches}

-- the first term of a size that is listed and comes after some bytes
unfoldable pub search : Table → ℕ → List ℕ → Option (List ℕ)
search T size after = find (branches T) (listed_test T size) size beginning [] (above after)

-- "It refuses a size outside 1 to 6 with 22, before the table is looked at"; "refusal 3 for its length or 4 for an entry"
abbrev pub next_causes : List ℕ → ℕ → List Cause
next_causes table size =
    cause size_cause (outside min_term_nodes max_term_nodes size)
    ∷ cause layout_cause (not (table_length_test (length table)))
    ∷ cause type_entry_cause (not (table_test edition_1.kinds (table_of table)))
    ∷ []

-- the number of the first that fits, 0 where none does
unfoldable pub next_refusal : List ℕ → ℕ → ℕ
next_refusal table size = first_cause (next_causes table size)

-- "by value, as a length and 18 bytes with zeros past the length"
unfoldable pub with_zeros : List ℕ → List ℕ
with_zeros s = s ++ replicate (max_term_length - length s) 0

-- "a refusal, or no more, gives length 0 and zeros"
unfoldable pub empty : ℕ → NextTerm
empty refusal = record { refusal = refusal; length = 0; bytes = with_zeros [] }

-- a term, or no more
unfoldable pub given : Option (List ℕ) → NextTerm
given none = empty 0
given (some s) = record { refusal = 0; length = length s; bytes = with_zeros s }

-- what a call answers
unfoldable pub next_term : List ℕ → ℕ → List ℕ → NextTerm
next_term table size after = cond (eqb (next_refusal table size) 0) (given (search (table_of table) size after)) (empty (next_refusal table size))

-- the term that an answer gives, as a caller reads it
unfoldable pub term_given : NextTerm → Option (List ℕ)
term_given r = cond (eqb r.length 0) none (some (take r.length r.bytes))

-- one call
unfoldable pub call : List ℕ → ℕ → List ℕ → Option (List ℕ)
call table size after = term_given (next_term table size after)
