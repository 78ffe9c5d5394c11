-- Document 02, T-10: what is asked of a call for the next term, one field for each sentence, of every table, every size and every bytes to come after.
-- It is proved in Theory.Whole. Of the definitions that it speaks of, those of Goals and Search, by which an answer is found, need not be read.
use Rattle.std.specs.Prelude.{◌≡◌, ◌↔◌, ◌⊎◌, List, [], ◌*◌, ◌-◌, ◌<◌, ◌≤◌, ℕ, drop, length, replicate}
use Rattle.std.proofs.Math.Option.{some}
use Rattle.calculus.specs.Causes.{layout_cause, size_cause, type_entry_cause}
use Rattle.calculus.specs.Limits.{min_entries, max_entries, min_term_nodes, max_term_nodes, max_term_length}
use Rattle.calculus.specs.Syntax.{Exp, at}
use Rattle.calculus.specs.Image.{nodes}
use Rattle.calculus.specs.Table.{Entry, Table, TableRule}
use Rattle.term.specs.Expressions.{bytes}
use Rattle.recipe_file.specs.Editions.{edition_1}
use Rattle.recipe_file.specs.File.{entry_length}
use Rattle.recipe_file.specs.FileRule.{Between}
use Rattle.recipe_table.specs.Entries.{table_of}
use Rattle.list_spec.specs.declared.NextTerm.{NextTerm}
use Rattle.list_spec.specs.Order.{Before}
use Rattle.list_spec.specs.Listed.{Listed, Next, NoMore, GoesOn}
use Rattle.list_spec.specs.NextTerm.{with_zeros, empty, next_term, call}

-- "a size of 1 to 6 nodes"
abbrev pub SizeRule : ℕ → Type 0
SizeRule size = Between min_term_nodes max_term_nodes size

-- "its length": document 01, "t entries of three bytes", "3 to 256 type entries"
abbrev pub LengthRule : ℕ → Type 0
LengthRule n = (t : ℕ) × (n ≡ entry_length * t) × Between min_entries max_entries t

-- "an edition 1 type table": its kinds, and document 01's rule of each entry
pub record EntriesRule (T : Table) : Type 0 where
  pub kinds : (k : ℕ) (x : Entry) → at T k ≡ some x → x.kind < edition_1.kinds
  pub rule : TableRule T

-- a table and a size that are not refused
pub record Asked (table : List ℕ) (size : ℕ) : Type 0 where
  pub sized : SizeRule size
  pub long : LengthRule (length table)
  pub entries : EntriesRule (table_of table)

-- t stands in a list
abbrev pub StandsIn : List ℕ → List (List ℕ) → Type 0
StandsIn t l = (i : ℕ) × (at l i ≡ some t)

-- a list of what is listed and comes after some bytes
pub record AllAfter (table : List ℕ) (size : ℕ) (after : List ℕ) (l : List (List ℕ)) : Type 0 where
  -- "lists all", and nothing else
  pub all : (t : List ℕ) → StandsIn t l ↔ (Listed table size t × Before after t)
  -- "in ascending order of their bytes"
  pub ascending : (i j : ℕ) (s t : List ℕ) → i < j → at l i ≡ some s → at l j ≡ some t → Before s t
  -- "each once"
  pub once : (i j : ℕ) (t : List ℕ) → at l i ≡ some t → at l j ≡ some t → i ≡ j

-- what every answer looks like, where it is refused too
pub record Shape (r : NextTerm) : Type 0 where
  -- "by value, as a length and 18 bytes"
  pub eighteen : length r.bytes ≡ max_term_length
  -- "with zeros past the length"
  pub zeros : drop r.length r.bytes ≡ replicate (max_term_length - r.length) 0
  -- "a refusal .. gives length 0 and zeros"; no more gives `empty 0`, which says so too
  pub refused_empty : ¬ (r.refusal ≡ 0) → r ≡ empty r.refusal

pub record SmallRecipes : Type 0 where
  -- "It refuses a size outside 1 to 6 with 22, before the table is looked at"
  pub size_22 : (table : List ℕ) (size : ℕ) (after : List ℕ) → ((next_term table size after).refusal ≡ size_cause) ↔ (¬ SizeRule size)
  -- "A bad table gets refusal 3 for its length"
  pub length_3 : (table : List ℕ) (size : ℕ) (after : List ℕ) → ((next_term table size after).refusal ≡ layout_cause) ↔ (SizeRule size × (¬ LengthRule (length table)))
  -- "or 4 for an entry"
  pub entry_4 : (table : List ℕ) (size : ℕ) (after : List ℕ) →
      ((next_term table size after).refusal ≡ type_entry_cause) ↔ (SizeRule size × LengthRule (length table) × (¬ EntriesRule (table_of table)))
  -- and nothing else is refused, by no other number
  pub not_refused : (table : List ℕ) (size : ℕ) (after : List ℕ) → ((next_term table size after).refusal ≡ 0) ↔ Asked table size
  pub no_other : (table : List ℕ) (size : ℕ) (after : List ℕ) → ¬ ((next_term table size after).refusal ≡ 0) →
      ((next_term table size after).refusal ≡ size_cause) ⊎ (((next_term table size after).refusal ≡ layout_cause) ⊎ ((next_term table size after).refusal ≡ type_entry_cause))
  -- "gives the first such term that comes after them, by value, as a length and 18 bytes with zeros past the length"
  pub gives : (table : List ℕ) (size : ℕ) → Asked table size → (after s : List ℕ) →
      ((0 < length s) × (next_term table size after ≡ record { refusal = 0; length = length s; bytes = with_zeros s })) ↔ Next table size after s
  -- "It says that there are no more when none comes after, and not otherwise"
  pub no_more : (table : List ℕ) (size : ℕ) → Asked table size → (after : List ℕ) → (next_term table size after ≡ empty 0) ↔ NoMore table size after
  -- there is always one of the two, and one first
  pub one_of_two : (table : List ℕ) (size : ℕ) → Asked table size → (after : List ℕ) → ((s : List ℕ) × Next table size after s) ⊎ NoMore table size after
  pub one_first : (table : List ℕ) (size : ℕ) → Asked table size → (after s t : List ℕ) → Next table size after s → Next table size after t → s ≡ t
  -- "by value"
  pub shape : (table : List ℕ) (size : ℕ) (after : List ℕ) → Shape (next_term table size after)
  -- "18 bytes": a term of at most 6 nodes has no more
  pub short : (e : Exp) → nodes e ≤ max_term_nodes → length (bytes e) ≤ max_term_length
  -- "Going on from each term given": it ends
  pub ends : (table : List ℕ) (size : ℕ) → Asked table size → (after : List ℕ) → (l : List (List ℕ)) × GoesOn (call table size) after l
  -- and it "lists all, each once"
  pub lists : (table : List ℕ) (size : ℕ) → Asked table size → (after : List ℕ) (l : List (List ℕ)) → GoesOn (call table size) after l → AllAfter table size after l
  -- "some bytes, or none": from none it is all that is listed
  pub from_none : (table : List ℕ) (size : ℕ) → Asked table size → (l : List (List ℕ)) → GoesOn (call table size) [] l → (t : List ℕ) →
      StandsIn t l ↔ Listed table size t
