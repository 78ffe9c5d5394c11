-- Calls as rows, each by computation. A row's comment says what it tells; what is expected was reckoned by trying all terms, without these definitions.
use Rattle.std.specs.Prelude.{◌≡◌, refl, List, [], ◌++◌, ◌∷◌, map, ℕ, length, replicate, take}
use Rattle.std.proofs.Common.{arith}
use Rattle.calculus.specs.Bytes.{word, two_bytes}
use Rattle.calculus.specs.Image.{nodes}
use Rattle.calculus.specs.Names.{uses}
use Rattle.calculus.specs.Table.{test_entry, is_many, entry_test, entry_stands, entries_test, same_entry, new_to, distinct_test, entry_is, table_test}
use Rattle.calculus.specs.Verdict.{on_function, on_once_function, on_cell, scoped_const, scoped, annotated_const, annotated, const_number, on_number, result_number, applied_number, lambda_number, type_number, outside_many, linear_variable, linear, every, verdict}
use Rattle.term.specs.Numbers.{value_of, little_endian}
use Rattle.term.specs.Forms.{forms, form_of}
use Rattle.term.specs.Tree.{forms_below}
use Rattle.term.specs.Reader.{read, read_term, of_edition, one_term}
use Rattle.term.specs.Expressions.{leaf_forms, leaf_exp, two_forms, two_exp, exp_of, term_of}
use Rattle.recipe_file.specs.File.{outside, table_length_test}
use Rattle.recipe_table.specs.Entries.{table_of}
use Rattle.list_spec.specs.declared.NextTerm.{NextTerm}
use Rattle.list_spec.specs.Order.{pass}
use Rattle.list_spec.specs.Search.{find}
use Rattle.list_spec.specs.Listed.{small_const, has_small_nums, Next, all_bytes, passes, listed_test, GoesOn, stops, gives}
use Rattle.list_spec.specs.Goals.{meets, with_parts, arguments, leaf_type, behind_leaf, behind_lambda, enter_by, enter, room, may_use, useful_by, useful, upward, bounds, heads_from, heads, with_branch, choose, branches_at, branches}
use Rattle.list_spec.specs.NextTerm.{search, next_refusal, with_zeros, empty, given, next_term, term_given, call}
use Rattle.list_spec.proofs.Theory.Whole.{small_recipes}

-- document 01's tables: the first three entries, "T5", "T7"
abbrev pub three : List ℕ
three = 0 ∷ 0 ∷ 0 ∷ 1 ∷ 0 ∷ 0 ∷ 2 ∷ 1 ∷ 0 ∷ []

abbrev pub five : List ℕ
five = three ++ (4 ∷ 1 ∷ 1 ∷ 4 ∷ 2 ∷ 3 ∷ [])

abbrev pub seven : List ℕ
seven = three ++ (3 ∷ 1 ∷ 0 ∷ 4 ∷ 3 ∷ 0 ∷ 4 ∷ 1 ∷ 4 ∷ 4 ∷ 5 ∷ 0 ∷ [])

-- num to unit, once (3) and many (4); many functions from the first to the second (5) and to itself (6)
abbrev pub closures : List ℕ
closures = three ++ (3 ∷ 1 ∷ 0 ∷ 4 ∷ 1 ∷ 0 ∷ 4 ∷ 3 ∷ 4 ∷ 4 ∷ 3 ∷ 3 ∷ [])

-- a once function, a cell of it, and a function from the one to the other
abbrev pub cells_of_once : List ℕ
cells_of_once = three ++ (3 ∷ 1 ∷ 0 ∷ 2 ∷ 3 ∷ 0 ∷ 4 ∷ 3 ∷ 4 ∷ [])

-- num to num, and from that to num
abbrev pub threads : List ℕ
threads = three ++ (4 ∷ 1 ∷ 1 ∷ 4 ∷ 3 ∷ 1 ∷ [])

-- functions of one to five nums
abbrev pub chain : List ℕ
chain = three ++ (4 ∷ 1 ∷ 1 ∷ 4 ∷ 1 ∷ 3 ∷ 4 ∷ 1 ∷ 4 ∷ 4 ∷ 1 ∷ 5 ∷ 4 ∷ 1 ∷ 6 ∷ [])

-- a call, and what is answered
pub record Row : Type 0 where
  pub table : List ℕ
  pub size : ℕ
  pub after : List ℕ
  pub refusal : ℕ
  pub term : List ℕ

-- a term; no more; a refusal
abbrev row : List ℕ → ℕ → List ℕ → List ℕ → Row
row table size after term = record { table = table; size = size; after = after; refusal = 0; term = term }

abbrev end_row : List ℕ → ℕ → List ℕ → Row
end_row table size after = record { table = table; size = size; after = after; refusal = 0; term = [] }

abbrev refused_row : List ℕ → ℕ → ℕ → Row
refused_row table size refusal = record { table = table; size = size; after = []; refusal = refusal; term = [] }

abbrev eighteen_zeros : List ℕ
eighteen_zeros = 0 ∷ 0 ∷ 0 ∷ 0 ∷ 0 ∷ 0 ∷ 0 ∷ 0 ∷ 0 ∷ 0 ∷ 0 ∷ 0 ∷ 0 ∷ 0 ∷ 0 ∷ 0 ∷ 0 ∷ 0 ∷ []

-- the answer that a row expects, and the one that the call gives
abbrev expected : Row → NextTerm
expected r = record { refusal = r.refusal; length = length r.term; bytes = take 18 (r.term ++ eighteen_zeros) }

abbrev answer : Row → NextTerm
answer r = next_term r.table r.size r.after

abbrev Holds : List Row → Type 0
Holds rows = map answer rows ≡ map expected rows

-- all of size 1 over the first three entries, one after the other
abbrev pub size_1_rows : List Row
size_1_rows =
    -- from none on: the first of all
    row three 1 [] (3 ∷ [])
    -- strictly after: the bytes given do not come again
    ∷ row three 1 (3 ∷ []) (4 ∷ 0 ∷ 0 ∷ [])
    -- num 1 is listed
    ∷ row three 1 (4 ∷ 0 ∷ 0 ∷ []) (4 ∷ 1 ∷ 0 ∷ [])
    -- num 2 is not; name 0 is listed
    ∷ row three 1 (4 ∷ 1 ∷ 0 ∷ []) (9 ∷ 0 ∷ [])
    -- name 1 is not: there is one bay
    ∷ end_row three 1 (9 ∷ 0 ∷ [])
    -- exactly that size: those of one node are not listed for two
    ∷ end_row three 2 []
    ∷ []

-- bytes given that are no term
abbrev pub no_term_rows : List Row
no_term_rows =
    -- a beginning of a term comes before it
    row three 1 (4 ∷ []) (4 ∷ 0 ∷ 0 ∷ [])
    -- and a longer one
    ∷ row three 1 (4 ∷ 1 ∷ []) (4 ∷ 1 ∷ 0 ∷ [])
    -- what extends a term comes after it
    ∷ row three 1 (4 ∷ 0 ∷ 0 ∷ 0 ∷ []) (4 ∷ 1 ∷ 0 ∷ [])
    -- num 256 comes after num 0 and before num 1, by their bytes
    ∷ row three 1 (4 ∷ 0 ∷ 1 ∷ []) (4 ∷ 1 ∷ 0 ∷ [])
    -- bytes longer than any term are not cut at 18
    ∷ row three 1 (3 ∷ replicate 19 255) (4 ∷ 0 ∷ 0 ∷ [])
    -- bytes that begin no term
    ∷ row three 1 (2 ∷ 2 ∷ 2 ∷ []) (3 ∷ [])
    -- no tag is so high
    ∷ end_row three 1 (255 ∷ [])
    ∷ []

-- sizes from 1 to 6, before the table is looked at
abbrev pub sizes_rows : List Row
sizes_rows =
    -- size 0
    refused_row three 0 22
    -- size 7
    ∷ refused_row three 7 22
    -- size 6 is listed: there is none
    ∷ end_row three 6 []
    -- 22 before 3
    ∷ refused_row [] 0 22
    -- 22 before 3, above
    ∷ refused_row [] 7 22
    -- 22 before 4
    ∷ refused_row (three ++ (9 ∷ 0 ∷ 0 ∷ [])) 7 22
    ∷ []

-- the table's length: a multiple of 3, from 9 to 768, before its entries
abbrev pub lengths_rows : List Row
lengths_rows =
    -- no table
    refused_row [] 6 3
    -- two entries
    ∷ refused_row (0 ∷ 0 ∷ 0 ∷ 1 ∷ 0 ∷ 0 ∷ []) 1 3
    -- a byte over
    ∷ refused_row (three ++ (3 ∷ [])) 1 3
    -- 3 before 4
    ∷ refused_row (three ++ (9 ∷ 0 ∷ 0 ∷ 0 ∷ [])) 1 3
    -- 256 entries are not too many, but these are equal
    ∷ refused_row (replicate 768 0) 1 4
    -- 257 entries
    ∷ refused_row (replicate 771 0) 1 3
    ∷ []

-- the entries: document 01, and the kinds of edition 1
abbrev pub entries_rows : List Row
entries_rows =
    -- entry 2 is no cell of num
    refused_row (0 ∷ 0 ∷ 0 ∷ 1 ∷ 0 ∷ 0 ∷ 2 ∷ 0 ∷ 0 ∷ []) 1 4
    -- an entry names itself
    ∷ refused_row (three ++ (4 ∷ 3 ∷ 0 ∷ [])) 1 4
    -- two entries are equal
    ∷ refused_row (three ++ (2 ∷ 1 ∷ 0 ∷ [])) 1 4
    -- a once pair
    ∷ refused_row (three ++ (5 ∷ 1 ∷ 1 ∷ [])) 1 4
    -- a many pair
    ∷ refused_row (three ++ (6 ∷ 1 ∷ 1 ∷ [])) 1 4
    -- a once list
    ∷ refused_row (three ++ (7 ∷ 1 ∷ 0 ∷ [])) 1 4
    -- a many list
    ∷ refused_row (three ++ (8 ∷ 1 ∷ 0 ∷ [])) 1 4
    ∷ []

-- constants with a type, where it is an instance of Fig. 8
abbrev pub constants_rows : List Row
constants_rows =
    -- exch: "T5"
    row five 1 (4 ∷ 1 ∷ 0 ∷ []) (6 ∷ 4 ∷ [])
    -- handle: "T7"
    ∷ row seven 1 (4 ∷ 1 ∷ 0 ∷ []) (8 ∷ 6 ∷ [])
    -- thread
    ∷ row threads 1 (4 ∷ 1 ∷ 0 ∷ []) (7 ∷ 4 ∷ [])
    -- T-02: a cell of a once function
    ∷ row cells_of_once 1 (4 ∷ 1 ∷ 0 ∷ []) (5 ∷ 5 ∷ [])
    -- and nothing between it and name 0
    ∷ row cells_of_once 1 (5 ∷ 5 ∷ []) (9 ∷ 0 ∷ [])
    ∷ []

-- multiplicities
abbrev pub multiplicities_rows : List Row
multiplicities_rows =
    -- a bay of a once type (case E) and a once parameter not used (case D) are passed over
    row seven 2 [] (1 ∷ 6 ∷ 3 ∷ [])
    -- and there are no more
    ∷ end_row seven 2 (1 ∷ 6 ∷ 3 ∷ [])
    -- no term of three nodes, with some of two and of four
    ∷ end_row seven 3 []
    -- a once parameter used once
    ∷ row seven 4 [] (1 ∷ 4 ∷ 2 ∷ 0 ∷ 0 ∷ 4 ∷ 0 ∷ 0 ∷ [])
    -- a many parameter not used
    ∷ row closures 2 [] (1 ∷ 4 ∷ 3 ∷ [])
    -- a once parameter given back
    ∷ row closures 2 (1 ∷ 4 ∷ 3 ∷ []) (1 ∷ 6 ∷ 0 ∷ 0 ∷ [])
    -- a once function applied where it stands
    ∷ row closures 4 [] (2 ∷ 1 ∷ 3 ∷ 3 ∷ 4 ∷ 0 ∷ 0 ∷ [])
    -- free under a many-lambda (01 05 01 04 ..) is passed over, under a once-lambda not
    ∷ row closures 5 (1 ∷ 4 ∷ 2 ∷ 1 ∷ 4 ∷ 3 ∷ 4 ∷ 1 ∷ 0 ∷ []) (1 ∷ 6 ∷ 1 ∷ 3 ∷ 2 ∷ 0 ∷ 1 ∷ 0 ∷ 0 ∷ [])
    ∷ []

-- larger terms
abbrev pub larger_rows : List Row
larger_rows =
    -- of two nodes
    row five 2 [] (1 ∷ 3 ∷ 0 ∷ 0 ∷ [])
    -- case B, with num 0 in place of 250, behind a beginning of it
    ∷ row five 5 (2 ∷ 2 ∷ 6 ∷ 4 ∷ []) (2 ∷ 2 ∷ 6 ∷ 4 ∷ 9 ∷ 0 ∷ 4 ∷ 0 ∷ 0 ∷ [])
    -- with num 1
    ∷ row five 5 (2 ∷ 2 ∷ 6 ∷ 4 ∷ 9 ∷ 0 ∷ 4 ∷ 0 ∷ 0 ∷ []) (2 ∷ 2 ∷ 6 ∷ 4 ∷ 9 ∷ 0 ∷ 4 ∷ 1 ∷ 0 ∷ [])
    -- no more behind it
    ∷ end_row five 5 (2 ∷ 2 ∷ 6 ∷ 4 ∷ 9 ∷ 0 ∷ 4 ∷ 1 ∷ 0 ∷ [])
    -- case C's function
    ∷ row seven 5 [] (1 ∷ 5 ∷ 1 ∷ 4 ∷ 2 ∷ 0 ∷ 0 ∷ 0 ∷ 1 ∷ [])
    -- as long as a term of six nodes can be: 13 bytes
    ∷ row chain 6 (1 ∷ 7 ∷ 1 ∷ 6 ∷ 1 ∷ 5 ∷ 1 ∷ 4 ∷ 1 ∷ 3 ∷ 3 ∷ []) (1 ∷ 7 ∷ 1 ∷ 6 ∷ 1 ∷ 5 ∷ 1 ∷ 4 ∷ 1 ∷ 3 ∷ 4 ∷ 0 ∷ 0 ∷ [])
    -- and the one behind it
    ∷ row chain 6 (1 ∷ 7 ∷ 1 ∷ 6 ∷ 1 ∷ 5 ∷ 1 ∷ 4 ∷ 1 ∷ 3 ∷ 4 ∷ 0 ∷ 0 ∷ []) (1 ∷ 7 ∷ 1 ∷ 6 ∷ 1 ∷ 5 ∷ 1 ∷ 4 ∷ 1 ∷ 3 ∷ 4 ∷ 1 ∷ 0 ∷ [])
    ∷ []

-- every row holds
pub cases : Holds size_1_rows × Holds no_term_rows × Holds sizes_rows × Holds lengths_rows × Holds entries_rows × Holds constants_rows × Holds multiplicities_rows × Holds larger_rows
unfolding test_entry is_many entry_test entry_stands entries_test same_entry new_to distinct_test entry_is table_test on_function on_once_function on_cell scoped_const scoped annotated_const annotated const_number on_number result_number applied_number lambda_number type_number outside_many linear_variable linear every verdict nodes uses word two_bytes value_of little_endian forms form_of forms_below read read_term of_edition one_term leaf_forms leaf_exp two_forms two_exp exp_of term_of outside table_length_test table_of pass find small_const has_small_nums all_bytes passes listed_test meets with_parts arguments leaf_type behind_leaf behind_lambda enter_by enter room may_use useful_by useful upward bounds heads_from heads with_branch choose branches_at branches search next_refusal with_zeros empty given next_term
cases = (refl, refl, refl, refl, refl, refl, refl, refl)

-- going on from none: all terms of four nodes over "T7"
pub all_of_four : GoesOn (call seven 4) [] (
    (1 ∷ 4 ∷ 2 ∷ 0 ∷ 0 ∷ 4 ∷ 0 ∷ 0 ∷ []) ∷ (1 ∷ 4 ∷ 2 ∷ 0 ∷ 0 ∷ 4 ∷ 1 ∷ 0 ∷ []) ∷ (1 ∷ 6 ∷ 2 ∷ 8 ∷ 6 ∷ 0 ∷ 0 ∷ [])
    ∷ (2 ∷ 1 ∷ 3 ∷ 3 ∷ 4 ∷ 0 ∷ 0 ∷ []) ∷ (2 ∷ 1 ∷ 3 ∷ 3 ∷ 4 ∷ 1 ∷ 0 ∷ []) ∷ [])
unfolding test_entry is_many entry_test entry_stands entries_test same_entry new_to distinct_test entry_is table_test on_function on_once_function on_cell scoped_const scoped annotated_const annotated const_number on_number result_number applied_number lambda_number type_number outside_many linear_variable linear every verdict nodes uses word two_bytes value_of little_endian forms form_of forms_below read read_term of_edition one_term leaf_forms leaf_exp two_forms two_exp exp_of term_of outside table_length_test table_of pass find small_const has_small_nums all_bytes passes listed_test meets with_parts arguments leaf_type behind_leaf behind_lambda enter_by enter room may_use useful_by useful upward bounds heads_from heads with_branch choose branches_at branches search next_refusal with_zeros empty given next_term call term_given
all_of_four = gives refl (gives refl (gives refl (gives refl (gives refl (stops refl)))))

-- the theorem at a row: this is the first of what document 01's checker accepts
pub first_of_five : Next seven 5 [] (1 ∷ 5 ∷ 1 ∷ 4 ∷ 2 ∷ 0 ∷ 0 ∷ 0 ∷ 1 ∷ [])
unfolding test_entry is_many entry_test entry_stands entries_test same_entry new_to distinct_test entry_is table_test on_function on_once_function on_cell scoped_const scoped annotated_const annotated const_number on_number result_number applied_number lambda_number type_number outside_many linear_variable linear every verdict nodes uses word two_bytes value_of little_endian forms form_of forms_below read read_term of_edition one_term leaf_forms leaf_exp two_forms two_exp exp_of term_of outside table_length_test table_of pass find small_const has_small_nums all_bytes passes listed_test meets with_parts arguments leaf_type behind_leaf behind_lambda enter_by enter room may_use useful_by useful upward bounds heads_from heads with_branch choose branches_at branches search next_refusal with_zeros empty given next_term
first_of_five = (small_recipes.gives seven 5 ((small_recipes.not_refused seven 5 []).0 refl) [] (1 ∷ 5 ∷ 1 ∷ 4 ∷ 2 ∷ 0 ∷ 0 ∷ 0 ∷ 1 ∷ [])).0 (omega arith, refl)
