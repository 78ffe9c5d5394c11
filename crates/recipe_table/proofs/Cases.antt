-- Document 01's "Bay cases", as far as cause 4 goes, and what T-03 says of type entries.
use mathlib.Core.Path.{◌≡◌, refl}
use mathlib.Core.Bool.{Bool, false, true}
use mathlib.Core.List.{List, [], ◌++◌, ◌∷◌}
use Prim.Native.Nat.{ℕ}
use Rattle.calculus.specs.Bytes.{word}
use Rattle.calculus.specs.Table.{test_entry, is_many, entry_test, entry_stands, entries_test, same_entry, new_to, distinct_test, entry_is, table_test}
use Rattle.recipe_file.specs.Editions.{edition_1, edition_2}
use Rattle.recipe_file.specs.File.{bays, parts, offset_of, length_of, part, table_bytes, outside, cause_1, opens, edition_of, cause_2, pairs_test, table_length_test, cause_3}
use Rattle.recipe_file.proofs.Cases.{case_A}
use Rattle.recipe_table.specs.Entries.{table_of, type_table, cause_4, table_refusal}

pub case_A_stands : table_refusal case_A ≡ 0
unfolding table_refusal cause_1 cause_2 cause_3 cause_4 outside opens edition_of bays parts pairs_test offset_of length_of word table_length_test type_table table_bytes part table_of table_test entries_test entry_stands entry_test is_many distinct_test new_to same_entry entry_is test_entry
case_A_stands = refl

-- the table of some bytes keeps its rules
abbrev stands : List ℕ → Bool
stands l = table_test edition_1.kinds (table_of l)

abbrev first_three : List ℕ
first_three = 0 ∷ 0 ∷ 0 ∷ 1 ∷ 0 ∷ 0 ∷ 2 ∷ 1 ∷ 0 ∷ []

-- T5 and T7
pub five : stands (first_three ++ (4 ∷ 1 ∷ 1 ∷ 4 ∷ 2 ∷ 3 ∷ [])) ≡ true
unfolding table_of table_test entries_test entry_stands entry_test is_many distinct_test new_to same_entry entry_is test_entry
five = refl

pub seven : stands (first_three ++ (3 ∷ 1 ∷ 0 ∷ 4 ∷ 3 ∷ 0 ∷ 4 ∷ 1 ∷ 4 ∷ 4 ∷ 5 ∷ 0 ∷ [])) ≡ true
unfolding table_of table_test entries_test entry_stands entry_test is_many distinct_test new_to same_entry entry_is test_entry
seven = refl

-- an entry that names itself, a kind that is none, a cell with q, unit again, num first
pub names_itself : stands (first_three ++ (2 ∷ 3 ∷ 0 ∷ [])) ≡ false
unfolding table_of table_test entries_test entry_stands entry_test is_many distinct_test new_to same_entry entry_is test_entry
names_itself = refl

pub no_kind : stands (first_three ++ (5 ∷ 0 ∷ 0 ∷ [])) ≡ false
unfolding table_of table_test entries_test entry_stands entry_test is_many distinct_test new_to same_entry entry_is test_entry
no_kind = refl

pub cell_with_q : stands (first_three ++ (2 ∷ 0 ∷ 1 ∷ [])) ≡ false
unfolding table_of table_test entries_test entry_stands entry_test is_many distinct_test new_to same_entry entry_is test_entry
cell_with_q = refl

pub unit_again : stands (first_three ++ (0 ∷ 0 ∷ 0 ∷ [])) ≡ false
unfolding table_of table_test entries_test entry_stands entry_test is_many distinct_test new_to same_entry entry_is test_entry
unit_again = refl

pub num_first : stands (1 ∷ 0 ∷ 0 ∷ 0 ∷ 0 ∷ 0 ∷ 2 ∷ 0 ∷ 0 ∷ []) ≡ false
unfolding table_of table_test entries_test entry_stands entry_test is_many distinct_test new_to same_entry entry_is test_entry
num_first = refl

-- T-03: the table of the first three entries and some bytes keeps its rules, in edition 2
abbrev stands_with_pairs : List ℕ → Bool
stands_with_pairs l = table_test edition_2.kinds (table_of (first_three ++ l))

-- a once pair and a once list of what is usable once
pub once_pair_of_any : stands_with_pairs (3 ∷ 1 ∷ 0 ∷ 5 ∷ 3 ∷ 3 ∷ 7 ∷ 3 ∷ 0 ∷ 7 ∷ 4 ∷ 0 ∷ []) ≡ true
unfolding table_of table_test entries_test entry_stands entry_test is_many distinct_test new_to same_entry entry_is test_entry
once_pair_of_any = refl

-- a many pair and a many list of what is usable many times, pairs and lists among it
pub many_pair_of_many : stands_with_pairs (6 ∷ 1 ∷ 2 ∷ 8 ∷ 3 ∷ 0 ∷ 6 ∷ 3 ∷ 4 ∷ 8 ∷ 4 ∷ 0 ∷ []) ≡ true
unfolding table_of table_test entries_test entry_stands entry_test is_many distinct_test new_to same_entry entry_is test_entry
many_pair_of_many = refl

-- a many pair whose first component is a once function, whose second one is, or a many list of such
pub many_pair_first : stands_with_pairs (3 ∷ 1 ∷ 0 ∷ 6 ∷ 3 ∷ 1 ∷ []) ≡ false
unfolding table_of table_test entries_test entry_stands entry_test is_many distinct_test new_to same_entry entry_is test_entry
many_pair_first = refl

pub many_pair_second : stands_with_pairs (3 ∷ 1 ∷ 0 ∷ 6 ∷ 1 ∷ 3 ∷ []) ≡ false
unfolding table_of table_test entries_test entry_stands entry_test is_many distinct_test new_to same_entry entry_is test_entry
many_pair_second = refl

pub many_list_of_once : stands_with_pairs (3 ∷ 1 ∷ 0 ∷ 8 ∷ 3 ∷ 0 ∷ []) ≡ false
unfolding table_of table_test entries_test entry_stands entry_test is_many distinct_test new_to same_entry entry_is test_entry
many_list_of_once = refl

-- a many pair of a once pair, a many list of a once list: they are usable once whatever they hold
pub many_of_once_pair : stands_with_pairs (5 ∷ 1 ∷ 1 ∷ 6 ∷ 1 ∷ 3 ∷ []) ≡ false
unfolding table_of table_test entries_test entry_stands entry_test is_many distinct_test new_to same_entry entry_is test_entry
many_of_once_pair = refl

pub many_of_once_list : stands_with_pairs (7 ∷ 1 ∷ 0 ∷ 8 ∷ 3 ∷ 0 ∷ []) ≡ false
unfolding table_of table_test entries_test entry_stands entry_test is_many distinct_test new_to same_entry entry_is test_entry
many_of_once_list = refl

-- the entries p and q are asked, not what is in them: a cell or many function that holds or takes what is usable once
pub many_of_holder : stands_with_pairs (3 ∷ 1 ∷ 0 ∷ 2 ∷ 3 ∷ 0 ∷ 4 ∷ 3 ∷ 3 ∷ 6 ∷ 4 ∷ 5 ∷ 8 ∷ 4 ∷ 0 ∷ []) ≡ true
unfolding table_of table_test entries_test entry_stands entry_test is_many distinct_test new_to same_entry entry_is test_entry
many_of_holder = refl

-- a list with q, once and many
pub list_with_q : stands_with_pairs (7 ∷ 1 ∷ 1 ∷ []) ≡ false
unfolding table_of table_test entries_test entry_stands entry_test is_many distinct_test new_to same_entry entry_is test_entry
list_with_q = refl

pub many_list_with_q : stands_with_pairs (8 ∷ 1 ∷ 1 ∷ []) ≡ false
unfolding table_of table_test entries_test entry_stands entry_test is_many distinct_test new_to same_entry entry_is test_entry
many_list_with_q = refl

-- a pair and a list that name themselves, and a pair that names what comes after
pub pair_first_itself : stands_with_pairs (5 ∷ 3 ∷ 1 ∷ []) ≡ false
unfolding table_of table_test entries_test entry_stands entry_test is_many distinct_test new_to same_entry entry_is test_entry
pair_first_itself = refl

pub pair_second_itself : stands_with_pairs (5 ∷ 1 ∷ 3 ∷ []) ≡ false
unfolding table_of table_test entries_test entry_stands entry_test is_many distinct_test new_to same_entry entry_is test_entry
pair_second_itself = refl

pub many_pair_itself : stands_with_pairs (6 ∷ 1 ∷ 3 ∷ []) ≡ false
unfolding table_of table_test entries_test entry_stands entry_test is_many distinct_test new_to same_entry entry_is test_entry
many_pair_itself = refl

pub list_itself : stands_with_pairs (7 ∷ 3 ∷ 0 ∷ []) ≡ false
unfolding table_of table_test entries_test entry_stands entry_test is_many distinct_test new_to same_entry entry_is test_entry
list_itself = refl

pub many_list_itself : stands_with_pairs (8 ∷ 3 ∷ 0 ∷ []) ≡ false
unfolding table_of table_test entries_test entry_stands entry_test is_many distinct_test new_to same_entry entry_is test_entry
many_list_itself = refl

-- the same pair twice; two pairs that differ in their kind alone
pub pair_twice : stands_with_pairs (5 ∷ 1 ∷ 0 ∷ 5 ∷ 1 ∷ 0 ∷ []) ≡ false
unfolding table_of table_test entries_test entry_stands entry_test is_many distinct_test new_to same_entry entry_is test_entry
pair_twice = refl

pub pairs_by_kind : stands_with_pairs (5 ∷ 1 ∷ 0 ∷ 6 ∷ 1 ∷ 0 ∷ 7 ∷ 1 ∷ 0 ∷ 8 ∷ 1 ∷ 0 ∷ []) ≡ true
unfolding table_of table_test entries_test entry_stands entry_test is_many distinct_test new_to same_entry entry_is test_entry
pairs_by_kind = refl

-- nine kinds, the last being 8
pub kind_9 : stands_with_pairs (9 ∷ 0 ∷ 0 ∷ []) ≡ false
unfolding table_of table_test entries_test entry_stands entry_test is_many distinct_test new_to same_entry entry_is test_entry
kind_9 = refl

-- "An edition 1 file with any of these is refused as before"
pub old_once_pair : stands (first_three ++ (5 ∷ 1 ∷ 0 ∷ [])) ≡ false
unfolding table_of table_test entries_test entry_stands entry_test is_many distinct_test new_to same_entry entry_is test_entry
old_once_pair = refl

pub old_many_pair : stands (first_three ++ (6 ∷ 1 ∷ 0 ∷ [])) ≡ false
unfolding table_of table_test entries_test entry_stands entry_test is_many distinct_test new_to same_entry entry_is test_entry
old_many_pair = refl

pub old_once_list : stands (first_three ++ (7 ∷ 1 ∷ 0 ∷ [])) ≡ false
unfolding table_of table_test entries_test entry_stands entry_test is_many distinct_test new_to same_entry entry_is test_entry
old_once_list = refl

pub old_many_list : stands (first_three ++ (8 ∷ 1 ∷ 0 ∷ [])) ≡ false
unfolding table_of table_test entries_test entry_stands entry_test is_many distinct_test new_to same_entry entry_is test_entry
old_many_list = refl

-- a file with a pair among its types, and its edition
abbrev with_pair : ℕ → List ℕ
with_pair edition = 0x4C ∷ 0x46 ∷ edition ∷ 2 ∷ 12 ∷ 0 ∷ 12 ∷ 0 ∷ 24 ∷ 0 ∷ 1 ∷ 0 ∷ first_three ++ (5 ∷ 1 ∷ 0 ∷ 3 ∷ [])

pub new_file : table_refusal (with_pair 2) ≡ 0
unfolding table_refusal cause_1 cause_2 cause_3 cause_4 outside opens edition_of bays parts pairs_test offset_of length_of word table_length_test type_table table_bytes part table_of table_test entries_test entry_stands entry_test is_many distinct_test new_to same_entry entry_is test_entry
new_file = refl

pub old_file : table_refusal (with_pair 1) ≡ 4
unfolding table_refusal cause_1 cause_2 cause_3 cause_4 outside opens edition_of bays parts pairs_test offset_of length_of word table_length_test type_table table_bytes part table_of table_test entries_test entry_stands entry_test is_many distinct_test new_to same_entry entry_is test_entry
old_file = refl
