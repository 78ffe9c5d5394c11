-- Document 01's "Bay cases", as far as causes 1 to 3 go, and files at the limits.
use mathlib.Core.Path.{◌≡◌, refl}
use mathlib.Core.Bool.{false, true}
use mathlib.Core.List.{List, [], ◌++◌, ◌∷◌, map}
use Prim.Native.Nat.{◌+◌, ◌-◌, suc, zero, ℕ}
use lib.ListN.{drop, replicate}
use Rattle.calculus.specs.Bytes.{two_bytes, word}
use Rattle.calculus.specs.Lists.{tabulate}
use Rattle.calculus.specs.Limits.{min_bays, max_bays, min_parts, max_parts}
use Rattle.recipe_file.proofs.Causes.{bays_outside}
use Rattle.recipe_file.specs.Editions.{edition_1, edition_2, edition_3}
use Rattle.recipe_file.specs.File.{parts, bays, table_bytes, term_bytes, pair_offset, offset_of, length_of, part, outside, cause_1, opens, edition_of, cause_2, pairs_test, table_length_test, cause_3, layout_refusal}
use Rattle.recipe_file.specs.Starting.{starting_bytes, starting_num, starting_nums, nums_bytes, cause_19}
use Rattle.recipe_file.specs.Whole.{file_of, joined, pairs_of, parts_from}
use Rattle.recipe_file.specs.Twins.{term_parts, twin, edition_2_twin, edition_3_twin}

-- "table of three entries"
abbrev table_3 : List ℕ
table_3 = 0 ∷ 0 ∷ 0 ∷ 1 ∷ 0 ∷ 0 ∷ 2 ∷ 1 ∷ 0 ∷ []

-- a file of one bay, from the four bytes of each pair, the table and the term
abbrev one_bay : List ℕ → List ℕ → List ℕ
one_bay pairs rest = 0x4C ∷ 0x46 ∷ 1 ∷ 2 ∷ pairs ++ rest

-- case A: "4C 46 01 02 0C 00 09 00 15 00 01 00, then the nine table bytes, then 03"
abbrev pub case_A : List ℕ
case_A = one_bay (0x0C ∷ 0 ∷ 9 ∷ 0 ∷ 0x15 ∷ 0 ∷ 1 ∷ 0 ∷ []) (table_3 ++ (3 ∷ []))

pub case_A_laid : layout_refusal case_A ≡ 0
unfolding layout_refusal cause_1 cause_2 cause_3 outside opens edition_of bays parts pairs_test offset_of length_of word table_length_test
case_A_laid = refl

pub case_A_table : table_bytes case_A ≡ table_3
unfolding table_bytes part offset_of length_of word
case_A_table = refl

pub case_A_term : term_bytes case_A 0 ≡ 3 ∷ []
unfolding term_bytes edition_of part offset_of length_of word
case_A_term = refl

pub case_A_bays : bays case_A ≡ 1
unfolding bays edition_of parts
case_A_bays = refl

-- an empty file, 11 bytes, 8,193 bytes
pub too_short : layout_refusal [] ≡ 1
unfolding layout_refusal cause_1 outside
too_short = refl

pub eleven : layout_refusal (replicate 11 0) ≡ 1
unfolding layout_refusal cause_1 outside
eleven = refl

pub too_long : layout_refusal (replicate 8193 0) ≡ 1
unfolding layout_refusal cause_1 outside
too_long = refl

pub long_enough : cause_1 (replicate 8192 0) ≡ false
unfolding cause_1 outside
long_enough = refl

-- n terms of one byte behind a table of three entries: case J, "17 parts against 18 (refused 2)"
unfoldable pub pairs_from : ℕ → ℕ → List ℕ
pairs_from zero at = []
pairs_from (suc k) at = at ∷ 0 ∷ 1 ∷ 0 ∷ pairs_from k (at + 1)

abbrev pub many_bays : ℕ → List ℕ
many_bays b = 0x4C ∷ 0x46 ∷ 1 ∷ (b + 1) ∷ pair_offset (b + 1) ∷ 0 ∷ 9 ∷ 0 ∷ pairs_from b (pair_offset (b + 1) + 9) ++ table_3 ++ replicate b 3

pub case_J_17 : layout_refusal (many_bays 16) ≡ 0
unfolding layout_refusal cause_1 cause_2 cause_3 outside opens edition_of bays parts pairs_test offset_of length_of word table_length_test pairs_from
case_J_17 = refl

pub case_J_18 : layout_refusal (many_bays 17) ≡ 2
unfolding layout_refusal cause_1 cause_2 outside opens edition_of bays parts pairs_from
case_J_18 = refl

-- no bay
pub one_part : layout_refusal (many_bays 0) ≡ 2
unfolding layout_refusal cause_1 cause_2 outside opens edition_of bays parts pairs_from
one_part = refl

-- document 01, "n outside 2 to 17", in its edition
pub two_to_seventeen : (n : ℕ) → outside min_parts max_parts n ≡ outside min_bays max_bays (n - edition_1.terms)
two_to_seventeen n = bays_outside edition_1.terms n

-- T-07, "n runs from 3 to 18" in edition 3
pub three_to_eighteen : (n : ℕ) → outside 3 18 n ≡ outside min_bays max_bays (n - edition_3.terms)
three_to_eighteen n = bays_outside edition_3.terms n

-- another opening, editions 0 and 4
pub other_opening : layout_refusal (0x4C ∷ 0x45 ∷ replicate 10 0) ≡ 2
unfolding layout_refusal cause_1 cause_2 outside opens
other_opening = refl

pub edition_0 : layout_refusal (0x4C ∷ 0x46 ∷ 0 ∷ 2 ∷ replicate 10 0) ≡ 2
unfolding layout_refusal cause_1 cause_2 outside opens edition_of bays
edition_0 = refl

pub other_edition : layout_refusal (0x4C ∷ 0x46 ∷ 4 ∷ 2 ∷ replicate 10 0) ≡ 2
unfolding layout_refusal cause_1 cause_2 outside opens edition_of bays
other_edition = refl

-- T-03's edition, laid out as document 01's: case A and n at its limits with 02 as byte 2
pub edition_2_laid : layout_refusal (0x4C ∷ 0x46 ∷ 2 ∷ drop 3 case_A) ≡ 0
unfolding layout_refusal cause_1 cause_2 cause_3 outside opens edition_of bays parts pairs_test offset_of length_of word table_length_test
edition_2_laid = refl

pub edition_2_term : term_bytes (0x4C ∷ 0x46 ∷ 2 ∷ drop 3 case_A) 0 ≡ 3 ∷ []
unfolding term_bytes edition_of part offset_of length_of word
edition_2_term = refl

pub edition_2_17 : layout_refusal (0x4C ∷ 0x46 ∷ 2 ∷ drop 3 (many_bays 16)) ≡ 0
unfolding layout_refusal cause_1 cause_2 cause_3 outside opens edition_of bays parts pairs_test offset_of length_of word table_length_test pairs_from
edition_2_17 = refl

pub edition_2_18 : layout_refusal (0x4C ∷ 0x46 ∷ 2 ∷ drop 3 (many_bays 17)) ≡ 2
unfolding layout_refusal cause_1 cause_2 outside opens edition_of bays parts pairs_from
edition_2_18 = refl

-- T-07: an edition 3 file of two bays, whose starting part is p
abbrev pub two_started : List ℕ → List ℕ
two_started p = file_of edition_3 (table_3 ∷ p ∷ (3 ∷ []) ∷ (9 ∷ 0 ∷ []) ∷ [])

-- the nums 250 and 513, the lower byte first; the bays are two, and their terms the last two parts
pub edition_3_laid : layout_refusal (two_started (250 ∷ 0 ∷ 1 ∷ 2 ∷ [])) ≡ 0
unfolding file_of pairs_of joined two_bytes layout_refusal cause_1 cause_2 cause_3 outside opens edition_of bays parts pairs_test offset_of length_of word table_length_test
edition_3_laid = refl

pub edition_3_nums : starting_nums (two_started (250 ∷ 0 ∷ 1 ∷ 2 ∷ [])) ≡ 250 ∷ 513 ∷ []
unfolding file_of pairs_of joined two_bytes starting_nums starting_num starting_bytes tabulate edition_of bays parts part offset_of length_of word
edition_3_nums = refl

pub edition_3_terms : tabulate 2 (term_bytes (two_started (250 ∷ 0 ∷ 1 ∷ 2 ∷ []))) ≡ (3 ∷ []) ∷ (9 ∷ 0 ∷ []) ∷ []
unfolding file_of pairs_of joined two_bytes tabulate term_bytes edition_of part offset_of length_of word
edition_3_terms = refl

-- four bytes for two bays; three, five and two are 19, none is 3
pub nineteen : map (λ p. cause_19 (two_started p)) ((0 ∷ 0 ∷ 0 ∷ 0 ∷ []) ∷ (0 ∷ 0 ∷ 0 ∷ []) ∷ (0 ∷ 0 ∷ 0 ∷ 0 ∷ 0 ∷ []) ∷ (0 ∷ 0 ∷ []) ∷ []) ≡ false ∷ true ∷ true ∷ true ∷ []
unfolding file_of pairs_of joined two_bytes cause_19 edition_of bays parts length_of word
nineteen = refl

pub no_starting_byte : layout_refusal (two_started []) ≡ 3
unfolding file_of pairs_of joined two_bytes layout_refusal cause_1 cause_2 cause_3 outside opens edition_of bays parts pairs_test offset_of length_of word
no_starting_byte = refl

-- the same parts in edition 2: three bays, the first of them a num, and nothing to be refused 19; the settings start at 0
pub edition_2_starts : (bays (file_of edition_2 (table_3 ∷ (4 ∷ 250 ∷ 0 ∷ []) ∷ (3 ∷ []) ∷ (9 ∷ 0 ∷ []) ∷ [])) ≡ 3) ×
    ((cause_19 (file_of edition_2 (table_3 ∷ (4 ∷ 250 ∷ 0 ∷ []) ∷ (3 ∷ []) ∷ (9 ∷ 0 ∷ []) ∷ [])) ≡ false) ×
    (starting_nums (file_of edition_2 (table_3 ∷ (4 ∷ 250 ∷ 0 ∷ []) ∷ (3 ∷ []) ∷ (9 ∷ 0 ∷ []) ∷ [])) ≡ 0 ∷ 0 ∷ 0 ∷ []))
unfolding file_of pairs_of joined two_bytes cause_19 starting_nums starting_num starting_bytes tabulate edition_of bays parts word
edition_2_starts = (refl, (refl, refl))

-- twins: the starting part taken out, and put in
pub twins : (edition_2_twin (two_started (250 ∷ 0 ∷ 1 ∷ 2 ∷ [])) ≡ file_of edition_2 (table_3 ∷ (3 ∷ []) ∷ (9 ∷ 0 ∷ []) ∷ [])) ×
    (edition_3_twin (250 ∷ 513 ∷ []) (file_of edition_2 (table_3 ∷ (3 ∷ []) ∷ (9 ∷ 0 ∷ []) ∷ [])) ≡ two_started (250 ∷ 0 ∷ 1 ∷ 2 ∷ []))
unfolding file_of pairs_of joined two_bytes twin term_parts parts_from nums_bytes table_bytes edition_of bays parts part offset_of length_of word
twins = (refl, refl)

-- "n runs from 3 to 18": n parts in edition 3, of which the first is the table
abbrev pub so_many_parts : ℕ → List ℕ
so_many_parts n = file_of edition_3 (table_3 ∷ replicate (n - 1) (3 ∷ []))

pub edition_3_parts : map (λ n. layout_refusal (so_many_parts n)) (2 ∷ 3 ∷ 18 ∷ 19 ∷ []) ≡ 2 ∷ 0 ∷ 0 ∷ 2 ∷ []
unfolding file_of pairs_of joined two_bytes layout_refusal cause_1 cause_2 cause_3 outside opens edition_of bays parts pairs_test offset_of length_of word table_length_test
edition_3_parts = refl

-- a file that is shorter than its pairs
pub cut_pairs : layout_refusal (0x4C ∷ 0x46 ∷ 1 ∷ 17 ∷ replicate 10 0) ≡ 3
unfolding layout_refusal cause_1 cause_2 cause_3 outside opens edition_of bays parts pairs_test offset_of length_of word
cut_pairs = refl

-- a gap between table and term, a byte over, a term of length zero, a table of ten bytes, a table of two entries
pub gap : layout_refusal (one_bay (12 ∷ 0 ∷ 9 ∷ 0 ∷ 22 ∷ 0 ∷ 1 ∷ 0 ∷ []) (table_3 ++ (3 ∷ 3 ∷ []))) ≡ 3
unfolding layout_refusal cause_1 cause_2 cause_3 outside opens edition_of bays parts pairs_test offset_of length_of word
gap = refl

pub byte_over : layout_refusal (case_A ++ (0 ∷ [])) ≡ 3
unfolding layout_refusal cause_1 cause_2 cause_3 outside opens edition_of bays parts pairs_test offset_of length_of word
byte_over = refl

pub no_term : layout_refusal (one_bay (12 ∷ 0 ∷ 9 ∷ 0 ∷ 21 ∷ 0 ∷ 0 ∷ 0 ∷ []) table_3) ≡ 3
unfolding layout_refusal cause_1 cause_2 cause_3 outside opens edition_of bays parts pairs_test offset_of length_of word
no_term = refl

pub ten_bytes : layout_refusal (one_bay (12 ∷ 0 ∷ 10 ∷ 0 ∷ 22 ∷ 0 ∷ 1 ∷ 0 ∷ []) (table_3 ++ (3 ∷ 3 ∷ []))) ≡ 3
unfolding layout_refusal cause_1 cause_2 cause_3 outside opens edition_of bays parts pairs_test offset_of length_of word table_length_test
ten_bytes = refl

pub two_entries : layout_refusal (one_bay (12 ∷ 0 ∷ 6 ∷ 0 ∷ 18 ∷ 0 ∷ 1 ∷ 0 ∷ []) (0 ∷ 0 ∷ 0 ∷ 1 ∷ 0 ∷ 0 ∷ 3 ∷ [])) ≡ 3
unfolding layout_refusal cause_1 cause_2 cause_3 outside opens edition_of bays parts pairs_test offset_of length_of word table_length_test
two_entries = refl

pub most_entries : table_length_test 768 ≡ true
unfolding table_length_test outside
most_entries = refl

pub too_many_entries : table_length_test 771 ≡ false
unfolding table_length_test outside
too_many_entries = refl
