-- Document 01, "The recipe file": opening, edition, pairs of offset and length, parts; causes 1 to 3 as tests.
use Rattle.std.specs.Prelude.{Bool, ◌&&◌, ◌||◌, not, List, [], ◌∷◌, ◌%◌, ◌*◌, ◌+◌, ◌-◌, suc, zero, ℕ, eqb, ltb, drop, get_or, length, take}
use Rattle.calculus.specs.Bytes.{word}
use Rattle.calculus.specs.Causes.{file_length_cause, opening_cause, layout_cause}
use Rattle.calculus.specs.Lowest.{Cause, cause, first_cause}
use Rattle.calculus.specs.Limits.{min_file_length, max_file_length, min_bays, max_bays, min_entries, max_entries}
use Rattle.recipe_file.specs.declared.Edition.{Edition}
use Rattle.recipe_file.specs.Editions.{edition_1, editions}

-- document 01, "Bytes 0 and 1 are 4C 46"
abbrev pub opening : List ℕ
opening = 0x4C ∷ 0x46 ∷ []

-- document 01, "Byte 2 is the edition": the one that a file says; the first, where it says none that is known
unfoldable pub edition_of : List ℕ → Edition
edition_of s = get_or editions (get_or s 2 0 - 1) edition_1

-- document 01, "Byte 3 is n, the number of parts"
unfoldable pub parts : List ℕ → ℕ
parts s = get_or s 3 0

-- document 01, "Then n pairs of offset and length, two bytes each": where pair i stands; behind the last of n pairs it is 4 + 4n
abbrev pub pair_offset : ℕ → ℕ
pair_offset i = 4 + 4 * i

-- "pairs of offset and length": the offset that pair i says
unfoldable pub offset_of : List ℕ → ℕ → ℕ
offset_of s i = word s (pair_offset i)

-- the length that pair i says
unfoldable pub length_of : List ℕ → ℕ → ℕ
length_of s i = word s (pair_offset i + 2)

-- the part that pair i names
unfoldable pub part : List ℕ → ℕ → List ℕ
part s i = take (length_of s i) (drop (offset_of s i) s)

-- document 01, "one type table": its part
abbrev pub table_part : ℕ
table_part = 0

-- "then one term for each of b = n − 1 bays", T-07, "the parts less two": which part is the first, the edition says
unfoldable pub bays : List ℕ → ℕ
bays s = parts s - (edition_of s).terms

-- the bytes of the type table
unfoldable pub table_bytes : List ℕ → List ℕ
table_bytes s = part s table_part

-- the bytes of a bay's term
unfoldable pub term_bytes : List ℕ → ℕ → List ℕ
term_bytes s bay = part s ((edition_of s).terms + bay)

-- n is below `least` or above `most`
unfoldable pub outside : ℕ → ℕ → ℕ → Bool
outside least most n = ltb n least || ltb most n

-- document 01, cause 1: "file length outside 12 to 8,192"
unfoldable pub cause_1 : List ℕ → Bool
cause_1 s = outside min_file_length max_file_length (length s)

-- "Bytes 0 and 1 are 4C 46" as a test
unfoldable pub opens : List ℕ → Bool
opens s = eqb (get_or s 0 0) (get_or opening 0 0) && eqb (get_or s 1 0) (get_or opening 1 0)

-- document 01, cause 2: "first two bytes, edition, or n outside 2 to 17", so b outside 1 to 16; T-07, "n runs from 3 to 18" in edition 3
-- (proofs.Cases, `two_to_seventeen`, `three_to_eighteen`)
unfoldable pub cause_2 : List ℕ → Bool
cause_2 s = not (opens s) || (not (eqb (get_or s 2 0) (edition_of s).number) || outside min_bays max_bays (bays s))

-- document 01, "each next one where the former ends, the last ends with the file. No length is zero": k pairs, of which i is the first, and its part is to
-- begin at `at`. Since parts go on from 4 + 4n to the end of the file, a file that is shorter fails (proofs.Chains, `pairs_cut`).
unfoldable pub pairs_test : List ℕ → ℕ → ℕ → ℕ → Bool
pairs_test s zero i at = eqb at (length s)
pairs_test s (suc k) i at = eqb (offset_of s i) at && (not (eqb (length_of s i) 0) && pairs_test s k (i + 1) (at + length_of s i))

-- document 01, "t entries of three bytes"
abbrev pub entry_length : ℕ
entry_length = 3

-- document 01, cause 3: "table length no multiple of 3, or outside 9 to 768"
unfoldable pub table_length_test : ℕ → Bool
table_length_test n = eqb (n % entry_length) 0 && not (outside (entry_length * min_entries) (entry_length * max_entries) n)

-- document 01, cause 3: "pairs break the layout", where "The first part begins at 4 + 4n"; or the table's length
unfoldable pub cause_3 : List ℕ → Bool
cause_3 s = not (pairs_test s (parts s) 0 (pair_offset (parts s))) || not (table_length_test (length_of s table_part))

-- causes 1 to 3 with their numbers
abbrev pub layout_causes : List ℕ → List Cause
layout_causes s = cause file_length_cause (cause_1 s) ∷ cause opening_cause (cause_2 s) ∷ cause layout_cause (cause_3 s) ∷ []

-- the number of the first of them that fits, 0 where none does
unfoldable pub layout_refusal : List ℕ → ℕ
layout_refusal s = first_cause (layout_causes s)
