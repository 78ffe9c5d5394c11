-- Document 01, "The recipe file": what is asked of the layout, one field for each sentence. It holds exactly when causes 1 to 3 do not fit
-- (proofs.LaidOut, `laid_iff`).
use Rattle.std.specs.Prelude.{◌≡◌, List, ◌*◌, ◌+◌, ◌<◌, ◌≤◌, ℕ, get_or, length, take}
use Rattle.calculus.specs.Limits.{min_file_length, max_file_length, min_bays, max_bays, min_entries, max_entries}
use Rattle.recipe_file.specs.File.{opening, edition_of, parts, table_part, bays, pair_offset, offset_of, length_of, entry_length}

-- n is from `least` to `most`
pub record Between (least most n : ℕ) : Type 0 where
  pub low : least ≤ n
  pub high : n ≤ most

-- a file that is laid out
pub record FileRule (s : List ℕ) : Type 0 where
  -- "file 12 to 8,192 bytes"
  pub size : Between min_file_length max_file_length (length s)
  -- "Bytes 0 and 1 are 4C 46"
  pub opens_so : take (length opening) s ≡ opening
  -- "Byte 2 is the edition"
  pub has_edition : get_or s 2 0 ≡ (edition_of s).number
  -- "2 to 17 parts", so 1 to 16 bays
  pub has_parts : Between min_bays max_bays (bays s)
  -- "The first part begins at 4 + 4n"
  pub first : offset_of s 0 ≡ pair_offset (parts s)
  -- "each next one where the former ends"; so the pairs are "sorted by offset" (proofs.Inside, `sorted`)
  pub next : (i : ℕ) → i + 1 < parts s → offset_of s (i + 1) ≡ offset_of s i + length_of s i
  -- "the last ends with the file"
  pub last : (i : ℕ) → i + 1 ≡ parts s → offset_of s i + length_of s i ≡ length s
  -- "No length is zero"
  pub some_length : (i : ℕ) → i < parts s → 0 < length_of s i
  -- "The type table has t entries of three bytes", "3 to 256 type entries"
  pub entries : (t : ℕ) × (length_of s table_part ≡ entry_length * t) × Between min_entries max_entries t

-- pair i of a file that is laid out so
pub record HasPart (s : List ℕ) (i : ℕ) : Type 0 where
  pub laid : FileRule s
  pub below : i < parts s

-- a bay of such a file
pub record HasBay (s : List ℕ) (bay : ℕ) : Type 0 where
  pub laid : FileRule s
  pub below : bay < bays s
