-- Document 01, "The recipe file": the file that some parts make. A file that is laid out is the file of its parts
-- (proofs.Wholes, `one_reading`), and the file of fitting parts is laid out and has these parts (proofs.Made, `made_laid`, `made_parts`).
use Rattle.std.specs.Prelude.{◌≡◌, List, [], ◌++◌, ◌∷◌, ◌*◌, ◌+◌, ◌-◌, ◌<◌, ◌≤◌, suc, zero, ℕ, get_or, length}
use Rattle.calculus.specs.Bytes.{two_bytes}
use Rattle.calculus.specs.Limits.{max_file_length, min_bays, max_bays, min_entries, max_entries}
use Rattle.recipe_file.specs.declared.Edition.{Edition}
use Rattle.recipe_file.specs.File.{opening, edition_of, parts, pair_offset, part, table_part, entry_length}
use Rattle.recipe_file.specs.FileRule.{Between}

-- document 01, "pairs of offset and length, two bytes each", of parts that follow each other from `at` on
unfoldable pub pairs_of : ℕ → List (List ℕ) → List ℕ
pairs_of at [] = []
pairs_of at (p ∷ ps) = two_bytes at ++ (two_bytes (length p) ++ pairs_of (at + length p) ps)

-- parts one after the other
unfoldable pub joined : List (List ℕ) → List ℕ
joined [] = []
joined (p ∷ ps) = p ++ joined ps

-- the file of some parts: opening, edition, their number, their pairs, the parts
unfoldable pub file_of : Edition → List (List ℕ) → List ℕ
file_of e ps = opening ++ (e.number ∷ length ps ∷ (pairs_of (pair_offset (length ps)) ps ++ joined ps))

-- the parts of a file, k of them, of which i is the first
unfoldable pub parts_from : List ℕ → ℕ → ℕ → List (List ℕ)
parts_from s zero i = []
parts_from s (suc k) i = part s i ∷ parts_from s k (i + 1)

-- all parts of a file
unfoldable pub all_parts : List ℕ → List (List ℕ)
all_parts s = parts_from s (parts s) 0

-- "No length is zero"
abbrev pub NoneEmpty : List (List ℕ) → Type 0
NoneEmpty [] = Unit {0}
NoneEmpty (p ∷ ps) = (0 < length p) × NoneEmpty ps

-- parts that make a file of an edition
pub record Makes (e : Edition) (ps : List (List ℕ)) : Type 0 where
  -- "Byte 2 is the edition"
  pub known : edition_of (file_of e ps) ≡ e
  -- "2 to 17 parts", so 1 to 16 bays
  pub number : Between min_bays max_bays (length ps - e.terms)
  pub none_empty : NoneEmpty ps
  -- "The type table has t entries of three bytes", "3 to 256 type entries"
  pub table : (t : ℕ) × (length (get_or ps table_part []) ≡ entry_length * t) × Between min_entries max_entries t
  -- "file 12 to 8,192 bytes"
  pub short : length (file_of e ps) ≤ max_file_length
