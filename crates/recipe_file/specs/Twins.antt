-- T-07: "an edition 3 file of zeros loads the same image as its edition 2 twin": the twins of a file, which have its type table and its terms.
use Rattle.std.specs.Prelude.{List, [], ◌++◌, ◌∷◌, ℕ}
use Rattle.recipe_file.specs.declared.Edition.{Edition}
use Rattle.recipe_file.specs.Editions.{edition_2, edition_3}
use Rattle.recipe_file.specs.File.{edition_of, bays, table_bytes}
use Rattle.recipe_file.specs.Starting.{nums_bytes}
use Rattle.recipe_file.specs.Whole.{file_of, parts_from}

-- the parts of all bays
unfoldable pub term_parts : List ℕ → List (List ℕ)
term_parts s = parts_from s (bays s) (edition_of s).terms

-- the file of an edition with the type table and the terms of s, and these parts between
unfoldable pub twin : Edition → List (List ℕ) → List ℕ → List ℕ
twin e between s = file_of e (table_bytes s ∷ (between ++ term_parts s))

-- "its edition 2 twin"
abbrev pub edition_2_twin : List ℕ → List ℕ
edition_2_twin s = twin edition_2 [] s

-- and an edition 3 twin, with these starting nums
abbrev pub edition_3_twin : List ℕ → List ℕ → List ℕ
edition_3_twin ns s = twin edition_3 (nums_bytes ns ∷ []) s
