-- Document 01, "Loading gives names 0 to b − 1 to the settings and b to 2b − 1 to the bays' threads; thread b + k holds bay k's term, byte for byte, and there
-- is no other name." T-07: a setting starts with its bay's starting num. T-08: "Settings and first threads belong to their bay".
use Rattle.std.specs.Prelude.{cond, List, ◌∷◌, ℕ, ◌+◌, ◌-◌, ltb}
use Rattle.calculus.specs.Bytes.{two_bytes}
use Rattle.recipe_file.specs.File.{edition_of, bays, term_bytes}
use Rattle.recipe_file.specs.Starting.{starting_num}
use Rattle.term.specs.Forms.{num_tag}
use Rattle.image_layout.specs.Encoded.{Encoded}
use Rattle.image.specs.Holding.{thread_holding, cell_holding}

-- the part of the first bay's term
abbrev pub first_term : List ℕ → ℕ
first_term s = (edition_of s).terms

-- the bytes of the num that a setting starts with
unfoldable pub setting_bytes : ℕ → List ℕ
setting_bytes n = num_tag ∷ two_bytes n

-- the starting image name by name (Theory.Image, `starting_tabulated`): the setting of a bay, "a cell of num"
unfoldable pub setting : ℕ → ℕ → Encoded
setting n bay = cell_holding (setting_bytes n) bay

-- so many bytes, whatever the num
abbrev pub setting_length : ℕ
setting_length = 3

-- a bay's thread, which holds the bytes of its part
unfoldable pub bay_thread : List ℕ → ℕ → Encoded
bay_thread s bay = thread_holding (term_bytes s bay) bay

-- the component of name k
unfoldable pub starting_at : List ℕ → ℕ → Encoded
starting_at s k = cond (ltb k (bays s)) (setting (starting_num s k) k) (bay_thread s (k - bays s))

-- how many names there are
abbrev pub starting_names : List ℕ → ℕ
starting_names s = bays s + bays s
