-- T-07: "a part between the type table and the terms: two bytes for each bay, its starting num"; cause 19 as a test.
use Rattle.std.specs.Prelude.{Bool, ◌&&◌, cond, not, List, [], ◌++◌, ◌∷◌, ◌*◌, ◌+◌, ℕ, eqb}
use Rattle.calculus.specs.Bytes.{two_bytes, word}
use Rattle.calculus.specs.Causes.{starting_cause}
use Rattle.calculus.specs.Lowest.{Cause, cause}
use Rattle.calculus.specs.Lists.{tabulate}
use Rattle.recipe_file.specs.File.{edition_of, length_of, part, table_part, bays}

-- "a part between the type table and the terms", in an edition that has it
abbrev pub starting_part : ℕ
starting_part = table_part + 1

-- "two bytes for each bay"
abbrev pub starting_num_length : ℕ
starting_num_length = 2

-- the bytes of the starting part; none in an edition that has no such part
unfoldable pub starting_bytes : List ℕ → List ℕ
starting_bytes s = cond (edition_of s).starting (part s starting_part) []

-- "its starting num"; "Editions 1 and 2 keep the unwritten 0", for a byte that is not there counts as 0
unfoldable pub starting_num : List ℕ → ℕ → ℕ
starting_num s bay = word (starting_bytes s) (starting_num_length * bay)

-- the starting nums of all bays
unfoldable pub starting_nums : List ℕ → List ℕ
starting_nums s = tabulate (bays s) (starting_num s)

-- the starting part that says these nums
unfoldable pub nums_bytes : List ℕ → List ℕ
nums_bytes [] = []
nums_bytes (n ∷ ns) = two_bytes n ++ nums_bytes ns

-- cause 19: "a starting part whose length is not twice the number of bays"
unfoldable pub cause_19 : List ℕ → Bool
cause_19 s = (edition_of s).starting && not (eqb (length_of s starting_part) (starting_num_length * bays s))

-- the same with its number
abbrev pub starting_causes : List ℕ → List Cause
starting_causes s = cause starting_cause (cause_19 s) ∷ []
