-- A stack of frames in an array, one for each term still to come.
use Rattle.std.specs.Prelude.{◌≡◌, List, [], ◌∷◌, ◌+◌, ◌-◌, ◌/◌, suc, zero, ℕ, get_or, length}
use Rattle.calculus.specs.Limits.{max_nodes}

-- the most frames at once, where there are at most 4,096 nodes
abbrev pub max_waits : ℕ
max_waits = max_nodes / 2 + 1

-- the first n elements of a list, the last of them on top
unfoldable pub stack_of : ℕ → List ℕ → List ℕ
stack_of zero a = []
stack_of (suc n) a = get_or a n 0 ∷ stack_of n a

-- the frames of a node's subterms, and then those below
unfoldable pub opened : ℕ → ℕ → ℕ → List ℕ → List ℕ
opened zero first last ds = ds
opened (suc zero) first last ds = last ∷ ds
opened (suc (suc k)) first last ds = first ∷ last ∷ ds

-- past a node: its frame goes, and those of its subterms come
pub record Passed (old : List ℕ) (waits subterms first last : ℕ) (new : List ℕ) (next : ℕ) : Type 0 where
  pub frames : stack_of next new ≡ opened subterms first last (stack_of (waits - 1) old)
  pub left : next ≡ waits - 1 + subterms
  pub room : length new ≡ length old

-- the next term's frame, and those below
abbrev pub top_of : List ℕ → ℕ
top_of [] = 0
top_of (d ∷ ds) = d

abbrev pub below : List ℕ → List ℕ
below [] = []
below (d ∷ ds) = ds
