-- Fig. 3's contexts in bytes, with those of Fig. 10's forms: what stands before the hole, and after it.
use Rattle.std.specs.Prelude.{List, [], ◌++◌, ◌∷◌, ◌+◌, ℕ, length}
use Rattle.calculus.specs.Reduction.{Context, hole, in_function, in_argument, in_first, in_second, in_subject}
use Rattle.calculus.specs.Image.{nodes}
use Rattle.term.specs.Forms.{application_tag}
use Rattle.term.specs.Expressions.{both_tag, bytes, case_tag}

-- the table of node forms: a node is its tag, what is after the tag, then its subterms
unfoldable pub front : Context → List ℕ
front hole = []
front (in_function F a) = application_tag ∷ front F
front (in_argument v w F) = application_tag ∷ (bytes v ++ front F)
front (in_first s t F e₂) = both_tag s ∷ t ∷ front F
front (in_second s t v w F) = both_tag s ∷ t ∷ (bytes v ++ front F)
front (in_subject s F e₂) = case_tag s ∷ front F

-- and what stands after it
unfoldable pub back : Context → List ℕ
back hole = []
back (in_function F a) = back F ++ bytes a
back (in_argument v w F) = back F
back (in_first s t F e₂) = back F ++ bytes e₂
back (in_second s t v w F) = back F
back (in_subject s F e₂) = back F ++ bytes e₂

-- where the hole is, counted from where the whole begins
unfoldable pub hole_at : Context → ℕ
hole_at F = length (front F)

-- the nodes around the hole
unfoldable pub context_nodes : Context → ℕ
context_nodes hole = 0
context_nodes (in_function F a) = 1 + context_nodes F + nodes a
context_nodes (in_argument v w F) = 1 + nodes v + context_nodes F
context_nodes (in_first s t F e₂) = 1 + context_nodes F + nodes e₂
context_nodes (in_second s t v w F) = 1 + nodes v + context_nodes F
context_nodes (in_subject s F e₂) = 1 + context_nodes F + nodes e₂
