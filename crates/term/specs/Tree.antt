-- A term as a tree, for any table of node forms: a node is its tag, its operand as a number, and its subterms, of which there are 0, 1 or 2.
use Rattle.std.specs.Prelude.{◌≡◌, Bool, ◌&&◌, List, ◌++◌, ◌∷◌, ◌+◌, ◌<◌, ◌^◌, max, ℕ, ltb}
use Rattle.calculus.specs.Limits.{byte_values}
use Rattle.term.specs.Numbers.{little_endian}
use Rattle.term.specs.Forms.{operand_of, subterms_of, tags}

-- a node with no subterm, with one, with two: its tag, its operand, its subterms
pub data Tree : Type 0 where
  leaf : ℕ → ℕ → Tree
  one : ℕ → ℕ → Tree → Tree
  two : ℕ → ℕ → Tree → Tree → Tree

-- the bytes of a node without its subterms: the tag, and what is after it
abbrev pub node_bytes : ℕ → ℕ → List ℕ
node_bytes tag arg = tag ∷ little_endian (operand_of tag) arg

-- document 01, "A term is written root first"
unfoldable pub tree_bytes : Tree → List ℕ
tree_bytes (leaf tag arg) = node_bytes tag arg
tree_bytes (one tag arg t) = node_bytes tag arg ++ tree_bytes t
tree_bytes (two tag arg t u) = node_bytes tag arg ++ (tree_bytes t ++ tree_bytes u)

-- how many bytes that is
unfoldable pub tree_size : Tree → ℕ
tree_size (leaf tag arg) = 1 + operand_of tag
tree_size (one tag arg t) = 1 + operand_of tag + tree_size t
tree_size (two tag arg t u) = 1 + operand_of tag + tree_size t + tree_size u

-- how many nodes a term has
unfoldable pub tree_nodes : Tree → ℕ
tree_nodes (leaf tag arg) = 1
tree_nodes (one tag arg t) = 1 + tree_nodes t
tree_nodes (two tag arg t u) = 1 + tree_nodes t + tree_nodes u

-- document 01, "nesting 100, the root being 1"
unfoldable pub tree_depth : Tree → ℕ
tree_depth (leaf tag arg) = 1
tree_depth (one tag arg t) = 1 + tree_depth t
tree_depth (two tag arg t u) = 1 + max (tree_depth t) (tree_depth u)

-- a node of the table, whatever its operand: its tag is known, with so many subterms
pub record HasForm (tag subterms : ℕ) : Type 0 where
  pub known : tag < tags
  pub shape : subterms_of tag ≡ subterms

-- each node of a tree is one
abbrev pub Shaped : Tree → Type 0
Shaped (leaf tag arg) = HasForm tag 0
Shaped (one tag arg t) = HasForm tag 1 × Shaped t
Shaped (two tag arg t u) = HasForm tag 2 × Shaped t × Shaped u

-- a node that the table has: its tag is known, with so many subterms, and its operand can stand after the tag
pub record InTable (tag arg subterms : ℕ) : Type 0 where
  pub form : HasForm tag subterms
  pub fits : arg < byte_values ^ operand_of tag

-- each node is one that the table has
abbrev pub WellFormed : Tree → Type 0
WellFormed (leaf tag arg) = InTable tag arg 0
WellFormed (one tag arg t) = InTable tag arg 1 × WellFormed t
WellFormed (two tag arg t u) = InTable tag arg 2 × WellFormed t × WellFormed u

-- the form of every node is among the first `forms` of the table, as an edition has them
unfoldable pub forms_below : ℕ → Tree → Bool
forms_below forms (leaf tag arg) = ltb tag forms
forms_below forms (one tag arg t) = ltb tag forms && forms_below forms t
forms_below forms (two tag arg t u) = ltb tag forms && (forms_below forms t && forms_below forms u)
