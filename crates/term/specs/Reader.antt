-- The reader: what term stands at the front of a list of bytes, if one does. It is defined for every list, a damaged one too.
use Rattle.std.specs.Prelude.{◌≡◌, Bool, ◌&&◌, cond, false, true, List, [], ◌∷◌, ◌+◌, ◌≤◌, suc, zero, ℕ, leb, ltb, drop, get_or, length, Option, None, Some}
use Rattle.term.specs.declared.Node.{Node}
use Rattle.term.specs.Numbers.{value_of}
use Rattle.term.specs.Forms.{binders_of, operand_of, refers_of, subterms_of, tags, unit_tag}
use Rattle.term.specs.Tree.{forms_below, Tree, leaf, one, tree_size, two}

-- the tag at the front
abbrev pub front_tag : List ℕ → ℕ
front_tag l = get_or l 0 0

-- how many bytes the node at the front takes, without its subterms
abbrev pub front_size : List ℕ → ℕ
front_size l = 1 + operand_of (front_tag l)

-- the operand of that node
abbrev pub front_operand : List ℕ → ℕ
front_operand l = value_of (operand_of (front_tag l)) (drop 1 l)

-- document 01, cause 5: "unknown tag, cut". There is a tag, it is known, and what is after it is whole.
abbrev pub front_stands : List ℕ → Bool
front_stands l = ltb 0 (length l) && ltb (front_tag l) tags && leb (front_size l) (length l)

-- nothing that is a term, or a term and what stands after it
pub data Got : Type 0 where
  none : Got
  got : Tree → List ℕ → Got

-- what `more` makes of the term read and of what stands after it
abbrev pub onward : Got → (Tree → List ℕ → Got) → Got
onward none more = none
onward (got t rest) more = more t rest

-- the k subterms of a node, one after the other, each read by rd
abbrev pub read_subterms : (List ℕ → Got) → ℕ → ℕ → ℕ → List ℕ → Got
read_subterms rd tag arg zero l = got (leaf tag arg) l
read_subterms rd tag arg (suc zero) l = onward (rd l) λ t rest. got (one tag arg t) rest
read_subterms rd tag arg (suc (suc k)) l = onward (rd l) λ t after. onward (rd after) λ u rest. got (two tag arg t u) rest

-- a term's root, and its subterms read by rd
abbrev pub read_with : (List ℕ → Got) → List ℕ → Got
read_with rd l =
    cond (front_stands l) (read_subterms rd (front_tag l) (front_operand l) (subterms_of (front_tag l)) (drop (front_size l) l)) none

-- a term that is at most n deep
unfoldable pub read : ℕ → List ℕ → Got
read zero l = none
read (suc n) l = read_with (read n) l

-- the term at the front; none is deeper than it is long
unfoldable pub read_term : List ℕ → Got
read_term l = read (length l) l

-- what was read, where an edition has the form of each of its nodes: the first `forms` of the table
unfoldable pub of_edition : ℕ → Got → Got
of_edition forms none = none
of_edition forms (got t rest) = cond (forms_below forms t) (got t rest) none

-- document 01, "exactly one term": a term was read, and no byte is over
unfoldable pub one_term : Got → Bool
one_term none = false
one_term (got t []) = true
one_term (got t (x ∷ rest)) = false

-- the term that was read; any leaf, where none was
abbrev pub tree_in : Got → Tree
tree_in none = leaf unit_tag 0
tree_in (got t rest) = t

-- what stands after it
abbrev pub rest_in : Got → List ℕ
rest_in none = []
rest_in (got t rest) = rest

-- the term at the front, where there is one
unfoldable pub first_tree : List ℕ → Tree
first_tree l = tree_in (read_term l)

-- what stands after it
unfoldable pub first_rest : List ℕ → List ℕ
first_rest l = rest_in (read_term l)

-- there is a term at the front
abbrev pub Good : List ℕ → Type 0
Good l = read_term l ≡ got (first_tree l) (first_rest l)

-- the term at a position of a list
unfoldable pub tree_at : List ℕ → ℕ → Tree
tree_at l at = first_tree (drop at l)

-- where that term ends
unfoldable pub end_at : List ℕ → ℕ → ℕ
end_at l at = at + tree_size (tree_at l at)

-- there is a term at a position
pub record GoodAt (l : List ℕ) (at : ℕ) : Type 0 where
  pub inside : at ≤ length l
  pub good : Good (drop at l)

-- the node at the front, without its subterms
abbrev pub front_node : List ℕ → Node
front_node l =
    record {
      tag = front_tag l;
      arg = front_operand l;
      size = front_size l;
      subterms = subterms_of (front_tag l);
      binders = binders_of (front_tag l);
      refers = refers_of (front_tag l);
    }

-- the same where it stands, and otherwise that there is none
unfoldable pub node_of : List ℕ → Option Node
node_of l = cond (front_stands l) (Some (front_node l)) None

-- the node at a position of a list
unfoldable pub node_at : List ℕ → ℕ → Option Node
node_at l at = node_of (drop at l)
