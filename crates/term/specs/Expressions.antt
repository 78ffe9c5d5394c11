-- The calculus's expressions in bytes, by the table of node forms.
use Rattle.std.specs.Prelude.{◌≡◌, List, [], ◌++◌, ◌∷◌, ◌+◌, ◌≤◌, max, suc, ℕ, drop, get_or, length, replicate}
use Rattle.calculus.specs.Bytes.{two_bytes}
use Rattle.calculus.specs.Syntax.{Const, unit, num, op, Each, Shape, pair, list, Exp, var, name, const, lam, app, both, case_of, Op, cell, exch, thread, handle}
use Rattle.calculus.specs.Names.{count}
use Rattle.calculus.specs.Limits.{byte_values}
use Rattle.calculus.specs.Image.{size, Writable}
use Rattle.term.specs.Forms.{variable_tag, lambda_tag, application_tag, unit_tag, num_tag, cell_tag, exch_tag, thread_tag, handle_tag, name_tag, pair_tag, list_tag, case_pair_tag, case_list_tag}
use Rattle.term.specs.Tree.{Tree, leaf, one, two}
use Rattle.term.specs.Reader.{read_term, tree_in}

-- document 01, the table of node forms: "cell, exch, thread, handle"
unfoldable pub op_tag : Op → ℕ
op_tag cell = cell_tag
op_tag exch = exch_tag
op_tag thread = thread_tag
op_tag handle = handle_tag

-- T-03: "10 pair and 11 list front"
unfoldable pub both_tag : Shape → ℕ
both_tag pair = pair_tag
both_tag list = list_tag

-- T-03: "12 and 13 take a pair or list apart"
unfoldable pub case_tag : Shape → ℕ
case_tag pair = case_pair_tag
case_tag list = case_list_tag

-- the bytes of a constant
unfoldable pub const_bytes : Const → List ℕ
const_bytes unit = unit_tag ∷ []
const_bytes (num n) = num_tag ∷ two_bytes n
const_bytes (op o t) = op_tag o ∷ t ∷ []

-- document 01, "A term is written root first, by this table of node forms"
unfoldable pub bytes : Exp → List ℕ
bytes (var i) = variable_tag ∷ i ∷ []
bytes (lam t e) = lambda_tag ∷ t ∷ bytes e
bytes (app f a) = application_tag ∷ (bytes f ++ bytes a)
bytes (const c) = const_bytes c
bytes (name k) = name_tag ∷ k ∷ []
bytes (both s t e₁ e₂) = both_tag s ∷ t ∷ (bytes e₁ ++ bytes e₂)
bytes (case_of s e₁ e₂) = case_tag s ∷ (bytes e₁ ++ bytes e₂)

-- what can be written so: indices, type numbers and names in one byte, nums in two
pub record FitsBytes (e : Exp) : Type 0 where
  pub writable : Each Writable e
  pub names : (k : ℕ) → byte_values ≤ k → count k e ≡ 0

-- document 01, "nesting 100, the root being 1"
unfoldable pub nesting : Exp → ℕ
nesting (var i) = 1
nesting (name k) = 1
nesting (const c) = 1
nesting (lam t e) = suc (nesting e)
nesting (app f a) = suc (max (nesting f) (nesting a))
nesting (both s t e₁ e₂) = suc (max (nesting e₁) (nesting e₂))
nesting (case_of s e₁ e₂) = suc (max (nesting e₁) (nesting e₂))

-- the leaf that each tag says, in the order of the tags, where arg is after the tag; tags with subterms have no leaf
unfoldable pub leaf_forms : ℕ → List Exp
leaf_forms arg = var arg ∷ const unit ∷ const unit ∷ const unit ∷ const (num arg)
    ∷ const (op cell arg) ∷ const (op exch arg) ∷ const (op thread arg) ∷ const (op handle arg) ∷ name arg ∷ []

-- the leaf of a tag
unfoldable pub leaf_exp : ℕ → ℕ → Exp
leaf_exp tag arg = get_or (leaf_forms arg) tag (const unit)

-- the node with the subterms e and f that each tag says, in the order of the tags; of those up to name only application has two
unfoldable pub two_forms : ℕ → Exp → Exp → List Exp
two_forms arg e f = replicate pair_tag (app e f) ++ (both pair arg e f ∷ both list arg e f ∷ case_of pair e f ∷ case_of list e f ∷ [])

-- the node of a tag with two subterms
unfoldable pub two_exp : ℕ → ℕ → Exp → Exp → Exp
two_exp tag arg e f = get_or (two_forms arg e f) tag (app e f)

-- the expression that a tree says; of the tags only lambda has one subterm
unfoldable pub exp_of : Tree → Exp
exp_of (leaf tag arg) = leaf_exp tag arg
exp_of (one tag arg t) = lam arg (exp_of t)
exp_of (two tag arg t u) = two_exp tag arg (exp_of t) (exp_of u)

-- the tree of a constant
unfoldable pub const_tree : Const → Tree
const_tree unit = leaf unit_tag 0
const_tree (num n) = leaf num_tag n
const_tree (op o t) = leaf (op_tag o) t

-- the tree of an expression
unfoldable pub tree_of : Exp → Tree
tree_of (var i) = leaf variable_tag i
tree_of (lam t e) = one lambda_tag t (tree_of e)
tree_of (app f a) = two application_tag 0 (tree_of f) (tree_of a)
tree_of (const c) = const_tree c
tree_of (name k) = leaf name_tag k
tree_of (both s t e₁ e₂) = two (both_tag s) t (tree_of e₁) (tree_of e₂)
tree_of (case_of s e₁ e₂) = two (case_tag s) 0 (tree_of e₁) (tree_of e₂)

-- the expression at the front of some bytes; anything, where there is none
unfoldable pub term_of : List ℕ → Exp
term_of l = exp_of (tree_in (read_term l))

-- the expression at a position
abbrev pub term_at : List ℕ → ℕ → Exp
term_at l at = term_of (drop at l)

-- the bytes of an expression stand at a position
pub record TermAt (l : List ℕ) (at : ℕ) (e : Exp) : Type 0 where
  pub inside : at ≤ length l
  pub stands : drop at l ≡ bytes e ++ drop (at + size e) l
  pub fits : FitsBytes e
