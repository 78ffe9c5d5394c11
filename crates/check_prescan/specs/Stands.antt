-- A part to which none of causes 5 to 8 fits, apart from the number of nodes in all.
use Rattle.std.specs.Prelude.{Bool, ◌&&◌, cond, false, true, List, [], ◌∷◌, ◌%◌, ◌/◌, ℕ, eqb, leb, ltb, length, Option, None, Some}
use Rattle.calculus.specs.Limits.{byte_values, max_nesting}
use Rattle.calculus.specs.Syntax.{at, Exp}
use Rattle.calculus.specs.Table.{Table}
use Rattle.calculus.specs.Verdict.{annotated, on_function, scoped, with_components}
use Rattle.term.specs.declared.Node.{Node}
use Rattle.term.specs.Forms.{lambda_tag}
use Rattle.term.specs.Tree.{tree_nodes}
use Rattle.term.specs.Reader.{Got, got, none, of_edition, read_term}
use Rattle.term.specs.Expressions.{exp_of, leaf_exp, nesting}
use Rattle.term_scan.specs.Scopes.{operand_scoped}
use Rattle.check_types.specs.Two.{is_both_tag, shape_of}

-- causes 6 to 8 do not fit a term
unfoldable pub stands : Table → ℕ → Exp → Bool
stands T names e = leb (nesting e) max_nesting && (scoped (length T) names 0 e && annotated T e)

-- a part that is one such term has so many nodes
abbrev pub exactly : Table → ℕ → Got → Option ℕ
exactly T names none = None
exactly T names (got t []) = cond (stands T names (exp_of t)) (Some (tree_nodes t)) None
exactly T names (got t (x ∷ rest)) = None

-- the same of the bytes of a part, in an edition with so many node forms
unfoldable pub glance : ℕ → Table → ℕ → List ℕ → Option ℕ
glance forms T names l = exactly T names (of_edition forms (read_term l))

-- The walk

-- a frame is two numbers in one: the nodes above a term, and the variables around it
abbrev pub level_of : ℕ → ℕ
level_of frame = frame / byte_values

abbrev pub around_of : ℕ → ℕ
around_of frame = frame % byte_values

-- cause 8 does not fit a node, its subterms apart: a lambda's type is a function, a constant's an instance of Fig. 8; T-03: node 10's a pair, node 11's a list
unfoldable pub node_annotated : Table → ℕ → ℕ → Bool
node_annotated T tag arg =
    cond (eqb tag lambda_tag) (on_function T arg (λ p q. true))
    (cond (is_both_tag tag) (with_components false (shape_of tag) arg (at T arg) (λ p q. true)) (annotated T (leaf_exp tag arg)))

-- nor do causes 6 and 7, and the edition has its form
unfoldable pub node_stands : ℕ → Table → ℕ → ℕ → Node → Bool
node_stands forms T names frame h =
    ltb h.tag forms
    && (ltb (level_of frame) max_nesting && (operand_scoped (length T) names (around_of frame) h.refers h.arg && node_annotated T h.tag h.arg))

-- a node that is there and stands
unfoldable pub next_node : ℕ → Table → ℕ → ℕ → Option Node → Option Node
next_node forms T names frame None = None
next_node forms T names frame (Some h) = cond (node_stands forms T names frame h) (Some h) None

-- behind the last node
unfoldable pub ended : List ℕ → ℕ → ℕ → Option ℕ
ended l here nodes = cond (ltb here (length l)) None (Some nodes)
