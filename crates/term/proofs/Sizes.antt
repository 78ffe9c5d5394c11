-- The numbers of a term: nodes, nesting, bytes.
use mathlib.Core.Path.{◌≡◌, refl, sym}
use native.Mathlib.Omega.{arith}
use lib.ListN.{length, length-append}
use Rattle.calculus.specs.Bytes.{two_bytes}
use Rattle.calculus.specs.Syntax.{Const, unit, num, op, Exp, var, name, const, lam, app, both, case_of}
use Rattle.calculus.specs.Image.{const_size, nodes, size}
use Rattle.term.specs.Tree.{Tree, leaf, one, tree_depth, tree_nodes, two}
use Rattle.term.specs.Expressions.{bytes, const_bytes, exp_of, nesting}
use Rattle.term.proofs.Leaves.{leaf_nesting, leaf_nodes}
use Rattle.term.proofs.Shapes.{nesting_two, nodes_two}

pub nodes_exp : (t : Tree) → tree_nodes t ≡ nodes (exp_of t)
unfolding tree_nodes nodes exp_of
nodes_exp (leaf tag arg) = sym (leaf_nodes tag arg)
nodes_exp (one tag arg t) = omega (arith, nodes_exp t)
nodes_exp (two tag arg t u) = omega (arith, nodes_two tag arg (exp_of t) (exp_of u), nodes_exp t, nodes_exp u)

-- the nesting that cause 6 asks is the depth of what is read
pub nesting_exp : (t : Tree) → tree_depth t ≡ nesting (exp_of t)
unfolding tree_depth nesting exp_of
nesting_exp (leaf tag arg) = sym (leaf_nesting tag arg)
nesting_exp (one tag arg t) = omega (arith, nesting_exp t)
nesting_exp (two tag arg t u) = omega (arith, nesting_two tag arg (exp_of t) (exp_of u), nesting_exp t, nesting_exp u)

const_length : (c : Const) → length (const_bytes c) ≡ const_size c
unfolding const_bytes const_size two_bytes
const_length unit = refl
const_length (num n) = refl
const_length (op o t) = refl

pub length_bytes : (e : Exp) → length (bytes e) ≡ size e
unfolding bytes size
length_bytes (var i) = refl
length_bytes (name k) = refl
length_bytes (const c) = const_length c
length_bytes (lam t e) = omega (arith, length_bytes e)
length_bytes (app f a) = simp (length-append, length_bytes f, length_bytes a) (omega arith)
length_bytes (both s t e₁ e₂) = simp (length-append, length_bytes e₁, length_bytes e₂) (omega arith)
length_bytes (case_of s e₁ e₂) = simp (length-append, length_bytes e₁, length_bytes e₂) (omega arith)
