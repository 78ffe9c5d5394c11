-- An expression is the tree that it is written as, and what fits is well-formed.
use mathlib.Core.Path.{◌≡◌, ap, ap₂, refl, sym, ◌∙◌}
use mathlib.Core.Bool.{Bool, false, true}
use mathlib.Core.List.{List, [], ◌++◌, ◌∷◌}
use Prim.Native.Nat.{◌<◌, ℕ}
use native.Mathlib.Omega.{arith}
use borrow.Author.Tests.{ltb-true, ltb-false}
use lib.Dec.{ltb}
use lib.ListN.{length}
use Rattle.calculus.specs.Syntax.{Const, unit, num, op, Shape, pair, list, Exp, var, name, const, lam, app, both, case_of, Op, cell, exch, thread, handle, each_var, each_const, each_lam, each_app, each_both, each_case}
use Rattle.calculus.specs.Names.{count}
use Rattle.calculus.specs.Limits.{byte_values}
use Rattle.calculus.specs.Image.{size, WritableConst}
use Rattle.calculus.proofs.Theory.Tests.{clash}
use Rattle.calculus.proofs.Theory.Expressions.{count_same}
use Rattle.term.specs.Numbers.{little_endian}
use Rattle.term.specs.Forms.{form_of, forms, lambda_tag, application_tag}
use Rattle.term.specs.Tree.{InTable, Tree, leaf, node_bytes, one, tree_bytes, tree_size, two, WellFormed}
use Rattle.term.specs.Expressions.{bytes, const_bytes, const_tree, exp_of, leaf_exp, leaf_forms, two_forms, op_tag, both_tag, case_tag, tree_of, two_exp, FitsBytes}
use Rattle.term.proofs.Leaves.{leaf_fits, leaf_tree}
use Rattle.term.proofs.Shapes.{fits_one, fits_two, tree_one, tree_two, two_both, two_case}
use Rattle.term.proofs.Sizes.{length_bytes}
use Rattle.term.proofs.Terms.{size_bytes}

op_exp : (o : Op) (t : ℕ) → leaf_exp (op_tag o) t ≡ const (op o t)
unfolding leaf_exp leaf_forms op_tag
op_exp cell t = refl
op_exp exch t = refl
op_exp thread t = refl
op_exp handle t = refl

const_exp : (c : Const) → exp_of (const_tree c) ≡ const c
unfolding exp_of leaf_exp leaf_forms const_tree
const_exp unit = refl
const_exp (num n) = refl
const_exp (op o t) = op_exp o t

pub exp_tree : (e : Exp) → exp_of (tree_of e) ≡ e
unfolding exp_of leaf_exp leaf_forms two_exp two_forms tree_of
exp_tree (var i) = refl
exp_tree (name k) = refl
exp_tree (const c) = const_exp c
exp_tree (lam t e) = ap (lam t) (exp_tree e)
exp_tree (app f a) = ap₂ app (exp_tree f) (exp_tree a)
exp_tree (both s t e₁ e₂) = two_both s t _ _ refl ∙ ap₂ (both s t) (exp_tree e₁) (exp_tree e₂)
exp_tree (case_of s e₁ e₂) = two_case s 0 _ _ refl ∙ ap₂ (case_of s) (exp_tree e₁) (exp_tree e₂)

pub tree_exp : (t : Tree) → WellFormed t → tree_of (exp_of t) ≡ t
unfolding exp_of tree_of
tree_exp (leaf tag arg) w = leaf_tree tag arg w
tree_exp (one tag arg t) (w, v) = tree_one arg (exp_of t) tag w.form ∙ ap (one tag arg) (tree_exp t v)
tree_exp (two tag arg t u) (w, v, v') = tree_two arg (exp_of t) (exp_of u) tag w ∙ ap₂ (two tag arg) (tree_exp t v) (tree_exp u v')

-- What fits, by its parts

fits_var : {i : ℕ} → FitsBytes (var i) → i < byte_values
fits_var f = elim f.writable [ each_var h ↦ h ]

fits_name : {k : ℕ} → FitsBytes (name k) → k < byte_values
fits_name {k} f = go (ltb k byte_values) refl
  where
    go : (b : Bool) → ltb k byte_values ≡ b → k < byte_values
    go true e = ltb-true k byte_values e
    go false e = absurd (clash (sym (f.names k (omega (arith, ltb-false k byte_values e))) ∙ count_same k))

fits_const : {c : Const} → FitsBytes (const c) → WritableConst c
fits_const f = elim f.writable [ each_const h ↦ h ]

pub fits_lam : {t : ℕ} {e : Exp} → FitsBytes (lam t e) → (t < byte_values) × FitsBytes e
unfolding count
fits_lam f = elim f.writable [ each_lam h w ↦ (h, record { writable = w; names = f.names }) ]

pub fits_app : {f a : Exp} → FitsBytes (app f a) → FitsBytes f × FitsBytes a
unfolding count
fits_app {f} {a} h = elim h.writable [
  | each_app w v ↦ (
    record { writable = w; names = λ k le. omega (arith, h.names k le) },
    record { writable = v; names = λ k le. omega (arith, h.names k le) },
  )
]

pub fits_both : {s : Shape} {t : ℕ} {e₁ e₂ : Exp} → FitsBytes (both s t e₁ e₂) → (t < byte_values) × FitsBytes e₁ × FitsBytes e₂
unfolding count
fits_both {e₁ = e₁} {e₂ = e₂} h = elim h.writable [
  | each_both l w v ↦ (
    l,
    record { writable = w; names = λ k le. omega (arith, h.names k le) },
    record { writable = v; names = λ k le. omega (arith, h.names k le) },
  )
]

pub fits_case : {s : Shape} {e₁ e₂ : Exp} → FitsBytes (case_of s e₁ e₂) → FitsBytes e₁ × FitsBytes e₂
unfolding count
fits_case {e₁ = e₁} {e₂ = e₂} h = elim h.writable [
  | each_case w v ↦ (
    record { writable = w; names = λ k le. omega (arith, h.names k le) },
    record { writable = v; names = λ k le. omega (arith, h.names k le) },
  )
]

-- What fits is well-formed

pub exp_fits : (t : Tree) → WellFormed t → FitsBytes (exp_of t)
unfolding exp_of
exp_fits (leaf tag arg) w = leaf_fits tag arg w
exp_fits (one tag arg t) (w, v) = fits_one arg (exp_of t) tag w (exp_fits t v)
exp_fits (two tag arg t u) (w, v, v') = fits_two arg (exp_of t) (exp_of u) tag w (exp_fits t v) (exp_fits u v')

-- an operation has any operand that its byte can say
op_in_table : (o : Op) (t : ℕ) → t < byte_values → InTable (op_tag o) t 0
unfolding op_tag form_of forms
op_in_table cell t h = record { form = record { known = omega arith; shape = refl }; fits = h }
op_in_table exch t h = record { form = record { known = omega arith; shape = refl }; fits = h }
op_in_table thread t h = record { form = record { known = omega arith; shape = refl }; fits = h }
op_in_table handle t h = record { form = record { known = omega arith; shape = refl }; fits = h }

const_well_formed : (c : Const) → WritableConst c → WellFormed (const_tree c)
unfolding const_tree form_of forms
const_well_formed unit w = record { form = record { known = omega arith; shape = refl }; fits = omega arith }
const_well_formed (num n) w = record { form = record { known = omega arith; shape = refl }; fits = w }
const_well_formed (op o t) w = op_in_table o t w

both_in_table : (s : Shape) (t : ℕ) → t < byte_values → InTable (both_tag s) t 2
unfolding both_tag form_of forms
both_in_table pair t h = record { form = record { known = omega arith; shape = refl }; fits = h }
both_in_table list t h = record { form = record { known = omega arith; shape = refl }; fits = h }

case_in_table : (s : Shape) → InTable (case_tag s) 0 2
unfolding case_tag form_of forms
case_in_table pair = record { form = record { known = omega arith; shape = refl }; fits = omega arith }
case_in_table list = record { form = record { known = omega arith; shape = refl }; fits = omega arith }

pub tree_well_formed : (e : Exp) → FitsBytes e → WellFormed (tree_of e)
unfolding tree_of form_of forms
tree_well_formed (var i) f = record { form = record { known = omega arith; shape = refl }; fits = fits_var f }
tree_well_formed (name k) f = record { form = record { known = omega arith; shape = refl }; fits = fits_name f }
tree_well_formed (const c) f = const_well_formed c (fits_const f)
tree_well_formed (lam t e) f =
    let (h, g) = fits_lam f in
    (record { form = record { known = omega arith; shape = refl }; fits = h }, tree_well_formed e g)
tree_well_formed (app f a) h =
    let (g, g') = fits_app h in
    (record { form = record { known = omega arith; shape = refl }; fits = omega arith }, tree_well_formed f g, tree_well_formed a g')
tree_well_formed (both s t e₁ e₂) h =
    let (l, g, g') = fits_both h in
    (both_in_table s t l, tree_well_formed e₁ g, tree_well_formed e₂ g')
tree_well_formed (case_of s e₁ e₂) h =
    let (g, g') = fits_case h in
    (case_in_table s, tree_well_formed e₁ g, tree_well_formed e₂ g')

-- The bytes of an expression are those of its tree

op_bytes : (o : Op) (t : ℕ) → op_tag o ∷ t ∷ [] ≡ tree_bytes (leaf (op_tag o) t)
unfolding tree_bytes op_tag form_of forms little_endian
op_bytes cell t = refl
op_bytes exch t = refl
op_bytes thread t = refl
op_bytes handle t = refl

const_tree_bytes : (c : Const) → const_bytes c ≡ tree_bytes (const_tree c)
unfolding const_bytes tree_bytes const_tree form_of forms little_endian
const_tree_bytes unit = refl
const_tree_bytes (num n) = refl
const_tree_bytes (op o t) = op_bytes o t

both_node_bytes : (s : Shape) (t : ℕ) (l : List ℕ) → both_tag s ∷ t ∷ l ≡ node_bytes (both_tag s) t ++ l
unfolding both_tag form_of forms little_endian
both_node_bytes pair t l = refl
both_node_bytes list t l = refl

case_node_bytes : (s : Shape) (l : List ℕ) → case_tag s ∷ l ≡ node_bytes (case_tag s) 0 ++ l
unfolding case_tag form_of forms little_endian
case_node_bytes pair l = refl
case_node_bytes list l = refl

pub bytes_tree : (e : Exp) → bytes e ≡ tree_bytes (tree_of e)
unfolding bytes tree_bytes tree_of form_of forms little_endian
bytes_tree (var i) = refl
bytes_tree (name k) = refl
bytes_tree (const c) = const_tree_bytes c
bytes_tree (lam t e) = ap (λ l. lambda_tag ∷ t ∷ l) (bytes_tree e)
bytes_tree (app f a) = ap₂ (λ l m. application_tag ∷ (l ++ m)) (bytes_tree f) (bytes_tree a)
bytes_tree (both s t e₁ e₂) = ap₂ (λ l m. both_tag s ∷ t ∷ (l ++ m)) (bytes_tree e₁) (bytes_tree e₂) ∙ both_node_bytes s t _
bytes_tree (case_of s e₁ e₂) = ap₂ (λ l m. case_tag s ∷ (l ++ m)) (bytes_tree e₁) (bytes_tree e₂) ∙ case_node_bytes s _

pub exp_bytes : (t : Tree) → WellFormed t → bytes (exp_of t) ≡ tree_bytes t
exp_bytes t w = bytes_tree (exp_of t) ∙ ap tree_bytes (tree_exp t w)

pub exp_size : (t : Tree) → WellFormed t → tree_size t ≡ size (exp_of t)
exp_size t w = sym (size_bytes t) ∙ ap length (sym (exp_bytes t w)) ∙ length_bytes (exp_of t)
