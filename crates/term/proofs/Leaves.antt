-- Leaves by their tag. What is said of every tag is one test or one row of proofs, tag by tag.
use mathlib.Core.Path.{◌≡◌, ap, refl, subst}
use mathlib.Core.Bool.{Bool}
use mathlib.Core.List.{List, [], ◌∷◌}
use Prim.Native.Nat.{◌+◌, ◌-◌, ◌<◌, ◌≤◌, suc, zero, ℕ}
use native.Mathlib.Omega.{arith}
use lib.Dec.{T, eqb, eqb→eq}
use lib.ListN.{get_or, length}
use Rattle.calculus.specs.Syntax.{Const, unit, num, Op, op, cell, exch, thread, handle, Exp, var, name, const, each_const, each_name, each_var}
use Rattle.calculus.specs.Names.{count}
use Rattle.calculus.specs.Limits.{byte_values}
use Rattle.calculus.specs.Image.{nodes, WritableConst}
use Rattle.calculus.proofs.Theory.Expressions.{count_other}
use Rattle.term.specs.Forms.{form_of, forms, variable_tag, unit_tag, num_tag, cell_tag, handle_tag, name_tag, pair_tag}
use Rattle.term.specs.Tree.{InTable, leaf}
use Rattle.term.specs.Expressions.{const_tree, leaf_exp, leaf_forms, nesting, op_tag, tree_of, FitsBytes}
use Rattle.term.proofs.Table.{below, end_of_row, every, every_at, Row, ◌∣◌}
use Rattle.term.proofs.Shapes.{leaf_tag}

-- a rule of leaves, by one test
leaf_rule : (test : Exp → Bool) (tag arg : ℕ) → T (every test (leaf_forms arg)) → T (test (const unit)) → T (test (leaf_exp tag arg))
unfolding leaf_exp
leaf_rule test tag arg all other = every_at test (leaf_forms arg) (const unit) all other tag

pub leaf_nodes : (tag arg : ℕ) → nodes (leaf_exp tag arg) ≡ 1
unfolding nodes leaf_forms
leaf_nodes tag arg = eqb→eq (nodes (leaf_exp tag arg)) 1 (leaf_rule (λ e. eqb (nodes e) 1) tag arg tt tt)

pub leaf_nesting : (tag arg : ℕ) → nesting (leaf_exp tag arg) ≡ 1
unfolding nesting leaf_forms
leaf_nesting tag arg = eqb→eq (nesting (leaf_exp tag arg)) 1 (leaf_rule (λ e. eqb (nesting e) 1) tag arg tt tt)

-- what is no leaf's tag
past_end : {A : Type 0} (xs : List A) (d : A) (k : ℕ) → length xs ≤ k → get_or xs k d ≡ d
past_end [] d k h = refl
past_end (x ∷ xs) d zero h = absurd (omega arith)
past_end (x ∷ xs) d (suc k) h = past_end xs d k (omega arith)

pub leaf_unknown : (tag arg : ℕ) → pair_tag ≤ tag → leaf_exp tag arg ≡ const unit
unfolding leaf_exp leaf_forms
leaf_unknown tag arg h = past_end (leaf_forms arg) (const unit) tag h

-- the leaf of each tag
pub leaf_variable : (tag arg : ℕ) → tag ≡ variable_tag → leaf_exp tag arg ≡ var arg
unfolding leaf_exp leaf_forms
leaf_variable tag arg e = rw e refl

pub leaf_num : (tag arg : ℕ) → tag ≡ num_tag → leaf_exp tag arg ≡ const (num arg)
unfolding leaf_exp leaf_forms
leaf_num tag arg e = rw e refl

pub leaf_name : (tag arg : ℕ) → tag ≡ name_tag → leaf_exp tag arg ≡ name arg
unfolding leaf_exp leaf_forms
leaf_name tag arg e = rw e refl

-- the other tags below those of the constants with a type
pub leaf_unit : (tag arg : ℕ) → ¬ (tag ≡ variable_tag) → ¬ (tag ≡ num_tag) → tag < cell_tag → leaf_exp tag arg ≡ const unit
unfolding leaf_exp leaf_forms
leaf_unit tag arg not_variable not_num h = below row tag h not_variable not_num
  where
    row : Row (λ tag. ¬ (tag ≡ variable_tag) → ¬ (tag ≡ num_tag) → leaf_exp tag arg ≡ const unit) 0 cell_tag
    row = (λ v n. absurd (v refl)) ∣ (λ v n. refl) ∣ (λ v n. refl) ∣ (λ v n. refl) ∣ (λ v n. absurd (n refl)) ∣ end_of_row

-- the constants with a type
pub leaf_op : (tag arg : ℕ) → cell_tag ≤ tag → tag ≤ handle_tag → (o : Op) × (leaf_exp tag arg ≡ const (op o arg))
unfolding leaf_exp leaf_forms
leaf_op tag arg low high = let e : cell_tag + (tag - cell_tag) ≡ tag = omega arith in subst (λ t. (o : Op) × (leaf_exp t arg ≡ const (op o arg))) e (below row (tag - cell_tag) (omega arith))
  where
    row : Row (λ i. (o : Op) × (leaf_exp (cell_tag + i) arg ≡ const (op o arg))) 0 (name_tag - cell_tag)
    row = (cell, refl) ∣ (exch, refl) ∣ (thread, refl) ∣ (handle, refl) ∣ end_of_row

-- a node with no subterm is the leaf that is written so
pub leaf_tree : (tag arg : ℕ) → InTable tag arg 0 → tree_of (leaf_exp tag arg) ≡ leaf tag arg
unfolding leaf_exp leaf_forms tree_of const_tree op_tag form_of forms
leaf_tree tag arg w =
    leaf_tag (λ tag. InTable tag arg 0 → tree_of (leaf_exp tag arg) ≡ leaf tag arg)
    (λ w. refl) unit_operand (λ w. refl) (λ w. refl) (λ w. refl) (λ w. refl) (λ w. refl) (λ w. refl) tag w.form w
  where
    unit_operand : InTable unit_tag arg 0 → leaf unit_tag 0 ≡ leaf unit_tag arg
    unit_operand w = let z : 0 ≡ arg = omega (arith, w.fits) in ap (leaf unit_tag) z

pub const_fits : {c : Const} → WritableConst c → FitsBytes (const c)
unfolding count
const_fits w = record { writable = each_const w; names = λ k le. refl }

name_fits : (k : ℕ) → k < byte_values → FitsBytes (name k)
name_fits k h = record { writable = each_name; names = λ j le. count_other j k (omega arith) }

pub leaf_fits : (tag arg : ℕ) → InTable tag arg 0 → FitsBytes (leaf_exp tag arg)
unfolding leaf_exp leaf_forms form_of forms count
leaf_fits tag arg w =
    leaf_tag (λ tag. InTable tag arg 0 → FitsBytes (leaf_exp tag arg))
    (λ w. record { writable = each_var w.fits; names = λ k le. refl })
    (λ w. const_fits {c = unit} tt)
    (λ w. const_fits {c = num arg} w.fits)
    (λ w. const_fits {c = op cell arg} w.fits)
    (λ w. const_fits {c = op exch arg} w.fits)
    (λ w. const_fits {c = op thread arg} w.fits)
    (λ w. const_fits {c = op handle arg} w.fits)
    (λ w. name_fits arg w.fits)
    tag w.form w
