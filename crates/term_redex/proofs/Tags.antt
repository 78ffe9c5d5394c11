-- What a search asks of a node is said by its tag: for each tag with no subterm, with one, with two.
use mathlib.Core.Path.{◌≡◌, refl, sym}
use mathlib.Core.Bool.{◌||◌, Bool, false, false≢true, true}
use Prim.Native.Nat.{ℕ}
use native.Mathlib.Omega.{arith}
use lib.Dec.{eqb}
use Rattle.calculus.specs.Syntax.{Exp, is_const, is_name, lam, Value}
use Rattle.calculus.specs.Image.{Closed, closed_var}
use Rattle.calculus.proofs.Theory.Tests.{eqb_differ}
use Rattle.term.specs.Forms.{application_tag, exch_tag, is_case_tag, variable_tag}
use Rattle.term.specs.Tree.{HasForm}
use Rattle.term.specs.Expressions.{leaf_exp, leaf_forms, two_exp, two_forms}
use Rattle.term.proofs.Shapes.{leaf_tag, one_tag, two_tag}
use Rattle.term_redex.specs.Shapes.{const_is_exch, exp_is_exch, is_case, is_stop, op_is_exch}

-- the constant exch
pub leaf_exch : (arg tag : ℕ) → HasForm tag 0 → exp_is_exch (leaf_exp tag arg) ≡ eqb tag exch_tag
unfolding exp_is_exch const_is_exch op_is_exch leaf_exp leaf_forms
leaf_exch arg = leaf_tag (λ tag. exp_is_exch (leaf_exp tag arg) ≡ eqb tag exch_tag) refl refl refl refl refl refl refl refl

pub one_exch : (arg : ℕ) (e : Exp) (tag : ℕ) → HasForm tag 1 → exp_is_exch (lam arg e) ≡ eqb tag exch_tag
unfolding exp_is_exch
one_exch arg e = one_tag (λ tag. exp_is_exch (lam arg e) ≡ eqb tag exch_tag) refl

pub two_exch : (arg : ℕ) (e f : Exp) (tag : ℕ) → HasForm tag 2 → exp_is_exch (two_exp tag arg e f) ≡ eqb tag exch_tag
unfolding exp_is_exch two_exp two_forms
two_exch arg e f = two_tag (λ tag. exp_is_exch (two_exp tag arg e f) ≡ eqb tag exch_tag) refl refl refl refl refl

-- a stop, but for applications: a variable or a case
abbrev pub stop_tagged : ℕ → Bool
stop_tagged tag = eqb tag variable_tag || is_case_tag tag

pub leaf_stop : (arg tag : ℕ) → HasForm tag 0 → is_stop (leaf_exp tag arg) ≡ stop_tagged tag
unfolding is_stop is_case_tag leaf_exp leaf_forms
leaf_stop arg = leaf_tag (λ tag. is_stop (leaf_exp tag arg) ≡ stop_tagged tag) refl refl refl refl refl refl refl refl

pub one_stop : (arg : ℕ) (e : Exp) (tag : ℕ) → HasForm tag 1 → is_stop (lam arg e) ≡ stop_tagged tag
unfolding is_stop is_case_tag
one_stop arg e = one_tag (λ tag. is_stop (lam arg e) ≡ stop_tagged tag) refl

pub two_stop : (arg : ℕ) (e f : Exp) (tag : ℕ) → HasForm tag 2 → ¬ (tag ≡ application_tag) → is_stop (two_exp tag arg e f) ≡ stop_tagged tag
unfolding is_stop is_case_tag two_exp two_forms
two_stop arg e f =
    two_tag (λ tag. ¬ (tag ≡ application_tag) → is_stop (two_exp tag arg e f) ≡ stop_tagged tag)
    (λ no. absurd (no refl)) (λ no. refl) (λ no. refl) (λ no. refl) (λ no. refl)

-- a case
pub leaf_case : (arg tag : ℕ) → HasForm tag 0 → is_case (leaf_exp tag arg) ≡ is_case_tag tag
unfolding is_case is_case_tag leaf_exp leaf_forms
leaf_case arg = leaf_tag (λ tag. is_case (leaf_exp tag arg) ≡ is_case_tag tag) refl refl refl refl refl refl refl refl

pub one_case : (arg : ℕ) (e : Exp) (tag : ℕ) → HasForm tag 1 → is_case (lam arg e) ≡ is_case_tag tag
unfolding is_case is_case_tag
one_case arg e = one_tag (λ tag. is_case (lam arg e) ≡ is_case_tag tag) refl

pub two_case : (arg : ℕ) (e f : Exp) (tag : ℕ) → HasForm tag 2 → is_case (two_exp tag arg e f) ≡ is_case_tag tag
unfolding is_case is_case_tag two_exp two_forms
two_case arg e f = two_tag (λ tag. is_case (two_exp tag arg e f) ≡ is_case_tag tag) refl refl refl refl refl

-- a leaf that is no stop is a value
pub leaf_value : (arg tag : ℕ) → HasForm tag 0 → is_stop (leaf_exp tag arg) ≡ false → Value (leaf_exp tag arg)
unfolding is_stop leaf_exp leaf_forms
leaf_value arg =
    leaf_tag (λ tag. is_stop (leaf_exp tag arg) ≡ false → Value (leaf_exp tag arg))
    (λ no. absurd (false≢true (sym no))) (λ no. is_const) (λ no. is_const) (λ no. is_const) (λ no. is_const) (λ no. is_const) (λ no. is_const) (λ no. is_name)

-- a leaf that is a stop is a variable, which is not closed
pub leaf_open : (arg tag : ℕ) → HasForm tag 0 → is_stop (leaf_exp tag arg) ≡ true → ¬ Closed 0 (leaf_exp tag arg)
unfolding is_stop leaf_exp leaf_forms
leaf_open arg =
    leaf_tag (λ tag. is_stop (leaf_exp tag arg) ≡ true → ¬ Closed 0 (leaf_exp tag arg))
    (λ s c. elim c [ closed_var l ↦ omega arith ])
    (λ s c. false≢true s) (λ s c. false≢true s) (λ s c. false≢true s) (λ s c. false≢true s) (λ s c. false≢true s) (λ s c. false≢true s) (λ s c. false≢true s)

-- what is no variable is a stop if it is a case
pub case_stop : (tag : ℕ) → ¬ (tag ≡ variable_tag) → stop_tagged tag ≡ is_case_tag tag
case_stop tag variable = rw (eqb_differ tag variable_tag variable) refl
