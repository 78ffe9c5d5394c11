-- Expressions by the shape of their nodes: what holds of each tag with so many subterms holds of any node with that many, with the binders that the table says.
use mathlib.Core.Path.{◌≡◌, ap, refl, sym}
use mathlib.Core.Bool.{true}
use Prim.Native.Nat.{◌+◌, ◌<◌, max, suc, ℕ}
use native.Mathlib.Omega.{arith}
use borrow.Author.Tests.{lt-ltb}
use Rattle.calculus.specs.Syntax.{Each, each_app, each_both, each_case, each_lam, Exp, app, both, case_of, lam, list, pair, Shape}
use Rattle.calculus.specs.Limits.{byte_values}
use Rattle.calculus.specs.Names.{count, uses}
use Rattle.calculus.specs.Image.{nodes, Writable}
use Rattle.calculus.proofs.Theory.Tests.{clash}
use Rattle.term.specs.Forms.{application_tag, binders_of, case_list_tag, case_pair_tag, cell_tag, exch_tag, form_of, forms, handle_tag, lambda_tag, list_tag, name_tag, num_tag, pair_tag, subterms_of, tags, thread_tag, unit_tag, variable_tag}
use Rattle.term.specs.Tree.{forms_below, HasForm, InTable, leaf, one, Shaped, Tree, two}
use Rattle.term.specs.Expressions.{both_tag, case_tag, FitsBytes, nesting, tree_of, two_exp, two_forms}
use Rattle.term.proofs.Table.{all_at, below, end_of_row, Row, ◌∣◌}

-- The tags with so many subterms

zero_one : {P : Type 0} → ◌≡◌ {A = ℕ} 0 1 → P
zero_one e = absurd (clash e)

zero_two : {P : Type 0} → ◌≡◌ {A = ℕ} 0 2 → P
zero_two e = absurd (omega arith)

one_two : {P : Type 0} → ◌≡◌ {A = ℕ} 1 2 → P
one_two e = absurd (omega arith)

pub leaf_tag : (P : ℕ → Type 0) → P variable_tag → P unit_tag → P num_tag → P cell_tag → P exch_tag → P thread_tag → P handle_tag → P name_tag
    → (tag : ℕ) → HasForm tag 0 → P tag
unfolding form_of forms
leaf_tag P variable unit num cell exch thread handle name tag f = below row tag f.known f.shape
  where
    row : Row (λ tag. subterms_of tag ≡ 0 → P tag) 0 tags
    row =
        (λ e. variable) ∣ (λ e. zero_one (sym e)) ∣ (λ e. zero_two (sym e)) ∣ (λ e. unit) ∣ (λ e. num) ∣ (λ e. cell) ∣ (λ e. exch) ∣ (λ e. thread)
        ∣ (λ e. handle) ∣ (λ e. name) ∣ (λ e. zero_two (sym e)) ∣ (λ e. zero_two (sym e)) ∣ (λ e. zero_two (sym e)) ∣ (λ e. zero_two (sym e)) ∣ end_of_row

pub one_tag : (P : ℕ → Type 0) → P lambda_tag → (tag : ℕ) → HasForm tag 1 → P tag
unfolding form_of forms
one_tag P lambda tag f = below row tag f.known f.shape
  where
    row : Row (λ tag. subterms_of tag ≡ 1 → P tag) 0 tags
    row =
        zero_one ∣ (λ e. lambda) ∣ (λ e. one_two (sym e)) ∣ zero_one ∣ zero_one ∣ zero_one ∣ zero_one ∣ zero_one ∣ zero_one ∣ zero_one
        ∣ (λ e. one_two (sym e)) ∣ (λ e. one_two (sym e)) ∣ (λ e. one_two (sym e)) ∣ (λ e. one_two (sym e)) ∣ end_of_row

pub two_tag : (P : ℕ → Type 0) → P application_tag → P pair_tag → P list_tag → P case_pair_tag → P case_list_tag → (tag : ℕ) → HasForm tag 2 → P tag
unfolding form_of forms
two_tag P application a_pair a_list case_pair case_list tag f = below row tag f.known f.shape
  where
    row : Row (λ tag. subterms_of tag ≡ 2 → P tag) 0 tags
    row =
        zero_two ∣ one_two ∣ (λ e. application) ∣ zero_two ∣ zero_two ∣ zero_two ∣ zero_two ∣ zero_two ∣ zero_two ∣ zero_two
        ∣ (λ e. a_pair) ∣ (λ e. a_list) ∣ (λ e. case_pair) ∣ (λ e. case_list) ∣ end_of_row

-- Variables around: what the table adds, none, one or two

pub at_0 : {A : Type 0} (g : ℕ → A) (d : ℕ) → g d ≡ g (d + 0)
at_0 g d = let e : d ≡ d + 0 = omega arith in ap g e

pub at_1 : {A : Type 0} (g : ℕ → A) (d : ℕ) → g (suc d) ≡ g (d + 1)
at_1 g d = let e : suc d ≡ d + 1 = omega arith in ap g e

pub at_2 : {A : Type 0} (g : ℕ → A) (d : ℕ) → g (suc (suc d)) ≡ g (d + 2)
at_2 g d = let e : suc (suc d) ≡ d + 2 = omega arith in ap g e

-- A node with one subterm

pub uses_one : (arg : ℕ) (e : Exp) (d tag : ℕ) → HasForm tag 1 → uses d (lam arg e) ≡ uses (d + binders_of tag) e
unfolding uses form_of forms
uses_one arg e d = one_tag (λ tag. uses d (lam arg e) ≡ uses (d + binders_of tag) e) (at_1 (λ x. uses x e) d)

pub tree_one : (arg : ℕ) (e : Exp) (tag : ℕ) → HasForm tag 1 → tree_of (lam arg e) ≡ one tag arg (tree_of e)
unfolding tree_of
tree_one arg e = one_tag (λ tag. tree_of (lam arg e) ≡ one tag arg (tree_of e)) refl

pub fits_one : (arg : ℕ) (e : Exp) (tag : ℕ) → InTable tag arg 1 → FitsBytes e → FitsBytes (lam arg e)
unfolding count form_of forms
fits_one arg e tag w p = record { writable = each_lam (one_tag (λ tag. InTable tag arg 1 → arg < byte_values) (λ w. w.fits) tag w.form w) p.writable; names = p.names }

-- A node with two subterms

module _ (tag arg : ℕ) (e f : Exp) where
  -- what holds whatever the tag is
  pub each_two : (P : Exp → Type 0) → P (app e f) → ((s : Shape) → P (both s arg e f)) → ((s : Shape) → P (case_of s e f)) → P (two_exp tag arg e f)
  unfolding two_exp two_forms
  each_two P a b c =
      all_at P (two_forms arg e f) (app e f) (a, (a, (a, (a, (a, (a, (a, (a, (a, (a, (b pair, (b list, (c pair, (c list, tt)))))))))))))) a tag

  pub nodes_two : nodes (two_exp tag arg e f) ≡ suc (nodes e + nodes f)
  unfolding nodes
  nodes_two = each_two (λ x. nodes x ≡ suc (nodes e + nodes f)) refl (λ s. refl) (λ s. refl)

  pub nesting_two : nesting (two_exp tag arg e f) ≡ suc (max (nesting e) (nesting f))
  unfolding nesting
  nesting_two = each_two (λ x. nesting x ≡ suc (max (nesting e) (nesting f))) refl (λ s. refl) (λ s. refl)

  pub count_two : (k : ℕ) → count k (two_exp tag arg e f) ≡ count k e + count k f
  unfolding count
  count_two k = each_two (λ x. count k x ≡ count k e + count k f) refl (λ s. refl) (λ s. refl)

-- what it is, by its tag
pub two_app : (arg : ℕ) (e f : Exp) {tag : ℕ} → tag ≡ application_tag → two_exp tag arg e f ≡ app e f
unfolding two_exp two_forms
two_app arg e f h = rw h refl

pub two_both : (s : Shape) (arg : ℕ) (e f : Exp) {tag : ℕ} → tag ≡ both_tag s → two_exp tag arg e f ≡ both s arg e f
unfolding two_exp two_forms both_tag
two_both pair arg e f h = rw h refl
two_both list arg e f h = rw h refl

pub two_case : (s : Shape) (arg : ℕ) (e f : Exp) {tag : ℕ} → tag ≡ case_tag s → two_exp tag arg e f ≡ case_of s e f
unfolding two_exp two_forms case_tag
two_case pair arg e f h = rw h refl
two_case list arg e f h = rw h refl

-- what holds of the tags that have two
pub uses_two : (arg : ℕ) (e f : Exp) (d tag : ℕ) → HasForm tag 2 → uses d (two_exp tag arg e f) ≡ uses d e + uses (d + binders_of tag) f
unfolding uses two_exp two_forms form_of forms
uses_two arg e f d =
    let g : ℕ → ℕ = λ x. uses d e + uses x f in
    two_tag (λ tag. uses d (two_exp tag arg e f) ≡ uses d e + uses (d + binders_of tag) f) (at_0 g d) (at_0 g d) (at_0 g d) (at_2 g d) (at_2 g d)

-- a node of the table is the one that is written so
pub tree_two : (arg : ℕ) (e f : Exp) (tag : ℕ) → InTable tag arg 2 → tree_of (two_exp tag arg e f) ≡ two tag arg (tree_of e) (tree_of f)
unfolding tree_of both_tag case_tag two_exp two_forms form_of forms
tree_two arg e f tag w = two_tag
    (λ tag. InTable tag arg 2 → tree_of (two_exp tag arg e f) ≡ two tag arg (tree_of e) (tree_of f))
    (λ w. no_operand application_tag w.fits) (λ w. refl) (λ w. refl) (λ w. no_operand case_pair_tag w.fits) (λ w. no_operand case_list_tag w.fits) tag w.form w
  where
    no_operand : (tag : ℕ) → arg < 1 → two tag 0 (tree_of e) (tree_of f) ≡ two tag arg (tree_of e) (tree_of f)
    no_operand tag h = let z : 0 ≡ arg = omega arith in ap (λ x. two tag x (tree_of e) (tree_of f)) z

pub fits_two : (arg : ℕ) (e f : Exp) (tag : ℕ) → InTable tag arg 2 → FitsBytes e → FitsBytes f → FitsBytes (two_exp tag arg e f)
unfolding two_exp two_forms form_of forms
fits_two arg e f tag w p q =
    record {
      writable = two_tag (λ tag. InTable tag arg 2 → Each Writable (two_exp tag arg e f)) (λ w. each_app p.writable q.writable)
          (λ w. each_both w.fits p.writable q.writable) (λ w. each_both w.fits p.writable q.writable)
          (λ w. each_case p.writable q.writable) (λ w. each_case p.writable q.writable) tag w.form w;
      names = λ k le. omega (arith, count_two tag arg e f k, p.names k le, q.names k le);
    }

-- Each node of the table has one of its forms

pub all_forms : (t : Tree) → Shaped t → forms_below tags t ≡ true
unfolding forms_below
all_forms (leaf tag arg) f = lt-ltb tag tags f.known
all_forms (one tag arg t) (f, s) = rw (lt-ltb tag tags f.known) (all_forms t s)
all_forms (two tag arg t u) (f, s, s') = rw (lt-ltb tag tags f.known, all_forms t s) (all_forms u s')
