-- Scope of nodes by what they refer to, and of terms by the walk that asks it of each node; scope as an image asks it.
use mathlib.Core.Path.{◌≡◌, ap, ap₂, refl, ◌∙◌}
use mathlib.Core.Bool.{Bool, ◌&&◌, true}
use mathlib.Core.List.{List, [], ◌∷◌}
use Prim.Native.Nat.{◌+◌, ◌<◌, ◌≤◌, suc, zero, ℕ}
use native.Mathlib.Omega.{arith}
use borrow.Author.Tests.{lt-ltb}
use lib.Dec.{ltb}
use Rattle.calculus.specs.Syntax.{Const, unit, num, op, Each, each_app, each_both, each_case, each_const, each_lam, each_name, each_var, Exp, var, name, const, lam, app, both, case_of}
use Rattle.calculus.specs.Bytes.{two_byte_values}
use Rattle.calculus.specs.Limits.{byte_values}
use Rattle.calculus.specs.Image.{expression_test, Writable, WritableConst}
use Rattle.calculus.specs.Verdict.{scoped, scoped_const}
use Rattle.term.specs.Forms.{binders_of, form_of, forms, refers_of, to_name}
use Rattle.term.specs.Tree.{HasForm}
use Rattle.term.specs.Reader.{first_tree, GoodAt, tree_at}
use Rattle.term.specs.Expressions.{exp_of, leaf_exp, leaf_forms, term_at, term_of, two_exp, two_forms}
use Rattle.term.proofs.Shapes.{at_0, at_1, at_2, leaf_tag, one_tag, two_tag}
use Rattle.term_walk.proofs.Law.{from, Walk}
use Rattle.term_walk.proofs.Asking.{asked, asking}
use Rattle.term_scan.specs.Scopes.{bound_of, operand_scoped}

-- the code compares with the bound, also where nothing is referred to
pub there : (types names around arg refers : ℕ) {bound : ℕ} → refers ≤ to_name → arg < two_byte_values → bound ≡ bound_of types names around refers →
    ltb arg bound ≡ operand_scoped types names around refers arg
unfolding operand_scoped bound_of
there types names around arg zero few small e = ap (ltb arg) e ∙ lt-ltb arg two_byte_values small
there types names around arg (suc zero) few small e = ap (ltb arg) e
there types names around arg (suc (suc zero)) few small e = ap (ltb arg) e
there types names around arg (suc (suc (suc zero))) few small e = ap (ltb arg) e
there types names around arg (suc (suc (suc (suc k)))) few small e = absurd (omega arith)

-- By the number of subterms

module _ (types names : ℕ) where
  leaf_scoped : (d arg tag : ℕ) → HasForm tag 0 → scoped types names d (leaf_exp tag arg) ≡ operand_scoped types names d (refers_of tag) arg
  unfolding scoped scoped_const leaf_exp leaf_forms operand_scoped bound_of form_of forms
  leaf_scoped d arg =
      leaf_tag (λ tag. scoped types names d (leaf_exp tag arg) ≡ operand_scoped types names d (refers_of tag) arg) refl refl refl refl refl refl refl refl

  one_scoped : (d arg : ℕ) (e : Exp) (tag : ℕ) → HasForm tag 1 →
      scoped types names d (lam arg e) ≡ (operand_scoped types names d (refers_of tag) arg && scoped types names (d + binders_of tag) e)
  unfolding scoped operand_scoped bound_of form_of forms
  one_scoped d arg e =
      one_tag (λ tag. scoped types names d (lam arg e) ≡ (operand_scoped types names d (refers_of tag) arg && scoped types names (d + binders_of tag) e))
      (at_1 (λ x. ltb arg types && scoped types names x e) d)

  two_scoped : (d arg : ℕ) (e f : Exp) (tag : ℕ) → HasForm tag 2 →
      scoped types names d (two_exp tag arg e f)
      ≡ (operand_scoped types names d (refers_of tag) arg && (scoped types names d e && scoped types names (d + binders_of tag) f))
  unfolding scoped two_exp two_forms operand_scoped bound_of form_of forms
  two_scoped d arg e f =
      let g : ℕ → Bool = λ x. scoped types names d e && scoped types names x f in
      let h : ℕ → Bool = λ x. ltb arg types && g x in
      two_tag
      (λ tag. scoped types names d (two_exp tag arg e f)
      ≡ (operand_scoped types names d (refers_of tag) arg && (scoped types names d e && scoped types names (d + binders_of tag) f)))
      (at_0 g d) (at_0 h d) (at_0 h d) (at_2 g d) (at_2 g d)

  -- the walk whose frames are the numbers of variables around
  abbrev pub scoping : Walk Bool
  scoping = asking (λ tag d. d) (λ tag d. d + binders_of tag) (λ d tag arg. operand_scoped types names d (refers_of tag) arg)

  -- of a term the walk says the scope
  pub scope_of : {l : List ℕ} {at : ℕ} → GoodAt l at → from scoping (0 ∷ []) l at ≡ scoped types names 0 (term_at l at)
  unfolding exp_of term_of tree_at first_tree
  scope_of g =
      asked (λ tag d. d) (λ tag d. d + binders_of tag) (λ d tag arg. operand_scoped types names d (refers_of tag) arg) (λ d t. scoped types names d (exp_of t))
      leaf_scoped (λ d arg t. one_scoped d arg (exp_of t)) (λ d arg t u. two_scoped d arg (exp_of t) (exp_of u)) 0 g

-- an image asks no more than this of an expression that can be written: document 01, "variables are bound inside them, names are below m, ..
-- type bytes free"
const_image : (c : Const) → WritableConst c → scoped_const byte_values c ≡ true
unfolding scoped_const
const_image unit w = refl
const_image (num n) w = refl
const_image (op o t) w = lt-ltb t byte_values w

pub scoped_image : (m depth : ℕ) (e : Exp) → Each Writable e → scoped byte_values m depth e ≡ expression_test m depth e
unfolding scoped expression_test
scoped_image m depth (var i) (each_var w) = refl
scoped_image m depth (name k) each_name = refl
scoped_image m depth (const c) (each_const w) = const_image c w
scoped_image m depth (lam t e) (each_lam h w) = ap₂ ◌&&◌ (lt-ltb t byte_values h) (scoped_image m (suc depth) e w)
scoped_image m depth (app f a) (each_app w v) = ap₂ ◌&&◌ (scoped_image m depth f w) (scoped_image m depth a v)
scoped_image m depth (both s t e₁ e₂) (each_both h w v) =
    ap₂ ◌&&◌ (lt-ltb t byte_values h) (ap₂ ◌&&◌ (scoped_image m depth e₁ w) (scoped_image m depth e₂ v))
scoped_image m depth (case_of s e₁ e₂) (each_case w v) = ap₂ ◌&&◌ (scoped_image m depth e₁ w) (scoped_image m (suc (suc depth)) e₂ v)
