-- A variable at a node, by the number of its subterms.
use mathlib.Core.Path.{◌≡◌, refl}
use mathlib.Core.Bool.{cond, false}
use Prim.Native.Nat.{ℕ}
use Rattle.calculus.specs.Names.{uses}
use Rattle.term.specs.Forms.{form_of, forms, refers_of}
use Rattle.term.specs.Tree.{HasForm}
use Rattle.term.specs.Expressions.{leaf_exp, leaf_forms}
use Rattle.term.proofs.Shapes.{leaf_tag, one_tag, two_tag}
use Rattle.term_subst.specs.Variable.{is_variable}

-- how often it stands at a leaf
pub uses_leaf : (d arg tag : ℕ) → HasForm tag 0 → uses d (leaf_exp tag arg) ≡ cond (is_variable (refers_of tag) arg d) 1 0
unfolding uses leaf_exp leaf_forms is_variable form_of forms
uses_leaf d arg = leaf_tag (λ tag. uses d (leaf_exp tag arg) ≡ cond (is_variable (refers_of tag) arg d) 1 0) refl refl refl refl refl refl refl refl

-- no other node is a variable
pub none_one : (d arg tag : ℕ) → HasForm tag 1 → is_variable (refers_of tag) arg d ≡ false
unfolding is_variable form_of forms
none_one d arg = one_tag (λ tag. is_variable (refers_of tag) arg d ≡ false) refl

pub none_two : (d arg tag : ℕ) → HasForm tag 2 → is_variable (refers_of tag) arg d ≡ false
unfolding is_variable form_of forms
none_two d arg = two_tag (λ tag. is_variable (refers_of tag) arg d ≡ false) refl refl refl refl refl
