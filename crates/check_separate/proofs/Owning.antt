-- Every name in a term is one's own: the walk that asks each node, and what the loop of `names_only` knows.
use mathlib.Core.Path.{◌≡◌, ap, refl, sym, ◌∙◌}
use mathlib.Core.Bool.{Bool, ◌&&◌, false, true}
use mathlib.Core.List.{List, [], ◌∷◌}
use Prim.Native.Nat.{◌+◌, ◌-◌, ◌<◌, ℕ}
use Rattle.calculus.specs.Syntax.{Exp, lam}
use Rattle.calculus.specs.Profile.{names_only}
use Rattle.std.proofs.Common.{None, Some}
use Rattle.term.specs.declared.Node.{Node}
use Rattle.term.specs.Forms.{form_of, forms, refers_of}
use Rattle.term.specs.Tree.{HasForm}
use Rattle.term.specs.Reader.{first_tree, GoodAt, node_at, tree_at}
use Rattle.term.specs.Expressions.{exp_of, leaf_exp, leaf_forms, term_at, term_of, two_exp, two_forms}
use Rattle.term.proofs.Shapes.{leaf_tag, one_tag, two_tag}
use Rattle.term_walk.proofs.Law.{from}
use Rattle.term_walk.proofs.Asking.{asked}
use Rattle.term_scan.proofs.Many.{More, seen_bad}
use Rattle.term_scan.proofs.Plain.{Asking, asking_done, asking_node, asking_on, asking_out, asking_start, plain}
use Rattle.term_scan.proofs.Answers.{not_refused}
use Rattle.check_separate.specs.Tests.{own_operand}

module _ (own : ℕ) where
  -- by the number of subterms
  leaf_own : (d arg tag : ℕ) → HasForm tag 0 → names_only own (leaf_exp tag arg) ≡ own_operand own (refers_of tag) arg
  unfolding names_only leaf_exp leaf_forms own_operand form_of forms
  leaf_own d arg = leaf_tag (λ tag. names_only own (leaf_exp tag arg) ≡ own_operand own (refers_of tag) arg) refl refl refl refl refl refl refl refl

  one_own : (d arg : ℕ) (e : Exp) (tag : ℕ) → HasForm tag 1 → names_only own (lam arg e) ≡ (own_operand own (refers_of tag) arg && names_only own e)
  unfolding names_only own_operand form_of forms
  one_own d arg e = one_tag (λ tag. names_only own (lam arg e) ≡ (own_operand own (refers_of tag) arg && names_only own e)) refl

  two_own : (d arg : ℕ) (e f : Exp) (tag : ℕ) → HasForm tag 2 →
      names_only own (two_exp tag arg e f) ≡ (own_operand own (refers_of tag) arg && (names_only own e && names_only own f))
  unfolding names_only two_exp two_forms own_operand form_of forms
  two_own d arg e f =
      two_tag (λ tag. names_only own (two_exp tag arg e f) ≡ (own_operand own (refers_of tag) arg && (names_only own e && names_only own f))) refl refl refl refl refl

  -- the walk that asks each name
  abbrev pub own_node : ℕ → ℕ → Bool
  own_node tag arg = own_operand own (refers_of tag) arg

  pub own_of : {l : List ℕ} {at : ℕ} → GoodAt l at → from (plain own_node) (0 ∷ []) l at ≡ names_only own (term_at l at)
  unfolding exp_of term_of tree_at first_tree
  own_of g =
      asked (λ tag d. 0) (λ tag d. 0) (λ d tag arg. own_node tag arg) (λ d t. names_only own (exp_of t))
      leaf_own (λ d arg t. one_own d arg (exp_of t)) (λ d arg t u. two_own d arg (exp_of t) (exp_of u)) 0 g

-- began at `at`, now here, `waits` terms to come, and what they say is the answer
pub record Owning (own : ℕ) (l : List ℕ) (at here waits : ℕ) : Type 0 where
  pub good : GoodAt l at
  pub read : ℕ
  pub asking : Asking (own_node own) l at here read waits

pub owning_start : (own : ℕ) {l : List ℕ} {at : ℕ} → GoodAt l at → Owning own l at at 1
owning_start own {l} {at} g = record { good = g; read = 0; asking = asking_start (own_node own) l at g.inside }

module _ {own : ℕ} {l : List ℕ} {at here waits : ℕ} (w : Owning own l at here waits) where
  -- behind the last node
  pub owning_done : waits ≡ 0 → true ≡ names_only own (term_at l at)
  owning_done e = sym (asking_done w.asking e) ∙ own_of own w.good

  module _ (some : 0 < waits) where
    -- there is a node wherever one is to come
    pub owning_not_bad : node_at l here ≡ None → ⊥
    owning_not_bad is = not_refused w.good (seen_bad w.asking.seen some is)

    module _ {h : Node} (is : node_at l here ≡ Some h) where
      pub owning_node : More l at here w.read waits h
      owning_node = asking_node w.asking some is

      said : {b : Bool} → own_operand own h.refers h.arg ≡ b → own_node own h.tag h.arg ≡ b
      said e = ap (λ r. own_operand own r h.arg) owning_node.node.refers ∙ e

      pub owning_out : own_operand own h.refers h.arg ≡ false → false ≡ names_only own (term_at l at)
      owning_out f = sym (asking_out w.asking some is (said f)) ∙ own_of own w.good

      pub owning_on : own_operand own h.refers h.arg ≡ true → Owning own l at (here + h.size) (waits - 1 + h.subterms)
      owning_on t = record { good = w.good; read = w.read + 1; asking = asking_on w.asking some is (said t) }
