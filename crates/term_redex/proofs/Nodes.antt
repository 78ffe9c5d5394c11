-- What the node at the front of a term says of it.
use mathlib.Core.Path.{◌≡◌, ap, refl, subst, sym, ◌∙◌}
use mathlib.Core.Bool.{false, not}
use mathlib.Core.List.{List}
use Prim.Native.Nat.{◌+◌, ◌≤◌, suc, zero, ℕ}
use native.Mathlib.Omega.{arith}
use lib.Dec.{eqb}
use lib.ListN.{drop}
use Rattle.calculus.specs.Syntax.{is_lam, list, pair, Shape, Value}
use Rattle.std.proofs.Common.{Option, None, Some}
use Rattle.term.specs.declared.Node.{Node}
use Rattle.term.specs.Forms.{application_tag, exch_tag, form_of, forms, is_case_tag, operand_of}
use Rattle.term.specs.Tree.{HasForm}
use Rattle.term.specs.Reader.{GoodAt, node_at}
use Rattle.term.specs.Expressions.{both_tag, case_tag, term_at}
use Rattle.term.proofs.Nodes.{head_is}
use Rattle.term.proofs.Views.{app_from, application_two, leaf_from, node_there, not_bad, one_from, two_from}
use Rattle.term_redex.specs.Shapes.{exp_is_exch, is_case, is_stop}
use Rattle.term_redex.specs.Stops.{TaggedAt}
use Rattle.term_redex.proofs.Tags.{leaf_case, leaf_exch, leaf_stop, leaf_value, one_case, one_exch, one_stop, stop_tagged, two_case, two_exch, two_stop}

-- a good term has a node at its front
pub node_of : {l : List ℕ} {at : ℕ} → GoodAt l at → (h : Node) × (node_at l at ≡ Some h)
node_of {l} {at} g = go (node_at l at) refl
  where
    go : (k : Option Node) → node_at l at ≡ k → (h : Node) × (node_at l at ≡ Some h)
    go (Some h) e = (h, e)
    go None e = absurd (not_bad g e)

-- none, one or two subterms
pub by_subterms : {C : Type 0} (n : ℕ) → n ≤ 2 → (n ≡ 0 → C) → (n ≡ 1 → C) → (n ≡ 2 → C) → C
by_subterms zero few none one two = none refl
by_subterms (suc zero) few none one two = one refl
by_subterms (suc (suc zero)) few none one two = two refl
by_subterms (suc (suc (suc n))) few none one two = absurd (omega arith)

-- how many bytes a node takes, by its tag
pub application_size : (l : List ℕ) (at : ℕ) {h : Node} → node_at l at ≡ Some h → h.tag ≡ application_tag → h.size ≡ 1
unfolding node_at form_of forms
application_size l at {h} is t = sym (head_is (drop at l) h is).at_size ∙ ap (λ (x : ℕ). 1 + operand_of x) t

pub both_size : (l : List ℕ) (at : ℕ) {h : Node} (s : Shape) → node_at l at ≡ Some h → h.tag ≡ both_tag s → h.size ≡ 2
unfolding node_at both_tag form_of forms
both_size l at {h} pair is t = sym (head_is (drop at l) h is).at_size ∙ ap (λ (x : ℕ). 1 + operand_of x) t
both_size l at {h} list is t = sym (head_is (drop at l) h is).at_size ∙ ap (λ (x : ℕ). 1 + operand_of x) t

pub case_size : (l : List ℕ) (at : ℕ) {h : Node} (s : Shape) → node_at l at ≡ Some h → h.tag ≡ case_tag s → h.size ≡ 1
unfolding node_at case_tag form_of forms
case_size l at {h} pair is t = sym (head_is (drop at l) h is).at_size ∙ ap (λ (x : ℕ). 1 + operand_of x) t
case_size l at {h} list is t = sym (head_is (drop at l) h is).at_size ∙ ap (λ (x : ℕ). 1 + operand_of x) t

module _ {l : List ℕ} {at : ℕ} {h : Node} (is : node_at l at ≡ Some h) (g : GoodAt l at) where
  -- by the number of its subterms
  pub by_form : {C : Type 0} → (h.subterms ≡ 0 → HasForm h.tag 0 → C) → (h.subterms ≡ 1 → HasForm h.tag 1 → C) → (h.subterms ≡ 2 → HasForm h.tag 2 → C) → C
  by_form leaf one two =
      let n = node_there g.inside is in
      by_subterms h.subterms n.few
      (λ k. leaf k (subst (HasForm h.tag) k n.form)) (λ k. one k (subst (HasForm h.tag) k n.form)) (λ k. two k (subst (HasForm h.tag) k n.form))

  exch_node : exp_is_exch (term_at l at) ≡ eqb h.tag exch_tag
  exch_node =
      by_form
      (λ k f. ap exp_is_exch (leaf_from is g k).term ∙ leaf_exch h.arg h.tag f)
      (λ k f. ap exp_is_exch (one_from is g k).term ∙ one_exch h.arg _ h.tag f)
      (λ k f. ap exp_is_exch (two_from is g k).term ∙ two_exch h.arg _ _ h.tag f)

  stop_node : ¬ (h.tag ≡ application_tag) → is_stop (term_at l at) ≡ stop_tagged h.tag
  stop_node other =
      by_form
      (λ k f. ap is_stop (leaf_from is g k).term ∙ leaf_stop h.arg h.tag f)
      (λ k f. ap is_stop (one_from is g k).term ∙ one_stop h.arg _ h.tag f)
      (λ k f. ap is_stop (two_from is g k).term ∙ two_stop h.arg _ _ h.tag f other)

  pub case_node : is_case (term_at l at) ≡ is_case_tag h.tag
  case_node =
      by_form
      (λ k f. ap is_case (leaf_from is g k).term ∙ leaf_case h.arg h.tag f)
      (λ k f. ap is_case (one_from is g k).term ∙ one_case h.arg _ h.tag f)
      (λ k f. ap is_case (two_from is g k).term ∙ two_case h.arg _ _ h.tag f)

  -- what is no stop and has not two subterms is a value
  pub value_node : ¬ (h.subterms ≡ 2) → is_stop (term_at l at) ≡ false → Value (term_at l at)
  value_node other passes =
      by_form
      (λ k f. rw (leaf_from is g k).term (leaf_value h.arg h.tag f (sym (ap is_stop (leaf_from is g k).term) ∙ passes)))
      (λ k f. rw (one_from is g k).term is_lam)
      (λ k f. absurd (other k))

  -- an application's function
  function_good : h.tag ≡ application_tag → GoodAt l (at + 1)
  function_good t =
      let two = two_from is g (application_two (node_there g.inside is) t) in
      subst (λ (n : ℕ). GoodAt l (at + n)) (application_size l at is t) two.good

-- the function's node says whether an application is exch's
application_stop : {l : List ℕ} {at : ℕ} {h f : Node} → node_at l at ≡ Some h → GoodAt l at → h.tag ≡ application_tag → node_at l (at + 1) ≡ Some f →
    is_stop (term_at l at) ≡ not (eqb f.tag exch_tag)
unfolding is_stop
application_stop {l} {at} {h} {f} is g t e =
    let two = two_from is g (application_two (node_there g.inside is) t) in
    let z : at + h.size ≡ at + 1 = ap (λ (n : ℕ). at + n) (application_size l at is t) in
    ap is_stop (app_from two t).term ∙ ap (λ (n : ℕ). not (exp_is_exch (term_at l n))) z ∙ ap not (exch_node e (function_good is g t))

-- the same of a term whose root has this tag
module _ {l : List ℕ} {at tag : ℕ} (t : TaggedAt l at tag) where
  pub tagged_function : tag ≡ application_tag → GoodAt l (at + 1)
  tagged_function e = function_good t.is t.good (t.tagged ∙ e)

  pub tagged_application : {f : Node} → tag ≡ application_tag → node_at l (at + 1) ≡ Some f → not (eqb f.tag exch_tag) ≡ is_stop (term_at l at)
  tagged_application e g = sym (application_stop t.is t.good (t.tagged ∙ e) g)

  pub tagged_stop : ¬ (tag ≡ application_tag) → stop_tagged tag ≡ is_stop (term_at l at)
  tagged_stop other = sym (stop_node t.is t.good (λ e. other (sym t.tagged ∙ e)) ∙ ap stop_tagged t.tagged)
