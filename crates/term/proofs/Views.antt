-- A term at a position of a list, seen through the node there: by the number of subterms, where the subterms stand, what the term is, and where
-- it ends. Each walk of a term goes by these.
use mathlib.Core.Path.{◌≡◌, ap, ap₂, refl, subst, sym, ◌∙◌}
use mathlib.Core.List.{List}
use Prim.Native.Nat.{◌+◌, ◌<◌, ◌≤◌, suc, zero, ℕ}
use native.Mathlib.Omega.{arith}
use lib.ListN.{drop, length, length-drop}
use lib.Seq.{drop-drop}
use Rattle.calculus.specs.Bytes.{Bytes, two_byte_values}
use Rattle.calculus.specs.Syntax.{app, both, case_of, lam, list, pair, Shape}
use Rattle.std.specs.Prelude.{IsSome}
use Rattle.std.proofs.Common.{None, Option, Some}
use Rattle.term.specs.declared.Node.{Node}
use Rattle.term.specs.Forms.{application_tag, binders_of, form_of, forms, lambda_tag, refers_of, subterms_of, to_name}
use Rattle.term.specs.Tree.{HasForm, leaf, one, Shaped, tree_nodes, tree_size, two}
use Rattle.term.specs.Reader.{end_at, first_tree, Good, GoodAt, node_at, tree_at}
use Rattle.term.specs.Expressions.{both_tag, case_tag, exp_of, leaf_exp, term_at, term_of, two_exp}
use Rattle.term.proofs.Nodes.{arg_small, binders_at_most, head_is, refers_at_most, subterms_at_most}
use Rattle.term.proofs.Reading.{nodes_size, shaped_term, size_some}
use Rattle.term.proofs.Terms.{bytes_drop}
use Rattle.term.proofs.Shapes.{one_tag, two_app, two_both, two_case, two_tag}
use Rattle.term.proofs.Fronts.{after, front_not_bad, good_fits, leaf_front, one_front, two_front}

-- a node at a position: it takes a byte or more, it ends inside, and it has 0, 1 or 2 subterms and binders, as the table says of its tag
pub record NodeAt (l : List ℕ) (at : ℕ) (h : Node) : Type 0 where
  pub onward : at < at + h.size
  pub inside : at + h.size ≤ length l
  pub few : h.subterms ≤ 2
  pub form : HasForm h.tag h.subterms
  pub binds : binders_of h.tag ≡ h.binders
  pub bound : h.binders ≤ 2
  pub refers : refers_of h.tag ≡ h.refers
  pub referent : h.refers ≤ to_name

-- a leaf at a position
pub record LeafAt (l : List ℕ) (at : ℕ) (h : Node) : Type 0 where
  pub tree : tree_at l at ≡ leaf h.tag h.arg
  pub term : term_at l at ≡ leaf_exp h.tag h.arg
  pub ends : end_at l at ≡ at + h.size

-- a node with one subterm: it begins where the node ends, and ends where the term ends
pub record OneAt (l : List ℕ) (at : ℕ) (h : Node) : Type 0 where
  pub good : GoodAt l (at + h.size)
  pub tree : tree_at l at ≡ one h.tag h.arg (tree_at l (at + h.size))
  pub term : term_at l at ≡ lam h.arg (term_at l (at + h.size))
  pub ends : end_at l at ≡ end_at l (at + h.size)

-- where the first subterm of a node ends, and the second begins
abbrev pub past_first : List ℕ → ℕ → Node → ℕ
past_first l at h = end_at l (at + h.size)

-- a node with two subterms
pub record TwoAt (l : List ℕ) (at : ℕ) (h : Node) : Type 0 where
  pub good : GoodAt l (at + h.size)
  pub second : GoodAt l (past_first l at h)
  pub tree : tree_at l at ≡ two h.tag h.arg (tree_at l (at + h.size)) (tree_at l (past_first l at h))
  pub term : term_at l at ≡ two_exp h.tag h.arg (term_at l (at + h.size)) (term_at l (past_first l at h))
  pub ends : end_at l at ≡ end_at l (past_first l at h)
  pub onward : at + h.size < past_first l at h

-- an application
pub record AppAt (l : List ℕ) (at : ℕ) (h : Node) : Type 0 where
  pub two : TwoAt l at h
  pub term : term_at l at ≡ app (term_at l (at + h.size)) (term_at l (past_first l at h))

pub app_from : {l : List ℕ} {at : ℕ} {h : Node} → TwoAt l at h → h.tag ≡ application_tag → AppAt l at h
app_from {h = h} o t = record { two = o; term = o.term ∙ two_app h.arg _ _ t }

-- a pair or list front
pub record BothAt (s : Shape) (l : List ℕ) (at : ℕ) (h : Node) : Type 0 where
  pub two : TwoAt l at h
  pub term : term_at l at ≡ both s h.arg (term_at l (at + h.size)) (term_at l (past_first l at h))

pub both_from : {s : Shape} {l : List ℕ} {at : ℕ} {h : Node} → TwoAt l at h → h.tag ≡ both_tag s → BothAt s l at h
both_from {s = s} {h = h} o t = record { two = o; term = o.term ∙ two_both s h.arg _ _ t }

-- what takes one apart
pub record CaseAt (s : Shape) (l : List ℕ) (at : ℕ) (h : Node) : Type 0 where
  pub two : TwoAt l at h
  pub term : term_at l at ≡ case_of s (term_at l (at + h.size)) (term_at l (past_first l at h))

pub case_from : {s : Shape} {l : List ℕ} {at : ℕ} {h : Node} → TwoAt l at h → h.tag ≡ case_tag s → CaseAt s l at h
case_from {s = s} {h = h} o t = record { two = o; term = o.term ∙ two_case s h.arg _ _ t }

-- a term at a position ends inside, past the position, and has no more nodes than bytes
pub end_inside : {l : List ℕ} {at : ℕ} → GoodAt l at → end_at l at ≤ length l
unfolding end_at tree_at
end_inside {l} {at} g = omega (arith, g.inside, good_fits (drop at l) g.good, length-drop at l)

pub end_onward : (l : List ℕ) (at : ℕ) → at < end_at l at
unfolding end_at
end_onward l at = omega (arith, size_some (tree_at l at))

pub nodes_inside : (l : List ℕ) (at : ℕ) → at + tree_nodes (tree_at l at) ≤ end_at l at
unfolding end_at
nodes_inside l at = omega (arith, nodes_size (tree_at l at))

-- its nodes are the table's
pub shaped_at : {l : List ℕ} {at : ℕ} → GoodAt l at → Shaped (tree_at l at)
unfolding tree_at
shaped_at {l} {at} g = shaped_term (drop at l) _ _ g.good

pub not_bad : {l : List ℕ} {at : ℕ} → GoodAt l at → node_at l at ≡ None → ⊥
unfolding node_at
not_bad {l} {at} g is = front_not_bad (drop at l) g.good is

-- what is not nothing is something
pub some_unless : {A : Type 0} (x : Option A) → (x ≡ None → ⊥) → IsSome x
some_unless None never = absurd (never refl)
some_unless (Some h) never = refl

-- so the reader gives a node
pub node_good : {l : List ℕ} {at : ℕ} → GoodAt l at → IsSome (node_at l at)
node_good {l} {at} g = some_unless (node_at l at) (not_bad g)

pub node_there : {l : List ℕ} {at : ℕ} {h : Node} → at ≤ length l → node_at l at ≡ Some h → NodeAt l at h
unfolding node_at
node_there {l} {at} {h} inside is =
    let n = head_is (drop at l) h is in
    record {
      onward = omega (arith, n.at_size);
      inside = omega (arith, n.whole, length-drop at l);
      few = omega (arith, n.at_subterms, subterms_at_most h.tag);
      form = record { known = n.known; shape = n.at_subterms };
      binds = n.at_binders;
      bound = omega (arith, n.at_binders, binders_at_most h.tag);
      refers = n.at_refers;
      referent = omega (arith, n.at_refers, refers_at_most h.tag);
    }

-- its operand is what two bytes say
pub small_arg : (l : List ℕ) (at : ℕ) {h : Node} → Bytes l → node_at l at ≡ Some h → h.arg < two_byte_values
unfolding node_at
small_arg l at {h} b is = arg_small (drop at l) h (bytes_drop at l b) is

-- a lambda has one subterm
pub lambda_one : {l : List ℕ} {at : ℕ} {h : Node} → NodeAt l at h → h.tag ≡ lambda_tag → h.subterms ≡ 1
unfolding form_of forms
lambda_one n t = sym n.form.shape ∙ ap subterms_of t

-- an application has two
pub application_two : {l : List ℕ} {at : ℕ} {h : Node} → NodeAt l at h → h.tag ≡ application_tag → h.subterms ≡ 2
unfolding form_of forms
application_two n t = sym n.form.shape ∙ ap subterms_of t

-- what a node with two subterms is
pub data TwoForm (tag : ℕ) : Type 0 where
  is_application : tag ≡ application_tag → TwoForm tag
  is_both : (s : Shape) → tag ≡ both_tag s → TwoForm tag
  is_case : (s : Shape) → tag ≡ case_tag s → TwoForm tag

pub two_form : (tag : ℕ) → HasForm tag 2 → TwoForm tag
unfolding both_tag case_tag
two_form = two_tag TwoForm (is_application refl) (is_both pair refl) (is_both list refl) (is_case pair refl) (is_case list refl)

-- a node with subterms that is no lambda has two
pub rest_two : {l : List ℕ} {at : ℕ} {h : Node} → NodeAt l at h → (h.subterms ≡ 0 → ⊥) → (h.tag ≡ lambda_tag → ⊥) → h.subterms ≡ 2
rest_two {h = h} n not_0 not_lambda = by h.subterms refl n.form n.few
  where
    by : (k : ℕ) → h.subterms ≡ k → HasForm h.tag k → k ≤ 2 → h.subterms ≡ 2
    by zero e f few = absurd (not_0 e)
    by (suc zero) e f few = absurd (not_lambda (one_tag (λ tag. tag ≡ lambda_tag) refl h.tag f))
    by (suc (suc zero)) e f few = e
    by (suc (suc (suc k))) e f few = absurd (omega arith)

pub leaf_from : {l : List ℕ} {at : ℕ} {h : Node} → node_at l at ≡ Some h → GoodAt l at → h.subterms ≡ 0 → LeafAt l at h
unfolding node_at tree_at term_of first_tree end_at exp_of tree_size
leaf_from {l} {at} {h} is g k =
    let t = leaf_front (drop at l) h is g.good k in
    record {
      tree = t;
      term = ap exp_of t;
      ends = omega (arith, ap tree_size t, (head_is (drop at l) h is).at_size);
    }

pub one_from : {l : List ℕ} {at : ℕ} {h : Node} → node_at l at ≡ Some h → GoodAt l at → h.subterms ≡ 1 → OneAt l at h
unfolding node_at tree_at term_of first_tree end_at exp_of tree_size
one_from {l} {at} {h} is g k =
    let o = one_front (drop at l) h is g.good k in
    let d = drop-drop h.size at l in
    let t : tree_at l at ≡ one h.tag h.arg (tree_at l (at + h.size)) =
    o.tree ∙ ap (λ (x : List ℕ). one h.tag h.arg (first_tree x)) d in
    record {
      good = record { inside = (node_there g.inside is).inside; good = subst Good d o.good };
      tree = t;
      term = ap exp_of t;
      ends = omega (arith, ap tree_size t, (head_is (drop at l) h is).at_size);
    }

pub two_from : {l : List ℕ} {at : ℕ} {h : Node} → node_at l at ≡ Some h → GoodAt l at → h.subterms ≡ 2 → TwoAt l at h
unfolding node_at tree_at term_of first_tree end_at exp_of tree_size
two_from {l} {at} {h} is g k =
    let o = two_front (drop at l) h is g.good k in
    let d = drop-drop h.size at l in
    let first : GoodAt l (at + h.size) = record { inside = (node_there g.inside is).inside; good = subst Good d o.good } in
    let s : at + (h.size + tree_size (first_tree (drop (at + h.size) l))) ≡ past_first l at h = omega arith in
    let e : after (drop at l) h.size ≡ drop (past_first l at h) l =
    drop-drop (h.size + tree_size (first_tree (drop h.size (drop at l)))) at l
    ∙ ap (λ (x : List ℕ). drop (at + (h.size + tree_size (first_tree x))) l) d
    ∙ ap (λ (x : ℕ). drop x l) s in
    let t : tree_at l at ≡ two h.tag h.arg (tree_at l (at + h.size)) (tree_at l (past_first l at h)) =
    o.tree ∙ ap₂ (λ (x y : List ℕ). two h.tag h.arg (first_tree x) (first_tree y)) d e in
    record {
      good = first;
      second = record { inside = end_inside first; good = subst Good e o.good_after };
      tree = t;
      term = ap exp_of t;
      ends = omega (arith, ap tree_size t, (head_is (drop at l) h is).at_size);
      onward = end_onward l (at + h.size);
    }

-- the first subterm, whether or not there is a second
pub first_good : {l : List ℕ} {at : ℕ} {h : Node} → node_at l at ≡ Some h → GoodAt l at → (h.subterms ≡ 0 → ⊥) → GoodAt l (at + h.size)
first_good {l} {at} {h} is g not_0 = by h.subterms refl
  where
    by : (k : ℕ) → h.subterms ≡ k → GoodAt l (at + h.size)
    by zero e = absurd (not_0 e)
    by (suc zero) e = (one_from is g e).good
    by (suc (suc k)) e = (two_from is g (omega (arith, (node_there g.inside is).few))).good
