-- A list with a term at its front, seen through the node at its front: by the number of subterms, where the subterms stand and what the
-- tree is.
use mathlib.Core.Path.{◌≡◌, refl, ap, ap₂, sym, ◌∙◌}
use mathlib.Core.List.{List}
use Prim.Native.Nat.{ℕ, zero, suc, ◌+◌, ◌≤◌}
use native.Mathlib.Omega.{arith}
use lib.ListN.{length, drop}
use lib.Seq.{drop-drop}
use Rattle.std.proofs.Common.{None, Some}
use Rattle.term.specs.declared.Node.{Node}
use Rattle.term.specs.Tree.{Tree, leaf, one, tree_size, two}
use Rattle.term.specs.Reader.{node_of, Got, none, got, read_term, tree_in, first_tree, first_rest, Good}
use Rattle.term.proofs.Nodes.{head_is, subterms_at_most}
use Rattle.term.proofs.Reading.{closed_one, closed_two, none_got, past_term, step, step_node, then_second}

-- what is read there is the tree
module _ (l : List ℕ) (t : Tree) (r : List ℕ) (e : read_term l ≡ got t r) where
  pub is_tree : first_tree l ≡ t
  unfolding first_tree
  is_tree = ap tree_in e

  pub is_good : Good l
  unfolding first_tree first_rest
  is_good = rw e

-- the part after n bytes and a first term
abbrev pub after : List ℕ → ℕ → List ℕ
after l n = drop (n + tree_size (first_tree (drop n l))) l

pub record OneFront (l : List ℕ) (h : Node) : Type 0 where
  pub good : Good (drop h.size l)
  pub tree : first_tree l ≡ one h.tag h.arg (first_tree (drop h.size l))

pub record TwoFront (l : List ℕ) (h : Node) : Type 0 where
  pub good : Good (drop h.size l)
  pub good_after : Good (after l h.size)
  pub tree : first_tree l ≡ two h.tag h.arg (first_tree (drop h.size l)) (first_tree (after l h.size))

pub good_fits : (l : List ℕ) → Good l → tree_size (first_tree l) ≤ length l
good_fits l g = (past_term l (first_tree l) (first_rest l) g).fits

pub front_not_bad : (l : List ℕ) → Good l → node_of l ≡ None → ⊥
front_not_bad l g is = none_got (first_tree l) (first_rest l) (sym (rw is at (step l)) ∙ g)

module _ (l : List ℕ) (h : Node) (is : node_of l ≡ Some h) where
  module _ (g : Good l) where
    pub leaf_front : h.subterms ≡ 0 → first_tree l ≡ leaf h.tag h.arg
    leaf_front k = is_tree l (leaf h.tag h.arg) (drop h.size l) (step_node l h is 0 k)

    pub one_front : h.subterms ≡ 1 → OneFront l h
    one_front k =
        let d = drop h.size l in
        let u = closed_one h (read_term d) (first_tree l) (first_rest l) (sym (step_node l h is 1 k) ∙ g) in
        record {
          good = is_good d u.0 (first_rest l) u.1;
          tree = sym u.2 ∙ ap (one h.tag h.arg) (sym (is_tree d u.0 (first_rest l) u.1));
        }

    second_front : (f : Got) → read_term (drop h.size l) ≡ f → then_second read_term h f ≡ got (first_tree l) (first_rest l) → TwoFront l h
    second_front none e n = absurd (none_got (first_tree l) (first_rest l) n)
    second_front (got a q) e n =
        let d = drop h.size l in
        let u = closed_two h a (read_term q) (first_tree l) (first_rest l) n in
        let t : first_tree d ≡ a = is_tree d a q e in
        let p : q ≡ after l h.size =
        (past_term d a q e).rest ∙ drop-drop (tree_size a) h.size l ∙ ap (λ (x : Tree). drop (h.size + tree_size x) l) (sym t) in
        let s : read_term (after l h.size) ≡ got u.0 (first_rest l) = ap read_term (sym p) ∙ u.1 in
        record {
          good = is_good d a q e;
          good_after = is_good (after l h.size) u.0 (first_rest l) s;
          tree = sym u.2 ∙ ap₂ (two h.tag h.arg) (sym t) (sym (is_tree (after l h.size) u.0 (first_rest l) s));
        }

    pub two_front : h.subterms ≡ 2 → TwoFront l h
    two_front k = second_front (read_term (drop h.size l)) refl (sym (step_node l h is 2 k) ∙ g)

    -- the first subterm, whether or not there is a second
    first : (k : ℕ) → h.subterms ≡ k → (k ≡ 0 → ⊥) → Good (drop h.size l)
    first zero e some = absurd (some refl)
    first (suc zero) e some = (one_front e).good
    first (suc (suc k)) e some = (two_front (omega (arith, subterms_at_most h.tag, (head_is l h is).at_subterms))).good

    pub first_good : (h.subterms ≡ 0 → ⊥) → Good (drop h.size l)
    first_good some = first h.subterms refl some
