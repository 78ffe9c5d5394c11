-- What a walk over a term makes of it, and the law: to walk terms still to come is to visit the next node, and then to walk its subterms and the rest. It is
-- proved once, for any walk, by the number of subterms of the node.
use mathlib.Core.Path.{◌≡◌, ap, refl, sym, ◌∙◌}
use mathlib.Core.List.{List, [], ◌∷◌}
use Prim.Native.Nat.{◌+◌, suc, zero, ℕ}
use native.Mathlib.Omega.{arith}
use lib.ListN.{drop, length}
use lib.Seq.{drop-drop}
use Rattle.std.proofs.Common.{None, Some}
use Rattle.term.specs.declared.Node.{Node}
use Rattle.term.specs.Tree.{leaf, one, Tree, two}
use Rattle.term.specs.Reader.{first_rest, GoodAt, Got, got, node_at, node_of, none, read_term, tree_at}
use Rattle.term.proofs.Nodes.{head_is, subterms_at_most}
use Rattle.term.proofs.Reading.{close_one, close_two, step, step_node, then_second}
use Rattle.term_walk.specs.Frames.{opened}

-- A walk that answers an A: the frames of the first of two subterms and of the last subterm, by the tag and the frame of the node; what it makes of a node, by
-- its frame, tag and operand and by what comes after; its answer where there is no term, and behind the last node. What comes to nothing stays nothing.
pub record Walk (A : Type 0) : Type 0 where
  pub first : ℕ → ℕ → ℕ
  pub last : ℕ → ℕ → ℕ
  pub visit : ℕ → ℕ → ℕ → A → A
  pub refused : A
  pub done : List ℕ → A
  pub strict : (d tag arg : ℕ) → visit d tag arg refused ≡ refused

module _ {A : Type 0} (W : Walk A) where
  -- a tree, and what comes after
  unfoldable pub fold : ℕ → Tree → A → A
  fold d (leaf tag arg) rest = W.visit d tag arg rest
  fold d (one tag arg t) rest = W.visit d tag arg (fold (W.last tag d) t rest)
  fold d (two tag arg t u) rest = W.visit d tag arg (fold (W.first tag d) t (fold (W.last tag d) u rest))

  abbrev pub onward : ℕ → (List ℕ → A) → Got → A
  onward d next none = W.refused
  onward d next (got t rest) = fold d t (next rest)

  -- terms one after the other at the front of a list, each with its frame
  unfoldable pub ahead : List ℕ → List ℕ → A
  ahead [] l = W.done l
  ahead (d ∷ ds) l = onward d (ahead ds) (read_term l)

  fold_refused : (d : ℕ) (t : Tree) → fold d t W.refused ≡ W.refused
  unfolding fold
  fold_refused d (leaf tag arg) = W.strict d tag arg
  fold_refused d (one tag arg t) = ap (W.visit d tag arg) (fold_refused (W.last tag d) t) ∙ W.strict d tag arg
  fold_refused d (two tag arg t u) =
      ap (λ x. W.visit d tag arg (fold (W.first tag d) t x)) (fold_refused (W.last tag d) u)
      ∙ ap (W.visit d tag arg) (fold_refused (W.first tag d) t)
      ∙ W.strict d tag arg

  module _ (d : ℕ) (ds l : List ℕ) where
    ahead_bad : node_of l ≡ None → ahead (d ∷ ds) l ≡ W.refused
    unfolding ahead
    ahead_bad is = rw (step l, is)

    module _ (h : Node) (is : node_of l ≡ Some h) where
      abbrev see : A → A
      see = W.visit d h.tag h.arg

      after_one : (g : Got) → onward d (ahead ds) (close_one h g) ≡ see (onward (W.last h.tag d) (ahead ds) g)
      unfolding fold
      after_one none = sym (W.strict d h.tag h.arg)
      after_one (got t r) = refl

      after_first : (t : Tree) (g : Got) →
          onward d (ahead ds) (close_two h t g) ≡ see (fold (W.first h.tag d) t (onward (W.last h.tag d) (ahead ds) g))
      unfolding fold
      after_first t none = sym (ap see (fold_refused (W.first h.tag d) t) ∙ W.strict d h.tag h.arg)
      after_first t (got u r) = refl

      after_two : (g : Got) → onward d (ahead ds) (then_second read_term h g) ≡ see (onward (W.first h.tag d) (ahead (W.last h.tag d ∷ ds)) g)
      unfolding ahead
      after_two none = sym (W.strict d h.tag h.arg)
      after_two (got t r) = after_first t (read_term r)

      by : (k : ℕ) → h.subterms ≡ k → ahead (d ∷ ds) l ≡ see (ahead (opened k (W.first h.tag d) (W.last h.tag d) ds) (drop h.size l))
      unfolding ahead fold opened
      by zero e = ap (onward d (ahead ds)) (step_node l h is 0 e)
      by (suc zero) e = ap (onward d (ahead ds)) (step_node l h is 1 e) ∙ after_one (read_term (drop h.size l))
      by (suc (suc k)) e =
          let z : h.subterms ≡ 2 = omega (arith, subterms_at_most h.tag, (head_is l h is).at_subterms) in
          ap (onward d (ahead ds)) (step_node l h is 2 z) ∙ after_two (read_term (drop h.size l))

      ahead_node : ahead (d ∷ ds) l ≡ see (ahead (opened h.subterms (W.first h.tag d) (W.last h.tag d) ds) (drop h.size l))
      ahead_node = by h.subterms refl

  -- The same at a position of a longer list, as a loop has it

  unfoldable pub from : List ℕ → List ℕ → ℕ → A
  from ds l p = ahead ds (drop p l)

  pub from_none : (l : List ℕ) (p : ℕ) → from [] l p ≡ W.done (drop p l)
  unfolding from ahead
  from_none l p = refl

  pub from_end : (ds l : List ℕ) (p : ℕ) → length ds ≡ 0 → from ds l p ≡ W.done (drop p l)
  from_end [] l p e = from_none l p
  from_end (d ∷ ds) l p e = absurd (omega arith)

  -- one term
  pub from_one : (d : ℕ) (l : List ℕ) (p : ℕ) → from (d ∷ []) l p ≡ onward d W.done (read_term (drop p l))
  unfolding from ahead
  from_one d l p = refl

  pub from_good : (d : ℕ) {l : List ℕ} {p : ℕ} → GoodAt l p → from (d ∷ []) l p ≡ fold d (tree_at l p) (W.done (first_rest (drop p l)))
  unfolding from ahead tree_at
  from_good d {l} {p} g = ap (onward d W.done) g.good

  module _ (d : ℕ) (ds l : List ℕ) (p : ℕ) where
    pub from_bad : node_at l p ≡ None → from (d ∷ ds) l p ≡ W.refused
    unfolding from node_at
    from_bad is = ahead_bad d ds (drop p l) is

    -- the law
    pub from_node : {h : Node} → node_at l p ≡ Some h →
        from (d ∷ ds) l p ≡ W.visit d h.tag h.arg (from (opened h.subterms (W.first h.tag d) (W.last h.tag d) ds) l (p + h.size))
    unfolding from node_at
    from_node {h} is =
        ahead_node d ds (drop p l) h is
        ∙ ap (λ x. W.visit d h.tag h.arg (ahead (opened h.subterms (W.first h.tag d) (W.last h.tag d) ds) x)) (drop-drop h.size p l)
