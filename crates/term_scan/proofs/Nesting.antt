-- Nesting by the walk whose frames are the numbers of nodes above, and what the loop of `nesting_within` knows.
use mathlib.Core.Path.{◌≡◌, ap, refl, sym, ◌∙◌}
use mathlib.Core.Bool.{Bool, ◌&&◌, false, true}
use mathlib.Core.List.{List, [], ◌∷◌}
use Prim.Native.Nat.{◌+◌, ◌<◌, ◌≤◌, max, suc, zero, ℕ}
use native.Mathlib.Omega.{arith}
use borrow.Author.Tests.{le-leb, leb-true, le-ltb, lt-ltb, ltb-true}
use lib.Dec.{leb, ltb}
use lib.ListN.{length}
use Rattle.calculus.specs.Limits.{max_nesting}
use Rattle.calculus.proofs.Theory.Tests.{and_parts, equal_from}
use Rattle.std.proofs.Common.{None, Some, Option}
use Rattle.term.specs.declared.Node.{Node}
use Rattle.term.specs.Tree.{HasForm, leaf, one, Tree, two}
use Rattle.term.specs.Reader.{first_tree, GoodAt, node_at, tree_at}
use Rattle.term.specs.Expressions.{exp_of, leaf_exp, nesting, term_at, term_of}
use Rattle.term.proofs.Leaves.{leaf_nesting}
use Rattle.term.proofs.Shapes.{nesting_two}
use Rattle.term.proofs.Views.{NodeAt}
use Rattle.term_walk.specs.Frames.{below, opened, top_of}
use Rattle.term_walk.proofs.Law.{from, from_end, from_node, Walk}
use Rattle.term_walk.proofs.Asking.{asked, asking}
use Rattle.term_walk.proofs.Stack.{length_below, length_passed, pop}
use Rattle.term_scan.proofs.Many.{More, refused_ends, Seen, seen_bad, seen_node, seen_start}
use Rattle.term_scan.proofs.Answers.{scan_good}

module _ (limit : ℕ) where
  deeper : (d n : ℕ) → 1 ≤ n → (ltb d limit && leb (d + 1 + n) limit) ≡ leb (d + suc n) limit
  deeper d n some =
      equal_from _ _
      (λ e. let (p, q) = and_parts (ltb d limit) _ e in le-leb (d + suc n) limit (omega (arith, leb-true (d + 1 + n) limit q)))
      (λ e. let h = leb-true (d + suc n) limit e in rw (lt-ltb d limit (omega (arith, h)), le-leb (d + 1 + n) limit (omega (arith, h))) refl)

  deepest : (d x y : ℕ) → 1 ≤ x → (ltb d limit && (leb (d + 1 + x) limit && leb (d + 1 + y) limit)) ≡ leb (d + suc (max x y)) limit
  deepest d x y some =
      equal_from _ _
      (λ e.
      let (p, q) = and_parts (ltb d limit) _ e in
      let (r, s) = and_parts (leb (d + 1 + x) limit) _ q in
      le-leb (d + suc (max x y)) limit (omega (arith, leb-true (d + 1 + x) limit r, leb-true (d + 1 + y) limit s)))
      (λ e.
      let h = leb-true (d + suc (max x y)) limit e in
      rw (lt-ltb d limit (omega (arith, h)), le-leb (d + 1 + x) limit (omega (arith, h)), le-leb (d + 1 + y) limit (omega (arith, h))) refl)

  at_leaf : (d arg tag : ℕ) → HasForm tag 0 → leb (d + nesting (leaf_exp tag arg)) limit ≡ ltb d limit
  at_leaf d arg tag f =
      ap (λ n. leb (d + n) limit) (leaf_nesting tag arg)
      ∙ equal_from _ _
      (λ e. lt-ltb d limit (omega (arith, leb-true (d + 1) limit e)))
      (λ e. le-leb (d + 1) limit (omega (arith, ltb-true d limit e)))

  -- the walk whose frames are the numbers of nodes above
  abbrev pub levels : Walk Bool
  levels = asking (λ tag d. d + 1) (λ tag d. d + 1) (λ d tag arg. ltb d limit)

  some_nesting : (t : Tree) → 1 ≤ nesting (exp_of t)
  unfolding exp_of nesting
  some_nesting (leaf tag arg) = omega (arith, leaf_nesting tag arg)
  some_nesting (one tag arg t) = omega arith
  some_nesting (two tag arg t u) = omega (arith, nesting_two tag arg (exp_of t) (exp_of u))

  -- of a term the walk says whether it nests within the limit
  pub nesting_of : {l : List ℕ} {at : ℕ} → GoodAt l at → from levels (0 ∷ []) l at ≡ leb (nesting (term_at l at)) limit
  unfolding exp_of nesting term_of tree_at first_tree
  nesting_of {l} {at} g =
      let z : 0 + nesting (exp_of (tree_at l at)) ≡ nesting (exp_of (tree_at l at)) = omega arith in
      asked (λ tag d. d + 1) (λ tag d. d + 1) (λ d tag arg. ltb d limit) (λ d t. leb (d + nesting (exp_of t)) limit)
      at_leaf
      (λ d arg t tag f. sym (deeper d (nesting (exp_of t)) (some_nesting t)))
      (λ d arg t u tag f.
      ap (λ n. leb (d + n) limit) (nesting_two tag arg (exp_of t) (exp_of u)) ∙ sym (deepest d (nesting (exp_of t)) (nesting (exp_of u)) (some_nesting t)))
      0 g
      ∙ ap (λ n. leb n limit) z

-- below a term to come are no more than there are nodes above it, and these are within the limit
pub record Framed (limit d n : ℕ) : Type 0 where
  pub waiting : n ≤ d
  pub within : d ≤ limit

abbrev Steep : ℕ → List ℕ → Type 0
Steep limit [] = Unit {0}
Steep limit (d ∷ ds) = Framed limit d (length ds) × Steep limit ds

steep_opened : (limit k d : ℕ) (ds : List ℕ) → d < limit → length ds ≤ d → Steep limit ds → Steep limit (opened k (d + 1) (d + 1) ds)
unfolding opened
steep_opened limit zero d ds low h s = s
steep_opened limit (suc zero) d ds low h s = (record { waiting = omega arith; within = omega arith }, s)
steep_opened limit (suc (suc k)) d ds low h s =
    (record { waiting = omega arith; within = omega arith }, (record { waiting = omega arith; within = omega arith }, s))

pub record Nesting (limit : ℕ) (l : List ℕ) (at here : ℕ) (ds : List ℕ) : Type 0 where
  pub good : GoodAt l at
  pub read : ℕ
  pub seen : Seen l at here read (length ds)
  pub steep : Steep limit ds
  pub limited : limit ≤ max_nesting
  pub same : leb (nesting (term_at l at)) limit ≡ from (levels limit) ds l here

pub nesting_start : (limit : ℕ) (l : List ℕ) (at : ℕ) {ds : List ℕ} → GoodAt l at → limit ≤ max_nesting → ds ≡ 0 ∷ [] → Nesting limit l at at ds
nesting_start limit l at g limited e =
    rw e
    (record {
      good = g;
      read = 0;
      seen = seen_start l at g.inside;
      steep = (record { waiting = omega arith; within = omega arith }, tt);
      limited = limited;
      same = sym (nesting_of limit g);
    })

-- what the next node gives
pub record Met (l : List ℕ) (here : ℕ) (ds : List ℕ) (h : Node) : Type 0 where
  pub some : 0 < length ds
  pub is : node_at l here ≡ Some h
  pub node : NodeAt l here h
  pub room : length ds ≤ max_nesting

module _ {limit : ℕ} {l : List ℕ} {at here : ℕ} {ds : List ℕ} (w : Nesting limit l at here ds) where
  pub nesting_done : length ds ≡ 0 → true ≡ leb (nesting (term_at l at)) limit
  nesting_done e = sym (w.same ∙ from_end (levels limit) ds l here e)

  module _ (some : 0 < length ds) where
    abbrev d : ℕ
    d = top_of ds

    split : Steep limit (d ∷ below ds)
    split = rw (pop ds some) at w.steep

    pub nesting_top : d ≤ limit
    nesting_top = split.0.within

    pub nesting_not_bad : node_at l here ≡ None → ⊥
    nesting_not_bad is = refused_ends (seen_bad w.seen some is ∙ scan_good w.good)

    module _ {h : Node} (is : node_at l here ≡ Some h) where
      more : More l at here w.read (length ds) h
      more = seen_node w.seen some is

      -- where it is not too deep there is room
      pub nesting_met : d < limit → Met l here ds h
      nesting_met low =
          record { some = some; is = is; node = more.node; room = omega (arith, split.0.waiting, length_below ds, low, w.limited) }

      -- the law
      turn : leb (nesting (term_at l at)) limit ≡ (ltb d limit && from (levels limit) (opened h.subterms (d + 1) (d + 1) (below ds)) l (here + h.size))
      turn = w.same ∙ ap (λ x. from (levels limit) x l here) (pop ds some) ∙ from_node (levels limit) d (below ds) l here is

      pub nesting_on : d < limit → {new : List ℕ} → new ≡ opened h.subterms (d + 1) (d + 1) (below ds) → Nesting limit l at (here + h.size) new
      nesting_on low {new} p =
          record {
            good = w.good;
            read = w.read + 1;
            seen = rw (length_passed h.subterms (d + 1) (d + 1) ds more.node.few p) more.seen;
            steep = rw p (steep_opened limit h.subterms d (below ds) low split.0.waiting split.1);
            limited = w.limited;
            same = rw (lt-ltb d limit low) at turn ∙ ap (λ x. from (levels limit) x l (here + h.size)) (sym p);
          }

    -- too deep: whatever the node is, and there is one
    pub nesting_deep : limit ≤ d → false ≡ leb (nesting (term_at l at)) limit
    unfolding from
    nesting_deep high = by (node_at l here) refl
      where
        by : (x : Option Node) → node_at l here ≡ x → false ≡ leb (nesting (term_at l at)) limit
        by None e = absurd (nesting_not_bad e)
        by (Some h) e = sym (rw (le-ltb d limit high) at (turn e))
