-- Several terms one after the other, counted: a walk (crate term_walk) that asks nothing of a node.
use mathlib.Core.Path.{◌≡◌, ap, ap₂, refl, sym, ◌∙◌}
use mathlib.Core.List.{List}
use Prim.Native.Nat.{◌+◌, ◌-◌, ◌<◌, ◌≤◌, suc, zero, ℕ}
use native.Mathlib.Omega.{arith}
use borrow.Author.Tests.{le-leb, lt-leb}
use lib.ListN.{drop, length, replicate}
use Rattle.calculus.proofs.Theory.Tests.{clash}
use Rattle.std.proofs.Common.{Option, None, Some}
use Rattle.term.specs.declared.Node.{Node}
use Rattle.term.specs.Tree.{leaf, one, Tree, tree_nodes, tree_size, two}
use Rattle.term.specs.Forms.{operand_of}
use Rattle.term.specs.Reader.{Got, got, node_at, none, read_term}
use Rattle.term.proofs.Nodes.{head_is, subterms_at_most}
use Rattle.term.proofs.Views.{node_there, NodeAt}
use Rattle.term_walk.specs.Frames.{opened}
use Rattle.term_walk.proofs.Law.{ahead, fold, from, from_bad, from_node, from_none, from_one, onward, Walk}
use Rattle.term_scan.specs.declared.Extent.{Extent}
use Rattle.term_scan.specs.Extents.{ends, extent_at, scanned, small}

-- the walk that counts, whatever the frames: from position p on, with n nodes before
abbrev counting : Walk (ℕ → ℕ → Option Extent)
counting =
    record {
      first = λ tag d. 0;
      last = λ tag d. 0;
      visit = λ d tag arg next p n. next (p + (1 + operand_of tag)) (n + 1);
      refused = λ p n. None;
      done = λ l p n. ends p n;
      strict = λ d tag arg. refl;
    }

counted : (d : ℕ) (t : Tree) (next : ℕ → ℕ → Option Extent) (p n : ℕ) → fold counting d t next p n ≡ next (p + tree_size t) (n + tree_nodes t)
unfolding fold tree_size tree_nodes
counted d (leaf tag arg) next p n = refl
counted d (one tag arg t) next p n = counted 0 t next (p + (1 + operand_of tag)) (n + 1) ∙ ap₂ next (omega arith) (omega arith)
counted d (two tag arg t u) next p n =
    counted 0 t (fold counting 0 u next) (p + (1 + operand_of tag)) (n + 1)
    ∙ counted 0 u next (p + (1 + operand_of tag) + tree_size t) (n + 1 + tree_nodes t)
    ∙ ap₂ next (omega arith) (omega arith)

-- reading k terms from p on, with n nodes before
unfoldable pub to_come : List ℕ → ℕ → ℕ → ℕ → Option Extent
to_come l k p n = from counting (replicate k 0) l p p n

pub come_start : (l : List ℕ) (at : ℕ) → extent_at l at ≡ to_come l 1 at 0
unfolding extent_at to_come
come_start l at = is (read_term (drop at l)) ∙ ap (λ x. x at 0) (sym (from_one counting 0 l at))
  where
    is : (g : Got) → scanned at g ≡ onward counting 0 counting.done g at 0
    is none = refl
    is (got t r) = sym (counted 0 t (counting.done r) at 0 ∙ ap (ends (at + tree_size t)) (omega arith))

pub come_end : (l : List ℕ) (p n : ℕ) → to_come l 0 p n ≡ ends p n
unfolding to_come
come_end l p n = ap (λ x. x p n) (from_none counting l p)

pub come_bad : (l : List ℕ) (k p n : ℕ) → 0 < k → node_at l p ≡ None → to_come l k p n ≡ None
unfolding to_come
come_bad l zero p n some is = absurd (omega arith)
come_bad l (suc k) p n some is = ap (λ x. x p n) (from_bad counting 0 (replicate k 0) l p is)

pub opened_zeros : (j k : ℕ) → j ≤ 2 → (m : ℕ) → k + j ≡ m → opened j 0 0 (replicate k 0) ≡ replicate m 0
unfolding opened
opened_zeros zero k h m e = let z : k ≡ m = omega arith in rw z refl
opened_zeros (suc zero) k h m e = let z : suc k ≡ m = omega arith in rw (← z) refl
opened_zeros (suc (suc zero)) k h m e = let z : suc (suc k) ≡ m = omega arith in rw (← z) refl
opened_zeros (suc (suc (suc j))) k h m e = absurd (omega arith)

pub come_node : (l : List ℕ) (k p n : ℕ) (h : Node) → 0 < k → node_at l p ≡ Some h → to_come l k p n ≡ to_come l (k - 1 + h.subterms) (p + h.size) (n + 1)
unfolding to_come node_at
come_node l zero p n h some is = absurd (omega arith)
come_node l (suc k) p n h some is =
    let f = head_is (drop p l) h is in
    let z : p + (1 + operand_of h.tag) ≡ p + h.size = omega (arith, f.at_size) in
    ap (λ x. x p n) (from_node counting 0 (replicate k 0) l p is)
    ∙ ap₂ (λ ds q. from counting ds l (p + h.size) q (n + 1))
    (opened_zeros h.subterms k (omega (arith, f.at_subterms, subterms_at_most h.tag)) (suc k - 1 + h.subterms) (omega arith)) z

-- What a loop knows that began at `at`: the numbers are bounded by the bytes read, and what is to come gives the answer
pub record Seen (l : List ℕ) (at here n k : ℕ) : Type 0 where
  pub inside : here ≤ length l
  pub passed : at + n ≤ here
  pub few : k ≤ n + 1
  pub same : extent_at l at ≡ to_come l k here n

pub seen_start : (l : List ℕ) (at : ℕ) → at ≤ length l → Seen l at at 0 1
seen_start l at h = record { inside = h; passed = omega arith; few = omega arith; same = come_start l at }

-- a node more
pub record More (l : List ℕ) (at here n k : ℕ) (h : Node) : Type 0 where
  pub node : NodeAt l here h
  pub seen : Seen l at (here + h.size) (n + 1) (k - 1 + h.subterms)

pub seen_node : {l : List ℕ} {at here n k : ℕ} {h : Node} → Seen l at here n k → 0 < k → node_at l here ≡ Some h → More l at here n k h
seen_node {l} {at} {here} {n} {k} {h} s some is =
    let f = node_there s.inside is in
    record {
      node = f;
      seen =
          record {
            inside = f.inside;
            passed = omega (arith, f.onward, s.passed);
            few = omega (arith, f.few, s.few);
            same = s.same ∙ come_node l k here n h some is;
          };
    }

pub seen_bad : {l : List ℕ} {at here n k : ℕ} → Seen l at here n k → 0 < k → node_at l here ≡ None → None ≡ extent_at l at
seen_bad {l} {at} {here} {n} {k} s some is = sym (s.same ∙ come_bad l k here n some is)

pub seen_end : {l : List ℕ} {at here n k : ℕ} → Seen l at here n k → k ≡ 0 → ends here n ≡ extent_at l at
seen_end {l} {at} {here} {n} s e = sym (s.same ∙ ap (λ x. to_come l x here n) e ∙ come_end l here n)

-- Under a budget

pub refused_ends : {e m : ℕ} → None ≡ ends e m → ⊥
refused_ends is = clash (cc)

-- ends are equal with their parts
end_in : Option Extent → ℕ
end_in None = 0
end_in (Some x) = x.end

nodes_in : Option Extent → ℕ
nodes_in None = 0
nodes_in (Some x) = x.nodes

pub same_end : {e n x y : ℕ} → ends e n ≡ ends x y → e ≡ x
unfolding end_in
same_end q = ap end_in q

pub same_nodes : {e n x y : ℕ} → ends e n ≡ ends x y → n ≡ y
unfolding nodes_in
same_nodes q = ap nodes_in q

some_nodes : (t : Tree) → 1 ≤ tree_nodes t
unfolding tree_nodes
some_nodes (leaf tag arg) = omega arith
some_nodes (one tag arg t) = omega arith
some_nodes (two tag arg t u) = omega arith

-- each term has a node
grows : (k p n : ℕ) (l : List ℕ) (e m : ℕ) → ahead counting (replicate k 0) l p n ≡ ends e m → n + k ≤ m
unfolding ahead
grows zero p n l e m is = let z : n ≡ m = same_nodes is in omega arith
grows (suc k) p n l e m is = by (read_term l) (grows k) is where
  by : (g : Got) → ((p n : ℕ) (l : List ℕ) (e m : ℕ) → ahead counting (replicate k 0) l p n ≡ ends e m → n + k ≤ m) →
      onward counting 0 (ahead counting (replicate k 0)) g p n ≡ ends e m → n + suc k ≤ m
  by none ih is = absurd (refused_ends is)
  by (got t r) ih is =
      omega (arith, some_nodes t, ih (p + tree_size t) (n + tree_nodes t) r e m (sym (counted 0 t (ahead counting (replicate k 0) r) p n) ∙ is))

pub come_grows : (l : List ℕ) (k p n e m : ℕ) → to_come l k p n ≡ ends e m → n + k ≤ m
unfolding to_come from
come_grows l k p n e m is = grows k p n (drop p l) e m is

-- so the nodes read and the terms to come are no more than the budget
over : (b : ℕ) (l : List ℕ) (k p n : ℕ) → b < n + k → None ≡ small b (to_come l k p n)
over b l k p n h = is (to_come l k p n) refl where
  is : (x : Option Extent) → to_come l k p n ≡ x → None ≡ small b x
  is None q = refl
  is (Some x) q = simp (lt-leb x.nodes b (omega (arith, come_grows l k p n x.end x.nodes q)))

pub small_over : {l : List ℕ} {at here n k : ℕ} (b : ℕ) → Seen l at here n k → b < n + k → None ≡ small b (extent_at l at)
small_over {l} {at} {here} {n} {k} b s h = over b l k here n h ∙ ap (small b) (sym s.same)

pub small_end : {l : List ℕ} {at here n k : ℕ} (b : ℕ) → Seen l at here n k → k ≡ 0 → n ≤ b → ends here n ≡ small b (extent_at l at)
small_end {l} {at} {here} {n} b s e le = kept ∙ ap (small b) (seen_end s e)
  where
    kept : ends here n ≡ small b (ends here n)
    kept = simp (le-leb n b le)
