-- What the loop of `count_uses` knows, and what each of its turns keeps.
use mathlib.Core.Path.{◌≡◌, ap, ap₂, refl, sym, ◌∙◌}
use mathlib.Core.Bool.{Bool, cond, false, true}
use mathlib.Core.List.{List, [], ◌∷◌}
use Prim.Native.Nat.{◌+◌, ◌<◌, ◌≤◌, ℕ}
use native.Mathlib.Omega.{arith}
use lib.ListN.{length}
use Rattle.calculus.specs.Limits.{max_nodes}
use Rattle.calculus.specs.Syntax.{Exp}
use Rattle.calculus.specs.Names.{uses}
use Rattle.calculus.specs.Image.{nodes}
use Rattle.std.proofs.Common.{Some}
use Rattle.term.specs.declared.Node.{Node}
use Rattle.term.specs.Forms.{binders_of, refers_of}
use Rattle.term.specs.Tree.{leaf, one, Shaped, Tree, two}
use Rattle.term.specs.Reader.{first_tree, GoodAt, node_at, tree_at}
use Rattle.term.specs.Expressions.{exp_of, term_at, term_of}
use Rattle.term.proofs.Views.{shaped_at}
use Rattle.term.proofs.Shapes.{uses_one, uses_two}
use Rattle.term_walk.specs.Frames.{below, opened, top_of}
use Rattle.term_walk.proofs.Law.{fold, from, from_end, from_good, from_node, Walk}
use Rattle.term_walk.proofs.Stack.{pop}
use Rattle.term_scan.proofs.Many.{seen_end}
use Rattle.term_scan.proofs.Answers.{scanned_nodes}
use Rattle.term_scan.proofs.Going.{Going, going_few, going_met, going_node, going_on, going_start, Met}
use Rattle.term_subst.specs.Counted.{UsesOf}
use Rattle.term_subst.specs.Variable.{is_variable}
use Rattle.term_subst.proofs.Nodes.{none_one, none_two, uses_leaf}

-- how often the two innermost variables around an expression stand in it
abbrev uses_of : Exp → ℕ × ℕ
uses_of e = (uses 0 e, uses 1 e)

-- a use at a node
abbrev pub use_at : ℕ → ℕ → ℕ → ℕ
use_at refers arg d = cond (is_variable refers arg d) 1 0

-- the walk that counts the uses of two variables, those counted before in hand
abbrev pub counting : Walk (ℕ → ℕ → ℕ × ℕ)
counting =
    record {
      first = λ tag d. d;
      last = λ tag d. d + binders_of tag;
      visit = λ d tag arg next a b. next (a + use_at (refers_of tag) arg d) (b + use_at (refers_of tag) arg (d + 1));
      refused = λ a b. (0, 0);
      done = λ l a b. (a, b);
      strict = λ d tag arg. refl;
    }

unused : {x : Bool} → x ≡ false → ◌≡◌ {A = ℕ} (cond x 1 0) 0
unused e = rw e refl

fold_uses : (d : ℕ) (t : Tree) → Shaped t → (next : ℕ → ℕ → ℕ × ℕ) (a b : ℕ) →
    fold counting d t next a b ≡ next (a + uses d (exp_of t)) (b + uses (d + 1) (exp_of t))
unfolding fold exp_of
fold_uses d (leaf tag arg) f next a b = ap₂ next (ap (λ x. a + x) (sym (uses_leaf d arg tag f))) (ap (λ x. b + x) (sym (uses_leaf (d + 1) arg tag f)))
fold_uses d (one tag arg t) (f, s) next a b =
    let k = binders_of tag in
    let swap : uses (d + 1 + k) (exp_of t) ≡ uses (d + k + 1) (exp_of t) = ap (λ x. uses x (exp_of t)) (omega arith) in
    fold_uses (d + k) t s next (a + use_at (refers_of tag) arg d) (b + use_at (refers_of tag) arg (d + 1))
    ∙ ap₂ next
    (omega (arith, unused (none_one d arg tag f), uses_one arg (exp_of t) d tag f))
    (omega (arith, unused (none_one (d + 1) arg tag f), uses_one arg (exp_of t) (d + 1) tag f, swap))
fold_uses d (two tag arg t u) (f, s, s') next a b =
    let k = binders_of tag in
    let swap : uses (d + 1 + k) (exp_of u) ≡ uses (d + k + 1) (exp_of u) = ap (λ x. uses x (exp_of u)) (omega arith) in
    let a' = a + use_at (refers_of tag) arg d in
    let b' = b + use_at (refers_of tag) arg (d + 1) in
    fold_uses d t s (fold counting (d + k) u next) a' b'
    ∙ fold_uses (d + k) u s' next (a' + uses d (exp_of t)) (b' + uses (d + 1) (exp_of t))
    ∙ ap₂ next
    (omega (arith, unused (none_two d arg tag f), uses_two arg (exp_of t) (exp_of u) d tag f))
    (omega (arith, unused (none_two (d + 1) arg tag f), uses_two arg (exp_of t) (exp_of u) (d + 1) tag f, swap))

-- so of a term it counts the uses
whole : {l : List ℕ} {at : ℕ} → GoodAt l at → from counting (0 ∷ []) l at 0 0 ≡ uses_of (term_at l at)
unfolding term_of tree_at first_tree
whole {l} {at} g =
    ap (λ x. x 0 0) (from_good counting 0 g)
    ∙ fold_uses 0 (tree_at l at) (shaped_at g) _ 0 0
    ∙ ap₂ (λ a b. (a, b)) (omega arith) (omega arith)

-- n nodes read, a, b uses counted
pub record Counting (l : List ℕ) (at here : ℕ) (ds : List ℕ) (n a b : ℕ) : Type 0 where
  pub good : GoodAt l at
  pub small : nodes (term_at l at) ≤ max_nodes
  pub going : Going l at here n ds
  pub few : (a ≤ n) × (b ≤ n)
  pub same : uses_of (term_at l at) ≡ from counting ds l here a b

pub counting_start : (l : List ℕ) (at : ℕ) {ds : List ℕ} → GoodAt l at → nodes (term_at l at) ≤ max_nodes → ds ≡ 0 ∷ [] → Counting l at at ds 0 0 0
counting_start l at g small e =
    rw e (record { good = g; small = small; going = going_start l at g.inside; few = (omega arith, omega arith); same = sym (whole g) })

at_most_one : (x : Bool) → cond x 1 0 ≤ 1
at_most_one true = omega arith
at_most_one false = omega arith

module _ {l : List ℕ} {at here : ℕ} {ds : List ℕ} {n a b : ℕ} (c : Counting l at here ds n a b) where
  found : length ds ≡ 0 → (a, b) ≡ uses_of (term_at l at)
  found e = sym (c.same ∙ ap (λ x. x a b) (from_end counting ds l here e))

  pub counting_done : length ds ≡ 0 → UsesOf (term_at l at) (record { nodes = n; inner = a; outer = b })
  counting_done e =
      record { nodes = scanned_nodes c.good (seen_end c.going.seen e); inner = ap (λ u. u.0) (found e); outer = ap (λ u. u.1) (found e) }

  -- the nodes read and the terms to come
  pub counting_few : n + length ds ≤ max_nodes
  counting_few = omega (arith, going_few c.going c.good, c.small)

  module _ (some : 0 < length ds) where
    -- the numbers stay small
    pub counting_room : (n < max_nodes) × ((a < max_nodes) × (b < max_nodes))
    counting_room = (omega (arith, counting_few, some), (omega (arith, counting_few, some, c.few.0), omega (arith, counting_few, some, c.few.1)))

    abbrev d : ℕ
    d = top_of ds

    module _ {h : Node} (is : node_at l here ≡ Some h) where
      pub counting_met : Met l here ds h
      counting_met = going_met c.going some is counting_few

      -- the law
      turn : uses_of (term_at l at)
          ≡ from counting (opened h.subterms d (d + h.binders) (below ds)) l (here + h.size) (a + use_at h.refers h.arg d) (b + use_at h.refers h.arg (d + 1))
      turn =
          let f = going_node c.going some is in
          c.same
          ∙ ap (λ x. from counting x l here a b) (pop ds some)
          ∙ ap (λ x. x a b) (from_node counting d (below ds) l here is)
          ∙ ap₂
          (λ x y. from counting (opened h.subterms d (d + x) (below ds)) l (here + h.size) (a + use_at y h.arg d) (b + use_at y h.arg (d + 1)))
          f.binds f.refers

      pub counting_on : {new : List ℕ} → new ≡ opened h.subterms d (d + h.binders) (below ds) →
          Counting l at (here + h.size) new (n + 1) (a + use_at h.refers h.arg d) (b + use_at h.refers h.arg (d + 1))
      counting_on {new} p =
          record {
            good = c.good;
            small = c.small;
            going = going_on c.going some is p;
            few = (omega (arith, c.few.0, at_most_one (is_variable h.refers h.arg d)), omega (arith, c.few.1, at_most_one (is_variable h.refers h.arg (d + 1))));
            same =
                turn
                ∙ ap (λ x. from counting x l (here + h.size) (a + use_at h.refers h.arg d) (b + use_at h.refers h.arg (d + 1))) (sym p);
          }
