-- Walks that ask a test of each node: of a term they answer what is asked of the whole, if that is told by the number of subterms.
use mathlib.Core.Path.{◌≡◌, ap, sym, ◌∙◌}
use mathlib.Core.Bool.{Bool, ◌&&◌, and_assoc, and-false, and-true, false, true}
use mathlib.Core.List.{List, [], ◌∷◌}
use Prim.Native.Nat.{ℕ}
use Rattle.term.specs.Tree.{HasForm, leaf, one, Shaped, Tree, two}
use Rattle.term.specs.Reader.{GoodAt, tree_at}
use Rattle.term.proofs.Views.{shaped_at}
use Rattle.term_walk.proofs.Law.{fold, from, from_good, Walk}

-- the frames of the first of two subterms and of the last subterm; the test, by a node's frame, tag and operand
module _ (first last : ℕ → ℕ → ℕ) (test : ℕ → ℕ → ℕ → Bool) where
  abbrev pub asking : Walk Bool
  asking =
      record {
        first = first;
        last = last;
        visit = λ d tag arg next. test d tag arg && next;
        refused = false;
        done = λ l. true;
        strict = λ d tag arg. and-false (test d tag arg);
      }

  -- what is asked of a tree with a frame
  module _ (of : ℕ → Tree → Bool)
      (of_leaf : (d arg tag : ℕ) → HasForm tag 0 → of d (leaf tag arg) ≡ test d tag arg)
      (of_one : (d arg : ℕ) (t : Tree) (tag : ℕ) → HasForm tag 1 → of d (one tag arg t) ≡ (test d tag arg && of (last tag d) t))
      (of_two : (d arg : ℕ) (t u : Tree) (tag : ℕ) → HasForm tag 2 → of d (two tag arg t u) ≡ (test d tag arg && (of (first tag d) t && of (last tag d) u))) where
    fold_asking : (d : ℕ) (t : Tree) → Shaped t → (next : Bool) → fold asking d t next ≡ (of d t && next)
    unfolding fold
    fold_asking d (leaf tag arg) f next = ap (λ b. b && next) (sym (of_leaf d arg tag f))
    fold_asking d (one tag arg t) (f, s) next =
        ap (λ b. test d tag arg && b) (fold_asking (last tag d) t s next)
        ∙ sym (and_assoc (test d tag arg) (of (last tag d) t) next)
        ∙ ap (λ b. b && next) (sym (of_one d arg t tag f))
    fold_asking d (two tag arg t u) (f, s, s') next =
        let x = of (first tag d) t in
        let y = of (last tag d) u in
        ap (λ b. test d tag arg && b)
        (fold_asking (first tag d) t s (fold asking (last tag d) u next) ∙ ap (λ b. x && b) (fold_asking (last tag d) u s' next) ∙ sym (and_assoc x y next))
        ∙ sym (and_assoc (test d tag arg) (x && y) next)
        ∙ ap (λ b. b && next) (sym (of_two d arg t u tag f))

    -- of a term
    pub asked : (d : ℕ) {l : List ℕ} {at : ℕ} → GoodAt l at → from asking (d ∷ []) l at ≡ of d (tree_at l at)
    asked d {l} {at} g = from_good asking d g ∙ fold_asking d (tree_at l at) (shaped_at g) true ∙ and-true (of d (tree_at l at))
