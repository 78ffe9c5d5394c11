-- What the loop of `scan_scoped` knows, and what each of its turns keeps.
use mathlib.Core.Path.{◌≡◌, ap, ap₂, refl, sym, ◌∙◌}
use mathlib.Core.Bool.{Bool, ◌&&◌, false, true}
use mathlib.Core.List.{List, [], ◌∷◌}
use Prim.Native.Nat.{◌+◌, ◌<◌, ◌≤◌, zero-le, ℕ}
use native.Mathlib.Omega.{arith}
use lib.ListN.{length}
use Rattle.calculus.specs.Limits.{max_nodes}
use Rattle.calculus.specs.Verdict.{scoped}
use Rattle.std.proofs.Common.{Option, None, Some}
use Rattle.term.specs.declared.Node.{Node}
use Rattle.term.specs.Reader.{node_at}
use Rattle.term.specs.Expressions.{term_at}
use Rattle.term_walk.specs.Frames.{below, opened, top_of}
use Rattle.term_walk.proofs.Law.{from, from_end, from_node}
use Rattle.term_walk.proofs.Stack.{pop}
use Rattle.term_scan.specs.declared.Extent.{Extent}
use Rattle.term_scan.specs.Extents.{ends, extent_at, in_scope, small}
use Rattle.term_scan.specs.Scopes.{operand_scoped}
use Rattle.term_scan.proofs.Many.{seen_bad, small_end, small_over}
use Rattle.term_scan.proofs.Answers.{small_stands}
use Rattle.term_scan.proofs.Going.{Going, going_met, going_node, going_on, going_start, Met}
use Rattle.term_scan.proofs.Scopes.{scope_of, scoping}

module _ (types names budget : ℕ) (l : List ℕ) (at : ℕ) where
  -- what is asked
  abbrev pub answer : Option Extent
  answer = in_scope (scoped types names 0 (term_at l at)) (small budget (extent_at l at))

  -- what is no term within the budget is refused, whatever the scope
  pub no_term : None ≡ small budget (extent_at l at) → None ≡ answer
  no_term q = is (scoped types names 0 (term_at l at)) ∙ ap (in_scope (scoped types names 0 (term_at l at))) q
    where
      is : (b : Bool) → None ≡ in_scope b None
      is true = refl
      is false = refl

  module _ (inside : at ≤ length l) where
    out_of_scope : from (scoping types names) (0 ∷ []) l at ≡ false → None ≡ answer
    out_of_scope f = is (small budget (extent_at l at)) refl
      where
        is : (x : Option Extent) → small budget (extent_at l at) ≡ x → None ≡ answer
        is None q = no_term (sym q)
        is (Some x) q =
            let (s, few) = small_stands budget l at x.end x.nodes inside (sym q) in
            ap (λ b. in_scope b (small budget (extent_at l at))) (sym f ∙ scope_of types names s.good)

    all_in_scope : (e n : ℕ) → ends e n ≡ small budget (extent_at l at) → from (scoping types names) (0 ∷ []) l at ≡ true → ends e n ≡ answer
    all_in_scope e n q t =
        let (s, few) = small_stands budget l at e n inside q in
        q ∙ ap (λ b. in_scope b (small budget (extent_at l at))) (sym t ∙ scope_of types names s.good)

-- began at `at`, now here, n nodes behind, and the number of variables around each term to come
pub record Scanning (types names budget : ℕ) (l : List ℕ) (at here n : ℕ) (ds : List ℕ) : Type 0 where
  pub begun : at ≤ length l
  pub limited : budget ≤ max_nodes
  pub going : Going l at here n ds
  pub within : n ≤ budget
  pub same : from (scoping types names) (0 ∷ []) l at ≡ from (scoping types names) ds l here

pub scanning_start : (types names budget : ℕ) (l : List ℕ) (at : ℕ) {ds : List ℕ} → at ≤ length l → budget ≤ max_nodes → ds ≡ 0 ∷ [] →
    Scanning types names budget l at at 0 ds
scanning_start types names budget l at begun limited e =
    rw e (record { begun = begun; limited = limited; going = going_start l at begun; within = zero-le; same = refl })

module _ {types names budget : ℕ} {l : List ℕ} {at here n : ℕ} {ds : List ℕ} (w : Scanning types names budget l at here n ds) where
  pub scanning_done : length ds ≡ 0 → ends here n ≡ answer types names budget l at
  scanning_done e =
      all_in_scope types names budget l at w.begun here n (small_end budget w.going.seen e w.within)
      (w.same ∙ from_end (scoping types names) ds l here e)

  pub scanning_over : budget < n + length ds → None ≡ answer types names budget l at
  scanning_over h = no_term types names budget l at (small_over budget w.going.seen h)

  module _ (some : 0 < length ds) where
    pub scanning_bad : node_at l here ≡ None → None ≡ answer types names budget l at
    scanning_bad is = no_term types names budget l at (ap (small budget) (seen_bad w.going.seen some is))

    module _ {h : Node} (is : node_at l here ≡ Some h) where
      pub scanning_met : n + length ds ≤ budget → Met l here ds h
      scanning_met few = going_met w.going some is (omega (arith, few, w.limited))

      abbrev d : ℕ
      d = top_of ds

      -- the law
      turn : from (scoping types names) (0 ∷ []) l at
          ≡ (operand_scoped types names d h.refers h.arg && from (scoping types names) (opened h.subterms d (d + h.binders) (below ds)) l (here + h.size))
      turn =
          w.same
          ∙ ap (λ x. from (scoping types names) x l here) (pop ds some)
          ∙ from_node (scoping types names) d (below ds) l here is
          ∙ ap₂ (λ x y. operand_scoped types names d y h.arg && from (scoping types names) (opened h.subterms d (d + x) (below ds)) l (here + h.size))
          (going_node w.going some is).binds (going_node w.going some is).refers

      pub scanning_loose : operand_scoped types names d h.refers h.arg ≡ false → None ≡ answer types names budget l at
      scanning_loose f = out_of_scope types names budget l at w.begun (rw f at turn)

      pub scanning_on : n + length ds ≤ budget → operand_scoped types names d h.refers h.arg ≡ true → {new : List ℕ} →
          new ≡ opened h.subterms d (d + h.binders) (below ds) → Scanning types names budget l at (here + h.size) (n + 1) new
      scanning_on few t {new} p =
          record {
            begun = w.begun;
            limited = w.limited;
            going = going_on w.going some is p;
            within = omega arith;
            same = rw t at turn ∙ ap (λ x. from (scoping types names) x l (here + h.size)) (sym p);
          }
