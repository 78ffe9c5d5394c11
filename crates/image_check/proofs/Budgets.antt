-- The loop over all expressions: each takes its nodes off a budget. One law for each way through it.
use mathlib.Core.Path.{◌∙◌, ◌≡◌, ap, ap₂, refl, sym}
use mathlib.Core.Bool.{◌&&◌, true}
use mathlib.Core.List.{List}
use Prim.Native.Nat.{◌+◌, ◌-◌, ◌<◌, ◌≤◌, ℕ}
use native.Mathlib.Omega.{arith}
use lib.Dec.{leb}
use Rattle.calculus.specs.Lists.{each_below, sum_below}
use Rattle.calculus.specs.Limits.{max_nodes}
use Rattle.calculus.proofs.Theory.Tests.{and_parts, and_true, leb_complete, leb_sound}
use Rattle.calculus.proofs.Theory.Tabulate.{each_below_sound}
use Rattle.std.proofs.Common.{None, Some}
use Rattle.image_layout.specs.Slice.{names}
use Rattle.image_layout.specs.Layout.{heads_stand}
use Rattle.image_check.specs.Parts.{all_part, component_part, expression_stands, nodes_of}
use Rattle.image_check.proofs.Theory.Names.{each_below_next, sum_below_most, sum_below_next}
use Rattle.image_check.proofs.Picks.{pick_none, pick_some}
use Rattle.image_check.proofs.Components.{part_fallen, part_stood}

-- k of m names have passed, and so many nodes are left
pub record Spent (s : List ℕ) (m k left : ℕ) : Type 0 where
  pub few : k ≤ m
  pub all : m ≡ names s
  pub heads : heads_stand s ≡ true
  pub stood : each_below k (expression_stands s m) ≡ true
  pub budget : left + sum_below k (nodes_of s) ≡ max_nodes

pub spent_none : (s : List ℕ) (m : ℕ) → m ≡ names s → heads_stand s ≡ true → Spent s m 0 max_nodes
unfolding each_below sum_below
spent_none s m e h = record { few = omega arith; all = e; heads = h; stood = refl; budget = omega arith }

module _ {s : List ℕ} {m k left : ℕ} (p : Spent s m k left) where
  -- all have passed
  pub spent_all : m ≤ k → Some (max_nodes - left) ≡ all_part s
  unfolding all_part
  spent_all h =
      let e : k ≡ names s = omega (arith, p.few, p.all) in
      let sum : sum_below (names s) (nodes_of s) ≡ max_nodes - left = ap (λ (x : ℕ). sum_below x (nodes_of s)) (sym e) ∙ omega (arith, p.budget) in
      let each : each_below (names s) (expression_stands s (names s)) ≡ true =
      ap₂ (λ (x y : ℕ). each_below x (expression_stands s y)) (sym e) (sym p.all) ∙ p.stood in
      pick_some (each_below (names s) (expression_stands s (names s)) && leb (sum_below (names s) (nodes_of s)) max_nodes) (max_nodes - left) (sum_below (names s) (nodes_of s))
      (and_true each (leb_complete (sum_below (names s) (nodes_of s)) max_nodes (omega (arith, sum))))
      sum

  module _ (more : k < m) where
    -- one does not pass
    pub spent_fault : None ≡ component_part s m left k → None ≡ all_part s
    unfolding all_part
    spent_fault h =
        pick_none (each_below (names s) (expression_stands s (names s)) && leb (sum_below (names s) (nodes_of s)) max_nodes) (sum_below (names s) (nodes_of s)) λ t.
        let (each, few) = and_parts (each_below (names s) (expression_stands s (names s))) (leb (sum_below (names s) (nodes_of s)) max_nodes) t in
        part_fallen s m left k h
        record {
          stands = ap (λ (x : ℕ). expression_stands s x k) p.all ∙ each_below_sound (names s) (expression_stands s (names s)) each k (omega (arith, p.all));
          few =
              omega (
                arith,
                p.budget,
                sum_below_next (nodes_of s) k,
                sum_below_most (nodes_of s) (names s) (k + 1) (omega (arith, p.all)),
                leb_sound (sum_below (names s) (nodes_of s)) max_nodes few,
              );
        }

    -- one more
    module _ (n : ℕ) (h : Some n ≡ component_part s m left k) where
      pub enough : n ≤ left
      enough = let (r, e) = part_stood s m left k n h in omega (arith, r.few)

      pub spent_one : Spent s m (k + 1) (left - n)
      spent_one =
          let (r, e) = part_stood s m left k n h in
          record {
            few = omega arith;
            all = p.all;
            heads = p.heads;
            stood = each_below_next (expression_stands s m) k ∙ and_true p.stood r.stands;
            budget = omega (arith, p.budget, sum_below_next (nodes_of s) k, enough);
          }
