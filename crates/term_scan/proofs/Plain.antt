-- Walks that ask of each node a test by its tag and operand, whatever is around it, and what a loop knows that walks so.
use mathlib.Core.Path.{◌≡◌, ap, refl, ◌∙◌}
use mathlib.Core.Bool.{Bool, ◌&&◌, false, true}
use mathlib.Core.List.{List, [], ◌∷◌}
use Prim.Native.Nat.{◌+◌, ◌-◌, ◌<◌, ◌≤◌, suc, ℕ}
use native.Mathlib.Omega.{arith}
use lib.ListN.{length, replicate}
use Rattle.std.proofs.Common.{Some}
use Rattle.term.specs.declared.Node.{Node}
use Rattle.term.specs.Reader.{node_at}
use Rattle.term_walk.proofs.Law.{from, from_node, from_none, Walk}
use Rattle.term_walk.proofs.Asking.{asking}
use Rattle.term_scan.proofs.Many.{More, opened_zeros, Seen, seen_node, seen_start}

abbrev pub plain : (ℕ → ℕ → Bool) → Walk Bool
plain test = asking (λ tag d. 0) (λ tag d. 0) (λ d tag arg. test tag arg)

-- began at `at`, n nodes behind, `waits` terms to come, which say what the whole says
pub record Asking (test : ℕ → ℕ → Bool) (l : List ℕ) (at here n waits : ℕ) : Type 0 where
  pub seen : Seen l at here n waits
  pub same : from (plain test) (0 ∷ []) l at ≡ from (plain test) (replicate waits 0) l here

pub asking_start : (test : ℕ → ℕ → Bool) (l : List ℕ) (at : ℕ) → at ≤ length l → Asking test l at at 0 1
asking_start test l at inside = record { seen = seen_start l at inside; same = refl }

module _ {test : ℕ → ℕ → Bool} {l : List ℕ} {at here n waits : ℕ} (w : Asking test l at here n waits) where
  -- behind the last node
  pub asking_done : waits ≡ 0 → from (plain test) (0 ∷ []) l at ≡ true
  asking_done e = w.same ∙ ap (λ k. from (plain test) (replicate k 0) l here) e ∙ from_none (plain test) l here

  module _ (some : 0 < waits) {h : Node} (is : node_at l here ≡ Some h) where
    pub asking_node : More l at here n waits h
    asking_node = seen_node w.seen some is

    -- the law
    turn : from (plain test) (0 ∷ []) l at ≡ (test h.tag h.arg && from (plain test) (replicate (waits - 1 + h.subterms) 0) l (here + h.size))
    turn =
        let z : waits ≡ suc (waits - 1) = omega arith in
        w.same
        ∙ ap (λ k. from (plain test) (replicate k 0) l here) z
        ∙ from_node (plain test) 0 (replicate (waits - 1) 0) l here is
        ∙ ap (λ ds. test h.tag h.arg && from (plain test) ds l (here + h.size))
        (opened_zeros h.subterms (waits - 1) asking_node.node.few (waits - 1 + h.subterms) refl)

    pub asking_out : test h.tag h.arg ≡ false → from (plain test) (0 ∷ []) l at ≡ false
    asking_out f = rw f at turn

    pub asking_on : test h.tag h.arg ≡ true → Asking test l at (here + h.size) (n + 1) (waits - 1 + h.subterms)
    asking_on t = record { seen = asking_node.seen; same = rw t at turn }
