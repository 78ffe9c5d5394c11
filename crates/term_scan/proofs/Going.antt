-- What every loop knows that walks a term with a stack of the numbers of variables around the terms to come: the numbers are bounded by the nodes read.
use mathlib.Core.Path.{◌≡◌, sym, ◌∙◌}
use mathlib.Core.List.{List, [], ◌∷◌}
use Prim.Native.Nat.{◌*◌, ◌+◌, ◌<◌, ◌≤◌, suc, zero, ℕ}
use native.Mathlib.Omega.{arith}
use lib.ListN.{length}
use Rattle.calculus.specs.Image.{nodes}
use Rattle.calculus.specs.Limits.{max_nodes}
use Rattle.std.proofs.Common.{None, Some}
use Rattle.term.specs.declared.Node.{Node}
use Rattle.term.specs.Reader.{GoodAt, node_at}
use Rattle.term.specs.Expressions.{term_at}
use Rattle.term.proofs.Table.{All}
use Rattle.term.proofs.Views.{NodeAt}
use Rattle.term_walk.specs.Frames.{below, max_waits, opened, top_of}
use Rattle.term_walk.proofs.Stack.{length_passed, pop}
use Rattle.term_scan.proofs.Many.{come_grows, More, refused_ends, Seen, seen_bad, seen_node, seen_start}
use Rattle.term_scan.proofs.Answers.{scan_good}

-- each frame is at most b
abbrev Low : ℕ → List ℕ → Type 0
Low b ds = All (λ d. d ≤ b) ds

low_more : {b c : ℕ} (ds : List ℕ) → b ≤ c → Low b ds → Low c ds
low_more [] h l = tt
low_more (d ∷ ds) h (p, l) = (omega arith, low_more ds h l)

low_opened : (b k x y : ℕ) (ds : List ℕ) → x ≤ b → y ≤ b → Low b ds → Low b (opened k x y ds)
unfolding opened
low_opened b zero x y ds p q l = l
low_opened b (suc zero) x y ds p q l = (q, l)
low_opened b (suc (suc k)) x y ds p q l = (p, (q, l))

-- n nodes read since `at`, now here, and the frames of the terms to come
pub record Going (l : List ℕ) (at here n : ℕ) (ds : List ℕ) : Type 0 where
  pub seen : Seen l at here n (length ds)
  pub low : Low (2 * n) ds

pub going_start : (l : List ℕ) (at : ℕ) → at ≤ length l → Going l at at 0 (0 ∷ [])
going_start l at inside = record { seen = seen_start l at inside; low = (omega arith, tt) }

-- what the next node gives: there is room, and nothing wraps
pub record Met (l : List ℕ) (here : ℕ) (ds : List ℕ) (h : Node) : Type 0 where
  pub some : 0 < length ds
  pub is : node_at l here ≡ Some h
  pub node : NodeAt l here h
  pub low : top_of ds + 2 ≤ 2 * max_nodes
  pub room : length ds < max_waits

module _ {l : List ℕ} {at here n : ℕ} {ds : List ℕ} (w : Going l at here n ds) (some : 0 < length ds) where
  -- the frame of the next node
  abbrev pub top : ℕ
  top = top_of ds

  split : Low (2 * n) (top ∷ below ds)
  split = rw (pop ds some) at w.low

  module _ {h : Node} (is : node_at l here ≡ Some h) where
    more : More l at here n (length ds) h
    more = seen_node w.seen some is

    pub going_node : NodeAt l here h
    going_node = more.node

    -- what it gives, where the nodes read and the terms to come are no more than the limit
    pub going_met : n + length ds ≤ max_nodes → Met l here ds h
    going_met few = record { some = some; is = is; node = more.node; low = omega (arith, split.0, few, some); room = omega (arith, few, w.seen.few) }

    -- past the node
    pub going_on : {new : List ℕ} → new ≡ opened h.subterms top (top + h.binders) (below ds) → Going l at (here + h.size) (n + 1) new
    going_on {new} p =
        record {
          seen = rw (length_passed h.subterms top (top + h.binders) ds more.node.few p) more.seen;
          low =
              rw p
              (low_opened (2 * (n + 1)) h.subterms top (top + h.binders) (below ds)
              (omega (arith, split.0)) (omega (arith, split.0, more.node.bound)) (low_more (below ds) (omega arith) split.1));
        }

-- of a term, the nodes read and the terms to come are no more than its nodes
pub going_few : {l : List ℕ} {at here n : ℕ} {ds : List ℕ} → Going l at here n ds → GoodAt l at → n + length ds ≤ nodes (term_at l at)
going_few {l} {at} {here} {n} {ds} w g = come_grows l (length ds) here n _ _ (sym w.seen.same ∙ scan_good g)

-- and there is a node wherever one is to come
pub going_not_bad : {l : List ℕ} {at here n : ℕ} {ds : List ℕ} → Going l at here n ds → 0 < length ds → GoodAt l at → node_at l here ≡ None → ⊥
going_not_bad w some g is = refused_ends (seen_bad w.seen some is ∙ scan_good g)
