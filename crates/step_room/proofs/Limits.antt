-- Both limits, by the tests of the code.
use mathlib.Core.Path.{◌≡◌, refl, sym}
use mathlib.Core.Bool.{Bool, false, true}
use Prim.Native.Nat.{ℕ, suc, ◌≤◌, ◌<◌}
use native.Mathlib.Omega.{arith}
use lib.Dec.{leb, ltb}
use Rattle.calculus.specs.Image.{within_limits}
use Rattle.calculus.specs.Limits.{max_names, max_nodes}
use Rattle.calculus.proofs.Theory.Tests.{ltb_complete, ltb_not}
use borrow.Author.Tests.{leb-false, leb-true}

-- at most n is below n + 1
at_most : (k n : ℕ) → leb k n ≡ ltb k (suc n)
at_most k n = go (leb k n) refl
  where
    go : (b : Bool) → leb k n ≡ b → b ≡ ltb k (suc n)
    go true e = sym (ltb_complete k (suc n) (omega (arith, leb-true k n e)))
    go false e = sym (ltb_not k (suc n) (omega (arith, leb-false k n e)))

pub too_many_names : (names nodes : ℕ) → max_names < names → leb names max_names ≡ within_limits names nodes
too_many_names names nodes h = rw (at_most names max_names, ltb_not names (suc max_names) (omega arith)) refl

pub by_nodes : (names nodes : ℕ) → names ≤ max_names → leb nodes max_nodes ≡ within_limits names nodes
by_nodes names nodes h = rw (ltb_complete names (suc max_names) (omega arith)) (at_most nodes max_nodes)
