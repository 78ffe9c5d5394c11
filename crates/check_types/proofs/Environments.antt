-- The environment in an array: what stands at an index, a lambda's variable more, a case's two more and less.
use mathlib.Core.Path.{◌≡◌, ap, ap₂, refl, ◌∙◌}
use mathlib.Core.Option.{some}
use mathlib.Core.List.{List, ◌∷◌}
use Prim.Native.Nat.{◌+◌, ◌-◌, ◌<◌, ◌≤◌, suc, zero, ℕ}
use native.Mathlib.Nat.{le_of_suc-le-suc, not-suc-le-zero}
use native.Mathlib.Numerals.{add-one}
use native.Mathlib.Omega.{arith}
use lib.ListN.{get_or, length, length-set, set}
use lib.Seq.{get_or-set_other, get_or-set_same}
use Rattle.calculus.specs.Syntax.{at}
use Rattle.check_types.specs.Walk.{environment}

pub environment_at : (n : ℕ) (a : List ℕ) (i : ℕ) → i < n → at (environment n a) i ≡ some (get_or a (n - 1 - i) 0)
unfolding environment
environment_at zero a i h = absurd (not-suc-le-zero h)
environment_at (suc n) a zero h = let e : n ≡ suc n - 1 - 0 = omega arith in ap (λ x. some (get_or a x 0)) e
environment_at (suc n) a (suc i) h =
    let e : n - 1 - i ≡ suc n - 1 - suc i = omega arith in
    environment_at n a i (le_of_suc-le-suc h) ∙ ap (λ x. some (get_or a x 0)) e

-- a store past the environment leaves it
environment_set : (n : ℕ) (a : List ℕ) (i x : ℕ) → n ≤ i → environment n (set a i x) ≡ environment n a
unfolding environment
environment_set zero a i x h = refl
environment_set (suc n) a i x h =
    ap₂ (λ (y : ℕ) (l : List ℕ). y ∷ l) (get_or-set_other a i n x 0 (omega arith)) (environment_set n a i x (omega arith))

-- a lambda's variable more
pub environment_more : (n : ℕ) (a : List ℕ) (x : ℕ) → n < length a → environment (n + 1) (set a n x) ≡ x ∷ environment n a
unfolding environment
environment_more n a x h =
    rw add-one (ap₂ (λ (y : ℕ) (l : List ℕ). y ∷ l) (get_or-set_same a n x 0 h) (environment_set n a n x (omega arith)))

-- a case's two variables more
pub environment_both : (n : ℕ) (a : List ℕ) (x y : ℕ) → n + 1 < length a → environment (n + 2) (set (set a n x) (n + 1) y) ≡ y ∷ x ∷ environment n a
environment_both n a x y h =
    let e : n + 2 ≡ n + 1 + 1 = omega arith in
    let r : n + 1 < length (set a n x) = simp length-set (omega arith) in
    rw (e, environment_more (n + 1) (set a n x) y r, environment_more n a x (omega arith))

-- and less
pub environment_below : (n : ℕ) (a : List ℕ) → environment (n + 2) a ≡ get_or a (n + 1) 0 ∷ get_or a n 0 ∷ environment n a
unfolding environment
environment_below n a =
    let e : n + 2 ≡ suc (suc n) = omega arith in
    let g : n + 1 ≡ suc n = omega arith in
    rw (e, g) refl
