-- A list mapped: what stands at a place.
use Rattle.std.specs.Prelude.{◌≡◌, refl, List, [], ◌∷◌, map, ℕ, suc, zero}
use Rattle.std.proofs.Common.{ap}
use Rattle.std.proofs.Math.Option.{some}
use Rattle.calculus.specs.Syntax.{at}
use Rattle.calculus.proofs.Theory.Tests.{clash}

pub at_map : {A B : Type 0} (f : A → B) (l : List A) (k : ℕ) {x : A} → at l k ≡ some x → at (map f l) k ≡ some (f x)
at_map f [] k h = absurd (clash (cc))
at_map f (y ∷ l) zero h = ap (λ o. some (f o)) cc
at_map f (y ∷ l) (suc k) h = at_map f l k h

-- what stands in a list that is mapped
pub map_at : {A B : Type 0} (f : A → B) (l : List A) (k : ℕ) {y : B} → at (map f l) k ≡ some y → (x : A) × (at l k ≡ some x) × (y ≡ f x)
map_at f [] k h = absurd (clash (cc))
map_at f (x ∷ l) zero h = (x, refl, cc)
map_at f (x ∷ l) (suc k) h = map_at f l k h
