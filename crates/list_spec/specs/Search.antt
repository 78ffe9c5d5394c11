-- A search in order: strings made of pieces, the pieces that may stand first given in ascending order with what is left to do behind each. It is
-- recursion over the number of pieces, with one loop over the pieces of a place, and keeps nothing but the state and what stands so far.
use Rattle.std.specs.Prelude.{Bool, cond, List, [], ◌++◌, ◌∷◌, suc, zero, ℕ}
use Rattle.std.proofs.Math.Option.{Option, none, some}
use Rattle.list_spec.specs.Order.{Bound, free, above, Passed, behind, on, passed}

-- a piece, and the state behind it
pub record Branch (S : Type 0) : Type 0 where
  pub piece : List ℕ
  pub next : S

-- the first answer
abbrev pub or_else : Option (List ℕ) → Option (List ℕ) → Option (List ℕ)
or_else none o = o
or_else (some s) o = some s

abbrev pub when_on : Passed → (Bound → Option (List ℕ)) → Option (List ℕ)
when_on behind f = none
when_on (on b) f = f b

abbrev pub try_each : {S : Type 0} → (Branch S → Bound → Option (List ℕ)) → Bound → List (Branch S) → Option (List ℕ)
try_each f low [] = none
try_each f low (b ∷ bs) = or_else (when_on (passed low b.piece) (f b)) (try_each f low bs)

-- nothing is left to come: what stands is after the bound only if the bound was passed
abbrev pub finish : (List ℕ → Bool) → List ℕ → Bound → Option (List ℕ)
finish test s free = cond (test s) (some s) none
finish test s (above l) = none

-- s stands so far, r pieces are to come: the first that passes the test and comes after the bound
unfoldable pub find : {S : Type 0} → (ℕ → S → List (Branch S)) → (List ℕ → Bool) → ℕ → S → List ℕ → Bound → Option (List ℕ)
find branches test zero x s low = finish test s low
find branches test (suc r) x s low = try_each (λ b low'. find branches test r b.next (s ++ b.piece) low') low (branches r x)
