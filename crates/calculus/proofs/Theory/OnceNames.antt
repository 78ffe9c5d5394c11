-- What "at most once and under no many-lambda" shuts out, and that Lemma 1 needs it.
use Rattle.std.specs.Prelude.{◌≡◌, [], ◌∷◌, ℕ}
use Rattle.std.proofs.Math.Path.{refl}
use Rattle.std.proofs.Math.Option.{some}
use Rattle.std.proofs.Common.{arith}
use Rattle.calculus.specs.Types.{once, many, LinType, unit_type, num_type, ref, fun, multiplicity}
use Rattle.calculus.specs.Syntax.{Exp, name, lam, app, holds, open_for, awaited, at}
use Rattle.calculus.specs.Typing.{TypeNumbers, NameTypes, no_once_nil, no_once_many, Derivation, d_name, d_many}
use Rattle.calculus.specs.Names.{count, OnceName, Outside, out_once, out_none, OnceNamesOnce}
use Rattle.calculus.specs.Owners.{Owners}
use Rattle.calculus.specs.State.{ValuesTyped}
use Rattle.calculus.proofs.Theory.Tests.{clash}
use Rattle.calculus.proofs.Theory.Expressions.{count_same}

-- Lemma 1 needs `Outside`: Fig. 9 keeps names apart from Γ, so a many-lambda may hold a once name, λ x. name 0
many_value_with_once : (τ : TypeNumbers) × (Σ : NameTypes) × (α : LinType) × Derivation τ Σ [] (lam 0 (name 0)) α × (multiplicity α ≡ many) × OnceName Σ 0 × (count 0 (lam 0 (name 0)) ≡ 1)
unfolding count
many_value_with_once = (
  (λ t. some (fun many unit_type (fun once num_type unit_type))),
  (fun once num_type unit_type ∷ []),
  _,
  d_many refl no_once_nil (d_name (no_once_many refl no_once_nil) refl),
  refl,
  (_, refl, refl),
  refl,
)

-- "a name of a once type stands in it at most once and under no many-lambda"
module _ (τ : TypeNumbers) (Σ : NameTypes) (once_at : at Σ 0 ≡ some (fun once num_type unit_type)) where
  not_twice : (e : Exp) → count 0 e ≡ 2 → ¬ OnceNamesOnce τ Σ e
  not_twice e twice o = omega (arith, twice, o.at_most_once 0 (_, once_at, refl))

  not_under_many : τ 0 ≡ some (fun many unit_type unit_type) → ¬ OnceNamesOnce τ Σ (lam 0 (name 0))
  not_under_many many_at o = go (o.outside 0 (_, once_at, refl))
    where
      go : ¬ Outside τ 0 (lam 0 (name 0))
      go (out_once p q) = clash (cc)
      go (out_none c) = omega (arith, count_same 0)

-- handle 0 of future 1 twice in what cell 2 holds, whatever the cell's contents are said to be
module _ (τ : TypeNumbers) (t : ℕ) (α : LinType) (O : Owners) where
  not_in_a_cell : ¬ ValuesTyped τ (record { names = fun once num_type unit_type ∷ num_type ∷ ref α ∷ []; owned = record { owners = O; config = open_for 1 ∷ awaited ∷ holds (lam t (app (name 0) (name 0))) ∷ [] } })
  unfolding count
  not_in_a_cell v = let (β, p, h) = v.cells 2 (lam t (app (name 0) (name 0))) refl in not_twice τ _ refl (lam t (app (name 0) (name 0))) refl h.names
