-- What holds of every configuration of a run, in place of Fig. 9's typing of configurations: each component fits its name's type, and a name of a
-- once type stands at most once, and under no many-lambda.
use Rattle.std.specs.Prelude.{◌≡◌, List, [], ◌≤◌, ℕ, length}
use Rattle.std.proofs.Math.Path.{refl}
use Rattle.std.proofs.Math.Option.{some}
use Rattle.std.proofs.Common.{arith}
use Rattle.calculus.proofs.Theory.Configurations.{sum_zero}
use Rattle.calculus.specs.Types.{once, many, LinType, unit_type, ref, fun, multiplicity}
use Rattle.calculus.specs.Syntax.{Value, Component, thread_of, holds, open_for, used, awaited, Config, at, In, sum_in, sum_all}
use Rattle.calculus.specs.Typing.{TypeNumbers, Derivation}
use Rattle.calculus.specs.Names.{OnceName, Outside, count}
use Rattle.calculus.proofs.Theory.Lists.{at_past}
use Rattle.calculus.proofs.Theory.Expressions.{absent_outside, untyped_absent}

-- component c fits the type of its name x
abbrev pub Fits : TypeNumbers → List LinType → Config → ℕ → Component → Type 0
-- a thread has its name's type, which is many
Fits τ S C x (thread_of e) = (α : LinType) × (at S x ≡ some α) × (multiplicity α ≡ many) × Derivation τ S [] e α
-- a cell of type α ref holds a value of type α
Fits τ S C x (holds v) = (α : LinType) × (at S x ≡ some (ref α)) × Value v × Derivation τ S [] v α
-- a handle for y may give it a value of its type once; y, of a many type, awaits it
Fits τ S C x (open_for y) = (α : LinType) × (at S x ≡ some (fun once α unit_type)) × (at S y ≡ some α) × (multiplicity α ≡ many) × (at C y ≡ some awaited)
Fits τ S C x used = (α : LinType) × (at S x ≡ some (fun once α unit_type))
-- a future not yet bound has a handle
Fits τ S C x awaited = (z : ℕ) × (at C z ≡ some (open_for x))

-- configuration C is sound with the names' types S
pub record Sound (τ : TypeNumbers) (S : List LinType) (C : Config) : Type 0 where
  -- every name has a type
  pub sizes : length S ≡ length C
  pub fits : (x : ℕ) (c : Component) → at C x ≡ some c → Fits τ S C x c
  -- a future has one open handle
  pub one_handle : (y z z' : ℕ) → at C z ≡ some (open_for y) → at C z' ≡ some (open_for y) → z ≡ z'
  -- a name of a once type stands at most once, and under no many-lambda
  pub linear : (k : ℕ) → OnceName S k → sum_all (sum_in (count k)) C ≤ 1
  pub outside : (k : ℕ) → OnceName S k → (x : ℕ) (c : Component) → at C x ≡ some c → In (Outside τ k) c
  -- a used handle stands nowhere
  pub gone : (k : ℕ) → at C k ≡ some used → sum_all (sum_in (count k)) C ≡ 0

pub absent_outside_in : (τ : TypeNumbers) (k : ℕ) (c : Component) → sum_in (count k) c ≡ 0 → In (Outside τ k) c
unfolding sum_in
absent_outside_in τ k (thread_of e) h = absent_outside k e h
absent_outside_in τ k (holds e) h = absent_outside k e h
absent_outside_in τ k (open_for y) h = tt
absent_outside_in τ k used h = tt
absent_outside_in τ k awaited h = tt

module _ {τ : TypeNumbers} {S : List LinType} {C : Config} (s : Sound τ S C) where
  -- a name to come does not stand in C
  pub absent_of : (k : ℕ) → length C ≤ k → (x : ℕ) (c : Component) → Fits τ S C x c → sum_in (count k) c ≡ 0
  unfolding sum_in
  absent_of k h x (thread_of e) f = untyped_absent k (at_past S k (omega (arith, s.sizes))) f.3
  absent_of k h x (holds e) f = untyped_absent k (at_past S k (omega (arith, s.sizes))) f.3
  absent_of k h x (open_for y) f = refl
  absent_of k h x used f = refl
  absent_of k h x awaited f = refl

  pub absent : (k : ℕ) → length C ≤ k → sum_all (sum_in (count k)) C ≡ 0
  absent k h = sum_zero (sum_in (count k)) C (λ x c p. absent_of k h x c (s.fits x c p))
