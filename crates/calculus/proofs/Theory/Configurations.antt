-- Sums over the expressions of a configuration, after `++` and after `set`; names keep their types when names come.
use Rattle.std.specs.Prelude.{◌≡◌, refl, List, [], ◌++◌, ◌∷◌, ◌+◌, ◌≤◌, suc, zero, ℕ, set}
use Rattle.std.proofs.Common.{ap, arith}
use Rattle.std.proofs.Math.Option.{some}
use Rattle.calculus.specs.Types.{LinType}
use Rattle.calculus.specs.Syntax.{Component, Config, at, sum_all}
use Rattle.calculus.proofs.Theory.Tests.{clash}
use Rattle.calculus.proofs.Theory.Lists.{append_left}

-- a name keeps its type when names come
pub types_more : (S N : List LinType) (k : ℕ) (α : LinType) → at S k ≡ some α → at (S ++ N) k ≡ some α
types_more S N k α h = append_left S N k h

-- a sum over the components of C and D, after `set`, of one component, of components that have none
pub sum_append : (measure : Component → ℕ) (C D : Config) → sum_all measure (C ++ D) ≡ sum_all measure C + sum_all measure D
unfolding sum_all
sum_append measure [] D = omega arith
sum_append measure (c ∷ C) D = omega (arith, sum_append measure C D)

pub sum_set : (measure : Component → ℕ) (C : Config) (x : ℕ) (a : Component) {c : Component} → at C x ≡ some c →
    sum_all measure (set C x a) + measure c ≡ sum_all measure C + measure a
unfolding sum_all
sum_set measure [] x a h = absurd (clash (cc))
sum_set measure (b ∷ C) zero a {c} h = let e : b ≡ c = cc in omega (arith, ap measure e)
sum_set measure (b ∷ C) (suc x) a {c} h = omega (arith, sum_set measure C x a h)

pub sum_part : (measure : Component → ℕ) (C : Config) (x : ℕ) {c : Component} → at C x ≡ some c → measure c ≤ sum_all measure C
unfolding sum_all
sum_part measure [] x h = absurd (clash (cc))
sum_part measure (b ∷ C) zero {c} h = let e : b ≡ c = cc in omega (arith, ap measure e)
sum_part measure (b ∷ C) (suc x) h = omega (arith, sum_part measure C x h)

pub sum_zero : (measure : Component → ℕ) (C : Config) → ((x : ℕ) (c : Component) → at C x ≡ some c → measure c ≡ 0) → sum_all measure C ≡ 0
unfolding sum_all
sum_zero measure [] f = refl
sum_zero measure (c ∷ C) f = omega (arith, f zero c refl, sum_zero measure C (λ x. f (suc x)))
