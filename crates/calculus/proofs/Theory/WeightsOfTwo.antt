-- What the outcome of rules 8 and 9 weighs: each of the two variables is put in by what stands in Theory.Weights.
use Rattle.std.specs.Prelude.{◌≡◌}
use Prim.Native.Nat.{◌*◌, ◌+◌, ℕ}
use native.Mathlib.Omega.{arith}
use Rattle.calculus.specs.Syntax.{Exp}
use Rattle.calculus.specs.Reduction.{substitute, substitute_both}
use Rattle.calculus.specs.Names.{uses}
use Rattle.calculus.specs.Image.{Closed}
use Rattle.calculus.proofs.Theory.Weights.{Weight, uses_substitute, weigh_substitute}

module _ {w : Exp → ℕ} {variable : ℕ} (W : Weight w variable) where
  -- the two of a case
  pub weigh_both : {v₁ : Exp} → Closed 0 v₁ → (v₂ e : Exp) →
      w (substitute_both v₁ v₂ e) + (uses 0 e + uses 1 e) * variable ≡ w e + (uses 0 e * w v₂ + uses 1 e * w v₁)
  weigh_both {v₁} c v₂ e =
      let u : uses 0 (substitute 1 v₁ e) ≡ uses 0 e = uses_substitute 0 1 (λ q. omega arith) c e in
      let p : w (substitute_both v₁ v₂ e) + uses 0 e * variable ≡ w (substitute 1 v₁ e) + uses 0 e * w v₂ = rw u at (weigh_substitute W 0 v₂ (substitute 1 v₁ e)) in
      omega (arith, p, weigh_substitute W 1 v₁ e)
