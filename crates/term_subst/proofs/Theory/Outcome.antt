-- The outcome of a substitution in bytes is what the rules say.
use Rattle.std.specs.Prelude.{◌≡◌, Bool, cond, List, ◌++◌, ◌∷◌, ◌≤◌, suc, ℕ, eqb}
use Rattle.std.proofs.Math.Path.{ap, ap₂, refl}
use Rattle.std.proofs.Math.Bool.{false, true}
use Rattle.std.proofs.Common.{arith}
use Rattle.calculus.specs.Syntax.{Exp, var, name, const, lam, app, both, case_of}
use Rattle.calculus.specs.Reduction.{substitute}
use Rattle.calculus.specs.Image.{Closed, closed_app, closed_both, closed_case, closed_const, closed_lam, closed_name, closed_var}
use Rattle.calculus.proofs.Theory.Tests.{eqb_differ, eqb_sound}
use Rattle.term.specs.Forms.{lambda_tag, application_tag}
use Rattle.term.specs.Expressions.{both_tag, bytes, case_tag}
use Rattle.term_subst.specs.Replaced.{replaced}

-- nothing is put in where no variable is
closed_substitute : {k : ℕ} {e : Exp} (d : ℕ) (v : Exp) → Closed k e → k ≤ d → substitute d v e ≡ e
unfolding substitute
closed_substitute d v (closed_var {i = i} h) le = rw (eqb_differ i d (λ z. omega arith)) refl
closed_substitute d v closed_name le = refl
closed_substitute d v closed_const le = refl
closed_substitute d v (closed_lam {t = t} c) le = ap (lam t) (closed_substitute (suc d) v c (omega arith))
closed_substitute d v (closed_app c c') le = ap₂ app (closed_substitute d v c le) (closed_substitute d v c' le)
closed_substitute d v (closed_both {s = s} {t = t} c c') le = ap₂ (both s t) (closed_substitute d v c le) (closed_substitute d v c' le)
closed_substitute d v (closed_case {s = s} c c') le = ap₂ (case_of s) (closed_substitute d v c le) (closed_substitute (suc (suc d)) v c' (omega arith))

-- rules 8 and 9, the case's body with v₁ for x, the next variable, and v₂ for y, the innermost
module _ {v₁ : Exp} (c : Closed 0 v₁) (v₂ : Exp) where
  at_both : (d i : ℕ) (b : Bool) → eqb i (suc d) ≡ b → (a : Bool) → eqb i d ≡ a →
      bytes (substitute d v₂ (cond b v₁ (var i))) ≡ cond a (bytes v₂) (cond b (bytes v₁) (bytes (var i)))
  unfolding substitute
  at_both d i true p true q = absurd (omega (arith, eqb_sound i (suc d) p, eqb_sound i d q))
  at_both d i true p false q = ap bytes (closed_substitute d v₂ c (omega arith))
  at_both d i false p true q = rw q refl
  at_both d i false p false q = rw q refl

  pub bytes_both : (d : ℕ) (e : Exp) → bytes (substitute d v₂ (substitute (suc d) v₁ e)) ≡ replaced d (bytes v₂) (bytes v₁) e
  unfolding bytes substitute replaced
  bytes_both d (var i) = at_both d i (eqb i (suc d)) refl (eqb i d) refl
  bytes_both d (name k) = refl
  bytes_both d (const x) = refl
  bytes_both d (lam t e) = ap (λ l. lambda_tag ∷ t ∷ l) (bytes_both (suc d) e)
  bytes_both d (app f a) = ap₂ (λ l m. application_tag ∷ (l ++ m)) (bytes_both d f) (bytes_both d a)
  bytes_both d (both s t e₁ e₂) = ap₂ (λ l m. both_tag s ∷ t ∷ (l ++ m)) (bytes_both d e₁) (bytes_both d e₂)
  bytes_both d (case_of s e₁ e₂) = ap₂ (λ l m. case_tag s ∷ (l ++ m)) (bytes_both d e₁) (bytes_both (suc (suc d)) e₂)

-- rule BETA, whose body has the one variable: whatever is for the next
module _ (v : Exp) (outer : List ℕ) where
  at_beta : (i : ℕ) (b : Bool) → bytes (cond b v (var i)) ≡ cond b (bytes v) (bytes (var i))
  at_beta i true = refl
  at_beta i false = refl

  pub bytes_beta : (d : ℕ) {e : Exp} → Closed (suc d) e → bytes (substitute d v e) ≡ replaced d (bytes v) outer e
  unfolding bytes substitute replaced
  bytes_beta d (closed_var {i = i} h) = rw (eqb_differ i (suc d) (λ z. omega arith)) (at_beta i (eqb i d))
  bytes_beta d closed_name = refl
  bytes_beta d closed_const = refl
  bytes_beta d (closed_lam {t = t} c) = ap (λ l. lambda_tag ∷ t ∷ l) (bytes_beta (suc d) c)
  bytes_beta d (closed_app c c') = ap₂ (λ l m. application_tag ∷ (l ++ m)) (bytes_beta d c) (bytes_beta d c')
  bytes_beta d (closed_both {s = s} {t = t} c c') = ap₂ (λ l m. both_tag s ∷ t ∷ (l ++ m)) (bytes_beta d c) (bytes_beta d c')
  bytes_beta d (closed_case {s = s} c c') = ap₂ (λ l m. case_tag s ∷ (l ++ m)) (bytes_beta d c) (bytes_beta (suc (suc d)) c')
