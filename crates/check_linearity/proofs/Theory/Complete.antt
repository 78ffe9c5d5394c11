-- A term that keeps the rule of cause 10, and meets marks that it may, leaves marks.
use Rattle.std.specs.Prelude.{◌≡◌, refl, ◌&&◌, false, true, List, [], ◌∷◌, ◌+◌, suc, zero, ℕ, get_or, set}
use Rattle.std.proofs.Common.{◌∙◌, arith}
use Rattle.std.proofs.Math.Option.{Option, some}
use Rattle.calculus.proofs.Theory.Derivable.{uses_self}
use Rattle.calculus.specs.Syntax.{Shape, Exp, var, name, const, lam, app, both, case_of, at}
use Rattle.calculus.specs.Names.{uses}
use Rattle.calculus.specs.Table.{Entry, Table}
use Rattle.calculus.specs.Verdict.{outside_many, with_components, on_number, linear_variable, type_number, linear}
use Rattle.calculus.proofs.Theory.Tests.{and_parts, ltb_complete}
use Rattle.check_linearity.specs.Spend.{Marks, new_mark, reach_under, leave, spend_variable, spend_next, spend_case, spend}
use Rattle.check_linearity.proofs.Theory.Changes.{Fit, fit_many, fit_unused, fit_due, fit_allowed}
use Rattle.check_linearity.proofs.Theory.Subterms.{FitAll, InReach, leaves_two}
use Rattle.check_linearity.proofs.Theory.Lambdas.{Allowed, Spent, Fits, on_function_parts, allowed_body, own_reach, variable_fit, variable_left, leave_some, spend_lambda_at}
use Rattle.check_linearity.proofs.Theory.Components.{Outer, outer_uses, components_spend, number_components, fits_case, leaves_case}
use Rattle.check_linearity.proofs.Theory.Sound.{sound}

-- e leaves marks
abbrev Leaves : Table → List ℕ → ℕ → Marks → Exp → Type 0
Leaves T Δ reach M e = (M' : Marks) × (spend T Δ reach M e ≡ some M')

-- a variable
complete_variable : (T : Table) (reach : ℕ) (M : Marks) (i mark : ℕ) {u : ℕ} → u ≡ 1 → Fit u (Allowed T reach (var i) i) mark →
    (M' : Marks) × (spend_variable reach M i mark ≡ some M')
unfolding spend_variable
complete_variable T reach M i mark w fit_many = (M, refl)
complete_variable T reach M i mark w (fit_unused z) = absurd (omega arith)
complete_variable T reach M i mark w (fit_due w' a) = (set M i 2, rw (ltb_complete i reach a.0))

-- a lambda: the marks that its body meets and leaves
fits_body : (T : Table) (reach : ℕ) (M : Marks) (t : ℕ) (e : Exp) (x : Entry) → at T t ≡ some x → linear_variable T 0 x.p e ≡ true → Fits T reach M (lam t e) →
    Fits T (reach_under x.kind reach) (new_mark T x.p ∷ M) e
unfolding uses
fits_body T reach M t e x g l h zero = variable_fit T 0 x.p e (reach_under x.kind reach) (own_reach x.kind reach) l
fits_body T reach M t e x g l h (suc i) = fit_allowed (allowed_body T t x g reach i e) (h i)

complete_leave : (T : Table) (reach : ℕ) (M : Marks) (p : ℕ) (e : Exp) (M' : Marks) → linear_variable T 0 p e ≡ true → Spent T reach (new_mark T p ∷ M) e M' →
    (M'' : Marks) × (leave (some M') ≡ some M'')
complete_leave T reach M p e [] l s = absurd (omega (arith, s.same_length))
complete_leave T reach M p e (mark ∷ M') l s = (M', leave_some mark M' (variable_left T 0 p e reach mark l (s.each 0)))

-- a case whose subject leaves the marks M: its body's, where `complete` holds of the body
case_leaves : (T : Table) (Δ : List ℕ) (reach : ℕ) (M : Marks) (sh : Shape) (o : Option ℕ) (e : Exp) →
    ((p q : ℕ) (M : Marks) → linear T (q ∷ p ∷ Δ) e ≡ true → Fits T (suc (suc reach)) M e → Leaves T (q ∷ p ∷ Δ) (suc (suc reach)) M e) →
    on_number o (λ n. with_components false sh n (at T n) λ p q. (linear_variable T 0 q e && linear_variable T 1 p e) && linear T (q ∷ p ∷ Δ) e) ≡ true →
    FitAll (outer_uses T reach e) (Outer T reach e) M → (M' : Marks) × (spend_case sh T M o (λ p q M. spend T (q ∷ p ∷ Δ) (suc (suc reach)) M e) ≡ some M')
case_leaves T Δ reach M sh o e body l h =
    let (p, q, c, l₁) = number_components T sh o (λ p q. (linear_variable T 0 q e && linear_variable T 1 p e) && linear T (q ∷ p ∷ Δ) e) l in
    let (l₂, l₃) = and_parts (linear_variable T 0 q e && linear_variable T 1 p e) (linear T (q ∷ p ∷ Δ) e) l₁ in
    let (k, k') = and_parts (linear_variable T 0 q e) (linear_variable T 1 p e) l₂ in
    let (M₁, r) = body p q (new_mark T q ∷ new_mark T p ∷ M) l₃ (fits_case T reach e p q M k k' h) in
    let s = sound T (q ∷ p ∷ Δ) (suc (suc reach)) (new_mark T q ∷ new_mark T p ∷ M) e r in
    let (M₂, v) = leaves_case T reach e p q M₁ k k' s.1 in
    (M₂, components_spend T sh M (λ p q M. spend T (q ∷ p ∷ Δ) (suc (suc reach)) M e) c ∙ rw r v)

-- an application, or a pair or front: both subterms in the scope of the whole
complete_two : (T : Table) (Δ : List ℕ) (reach : ℕ) (M : Marks) (e₁ e₂ : Exp) → (Fits T reach M e₁ → Leaves T Δ reach M e₁) →
    ((M₁ : Marks) → Fits T reach M₁ e₂ → Leaves T Δ reach M₁ e₂) →
    FitAll (λ i. uses i e₁ + uses i e₂) (InReach reach (λ i. outside_many T i e₁ && outside_many T i e₂)) M →
    (M' : Marks) × (spend_next (spend T Δ reach M e₁) (λ M. spend T Δ reach M e₂) ≡ some M')
complete_two T Δ reach M e₁ e₂ f g h =
    leaves_two reach (λ i. uses i e₁) (λ i. uses i e₂) (λ i. outside_many T i e₁) (λ i. outside_many T i e₂) (spend T Δ reach M e₁) (λ M. spend T Δ reach M e₂)
    (λ h₁. let (M₁, p) = f h₁ in (M₁, p, (sound T Δ reach M e₁ p).1)) g h

pub complete : (T : Table) (Δ : List ℕ) (reach : ℕ) (M : Marks) (e : Exp) → linear T Δ e ≡ true → Fits T reach M e → Leaves T Δ reach M e
unfolding spend linear uses outside_many
complete T Δ reach M (var i) l h = complete_variable T reach M i (get_or M i 0) (uses_self i) (h i)
complete T Δ reach M (name k) l h = (M, refl)
complete T Δ reach M (const c) l h = (M, refl)
complete T Δ reach M (lam t e) l h =
    let (x, g, k, l₁) = on_function_parts T t (λ p q. linear_variable T 0 p e && linear T (p ∷ Δ) e) l in
    let (l₂, l₃) = and_parts (linear_variable T 0 x.p e) (linear T (x.p ∷ Δ) e) l₁ in
    let under = reach_under x.kind reach in
    let (M₁, p) = complete T (x.p ∷ Δ) under (new_mark T x.p ∷ M) e l₃ (fits_body T reach M t e x g l₂ h) in
    let s = sound T (x.p ∷ Δ) under (new_mark T x.p ∷ M) e p in
    let (M₂, q) = complete_leave T under M x.p e M₁ l₂ s.1 in
    (M₂, spend_lambda_at T reach M (at T t) (λ p reach M. spend T (p ∷ Δ) reach M e) x g k ∙ rw p q)
complete T Δ reach M (app f a) l h =
    let (l₁, l₂) = and_parts (linear T Δ f) (linear T Δ a) l in
    complete_two T Δ reach M f a (complete T Δ reach M f l₁) (λ M₁. complete T Δ reach M₁ a l₂) h
complete T Δ reach M (both sh t e₁ e₂) l h =
    let (l₁, l₂) = and_parts (linear T Δ e₁) (linear T Δ e₂) l in
    complete_two T Δ reach M e₁ e₂ (complete T Δ reach M e₁ l₁) (λ M₁. complete T Δ reach M₁ e₂ l₂) h
complete T Δ reach M (case_of sh e₁ e₂) l h =
    let (l₁, l₂) = and_parts (linear T Δ e₁) _ l in
    leaves_two reach (λ i. uses i e₁) (λ i. uses (suc (suc i)) e₂) (λ i. outside_many T i e₁) (λ i. outside_many T (suc (suc i)) e₂)
    (spend T Δ reach M e₁) (λ M. spend_case sh T M (type_number T Δ e₁) λ p q M. spend T (q ∷ p ∷ Δ) (suc (suc reach)) M e₂)
    (λ h₁. let (M₁, p) = complete T Δ reach M e₁ l₁ h₁ in (M₁, p, (sound T Δ reach M e₁ p).1))
    (λ M₁. case_leaves T Δ reach M₁ sh (type_number T Δ e₁) e₂ (λ p q M. complete T (q ∷ p ∷ Δ) (suc (suc reach)) M e₂) l₂) h
