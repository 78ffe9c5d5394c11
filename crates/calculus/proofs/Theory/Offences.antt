-- Cause 9 by its places: `type_of` answers none exactly where there is one.
use Rattle.std.proofs.Common.{◌∙◌, ap, sym, inl, inr}
use Rattle.std.specs.Prelude.{◌≡◌, refl, ◌↔◌, ◌⊎◌, Bool, ◌&&◌, cond, false, true, List, ◌∷◌, suc, ℕ, length}
use Rattle.std.proofs.lemmas.Bool.{false≢true}
use Rattle.std.proofs.Math.Option.{Option, none-ne-some, some-ne-none, none, some}
use Rattle.calculus.specs.Types.{Multiplicity, LinType, unit_type, num_type, ref, fun, pair_type, list_type}
use Rattle.calculus.specs.Syntax.{Const, unit, num, op, Shape, Exp, var, name, const, lam, app, both, case_of}
use Rattle.calculus.specs.Typing.{TypeNumbers, Fig10}
use Rattle.calculus.proofs.Theory.TypeTests.{same_type, τ_on_function, Parts, has_parts, no_parts, parts_of, by_parts, τ_with_components, on_type, τ_in_table, τ_scoped_const, τ_scoped, τ_annotated, type_of_const, applied_type, lambda_type, both_type, case_type, type_of, Offence, applies_no_function, argument_differs, body_differs, first_differs, second_differs, subject_differs, inside_function, inside_argument, inside_body, inside_first, inside_second, inside_subject, inside_case}
use Rattle.calculus.proofs.Theory.Tests.{clash, true_of, false_of, and_parts, and_false, false_right, ltb_sound, same_type_sound, same_type_refl}
use Rattle.calculus.proofs.Theory.Lists.{at_below}
use Rattle.calculus.proofs.Theory.Constants.{on_type_parts, on_function_parts, components_parts, components_at}

-- a constant in scope has a type
const_typed : (τ : TypeNumbers) (c : Const) → τ_scoped_const τ c ≡ true → ¬ (type_of_const τ c ≡ none)
unfolding τ_scoped_const type_of_const τ_in_table
const_typed τ unit s e = some-ne-none unit_type e
const_typed τ (num n) s e = some-ne-none num_type e
const_typed τ (op o t) s e = let (α, p, q) = on_type_parts (τ t) _ s in none-ne-some α (sym e ∙ p)

different : (α β : LinType) → same_type α β ≡ false → ¬ (α ≡ β)
different α β e p = false≢true (sym e ∙ rw p (same_type_refl β))

different_test : (α β : LinType) → ¬ (α ≡ β) → same_type α β ≡ false
different_test α β n = false_of (same_type α β) (λ t. n (same_type_sound α β (true_of _ t)))

application_offence : (τ : TypeNumbers) (Δ : List LinType) (f a : Exp) → (type_of τ Δ f ≡ none → Offence τ Δ f) → (type_of τ Δ a ≡ none → Offence τ Δ a) →
    applied_type (type_of τ Δ f) (type_of τ Δ a) ≡ none → Offence τ Δ (app f a)
unfolding applied_type
application_offence τ Δ f a hf ha e = go (type_of τ Δ f) (type_of τ Δ a) refl refl e
  where
    test : {κ : Multiplicity} {α α' β : LinType} (t : Bool) → same_type α' α ≡ t → type_of τ Δ f ≡ some (fun κ α β) → type_of τ Δ a ≡ some α' →
        cond t (some β) none ≡ none → Offence τ Δ (app f a)
    test {β = β} true t p q e = absurd (some-ne-none β e)
    test {α = α} {α' = α'} false t p q e = argument_differs p q (different α' α t)

    go : (o o' : Option LinType) → type_of τ Δ f ≡ o → type_of τ Δ a ≡ o' → applied_type o o' ≡ none → Offence τ Δ (app f a)
    go none o' p q e = inside_function (hf p)
    go (some unit_type) o' p q e = applies_no_function p (λ κ α β r. clash (cc))
    go (some num_type) o' p q e = applies_no_function p (λ κ α β r. clash (cc))
    go (some (ref γ)) o' p q e = applies_no_function p (λ κ α β r. clash (cc))
    go (some (pair_type κ γ δ)) o' p q e = applies_no_function p (λ κ α β r. clash (cc))
    go (some (list_type κ γ)) o' p q e = applies_no_function p (λ κ α β r. clash (cc))
    go (some (fun κ α β)) none p q e = inside_argument (ha q)
    go (some (fun κ α β)) (some α') p q e = test (same_type α' α) refl p q e

lambda_offence : (τ : TypeNumbers) (Δ : List LinType) (t : ℕ) (e : Exp) {κ : Multiplicity} {α β : LinType} → τ t ≡ some (fun κ α β) →
    (type_of τ (α ∷ Δ) e ≡ none → Offence τ (α ∷ Δ) e) → lambda_type (τ t) (λ α. type_of τ (α ∷ Δ) e) ≡ none → Offence τ Δ (lam t e)
unfolding lambda_type on_type
lambda_offence τ Δ t e {κ} {α} {β} p h n = go (type_of τ (α ∷ Δ) e) refl (rw p at n)
  where
    test : {β' : LinType} (t' : Bool) → same_type β' β ≡ t' → type_of τ (α ∷ Δ) e ≡ some β' → cond t' (some (fun κ α β)) none ≡ none → Offence τ Δ (lam t e)
    test true t' q n = absurd (some-ne-none (fun κ α β) n)
    test {β'} false t' q n = body_differs p q (different β' β t')

    go : (o : Option LinType) → type_of τ (α ∷ Δ) e ≡ o → cond (on_type o (λ β'. same_type β' β)) (some (fun κ α β)) none ≡ none → Offence τ Δ (lam t e)
    go none q n = inside_body p (h q)
    go (some β') q n = test (same_type β' β) refl q n

-- a pair or list front: what is tested of a component fails, or it has no type
tested_offence : (o : Option LinType) (α : LinType) → on_type o (λ α'. same_type α' α) ≡ false → (o ≡ none) ⊎ ((α' : LinType) × (o ≡ some α') × ¬ (α' ≡ α))
unfolding on_type
tested_offence none α e = inl refl
tested_offence (some α') α e = inr (α', refl, different α' α e)

both_offence : (τ : TypeNumbers) (Δ : List LinType) (s : Shape) (t : ℕ) (e₁ e₂ : Exp) {α β γ : LinType} → τ t ≡ some γ → Fig10 s γ α β →
    (type_of τ Δ e₁ ≡ none → Offence τ Δ e₁) → (type_of τ Δ e₂ ≡ none → Offence τ Δ e₂) →
    both_type s (τ t) (type_of τ Δ e₁) (type_of τ Δ e₂) ≡ none → Offence τ Δ (both s t e₁ e₂)
unfolding both_type
both_offence τ Δ s t e₁ e₂ {α} {β} {γ} p f h₁ h₂ n = elim (and_false (on_type (type_of τ Δ e₁) (λ α'. same_type α' α)) (on_type (type_of τ Δ e₂) (λ β'. same_type β' β)) fails) [
  | inl q ↦ elim (tested_offence (type_of τ Δ e₁) α q) [ inl z ↦ inside_first (h₁ z) | inr (α', z, d) ↦ first_differs p f z d ]
  | inr q ↦ elim (tested_offence (type_of τ Δ e₂) β q) [ inl z ↦ inside_second (h₂ z) | inr (β', z, d) ↦ second_differs p f z d ]
]
  where
    cond_none : (b : Bool) → cond b (some γ) none ≡ none → b ≡ false
    cond_none true e = absurd (some-ne-none γ e)
    cond_none false e = refl

    fails : (on_type (type_of τ Δ e₁) (λ α'. same_type α' α) && on_type (type_of τ Δ e₂) (λ β'. same_type β' β)) ≡ false
    fails = sym (components_at false _ f) ∙ cond_none _ (rw p at n)

-- a case
case_offence : (τ : TypeNumbers) (Δ : List LinType) (s : Shape) (e₁ e₂ : Exp) → (type_of τ Δ e₁ ≡ none → Offence τ Δ e₁) →
    ((α β : LinType) → type_of τ (β ∷ α ∷ Δ) e₂ ≡ none → Offence τ (β ∷ α ∷ Δ) e₂) →
    case_type s (type_of τ Δ e₁) (λ α β. type_of τ (β ∷ α ∷ Δ) e₂) ≡ none → Offence τ Δ (case_of s e₁ e₂)
unfolding case_type by_parts
case_offence τ Δ s e₁ e₂ h₁ h₂ n = go (type_of τ Δ e₁) refl n
  where
    inner : {γ : LinType} → type_of τ Δ e₁ ≡ some γ → (p : Parts s γ) → by_parts none p (λ α β. type_of τ (β ∷ α ∷ Δ) e₂) ≡ none → Offence τ Δ (case_of s e₁ e₂)
    inner g (has_parts α β f) n = inside_case g f (h₂ α β n)
    inner g (no_parts d) n = subject_differs g d

    go : (o : Option LinType) → type_of τ Δ e₁ ≡ o → case_type s o (λ α β. type_of τ (β ∷ α ∷ Δ) e₂) ≡ none → Offence τ Δ (case_of s e₁ e₂)
    go none g n = inside_subject (h₁ g)
    go (some γ) g n = inner g (parts_of s γ) n

offence_sound : (τ : TypeNumbers) (b : ℕ) (Δ : List LinType) (e : Exp) → τ_scoped τ b (length Δ) e ≡ true → τ_annotated τ e ≡ true → type_of τ Δ e ≡ none →
    Offence τ Δ e
unfolding τ_scoped τ_annotated type_of
offence_sound τ b Δ (var i) s a n = let (α, p) = at_below Δ i (ltb_sound i (length Δ) s) in absurd (none-ne-some α (sym n ∙ p))
offence_sound τ b Δ (name k) s a n = absurd (some-ne-none (ref num_type) n)
offence_sound τ b Δ (const c) s a n = absurd (const_typed τ c s n)
offence_sound τ b Δ (lam t e) s a n =
    let (a₁, a₂) = and_parts (on_type (τ t) (λ γ. τ_on_function γ λ κ α β. true)) (τ_annotated τ e) a in
    let (γ, p, q) = on_type_parts (τ t) _ a₁ in
    let (κ, α, β, r, z) = on_function_parts γ _ q in
    lambda_offence τ Δ t e (p ∙ ap some r) (λ n'. offence_sound τ b (α ∷ Δ) e (and_parts (τ_in_table τ t) _ s).1 a₂ n') n
offence_sound τ b Δ (app f a₁) s a n =
    application_offence τ Δ f a₁
    (λ n'. offence_sound τ b Δ f (and_parts (τ_scoped τ b (length Δ) f) (τ_scoped τ b (length Δ) a₁) s).0 (and_parts (τ_annotated τ f) (τ_annotated τ a₁) a).0 n')
    (λ n'. offence_sound τ b Δ a₁ (and_parts (τ_scoped τ b (length Δ) f) (τ_scoped τ b (length Δ) a₁) s).1 (and_parts (τ_annotated τ f) (τ_annotated τ a₁) a).1 n') n
offence_sound τ b Δ (both sh t e₁ e₂) s a n =
    let (s₁, s₂) = and_parts (τ_scoped τ b (length Δ) e₁) (τ_scoped τ b (length Δ) e₂) (and_parts (τ_in_table τ t) _ s).1 in
    let (w, a') = and_parts (on_type (τ t) (λ γ. τ_with_components false sh γ λ α β. true)) _ a in
    let (a₁, a₂) = and_parts (τ_annotated τ e₁) (τ_annotated τ e₂) a' in
    let (γ, p, q) = on_type_parts (τ t) _ w in
    let (α, β, f, z) = components_parts sh γ _ q in
    both_offence τ Δ sh t e₁ e₂ p f (λ n'. offence_sound τ b Δ e₁ s₁ a₁ n') (λ n'. offence_sound τ b Δ e₂ s₂ a₂ n') n
offence_sound τ b Δ (case_of sh e₁ e₂) s a n =
    let (s₁, s₂) = and_parts (τ_scoped τ b (length Δ) e₁) (τ_scoped τ b (suc (suc (length Δ))) e₂) s in
    let (a₁, a₂) = and_parts (τ_annotated τ e₁) (τ_annotated τ e₂) a in
    case_offence τ Δ sh e₁ e₂ (λ n'. offence_sound τ b Δ e₁ s₁ a₁ n') (λ α β n'. offence_sound τ b (β ∷ α ∷ Δ) e₂ s₂ a₂ n') n

-- nothing is applied to what has no type
applied_type_none : (o : Option LinType) → applied_type o none ≡ none
unfolding applied_type
applied_type_none none = refl
applied_type_none (some unit_type) = refl
applied_type_none (some num_type) = refl
applied_type_none (some (ref α)) = refl
applied_type_none (some (pair_type κ α β)) = refl
applied_type_none (some (list_type κ α)) = refl
applied_type_none (some (fun κ α β)) = refl

applied_type_no_function : (γ : LinType) (o : Option LinType) → ((κ : Multiplicity) (α β : LinType) → ¬ (γ ≡ fun κ α β)) → applied_type (some γ) o ≡ none
unfolding applied_type
applied_type_no_function unit_type o n = refl
applied_type_no_function num_type o n = refl
applied_type_no_function (ref α) o n = refl
applied_type_no_function (pair_type κ α β) o n = refl
applied_type_no_function (list_type κ α) o n = refl
applied_type_no_function (fun κ α β) o n = absurd (n κ α β refl)

-- a pair or list front has no type where one of its components has not the right one
both_none : {s : Shape} {γ α β : LinType} (o o₁ o₂ : Option LinType) → o ≡ some γ → Fig10 s γ α β →
    (on_type o₁ (λ α'. same_type α' α) && on_type o₂ (λ β'. same_type β' β)) ≡ false → both_type s o o₁ o₂ ≡ none
unfolding both_type
both_none o o₁ o₂ p f e = rw p (rw (components_at false _ f, e) refl)

both_type_none : (s : Shape) (o o₁ o₂ : Option LinType) → (o₁ ≡ none) ⊎ (o₂ ≡ none) → both_type s o o₁ o₂ ≡ none
unfolding both_type by_parts on_type
both_type_none s none o₁ o₂ h = refl
both_type_none s (some γ) o₁ o₂ h = go (parts_of s γ)
  where
    fails : (α β : LinType) → (on_type o₁ (λ α'. same_type α' α) && on_type o₂ (λ β'. same_type β' β)) ≡ false
    fails α β = elim h [ inl z ↦ rw z refl | inr z ↦ false_right (on_type o₁ (λ α'. same_type α' α)) (rw z refl) ]

    go : (p : Parts s γ) → cond (by_parts false p λ α β. on_type o₁ (λ α'. same_type α' α) && on_type o₂ (λ β'. same_type β' β)) (some γ) none ≡ none
    go (has_parts α β f) = rw (fails α β)
    go (no_parts n) = refl

no_parts_none : (s : Shape) (γ : LinType) (body : LinType → LinType → Option LinType) → ((α β : LinType) → ¬ Fig10 s γ α β) → case_type s (some γ) body ≡ none
unfolding case_type by_parts
no_parts_none s γ body n = go (parts_of s γ)
  where
    go : (p : Parts s γ) → by_parts none p body ≡ none
    go (has_parts α β f) = absurd (n α β f)
    go (no_parts m) = refl

case_none : {s : Shape} (o : Option LinType) {γ α β : LinType} (body : LinType → LinType → Option LinType) → o ≡ some γ → Fig10 s γ α β → body α β ≡ none →
    case_type s o body ≡ none
unfolding case_type
case_none o body p f e = rw p (components_at none body f ∙ e)

offence_complete : {τ : TypeNumbers} {Δ : List LinType} {e : Exp} → Offence τ Δ e → type_of τ Δ e ≡ none
unfolding type_of applied_type lambda_type case_type on_type
offence_complete {τ} {Δ} (applies_no_function {f = f} {a = a} {γ = γ} p n) = rw p (applied_type_no_function γ (type_of τ Δ a) n)
offence_complete (argument_differs {α = α} {α' = α'} p q n) = rw (p, q) (rw (different_test α' α n) refl)
offence_complete (body_differs {β = β} {β' = β'} p q n) = rw p (rw q (rw (different_test β' β n) refl))
offence_complete (inside_function o) = rw (offence_complete o) refl
offence_complete {τ} {Δ} (inside_argument {f = f} o) = rw (offence_complete o) (applied_type_none (type_of τ Δ f))
offence_complete (inside_body p o) = rw p (rw (offence_complete o) refl)
offence_complete {τ} {Δ} (first_differs {e₁ = e₁} {α = α} {α' = α'} p f q n) = both_none _ _ _ p f (rw q (rw (different_test α' α n) refl))
offence_complete {τ} {Δ} (second_differs {e₁ = e₁} {α = α} {β = β} {β' = β'} p f q n) =
    both_none _ _ _ p f (false_right (on_type (type_of τ Δ e₁) (λ α'. same_type α' α)) (rw q (different_test β' β n)))
offence_complete {τ} {Δ} (subject_differs {s = s} {e₂ = e₂} {γ = γ} p n) = rw p (no_parts_none s γ (λ α β. type_of τ (β ∷ α ∷ Δ) e₂) n)
offence_complete (inside_first o) = both_type_none _ _ _ _ (inl (offence_complete o))
offence_complete (inside_second o) = both_type_none _ _ _ _ (inr (offence_complete o))
offence_complete (inside_subject o) = rw (offence_complete o) refl
offence_complete {τ} {Δ} (inside_case {e₂ = e₂} p f o) = case_none _ (λ α β. type_of τ (β ∷ α ∷ Δ) e₂) p f (offence_complete o)

pub offence_iff : (τ : TypeNumbers) (b : ℕ) (Δ : List LinType) (e : Exp) → τ_scoped τ b (length Δ) e ≡ true → τ_annotated τ e ≡ true →
    (type_of τ Δ e ≡ none) ↔ Offence τ Δ e
offence_iff τ b Δ e s a = (offence_sound τ b Δ e s a, offence_complete)
