-- The tests of causes 7 to 11, on types, accept exactly the terms that have a derivation.
use Rattle.std.proofs.Common.{◌∙◌, ap, sym, arith}
use Rattle.std.specs.Prelude.{◌≡◌, refl, ◌↔◌, Bool, ◌&&◌, cond, false, true, List, [], ◌∷◌, ◌+◌, ◌≤◌, suc, zero, ℕ, eqb, ltb, length}
use Rattle.std.proofs.lemmas.Bool.{false≢true}
use Rattle.std.proofs.Math.Option.{Option, none-ne-some, some-injective, none, some}
use Rattle.calculus.specs.Types.{Multiplicity, once, many, LinType, unit_type, num_type, ref, fun, pair_type, list_type, multiplicity}
use Rattle.calculus.specs.Syntax.{Shape, Exp, var, name, const, lam, app, both, case_of, at}
use Rattle.calculus.specs.Typing.{TypeNumbers, NameTypes, Fig10, Env, Split, Derivation, d_const, d_name, d_var, d_many, d_once, d_app, d_both, d_case}
use Rattle.calculus.specs.Names.{uses, OnceName}
use Rattle.calculus.specs.Recipe.{setting_types}
use Rattle.calculus.proofs.Theory.TypeTests.{same_multiplicity, same_type, τ_is_many_type, τ_on_function, Parts, has_parts, no_parts, parts_of, by_parts, τ_with_components, on_type, τ_in_table, τ_scoped, τ_annotated, applied_type, lambda_type, both_type, case_type, type_of, is_once_lambda, τ_outside_many, τ_linear_variable, τ_linear, AcceptedByType}
use Rattle.calculus.proofs.Theory.Tests.{and_true, and_parts, eqb_sound, eqb_complete, eqb_differ, ltb_sound, ltb_complete, once_not_many, same_type_sound, same_type_refl, is_many_type_sound, is_many_type_complete}
use Rattle.calculus.proofs.Theory.Lists.{at_replicate, replicate_at}
use Rattle.calculus.proofs.Theory.Environments.{Due, due_is_one, due_tail, due_head, only_bound, split_lengths, Covers, covers_nil, covers_some, covers_split, covers_only, covers_length}
use Rattle.calculus.proofs.Theory.Expressions.{all_due}
use Rattle.calculus.proofs.Theory.Constants.{on_type_parts, on_type_at, on_type_is, components_parts, components_at, const_sound, const_scoped, const_annotated, const_type_of}
use Rattle.calculus.proofs.Theory.Usage.{present, environment_by, environment_of, EachOnce, no_once_environment, split_environment, only_environment, covered_environment, covered_unused, covered_at_most_once, covers_environment}

-- the types of applications and lambdas
pub applied_type_parts : (f a : Option LinType) {β : LinType} → applied_type f a ≡ some β →
    (κ : Multiplicity) × (α : LinType) × (f ≡ some (fun κ α β)) × (a ≡ some α)
unfolding applied_type
applied_type_parts none a {β} e = absurd (none-ne-some β e)
applied_type_parts (some unit_type) a {β} e = absurd (none-ne-some β e)
applied_type_parts (some num_type) a {β} e = absurd (none-ne-some β e)
applied_type_parts (some (ref α)) a {β} e = absurd (none-ne-some β e)
applied_type_parts (some (pair_type κ α γ)) a {β} e = absurd (none-ne-some β e)
applied_type_parts (some (list_type κ α)) a {β} e = absurd (none-ne-some β e)
applied_type_parts (some (fun κ α γ)) none {β} e = absurd (none-ne-some β e)
applied_type_parts (some (fun κ α γ)) (some α') {β} e = go (same_type α' α) refl e
  where
    go : (t : Bool) → same_type α' α ≡ t → cond t (some γ) none ≡ some β →
        (κ₁ : Multiplicity) × (α₁ : LinType) × (some (fun κ α γ) ≡ some (fun κ₁ α₁ β)) × (some α' ≡ some α₁)
    go true t e = (κ, α, cc, ap some (same_type_sound α' α t))
    go false t e = absurd (none-ne-some β e)

applied_type_at : (f a : Option LinType) {κ : Multiplicity} {α β : LinType} → f ≡ some (fun κ α β) → a ≡ some α → applied_type f a ≡ some β
unfolding applied_type
applied_type_at f a {κ} {α} {β} p q = rw (p, q) (rw (same_type_refl α) refl)

pub lambda_type_parts : (o : Option LinType) (body : LinType → Option LinType) {γ : LinType} → lambda_type o body ≡ some γ →
    (κ : Multiplicity) × (α : LinType) × (β : LinType) × (o ≡ some γ) × (γ ≡ fun κ α β) × (body α ≡ some β)
unfolding lambda_type
lambda_type_parts none body {γ} e = absurd (none-ne-some γ e)
lambda_type_parts (some unit_type) body {γ} e = absurd (none-ne-some γ e)
lambda_type_parts (some num_type) body {γ} e = absurd (none-ne-some γ e)
lambda_type_parts (some (ref α)) body {γ} e = absurd (none-ne-some γ e)
lambda_type_parts (some (pair_type κ α β)) body {γ} e = absurd (none-ne-some γ e)
lambda_type_parts (some (list_type κ α)) body {γ} e = absurd (none-ne-some γ e)
lambda_type_parts (some (fun κ α β)) body {γ} e = go (on_type (body α) (λ β'. same_type β' β)) refl e
  where
    go : (t : Bool) → on_type (body α) (λ β'. same_type β' β) ≡ t → cond t (some (fun κ α β)) none ≡ some γ →
        (κ₁ : Multiplicity) × (α₁ : LinType) × (β₁ : LinType) × (some (fun κ α β) ≡ some γ) × (γ ≡ fun κ₁ α₁ β₁) × (body α₁ ≡ some β₁)
    go true t e =
        let (β', p, q) = on_type_parts (body α) _ t in
        (κ, α, β, e, cc, p ∙ ap some (same_type_sound β' β q))
    go false t e = absurd (none-ne-some γ e)

lambda_type_at : (o : Option LinType) (body : LinType → Option LinType) {κ : Multiplicity} {α β : LinType} →
    o ≡ some (fun κ α β) → body α ≡ some β → lambda_type o body ≡ some (fun κ α β)
unfolding lambda_type on_type
lambda_type_at o body {κ} {α} {β} p q = rw p (rw q (rw (same_type_refl β) refl))

-- the types of pairs, list fronts and cases
cond_some : {γ δ : LinType} (t : Bool) → cond t (some γ) none ≡ some δ → (t ≡ true) × (γ ≡ δ)
cond_some true e = (refl, cc)
cond_some {δ = δ} false e = absurd (none-ne-some δ e)

has_type : (o : Option LinType) (α : LinType) → on_type o (λ α'. same_type α' α) ≡ true → o ≡ some α
has_type o α e = let (α', p, q) = on_type_parts o _ e in p ∙ ap some (same_type_sound α' α q)

type_has : (o : Option LinType) (α : LinType) → o ≡ some α → on_type o (λ α'. same_type α' α) ≡ true
type_has o α p = on_type_at o _ p (same_type_refl α)

same_parts : {s : Shape} {α β γ δ : LinType} → γ ≡ δ → Fig10 s γ α β → Fig10 s δ α β
same_parts p f = rw p at f

pub both_type_parts : (s : Shape) (o o₁ o₂ : Option LinType) {γ : LinType} → both_type s o o₁ o₂ ≡ some γ →
    (α β : LinType) × (o ≡ some γ) × Fig10 s γ α β × (o₁ ≡ some α) × (o₂ ≡ some β)
unfolding both_type
both_type_parts s none o₁ o₂ {γ} e = absurd (none-ne-some γ e)
both_type_parts s (some δ) o₁ o₂ {γ} e =
    let (t, p) = cond_some (τ_with_components false s δ λ α β. on_type o₁ (λ α'. same_type α' α) && on_type o₂ (λ β'. same_type β' β)) e in
    let (α, β, f, q) = components_parts s δ _ t in
    let (q₁, q₂) = and_parts (on_type o₁ (λ α'. same_type α' α)) _ q in
    (α, β, ap some p, same_parts p f, has_type o₁ α q₁, has_type o₂ β q₂)

both_type_at : {s : Shape} (o o₁ o₂ : Option LinType) {α β γ : LinType} → o ≡ some γ → Fig10 s γ α β → o₁ ≡ some α → o₂ ≡ some β → both_type s o o₁ o₂ ≡ some γ
unfolding both_type
both_type_at o o₁ o₂ {α} {β} p f p₁ p₂ = rw p (rw (components_at false _ f, type_has o₁ α p₁, type_has o₂ β p₂) refl)

pub case_type_parts : (s : Shape) (o : Option LinType) (body : LinType → LinType → Option LinType) {δ : LinType} → case_type s o body ≡ some δ →
    (α β γ : LinType) × (o ≡ some γ) × Fig10 s γ α β × (body α β ≡ some δ)
unfolding case_type by_parts
case_type_parts s none body {δ} e = absurd (none-ne-some δ e)
case_type_parts s (some γ) body {δ} e = go (parts_of s γ) e
  where
    go : (p : Parts s γ) → by_parts none p body ≡ some δ → (α β γ' : LinType) × (some γ ≡ some γ') × Fig10 s γ' α β × (body α β ≡ some δ)
    go (has_parts α β f) e = (α, β, γ, refl, f, e)
    go (no_parts n) e = absurd (none-ne-some δ e)

case_type_at : {s : Shape} (o : Option LinType) (body : LinType → LinType → Option LinType) {α β γ : LinType} → o ≡ some γ → Fig10 s γ α β →
    case_type s o body ≡ body α β
unfolding case_type
case_type_at o body p f = rw p (components_at none body f)

-- how often a variable stands in itself, and in another
pub uses_self : (i : ℕ) → uses i (var i) ≡ 1
unfolding uses
uses_self i = rw (eqb_complete i i refl)

pub uses_other : (i j : ℕ) → ¬ (j ≡ i) → uses j (var i) ≡ 0
unfolding uses
uses_other i j n = rw (eqb_differ i j (λ e. n (sym e)))

-- a variable that does not stand in e stands under no many-lambda of it
pub unused_outside : (τ : TypeNumbers) (i : ℕ) (e : Exp) → uses i e ≡ 0 → τ_outside_many τ i e ≡ true
unfolding uses τ_outside_many
unused_outside τ i (var j) z = refl
unused_outside τ i (name k) z = refl
unused_outside τ i (const c) z = refl
unused_outside τ i (lam t e) z = go (is_once_lambda τ t) (unused_outside τ (suc i) e z)
  where
    go : (o : Bool) → τ_outside_many τ (suc i) e ≡ true → cond o (τ_outside_many τ (suc i) e) (eqb (uses (suc i) e) 0) ≡ true
    go true h = h
    go false h = eqb_complete (uses (suc i) e) 0 z
unused_outside τ i (app f a) z = and_true (unused_outside τ i f (omega arith)) (unused_outside τ i a (omega arith))
unused_outside τ i (both s t e₁ e₂) z = and_true (unused_outside τ i e₁ (omega arith)) (unused_outside τ i e₂ (omega arith))
unused_outside τ i (case_of s e₁ e₂) z = and_true (unused_outside τ i e₁ (omega arith)) (unused_outside τ (suc (suc i)) e₂ (omega arith))

-- a lambda's type is read
pub on_function_type_at : (o : Option LinType) (test : Multiplicity → LinType → LinType → Bool) {κ : Multiplicity} {α β : LinType} → o ≡ some (fun κ α β) →
    on_type o (λ γ. τ_on_function γ test) ≡ test κ α β
unfolding on_type τ_on_function
on_function_type_at o test p = rw p

is_once_lambda_at : (τ : TypeNumbers) (t : ℕ) {κ : Multiplicity} {α β : LinType} → τ t ≡ some (fun κ α β) → is_once_lambda τ t ≡ same_multiplicity κ once
unfolding is_once_lambda
is_once_lambda_at τ t p = on_function_type_at (τ t) _ p

-- what the test of a variable says
linear_variable_parts : (τ : TypeNumbers) (i : ℕ) (α : LinType) (e : Exp) → τ_linear_variable τ i α e ≡ true → multiplicity α ≡ once →
    (uses i e ≡ 1) × (τ_outside_many τ i e ≡ true)
unfolding τ_linear_variable
linear_variable_parts τ i α e l m =
    let (p, q) = and_parts (eqb (uses i e) 1) (τ_outside_many τ i e) (rw m at l) in
    (eqb_sound (uses i e) 1 p, q)

variable_present : (τ : TypeNumbers) (i : ℕ) (α : LinType) (e : Exp) → τ_linear_variable τ i α e ≡ true → present (multiplicity α) (uses i e) α ≡ some α
variable_present τ i α e l = go (multiplicity α) refl
  where
    go : (κ : Multiplicity) → multiplicity α ≡ κ → present κ (uses i e) α ≡ some α
    go many m = refl
    go once m = rw (linear_variable_parts τ i α e l m).0

-- every once-variable of Δ stands in e at most once, and under no many-lambda
abbrev pub Shared : TypeNumbers → List LinType → Exp → Type 0
Shared τ Δ e = EachOnce Δ (λ i. (uses i e ≤ 1) × (τ_outside_many τ i e ≡ true))

outside_many_body : (τ : TypeNumbers) (i t : ℕ) (e : Exp) (κ : Multiplicity) → is_once_lambda τ t ≡ same_multiplicity κ once → τ_outside_many τ i (lam t e) ≡ true →
    τ_outside_many τ (suc i) e ≡ true
unfolding τ_outside_many
outside_many_body τ i t e once p h = rw p at h
outside_many_body τ i t e many p h = unused_outside τ (suc i) e (eqb_sound _ 0 (rw p at h))

unused_under_many : (τ : TypeNumbers) (i t : ℕ) (e : Exp) → is_once_lambda τ t ≡ false → τ_outside_many τ i (lam t e) ≡ true → uses (suc i) e ≡ 0
unfolding τ_outside_many
unused_under_many τ i t e p h = eqb_sound _ 0 (rw p at h)

-- one more variable
each_once_more : (α : LinType) (Δ : List LinType) (P : ℕ → Type 0) → (multiplicity α ≡ once → P 0) → EachOnce Δ (λ i. P (suc i)) → EachOnce (α ∷ Δ) P
each_once_more α Δ P h r zero δ q m = let p : α ≡ δ = some-injective α δ q in h (rw p m)
each_once_more α Δ P h r (suc i) δ q m = r i δ q m

shared_variable : (τ : TypeNumbers) (i : ℕ) (α : LinType) (e : Exp) → τ_linear_variable τ i α e ≡ true → multiplicity α ≡ once →
    (uses i e ≤ 1) × (τ_outside_many τ i e ≡ true)
shared_variable τ i α e l m = let (u, o) = linear_variable_parts τ i α e l m in (omega arith, o)

shared_body : (τ : TypeNumbers) (Δ : List LinType) (t : ℕ) (e : Exp) {κ : Multiplicity} {α β : LinType} → τ t ≡ some (fun κ α β) →
    Shared τ Δ (lam t e) → τ_linear_variable τ 0 α e ≡ true → Shared τ (α ∷ Δ) e
unfolding uses
shared_body τ Δ t e {κ} {α} p h l = each_once_more α Δ _ (shared_variable τ 0 α e l)
    (λ i δ q m. let (u, o) = h i δ q m in (u, outside_many_body τ i t e κ (is_once_lambda_at τ t p) o))

-- A node with two subterms splits the variables of Δ between them: u and v say how often each is used there, o and p that it stands under no many-lambda.
-- In a case's body variable i of Δ has number i + 2.
between : (Δ : List LinType) (u v : ℕ → ℕ) (o p : ℕ → Bool) → EachOnce Δ (λ i. (u i + v i ≤ 1) × ((o i && p i) ≡ true)) →
    Split (environment_by Δ (λ i. u i + v i)) (environment_by Δ u) (environment_by Δ v) ×
    EachOnce Δ (λ i. (u i ≤ 1) × (o i ≡ true)) × EachOnce Δ (λ i. (v i ≤ 1) × (p i ≡ true))
between Δ u v o p h = (
  split_environment Δ u v (λ i. u i + v i) (λ i. refl) (λ i δ q m. (h i δ q m).0),
  (λ i δ q m. let (l, a) = h i δ q m in (omega arith, (and_parts (o i) (p i) a).0)),
  (λ i δ q m. let (l, a) = h i δ q m in (omega arith, (and_parts (o i) (p i) a).1)),
)

-- the settings' types
setting_types_at : (b k : ℕ) → ltb k b ≡ true → at (setting_types b) k ≡ some (ref num_type)
setting_types_at b k e = replicate_at b (ref num_type) k (ltb_sound k b e)

setting_types_below : (b k : ℕ) {α : LinType} → at (setting_types b) k ≡ some α → (ltb k b ≡ true) × (α ≡ ref num_type)
setting_types_below b k e = let p = at_replicate b (ref num_type) k e in (ltb_complete k b p.0, p.1)

-- what passes the tests has a derivation
lambda_sound : (τ : TypeNumbers) (Σ : NameTypes) (Δ : List LinType) (t : ℕ) (e : Exp) (κ : Multiplicity) {α β : LinType} → τ t ≡ some (fun κ α β) →
    Shared τ Δ (lam t e) → Derivation τ Σ (some α ∷ environment_of Δ (lam t e)) e β → Derivation τ Σ (environment_of Δ (lam t e)) (lam t e) (fun κ α β)
unfolding uses
lambda_sound τ Σ Δ t e once p h d = d_once p d
lambda_sound τ Σ Δ t e many p h d =
    d_many p (no_once_environment Δ (λ i. uses i (lam t e)) (λ i δ q m. unused_under_many τ i t e (is_once_lambda_at τ t p) (h i δ q m).1)) d

pub tests_sound : (τ : TypeNumbers) (b : ℕ) (Δ : List LinType) (e : Exp) {γ : LinType} → τ_scoped τ b (length Δ) e ≡ true → τ_annotated τ e ≡ true →
    type_of τ Δ e ≡ some γ → τ_linear τ Δ e ≡ true → Shared τ Δ e → Derivation τ (setting_types b) (environment_of Δ e) e γ
unfolding τ_scoped τ_annotated type_of τ_linear τ_outside_many uses
tests_sound τ b Δ (var i) s a y l h = d_var (only_environment Δ i (λ j. uses j (var i)) y (uses_self i) (λ j n. uses_other i j n))
tests_sound τ b Δ (name k) {γ} s a y l h =
    d_name (no_once_environment Δ (λ i. 0) (λ i δ q m. refl)) (setting_types_at b k s ∙ y)
tests_sound τ b Δ (const c) s a y l h = d_const (no_once_environment Δ (λ i. 0) (λ i δ q m. refl)) (const_sound τ c a y)
tests_sound τ b Δ (lam t e) {γ} s a y l h =
    let (κ, α, β, p, q, r) = lambda_type_parts (τ t) (λ α. type_of τ (α ∷ Δ) e) y in
    let p' : τ t ≡ some (fun κ α β) = p ∙ ap some q in
    let (l₁, l₂) = and_parts (τ_linear_variable τ 0 α e) (τ_linear τ (α ∷ Δ) e) (sym (on_function_type_at (τ t) _ p') ∙ l) in
    let d : Derivation τ (setting_types b) (environment_of (α ∷ Δ) e) e β =
    tests_sound τ b (α ∷ Δ) e (and_parts (τ_in_table τ t) _ s).1 (and_parts (on_type (τ t) _) _ a).1 r l₂ (shared_body τ Δ t e p' h l₁) in
    rw q (lambda_sound τ (setting_types b) Δ t e κ p' h (rw (variable_present τ 0 α e l₁) at d))
tests_sound τ b Δ (app f a₁) {γ} s a y l h =
    let (κ, α, p, q) = applied_type_parts (type_of τ Δ f) (type_of τ Δ a₁) y in
    let (s₁, s₂) = and_parts (τ_scoped τ b (length Δ) f) _ s in
    let (a₂, a₃) = and_parts (τ_annotated τ f) _ a in
    let (l₁, l₂) = and_parts (τ_linear τ Δ f) _ l in
    let (r, h₁, h₂) = between Δ (λ i. uses i f) (λ i. uses i a₁) (λ i. τ_outside_many τ i f) (λ i. τ_outside_many τ i a₁) h in
    d_app r (tests_sound τ b Δ f s₁ a₂ p l₁ h₁) (tests_sound τ b Δ a₁ s₂ a₃ q l₂ h₂)
tests_sound τ b Δ (both sh t e₁ e₂) {γ} s a y l h =
    let (α, β, p, f, q₁, q₂) = both_type_parts sh (τ t) (type_of τ Δ e₁) (type_of τ Δ e₂) y in
    let (s₁, s₂) = and_parts (τ_scoped τ b (length Δ) e₁) _ (and_parts (τ_in_table τ t) _ s).1 in
    let (a₁, a₂) = and_parts (τ_annotated τ e₁) _ (and_parts (on_type (τ t) _) _ a).1 in
    let (l₁, l₂) = and_parts (τ_linear τ Δ e₁) _ l in
    let (r, h₁, h₂) = between Δ (λ i. uses i e₁) (λ i. uses i e₂) (λ i. τ_outside_many τ i e₁) (λ i. τ_outside_many τ i e₂) h in
    d_both p f r (tests_sound τ b Δ e₁ s₁ a₁ q₁ l₁ h₁) (tests_sound τ b Δ e₂ s₂ a₂ q₂ l₂ h₂)
tests_sound τ b Δ (case_of sh e₁ e₂) {γ = δ} s a y l h =
    let (α, β, γ, p, f, q) = case_type_parts sh (type_of τ Δ e₁) (λ α β. type_of τ (β ∷ α ∷ Δ) e₂) y in
    let (s₁, s₂) = and_parts (τ_scoped τ b (length Δ) e₁) _ s in
    let (a₁, a₂) = and_parts (τ_annotated τ e₁) _ a in
    let (l₁, l₂) = and_parts (τ_linear τ Δ e₁) _ l in
    let (vs, l₃) = and_parts (τ_linear_variable τ 0 β e₂ && τ_linear_variable τ 1 α e₂) (τ_linear τ (β ∷ α ∷ Δ) e₂)
    (sym (on_type_is (type_of τ Δ e₁) _ p ∙ components_at false _ f) ∙ l₂) in
    let (v₀, v₁) = and_parts (τ_linear_variable τ 0 β e₂) (τ_linear_variable τ 1 α e₂) vs in
    let (r, h₁, h₂) = between Δ (λ i. uses i e₁) (λ i. uses (suc (suc i)) e₂) (λ i. τ_outside_many τ i e₁) (λ i. τ_outside_many τ (suc (suc i)) e₂) h in
    let d : Derivation τ (setting_types b) (environment_of (β ∷ α ∷ Δ) e₂) e₂ δ =
    tests_sound τ b (β ∷ α ∷ Δ) e₂ s₂ a₂ q l₃
    (each_once_more β (α ∷ Δ) _ (shared_variable τ 0 β e₂ v₀) (each_once_more α Δ _ (shared_variable τ 1 α e₂ v₁) h₂)) in
    d_case f r (tests_sound τ b Δ e₁ s₁ a₁ p l₁ h₁) (rw (variable_present τ 0 β e₂ v₀, variable_present τ 1 α e₂ v₁) at d)

-- the environment of a derivation is the one by use
pub derivation_environment : {τ : TypeNumbers} {Σ : NameTypes} {Δ : List LinType} {Γ : Env} {e : Exp} {γ : LinType} → Covers Δ Γ → Derivation τ Σ Γ e γ → environment_of Δ e ≡ Γ
derivation_environment c d = covered_environment c (all_due d)

-- of a term with a derivation, cause 7 does not fit
pub derivation_scoped : {τ : TypeNumbers} (b : ℕ) {Γ : Env} {e : Exp} {γ : LinType} → Derivation τ (setting_types b) Γ e γ → τ_scoped τ b (length Γ) e ≡ true
unfolding τ_scoped τ_in_table
derivation_scoped b (d_const w t) = const_scoped t
derivation_scoped b (d_name {k = k} w p) = (setting_types_below b k p).0
derivation_scoped b {Γ} (d_var {i = i} o) = ltb_complete i (length Γ) (only_bound o)
derivation_scoped b (d_many p w d) = and_true (on_type_at _ _ p refl) (derivation_scoped b d)
derivation_scoped b (d_once p d) = and_true (on_type_at _ _ p refl) (derivation_scoped b d)
derivation_scoped b (d_app s d₁ d₂) =
    and_true (rw (split_lengths s).0 at (derivation_scoped b d₁)) (rw (split_lengths s).1 at (derivation_scoped b d₂))
derivation_scoped b (d_both p f s d₁ d₂) =
    and_true (on_type_at _ _ p refl) (and_true (rw (split_lengths s).0 at (derivation_scoped b d₁)) (rw (split_lengths s).1 at (derivation_scoped b d₂)))
derivation_scoped b (d_case f s d₁ d₂) =
    and_true (rw (split_lengths s).0 at (derivation_scoped b d₁)) (rw (split_lengths s).1 at (derivation_scoped b d₂))

-- of a term with a derivation, cause 8 does not fit
pub derivation_annotated : {τ : TypeNumbers} {Σ : NameTypes} {Γ : Env} {e : Exp} {γ : LinType} → Derivation τ Σ Γ e γ → τ_annotated τ e ≡ true
unfolding τ_annotated
derivation_annotated (d_const w t) = const_annotated t
derivation_annotated (d_name w p) = refl
derivation_annotated (d_var o) = refl
derivation_annotated (d_many p w d) = and_true (on_function_type_at _ _ p) (derivation_annotated d)
derivation_annotated (d_once p d) = and_true (on_function_type_at _ _ p) (derivation_annotated d)
derivation_annotated (d_app s d₁ d₂) = and_true (derivation_annotated d₁) (derivation_annotated d₂)
derivation_annotated (d_both p f s d₁ d₂) =
    and_true (on_type_at _ _ p (components_at false _ f)) (and_true (derivation_annotated d₁) (derivation_annotated d₂))
derivation_annotated (d_case f s d₁ d₂) = and_true (derivation_annotated d₁) (derivation_annotated d₂)

-- of a term with a derivation, cause 9 does not fit
pub derivation_type_of : {τ : TypeNumbers} (b : ℕ) {Δ : List LinType} {Γ : Env} {e : Exp} {γ : LinType} → Covers Δ Γ → Derivation τ (setting_types b) Γ e γ →
    type_of τ Δ e ≡ some γ
unfolding type_of
derivation_type_of b c (d_const w t) = const_type_of t
derivation_type_of b c (d_name {k = k} w p) = ap some (sym (setting_types_below b k p).1)
derivation_type_of b c (d_var o) = covers_only c o
derivation_type_of b c (d_many p w d) = lambda_type_at _ _ p (derivation_type_of b (covers_some c) d)
derivation_type_of b c (d_once p d) = lambda_type_at _ _ p (derivation_type_of b (covers_some c) d)
derivation_type_of b c (d_app s d₁ d₂) =
    applied_type_at _ _ (derivation_type_of b (covers_split c s).0 d₁) (derivation_type_of b (covers_split c s).1 d₂)
derivation_type_of b c (d_both p f s d₁ d₂) =
    both_type_at _ _ _ p f (derivation_type_of b (covers_split c s).0 d₁) (derivation_type_of b (covers_split c s).1 d₂)
derivation_type_of b c (d_case f s d₁ d₂) =
    case_type_at _ _ (derivation_type_of b (covers_split c s).0 d₁) f ∙ derivation_type_of b (covers_some (covers_some (covers_split c s).1)) d₂

-- of a term with a derivation, cause 10 does not fit
outside_many_unused : (τ : TypeNumbers) (i t : ℕ) (e : Exp) → is_once_lambda τ t ≡ false → uses (suc i) e ≡ 0 → τ_outside_many τ i (lam t e) ≡ true
unfolding τ_outside_many
outside_many_unused τ i t e p z = rw p (eqb_complete (uses (suc i) e) 0 z)

outside_once_lambda : (τ : TypeNumbers) (i t : ℕ) (e : Exp) → is_once_lambda τ t ≡ true → τ_outside_many τ (suc i) e ≡ true → τ_outside_many τ i (lam t e) ≡ true
unfolding τ_outside_many
outside_once_lambda τ i t e p z = rw p z

pub derivation_outside : {τ : TypeNumbers} {Σ : NameTypes} {Δ : List LinType} {Γ : Env} {e : Exp} {γ : LinType} → Covers Δ Γ → Derivation τ Σ Γ e γ →
    EachOnce Δ (λ i. τ_outside_many τ i e ≡ true)
unfolding τ_outside_many uses
derivation_outside c (d_const w t) i δ q m = refl
derivation_outside c (d_name w p) i δ q m = refl
derivation_outside c (d_var o) i δ q m = refl
derivation_outside {τ} c (d_many {t = t} {e = e} p w d) i δ q m =
    outside_many_unused τ i t e (is_once_lambda_at τ t p) (covered_unused c w (due_tail (all_due d)) i δ q m)
derivation_outside {τ} c (d_once {t = t} {e = e} p d) i δ q m =
    outside_once_lambda τ i t e (is_once_lambda_at τ t p) (derivation_outside (covers_some c) d (suc i) δ q m)
derivation_outside c (d_app s d₁ d₂) i δ q m =
    and_true (derivation_outside (covers_split c s).0 d₁ i δ q m) (derivation_outside (covers_split c s).1 d₂ i δ q m)
derivation_outside c (d_both p f s d₁ d₂) i δ q m =
    and_true (derivation_outside (covers_split c s).0 d₁ i δ q m) (derivation_outside (covers_split c s).1 d₂ i δ q m)
derivation_outside c (d_case f s d₁ d₂) i δ q m =
    and_true (derivation_outside (covers_split c s).0 d₁ i δ q m) (derivation_outside (covers_some (covers_some (covers_split c s).1)) d₂ (suc (suc i)) δ q m)

linear_variable_at : (τ : TypeNumbers) (i : ℕ) (α : LinType) (e : Exp) → (multiplicity α ≡ once → (uses i e ≡ 1) × (τ_outside_many τ i e ≡ true)) →
    τ_linear_variable τ i α e ≡ true
unfolding τ_linear_variable
linear_variable_at τ i α e h = go (multiplicity α) refl
  where
    go : (κ : Multiplicity) → multiplicity α ≡ κ → cond (same_multiplicity κ many) true (eqb (uses i e) 1 && τ_outside_many τ i e) ≡ true
    go many m = refl
    go once m = and_true (eqb_complete (uses i e) 1 (h m).0) (h m).1

derivation_variable : {τ : TypeNumbers} {Σ : NameTypes} {Δ : List LinType} {Γ : Env} (e : Exp) {γ : LinType} → Covers Δ Γ → Derivation τ Σ Γ e γ → (i : ℕ) (α : LinType) →
    at Δ i ≡ some α → Due (some α) (uses i e) → τ_linear_variable τ i α e ≡ true
derivation_variable {τ} e c d i α p u = linear_variable_at τ i α e (λ m. (due_is_one m u, derivation_outside c d i α p m))

pub derivation_linear : {τ : TypeNumbers} (b : ℕ) {Δ : List LinType} {Γ : Env} {e : Exp} {γ : LinType} → Covers Δ Γ → Derivation τ (setting_types b) Γ e γ →
    τ_linear τ Δ e ≡ true
unfolding τ_linear
derivation_linear b c (d_const w t) = refl
derivation_linear b c (d_name w p) = refl
derivation_linear b c (d_var o) = refl
derivation_linear b c (d_many {e = e} {α = α} p w d) =
    on_function_type_at _ _ p ∙ and_true (derivation_variable e (covers_some c) d 0 α refl (due_head (all_due d))) (derivation_linear b (covers_some c) d)
derivation_linear b c (d_once {e = e} {α = α} p d) =
    on_function_type_at _ _ p ∙ and_true (derivation_variable e (covers_some c) d 0 α refl (due_head (all_due d))) (derivation_linear b (covers_some c) d)
derivation_linear b c (d_app s d₁ d₂) = and_true (derivation_linear b (covers_split c s).0 d₁) (derivation_linear b (covers_split c s).1 d₂)
derivation_linear b c (d_both p f s d₁ d₂) = and_true (derivation_linear b (covers_split c s).0 d₁) (derivation_linear b (covers_split c s).1 d₂)
derivation_linear b c (d_case {e₂ = e₂} {α = α} {β = β} f s d₁ d₂) =
    let c₂ = covers_some (covers_some (covers_split c s).1) in
    and_true (derivation_linear b (covers_split c s).0 d₁) ((on_type_is _ _ (derivation_type_of b (covers_split c s).0 d₁) ∙ components_at false _ f) ∙
    and_true (and_true (derivation_variable e₂ c₂ d₂ 0 β refl (due_head (all_due d₂))) (derivation_variable e₂ c₂ d₂ 1 α refl (due_head (due_tail (all_due d₂)))))
    (derivation_linear b c₂ d₂))

-- The tests of an open expression, where Δ has the types of the variables in scope, hold exactly where it has a derivation in the environment of
-- those that it uses; and a derivation in any environment of Δ is one in that environment (`derivation_environment`).
pub record Checks (τ : TypeNumbers) (b : ℕ) (Δ : List LinType) (e : Exp) (γ : LinType) : Type 0 where
  pub in_scope : τ_scoped τ b (length Δ) e ≡ true
  pub instances : τ_annotated τ e ≡ true
  pub typed : type_of τ Δ e ≡ some γ
  pub linear_inside : τ_linear τ Δ e ≡ true
  pub shared : Shared τ Δ e

pub derivation_checks : {τ : TypeNumbers} (b : ℕ) {Δ : List LinType} {Γ : Env} {e : Exp} {γ : LinType} → Covers Δ Γ → Derivation τ (setting_types b) Γ e γ → Checks τ b Δ e γ
derivation_checks b c d = record {
  in_scope = rw (covers_length c) at (derivation_scoped b d);
  instances = derivation_annotated d;
  typed = derivation_type_of b c d;
  linear_inside = derivation_linear b c d;
  shared = λ i δ q m. (covered_at_most_once c (all_due d) i δ q m, derivation_outside c d i δ q m);
}

pub checks_iff : (τ : TypeNumbers) (b : ℕ) (Δ : List LinType) (e : Exp) (γ : LinType) → Checks τ b Δ e γ ↔ Derivation τ (setting_types b) (environment_of Δ e) e γ
checks_iff τ b Δ e γ = (
  (λ k. tests_sound τ b Δ e k.in_scope k.instances k.typed k.linear_inside k.shared),
  (λ d. derivation_checks b (covers_environment Δ (λ i. uses i e)) d),
)

-- The tests accept exactly the terms that have a derivation of a many type.
pub accepted_by_type_iff : (τ : TypeNumbers) (b : ℕ) (e : Exp) (α : LinType) → AcceptedByType τ b e α ↔ (Derivation τ (setting_types b) [] e α × (multiplicity α ≡ many))
accepted_by_type_iff τ b e α = (there, back)
  where
    there : AcceptedByType τ b e α → Derivation τ (setting_types b) [] e α × (multiplicity α ≡ many)
    there a = (tests_sound τ b [] e a.no_cause_7 a.no_cause_8 a.no_cause_9 a.no_cause_10 (λ i δ q m. absurd (none-ne-some δ q)), is_many_type_sound α a.no_cause_11)

    back : Derivation τ (setting_types b) [] e α × (multiplicity α ≡ many) → AcceptedByType τ b e α
    back d =
        let k = derivation_checks b covers_nil d.0 in
        record { no_cause_7 = k.in_scope; no_cause_8 = k.instances; no_cause_9 = k.typed; no_cause_10 = k.linear_inside; no_cause_11 = is_many_type_complete α d.1 }

-- all tests in one, and: a term has a derivation of a many type, or not
abbrev pub accepts : TypeNumbers → ℕ → Exp → Bool
accepts τ b e = τ_scoped τ b 0 e && (τ_annotated τ e && (τ_linear τ [] e && on_type (type_of τ [] e) τ_is_many_type))

accepts_sound : (τ : TypeNumbers) (b : ℕ) (e : Exp) → accepts τ b e ≡ true → (α : LinType) × AcceptedByType τ b e α
accepts_sound τ b e p =
    let (s, p₁) = and_parts (τ_scoped τ b 0 e) _ p in
    let (a, p₂) = and_parts (τ_annotated τ e) _ p₁ in
    let (l, p₃) = and_parts (τ_linear τ [] e) _ p₂ in
    let (α, y, m) = on_type_parts (type_of τ [] e) τ_is_many_type p₃ in
    (α, record { no_cause_7 = s; no_cause_8 = a; no_cause_9 = y; no_cause_10 = l; no_cause_11 = m })

accepts_complete : (τ : TypeNumbers) (b : ℕ) (e : Exp) {α : LinType} → AcceptedByType τ b e α → accepts τ b e ≡ true
accepts_complete τ b e a = and_true a.no_cause_7 (and_true a.no_cause_8 (and_true a.no_cause_10 (on_type_at (type_of τ [] e) τ_is_many_type a.no_cause_9 a.no_cause_11)))

pub derivable? : (τ : TypeNumbers) (b : ℕ) (e : Exp) → Dec ((α : LinType) × Derivation τ (setting_types b) [] e α × (multiplicity α ≡ many))
derivable? τ b e = go (accepts τ b e) refl
  where
    go : (t : Bool) → accepts τ b e ≡ t → Dec ((α : LinType) × Derivation τ (setting_types b) [] e α × (multiplicity α ≡ many))
    go true p = let (α, a) = accepts_sound τ b e p in let (d, m) = (accepted_by_type_iff τ b e α).0 a in yes (α, d, m)
    go false p = no (λ d. false≢true (sym p ∙ accepts_complete τ b e ((accepted_by_type_iff τ b e d.0).1 (d.1, d.2))))

-- no name of a recipe has a once type
pub setting_types_no_once : (b k : ℕ) → ¬ OnceName (setting_types b) k
setting_types_no_once b k o = once_not_many o.2 (ap multiplicity (setting_types_below b k o.1).1)
