-- What each answer of the verdict means: causes 7 to 11 told by their places, each answered exactly where it fits some bay and no lower one fits any.
use Rattle.std.proofs.Common.{◌∙◌, ap, sym, inl, inr}
use Rattle.std.specs.Prelude.{◌≡◌, ◌↔◌, Bool, ◌&&◌, cond, not, true, List, [], ◌∷◌, ◌<◌, suc, ℕ, eqb, ltb, length}
use Rattle.std.proofs.Math.Path.{refl}
use Rattle.std.proofs.Math.Bool.{false}
use Rattle.std.proofs.lemmas.Bool.{false≢true}
use Rattle.std.proofs.Math.Option.{Option, none-ne-some, none, some}
use Rattle.calculus.specs.Causes.{scope_cause, annotation_cause, type_cause, linearity_cause, bay_once_cause}
use Rattle.calculus.specs.Types.{Multiplicity, once, many, LinType, fun, multiplicity}
use Rattle.calculus.specs.Syntax.{Op, unit, num, op, Exp, var, name, const, lam, app, at, Shape, both, case_of}
use Rattle.calculus.specs.Typing.{TypeNumbers, of_op, Fig10}
use Rattle.calculus.specs.Names.{uses}
use Rattle.calculus.specs.Table.{Table, TableRule, type_at, is_many}
use Rattle.calculus.specs.Verdict.{scoped_const, scoped, annotated, on_number, type_number, linear, every, verdict}
use Rattle.calculus.proofs.Theory.TypeTests.{same_multiplicity, τ_is_many_type, on_type, τ_on_function, τ_annotated_const, τ_annotated, type_of, Offence, is_once_lambda, τ_outside_many, τ_linear, τ_with_components, τ_linear_variable}
use Rattle.calculus.proofs.Theory.Tests.{ltb_less_not, eqb_complete, eqb_differ, ltb_complete, and_false, false_left, false_right}
use Rattle.calculus.proofs.Theory.Constants.{on_type_parts, on_function_parts, Instance, instance_sound, const_annotated, on_type_at, on_type_is, components_parts, components_at}
use Rattle.calculus.proofs.Theory.Derivable.{on_function_type_at, unused_outside, case_type_parts, both_type_parts, applied_type_parts, lambda_type_parts}
use Rattle.calculus.proofs.Theory.Offences.{offence_iff}
use Rattle.calculus.proofs.Theory.Numbers.{many_agree, scoped_agree, annotated_agree, linear_agree, Same, same_none, same_some, same_nil, type_of_agree}
use Rattle.calculus.proofs.Theory.Verdict.{same_there, every_sound, on_number_parts}

-- a place in a term with something at it, where `depth` variables are bound around the term
pub data Somewhere (P : ℕ → Exp → Type 0) : ℕ → Exp → Type 0 where
  here : {depth : ℕ} {e : Exp} → P depth e → Somewhere P depth e
  in_body : {depth t : ℕ} {e : Exp} → Somewhere P (suc depth) e → Somewhere P depth (lam t e)
  in_function : {depth : ℕ} {f a : Exp} → Somewhere P depth f → Somewhere P depth (app f a)
  in_argument : {depth : ℕ} {f a : Exp} → Somewhere P depth a → Somewhere P depth (app f a)
  in_first : {depth : ℕ} {s : Shape} {t : ℕ} {e₁ e₂ : Exp} → Somewhere P depth e₁ → Somewhere P depth (both s t e₁ e₂)
  in_second : {depth : ℕ} {s : Shape} {t : ℕ} {e₁ e₂ : Exp} → Somewhere P depth e₂ → Somewhere P depth (both s t e₁ e₂)
  in_subject : {depth : ℕ} {s : Shape} {e₁ e₂ : Exp} → Somewhere P depth e₁ → Somewhere P depth (case_of s e₁ e₂)
  in_case : {depth : ℕ} {s : Shape} {e₁ e₂ : Exp} → Somewhere P (suc (suc depth)) e₂ → Somewhere P depth (case_of s e₁ e₂)

-- cause 7: "index with no lambda, name not below b, type number not below t"
pub data Unbound (T : Table) (b : ℕ) : ℕ → Exp → Type 0 where
  index_with_no_lambda : {depth i : ℕ} → ¬ (i < depth) → Unbound T b depth (var i)
  name_not_below : {depth k : ℕ} → ¬ (k < b) → Unbound T b depth (name k)
  constant_not_below : {depth t : ℕ} {o : Op} → ¬ (t < length T) → Unbound T b depth (const (op o t))
  lambda_not_below : {depth t : ℕ} {e : Exp} → ¬ (t < length T) → Unbound T b depth (lam t e)
  both_not_below : {depth t : ℕ} {s : Shape} {e₁ e₂ : Exp} → ¬ (t < length T) → Unbound T b depth (both s t e₁ e₂)

-- cause 8: "lambda's type no function, constant's type no instance of Fig. 8 .."; "node 10's type is no pair or node 11's no list"
pub data Misnumbered (τ : TypeNumbers) : ℕ → Exp → Type 0 where
  lambda_no_function : {depth t : ℕ} {e : Exp} → ((κ : Multiplicity) (α β : LinType) → ¬ (τ t ≡ some (fun κ α β))) → Misnumbered τ depth (lam t e)
  constant_no_instance : {depth t : ℕ} {o : Op} → ¬ Instance τ o t → Misnumbered τ depth (const (op o t))
  both_no_parts : {depth t : ℕ} {s : Shape} {e₁ e₂ : Exp} → ((γ α β : LinType) → τ t ≡ some γ → ¬ Fig10 s γ α β) → Misnumbered τ depth (both s t e₁ e₂)

-- cause 10: "a once-variable not used exactly once, or free under a many-lambda". The variable with number i around e stands under a
-- many-lambda of e:
pub data UnderMany (τ : TypeNumbers) : ℕ → Exp → Type 0 where
  under_many : {i t : ℕ} {e : Exp} → is_once_lambda τ t ≡ false → ¬ (uses (suc i) e ≡ 0) → UnderMany τ i (lam t e)
  under_in_body : {i t : ℕ} {e : Exp} → UnderMany τ (suc i) e → UnderMany τ i (lam t e)
  under_in_function : {i : ℕ} {f a : Exp} → UnderMany τ i f → UnderMany τ i (app f a)
  under_in_argument : {i : ℕ} {f a : Exp} → UnderMany τ i a → UnderMany τ i (app f a)
  under_in_first : {i : ℕ} {s : Shape} {t : ℕ} {e₁ e₂ : Exp} → UnderMany τ i e₁ → UnderMany τ i (both s t e₁ e₂)
  under_in_second : {i : ℕ} {s : Shape} {t : ℕ} {e₁ e₂ : Exp} → UnderMany τ i e₂ → UnderMany τ i (both s t e₁ e₂)
  under_in_subject : {i : ℕ} {s : Shape} {e₁ e₂ : Exp} → UnderMany τ i e₁ → UnderMany τ i (case_of s e₁ e₂)
  under_in_case : {i : ℕ} {s : Shape} {e₁ e₂ : Exp} → UnderMany τ (suc (suc i)) e₂ → UnderMany τ i (case_of s e₁ e₂)

-- the variable with number i around e has the once type α, and is not used exactly once, or free under a many-lambda
pub data Wasted (τ : TypeNumbers) (i : ℕ) (α : LinType) (e : Exp) : Type 0 where
  not_used_once : multiplicity α ≡ once → ¬ (uses i e ≡ 1) → Wasted τ i α e
  free_under_many : multiplicity α ≡ once → UnderMany τ i e → Wasted τ i α e

-- a lambda's parameter, or one of the two variables of a case; Δ has the types of the variables around e
pub data Misused (τ : TypeNumbers) : List LinType → Exp → Type 0 where
  parameter : {Δ : List LinType} {t : ℕ} {e : Exp} {κ : Multiplicity} {α β : LinType} → τ t ≡ some (fun κ α β) → Wasted τ 0 α e → Misused τ Δ (lam t e)
  second_component : {Δ : List LinType} {s : Shape} {e₁ e₂ : Exp} {α β γ : LinType} →
      type_of τ Δ e₁ ≡ some γ → Fig10 s γ α β → Wasted τ 0 β e₂ → Misused τ Δ (case_of s e₁ e₂)
  first_component : {Δ : List LinType} {s : Shape} {e₁ e₂ : Exp} {α β γ : LinType} →
      type_of τ Δ e₁ ≡ some γ → Fig10 s γ α β → Wasted τ 1 α e₂ → Misused τ Δ (case_of s e₁ e₂)
  misused_in_body : {Δ : List LinType} {t : ℕ} {e : Exp} {κ : Multiplicity} {α β : LinType} →
      τ t ≡ some (fun κ α β) → Misused τ (α ∷ Δ) e → Misused τ Δ (lam t e)
  misused_in_function : {Δ : List LinType} {f a : Exp} → Misused τ Δ f → Misused τ Δ (app f a)
  misused_in_argument : {Δ : List LinType} {f a : Exp} → Misused τ Δ a → Misused τ Δ (app f a)
  misused_in_first : {Δ : List LinType} {s : Shape} {t : ℕ} {e₁ e₂ : Exp} → Misused τ Δ e₁ → Misused τ Δ (both s t e₁ e₂)
  misused_in_second : {Δ : List LinType} {s : Shape} {t : ℕ} {e₁ e₂ : Exp} → Misused τ Δ e₂ → Misused τ Δ (both s t e₁ e₂)
  misused_in_subject : {Δ : List LinType} {s : Shape} {e₁ e₂ : Exp} → Misused τ Δ e₁ → Misused τ Δ (case_of s e₁ e₂)
  misused_in_case : {Δ : List LinType} {s : Shape} {e₁ e₂ : Exp} {α β γ : LinType} →
      type_of τ Δ e₁ ≡ some γ → Fig10 s γ α β → Misused τ (β ∷ α ∷ Δ) e₂ → Misused τ Δ (case_of s e₁ e₂)

-- the causes, of a bay's term
abbrev pub Cause7 : Table → ℕ → Exp → Type 0
Cause7 T b e = Somewhere (Unbound T b) 0 e

abbrev pub Cause8 : TypeNumbers → Exp → Type 0
Cause8 τ e = Somewhere (Misnumbered τ) 0 e

-- "application of a non-function, argument or body of another type", "a component or subject of another type"
abbrev pub Cause9 : TypeNumbers → Exp → Type 0
Cause9 τ e = Offence τ [] e

abbrev pub Cause10 : TypeNumbers → Exp → Type 0
Cause10 τ e = Misused τ [] e

-- "a bay's type has multiplicity once"
abbrev pub Cause11 : TypeNumbers → Exp → Type 0
Cause11 τ e = (α : LinType) × (type_of τ [] e ≡ some α) × (multiplicity α ≡ once)

-- tests that fail
less_false : (m n : ℕ) → ltb m n ≡ false → ¬ (m < n)
less_false m n e l = false≢true (sym e ∙ ltb_complete m n l)

-- cause 7
unbound_sound : (T : Table) (b depth : ℕ) (e : Exp) → scoped (length T) b depth e ≡ false → Somewhere (Unbound T b) depth e
unfolding scoped scoped_const
unbound_sound T b depth (var i) h = here (index_with_no_lambda (less_false i depth h))
unbound_sound T b depth (name k) h = here (name_not_below (less_false k b h))
unbound_sound T b depth (const unit) h = absurd (false≢true (sym h))
unbound_sound T b depth (const (num n)) h = absurd (false≢true (sym h))
unbound_sound T b depth (const (op o t)) h = here (constant_not_below (less_false t (length T) h))
unbound_sound T b depth (lam t e) h = elim (and_false (ltb t (length T)) (scoped (length T) b (suc depth) e) h) [
  | inl p ↦ here (lambda_not_below (less_false t (length T) p))
  | inr p ↦ in_body (unbound_sound T b (suc depth) e p)
]
unbound_sound T b depth (app f a) h = elim (and_false (scoped (length T) b depth f) (scoped (length T) b depth a) h) [
  | inl p ↦ in_function (unbound_sound T b depth f p)
  | inr p ↦ in_argument (unbound_sound T b depth a p)
]
unbound_sound T b depth (both s t e₁ e₂) h = elim (and_false (ltb t (length T)) (scoped (length T) b depth e₁ && scoped (length T) b depth e₂) h) [
  | inl p ↦ here (both_not_below (less_false t (length T) p))
  | inr q ↦ elim (and_false (scoped (length T) b depth e₁) (scoped (length T) b depth e₂) q) [
    | inl p ↦ in_first (unbound_sound T b depth e₁ p)
    | inr p ↦ in_second (unbound_sound T b depth e₂ p)
  ]
]
unbound_sound T b depth (case_of s e₁ e₂) h = elim (and_false (scoped (length T) b depth e₁) (scoped (length T) b (suc (suc depth)) e₂) h) [
  | inl p ↦ in_subject (unbound_sound T b depth e₁ p)
  | inr p ↦ in_case (unbound_sound T b (suc (suc depth)) e₂ p)
]

unbound_complete : (T : Table) (b : ℕ) {depth : ℕ} {e : Exp} → Somewhere (Unbound T b) depth e → scoped (length T) b depth e ≡ false
unfolding scoped scoped_const
unbound_complete T b (here (index_with_no_lambda {depth = depth} {i = i} n)) = ltb_less_not i depth n
unbound_complete T b (here (name_not_below {k = k} n)) = ltb_less_not k b n
unbound_complete T b (here (constant_not_below {t = t} n)) = ltb_less_not t (length T) n
unbound_complete T b (here (lambda_not_below {t = t} n)) = false_left _ (ltb_less_not t (length T) n)
unbound_complete T b (in_body {t = t} s) = false_right (ltb t (length T)) (unbound_complete T b s)
unbound_complete T b (in_function s) = false_left _ (unbound_complete T b s)
unbound_complete T b {depth} (in_argument {f = f} s) = false_right (scoped (length T) b depth f) (unbound_complete T b s)
unbound_complete T b (here (both_not_below {t = t} n)) = false_left _ (ltb_less_not t (length T) n)
unbound_complete T b (in_first {t = t} s) = false_right (ltb t (length T)) (false_left _ (unbound_complete T b s))
unbound_complete T b {depth} (in_second {t = t} {e₁ = e₁} s) = false_right (ltb t (length T)) (false_right (scoped (length T) b depth e₁) (unbound_complete T b s))
unbound_complete T b (in_subject s) = false_left _ (unbound_complete T b s)
unbound_complete T b {depth} (in_case {e₁ = e₁} s) = false_right (scoped (length T) b depth e₁) (unbound_complete T b s)

-- cause 8
false_bool : (x : Bool) → ¬ (x ≡ true) → x ≡ false
false_bool true n = absurd (n refl)
false_bool false n = refl

no_function_false : (o : Option LinType) → ((κ : Multiplicity) (α β : LinType) → ¬ (o ≡ some (fun κ α β))) → on_type o (λ γ. τ_on_function γ λ κ α β. true) ≡ false
no_function_false o n = false_bool _ λ e.
    let (γ, p, q) = on_type_parts o _ e in
    let (κ, α, β, r, z) = on_function_parts γ _ q in
    n κ α β (p ∙ ap some r)

misnumbered_sound : (τ : TypeNumbers) (depth : ℕ) (e : Exp) → τ_annotated τ e ≡ false → Somewhere (Misnumbered τ) depth e
unfolding τ_annotated τ_annotated_const
misnumbered_sound τ depth (var i) h = absurd (false≢true (sym h))
misnumbered_sound τ depth (name k) h = absurd (false≢true (sym h))
misnumbered_sound τ depth (const (op o t)) h = here (constant_no_instance (λ i. false≢true (sym h ∙ const_annotated (of_op i.1 i.2))))
misnumbered_sound τ depth (const unit) h = absurd (false≢true (sym h))
misnumbered_sound τ depth (const (num n)) h = absurd (false≢true (sym h))
misnumbered_sound τ depth (lam t e) h = elim (and_false (on_type (τ t) (λ γ. τ_on_function γ λ κ α β. true)) (τ_annotated τ e) h) [
  | inl p ↦ here (lambda_no_function (λ κ α β q. false≢true (sym p ∙ on_function_type_at (τ t) _ q)))
  | inr p ↦ in_body (misnumbered_sound τ (suc depth) e p)
]
misnumbered_sound τ depth (app f a) h = elim (and_false (τ_annotated τ f) (τ_annotated τ a) h) [
  | inl p ↦ in_function (misnumbered_sound τ depth f p)
  | inr p ↦ in_argument (misnumbered_sound τ depth a p)
]
misnumbered_sound τ depth (both s t e₁ e₂) h = elim (and_false (on_type (τ t) (λ γ. τ_with_components false s γ λ α β. true)) (τ_annotated τ e₁ && τ_annotated τ e₂) h) [
  | inl p ↦ here (both_no_parts (λ γ α β q f. false≢true (sym p ∙ on_type_at (τ t) _ q (components_at false _ f))))
  | inr q ↦ elim (and_false (τ_annotated τ e₁) (τ_annotated τ e₂) q) [
    | inl p ↦ in_first (misnumbered_sound τ depth e₁ p)
    | inr p ↦ in_second (misnumbered_sound τ depth e₂ p)
  ]
]
misnumbered_sound τ depth (case_of s e₁ e₂) h = elim (and_false (τ_annotated τ e₁) (τ_annotated τ e₂) h) [
  | inl p ↦ in_subject (misnumbered_sound τ depth e₁ p)
  | inr p ↦ in_case (misnumbered_sound τ (suc (suc depth)) e₂ p)
]

no_parts_false : (s : Shape) (o : Option LinType) → ((γ α β : LinType) → o ≡ some γ → ¬ Fig10 s γ α β) → on_type o (λ γ. τ_with_components false s γ λ α β. true) ≡ false
no_parts_false s o n = go (on_type o (λ γ. τ_with_components false s γ λ α β. true)) refl
  where
    go : (x : Bool) → on_type o (λ γ. τ_with_components false s γ λ α β. true) ≡ x → x ≡ false
    go false e = refl
    go true e = let (γ, p, q) = on_type_parts o _ e in let (α, β, f, z) = components_parts s γ _ q in absurd (n γ α β p f)

misnumbered_complete : (τ : TypeNumbers) {depth : ℕ} {e : Exp} → Somewhere (Misnumbered τ) depth e → τ_annotated τ e ≡ false
unfolding τ_annotated
misnumbered_complete τ (here (lambda_no_function {t = t} n)) = false_left _ (no_function_false (τ t) n)
misnumbered_complete τ (here (constant_no_instance {t = t} {o = o} n)) = false_bool _ (λ h. n (instance_sound τ o t h))
misnumbered_complete τ (in_body {t = t} s) = false_right (on_type (τ t) (λ γ. τ_on_function γ λ κ α β. true)) (misnumbered_complete τ s)
misnumbered_complete τ (in_function s) = false_left _ (misnumbered_complete τ s)
misnumbered_complete τ (in_argument {f = f} s) = false_right (τ_annotated τ f) (misnumbered_complete τ s)
misnumbered_complete τ (here (both_no_parts {t = t} {s = s} n)) = false_left _ (no_parts_false s (τ t) n)
misnumbered_complete τ (in_first {s = s} {t = t} w) = false_right (on_type (τ t) (λ γ. τ_with_components false s γ λ α β. true)) (false_left _ (misnumbered_complete τ w))
misnumbered_complete τ (in_second {s = s} {t = t} {e₁ = e₁} w) =
    false_right (on_type (τ t) (λ γ. τ_with_components false s γ λ α β. true)) (false_right (τ_annotated τ e₁) (misnumbered_complete τ w))
misnumbered_complete τ (in_subject s) = false_left _ (misnumbered_complete τ s)
misnumbered_complete τ (in_case {e₁ = e₁} s) = false_right (τ_annotated τ e₁) (misnumbered_complete τ s)

-- of a constant alone: cause 8 does not fit exactly where its type is one of Fig. 8's
pub instance_iff : {T : Table} → TableRule T → (o : Op) (t : ℕ) → (annotated T (const (op o t)) ≡ true) ↔ Instance (type_at T) o t
unfolding τ_annotated
instance_iff R o t = (
  (λ a. instance_sound _ o t (sym (annotated_agree R (const (op o t))) ∙ a)),
  (λ i. annotated_agree R (const (op o t)) ∙ const_annotated (of_op i.1 i.2)),
)

-- cause 10
under_sound : (τ : TypeNumbers) (i : ℕ) (e : Exp) → τ_outside_many τ i e ≡ false → UnderMany τ i e
unfolding τ_outside_many
under_sound τ i (var j) h = absurd (false≢true (sym h))
under_sound τ i (name k) h = absurd (false≢true (sym h))
under_sound τ i (const c) h = absurd (false≢true (sym h))
under_sound τ i (lam t e) h = go (is_once_lambda τ t) refl (λ k. under_sound τ (suc i) e k) h
  where
    go : (x : Bool) → is_once_lambda τ t ≡ x → (τ_outside_many τ (suc i) e ≡ false → UnderMany τ (suc i) e) → cond x (τ_outside_many τ (suc i) e) (eqb (uses (suc i) e) 0) ≡ false → UnderMany τ i (lam t e)
    go true p f h = under_in_body (f h)
    go false p f h = under_many p (λ z. false≢true (sym h ∙ eqb_complete (uses (suc i) e) 0 z))
under_sound τ i (app f a) h = elim (and_false (τ_outside_many τ i f) (τ_outside_many τ i a) h) [
  | inl p ↦ under_in_function (under_sound τ i f p)
  | inr p ↦ under_in_argument (under_sound τ i a p)
]
under_sound τ i (both s t e₁ e₂) h = elim (and_false (τ_outside_many τ i e₁) (τ_outside_many τ i e₂) h) [
  | inl p ↦ under_in_first (under_sound τ i e₁ p)
  | inr p ↦ under_in_second (under_sound τ i e₂ p)
]
under_sound τ i (case_of s e₁ e₂) h = elim (and_false (τ_outside_many τ i e₁) (τ_outside_many τ (suc (suc i)) e₂) h) [
  | inl p ↦ under_in_subject (under_sound τ i e₁ p)
  | inr p ↦ under_in_case (under_sound τ (suc (suc i)) e₂ p)
]

under_complete : (τ : TypeNumbers) {i : ℕ} {e : Exp} → UnderMany τ i e → τ_outside_many τ i e ≡ false
unfolding τ_outside_many
under_complete τ (under_many {i = i} {e = e} p n) = rw p (eqb_differ (uses (suc i) e) 0 n)
under_complete τ {i} (under_in_body {t = t} {e = e} u) = go (is_once_lambda τ t) (under_complete τ u)
  where
    go : (x : Bool) → τ_outside_many τ (suc i) e ≡ false → cond x (τ_outside_many τ (suc i) e) (eqb (uses (suc i) e) 0) ≡ false
    go true h = h
    go false h = eqb_differ (uses (suc i) e) 0 (λ z. false≢true (sym h ∙ unused_outside τ (suc i) e z))
under_complete τ (under_in_function u) = false_left _ (under_complete τ u)
under_complete τ {i} (under_in_argument {f = f} u) = false_right (τ_outside_many τ i f) (under_complete τ u)
under_complete τ (under_in_first u) = false_left _ (under_complete τ u)
under_complete τ {i} (under_in_second {e₁ = e₁} u) = false_right (τ_outside_many τ i e₁) (under_complete τ u)
under_complete τ (under_in_subject u) = false_left _ (under_complete τ u)
under_complete τ {i} (under_in_case {e₁ = e₁} u) = false_right (τ_outside_many τ i e₁) (under_complete τ u)

-- what is tested of a case's body
case_variables : (τ : TypeNumbers) (Δ : List LinType) (e₁ e₂ : Exp) {s : Shape} {α β γ : LinType} → type_of τ Δ e₁ ≡ some γ → Fig10 s γ α β →
    on_type (type_of τ Δ e₁) (λ γ. τ_with_components false s γ λ α β. (τ_linear_variable τ 0 β e₂ && τ_linear_variable τ 1 α e₂) && τ_linear τ (β ∷ α ∷ Δ) e₂) ≡
    ((τ_linear_variable τ 0 β e₂ && τ_linear_variable τ 1 α e₂) && τ_linear τ (β ∷ α ∷ Δ) e₂)
case_variables τ Δ e₁ e₂ p f = on_type_is _ _ p ∙ components_at false _ f

variable_false : (τ : TypeNumbers) (i : ℕ) (α : LinType) (e : Exp) → τ_linear_variable τ i α e ≡ false → Wasted τ i α e
unfolding τ_linear_variable
variable_false τ i α e h = go (multiplicity α) refl h
  where
    go : (κ : Multiplicity) → multiplicity α ≡ κ → cond (same_multiplicity κ many) true (eqb (uses i e) 1 && τ_outside_many τ i e) ≡ false → Wasted τ i α e
    go many m h = absurd (false≢true (sym h))
    go once m h = elim (and_false (eqb (uses i e) 1) (τ_outside_many τ i e) h) [
      | inl p ↦ not_used_once m (λ z. false≢true (sym p ∙ eqb_complete (uses i e) 1 z))
      | inr p ↦ free_under_many m (under_sound τ i e p)
    ]

false_variable : {τ : TypeNumbers} {i : ℕ} {α : LinType} {e : Exp} → Wasted τ i α e → τ_linear_variable τ i α e ≡ false
unfolding τ_linear_variable
false_variable {i = i} {e = e} (not_used_once m n) = rw m (false_left _ (eqb_differ (uses i e) 1 n))
false_variable {τ} {i} {e = e} (free_under_many m u) = rw m (false_right (eqb (uses i e) 1) (under_complete τ u))

misused_sound : (τ : TypeNumbers) (Δ : List LinType) (e : Exp) {γ : LinType} → type_of τ Δ e ≡ some γ → τ_linear τ Δ e ≡ false → Misused τ Δ e
unfolding τ_linear type_of
misused_sound τ Δ (var i) y h = absurd (false≢true (sym h))
misused_sound τ Δ (name k) y h = absurd (false≢true (sym h))
misused_sound τ Δ (const c) y h = absurd (false≢true (sym h))
misused_sound τ Δ (lam t e) y h =
    let (κ, α, β, p, q, r) = lambda_type_parts (τ t) (λ α. type_of τ (α ∷ Δ) e) y in
    let p' : τ t ≡ some (fun κ α β) = p ∙ ap some q in
    elim (and_false (τ_linear_variable τ 0 α e) (τ_linear τ (α ∷ Δ) e) (sym (on_function_type_at (τ t) _ p') ∙ h)) [
      | inl g ↦ parameter p' (variable_false τ 0 α e g)
      | inr g ↦ misused_in_body p' (misused_sound τ (α ∷ Δ) e r g)
    ]
misused_sound τ Δ (app f a) y h =
    let (κ, α, p, q) = applied_type_parts (type_of τ Δ f) (type_of τ Δ a) y in
    elim (and_false (τ_linear τ Δ f) (τ_linear τ Δ a) h) [
      | inl g ↦ misused_in_function (misused_sound τ Δ f p g)
      | inr g ↦ misused_in_argument (misused_sound τ Δ a q g)
    ]
misused_sound τ Δ (both s t e₁ e₂) y h =
    let (α, β, p, f, q₁, q₂) = both_type_parts s (τ t) (type_of τ Δ e₁) (type_of τ Δ e₂) y in
    elim (and_false (τ_linear τ Δ e₁) (τ_linear τ Δ e₂) h) [
      | inl g ↦ misused_in_first (misused_sound τ Δ e₁ q₁ g)
      | inr g ↦ misused_in_second (misused_sound τ Δ e₂ q₂ g)
    ]
misused_sound τ Δ (case_of s e₁ e₂) y h =
    let (α, β, γ, p, f, q) = case_type_parts s (type_of τ Δ e₁) (λ α β. type_of τ (β ∷ α ∷ Δ) e₂) y in
    elim (and_false (τ_linear τ Δ e₁) _ h) [
      | inl g ↦ misused_in_subject (misused_sound τ Δ e₁ p g)
      | inr g ↦ elim (and_false (τ_linear_variable τ 0 β e₂ && τ_linear_variable τ 1 α e₂) (τ_linear τ (β ∷ α ∷ Δ) e₂) (sym (case_variables τ Δ e₁ e₂ p f) ∙ g)) [
        | inl v ↦ elim (and_false (τ_linear_variable τ 0 β e₂) (τ_linear_variable τ 1 α e₂) v) [
          | inl w ↦ second_component p f (variable_false τ 0 β e₂ w)
          | inr w ↦ first_component p f (variable_false τ 1 α e₂ w)
        ]
        | inr v ↦ misused_in_case p f (misused_sound τ (β ∷ α ∷ Δ) e₂ q v)
      ]
    ]

misused_complete : {τ : TypeNumbers} {Δ : List LinType} {e : Exp} → Misused τ Δ e → τ_linear τ Δ e ≡ false
unfolding τ_linear
misused_complete (parameter p w) = on_function_type_at _ _ p ∙ false_left _ (false_variable w)
misused_complete {τ} {Δ} (second_component {e₁ = e₁} {e₂ = e₂} p f w) =
    false_right (τ_linear τ Δ e₁) (case_variables τ Δ e₁ e₂ p f ∙ false_left _ (false_left _ (false_variable w)))
misused_complete {τ} {Δ} (first_component {e₁ = e₁} {e₂ = e₂} {β = β} p f w) =
    false_right (τ_linear τ Δ e₁) (case_variables τ Δ e₁ e₂ p f ∙ false_left _ (false_right (τ_linear_variable τ 0 β e₂) (false_variable w)))
misused_complete {τ} (misused_in_body {e = e} {α = α} p m) = on_function_type_at _ _ p ∙ false_right (τ_linear_variable τ 0 α e) (misused_complete m)
misused_complete (misused_in_function m) = false_left _ (misused_complete m)
misused_complete {τ} {Δ} (misused_in_argument {f = f} m) = false_right (τ_linear τ Δ f) (misused_complete m)
misused_complete (misused_in_first m) = false_left _ (misused_complete m)
misused_complete {τ} {Δ} (misused_in_second {e₁ = e₁} m) = false_right (τ_linear τ Δ e₁) (misused_complete m)
misused_complete (misused_in_subject m) = false_left _ (misused_complete m)
misused_complete {τ} {Δ} (misused_in_case {e₁ = e₁} {e₂ = e₂} {α = α} {β = β} p f m) =
    false_right (τ_linear τ Δ e₁) (case_variables τ Δ e₁ e₂ p f ∙ false_right (τ_linear_variable τ 0 β e₂ && τ_linear_variable τ 1 α e₂) (misused_complete m))

true_bool : (x : Bool) → ¬ (x ≡ false) → x ≡ true
true_bool true n = refl
true_bool false n = absurd (n refl)

-- some bay has it
abbrev pub Some : (Exp → Type 0) → List Exp → Type 0
Some P es = (i : ℕ) × (e : Exp) × (at es i ≡ some e) × P e

fails_some : (test : Exp → Bool) (es : List Exp) → every test es ≡ false → Some (λ e. test e ≡ false) es
unfolding every
fails_some test [] h = absurd (false≢true (sym h))
fails_some test (e ∷ es) h = elim (and_false (test e) (every test es) h) [
  | inl p ↦ (0, e, refl, p)
  | inr p ↦ let (i, e', g, q) = fails_some test es p in (suc i, e', g, q)
]

some_fails : (test : Exp → Bool) (es : List Exp) (i : ℕ) (e : Exp) → at es i ≡ some e → test e ≡ false → every test es ≡ false
some_fails test es i e g p = false_bool (every test es) (λ t. false≢true (sym p ∙ every_sound test es t i e g))

-- a test that fails exactly where P holds, where H holds of every bay
fails_iff : (test : Exp → Bool) (P H : Exp → Type 0) (es : List Exp) → ((i : ℕ) (e : Exp) → at es i ≡ some e → H e) →
    ((e : Exp) → H e → (test e ≡ false) ↔ P e) → (every test es ≡ false) ↔ Some P es
fails_iff test P H es h f = (
  (λ p. let (i, e, g, q) = fails_some test es p in (i, e, g, (f e (h i e g)).0 q)),
  (λ s. some_fails test es s.0 s.1 s.2 ((f s.1 (h s.0 s.1 s.2)).1 s.3)),
)

chain : Bool → Bool → Bool → Bool → Bool → ℕ
chain a b c d f = cond (not a) scope_cause (cond (not b) annotation_cause (cond (not c) type_cause (cond (not d) linearity_cause (cond (not f) bay_once_cause 0))))

-- the first test that fails
data First : Bool → Bool → Bool → Bool → Bool → ℕ → Type 0 where
  first_7 : {b c d f : Bool} → First false b c d f scope_cause
  first_8 : {c d f : Bool} → First true false c d f annotation_cause
  first_9 : {d f : Bool} → First true true false d f type_cause
  first_10 : {f : Bool} → First true true true false f linearity_cause
  first_11 : First true true true true false bay_once_cause
  first_0 : First true true true true true 0

first : (a b c d f : Bool) → First a b c d f (chain a b c d f)
unfolding chain
first false b c d f = first_7
first true false c d f = first_8
first true true false d f = first_9
first true true true false f = first_10
first true true true true false = first_11
first true true true true true = first_0

is_7 : {a b c d f : Bool} → First a b c d f scope_cause → a ≡ false
is_7 first_7 = refl

is_8 : {a b c d f : Bool} → First a b c d f annotation_cause → (a ≡ true) × (b ≡ false)
is_8 first_8 = (refl, refl)

is_9 : {a b c d f : Bool} → First a b c d f type_cause → (a ≡ true) × (b ≡ true) × (c ≡ false)
is_9 first_9 = (refl, refl, refl)

is_10 : {a b c d f : Bool} → First a b c d f linearity_cause → (a ≡ true) × (b ≡ true) × (c ≡ true) × (d ≡ false)
is_10 first_10 = (refl, refl, refl, refl)

is_11 : {a b c d f : Bool} → First a b c d f bay_once_cause → (a ≡ true) × (b ≡ true) × (c ≡ true) × (d ≡ true) × (f ≡ false)
is_11 first_11 = (refl, refl, refl, refl, refl)

module _ {T : Table} (R : TableRule T) (es : List Exp) where
  abbrev scoped_all : Bool
  scoped_all = every (scoped (length T) (length es) 0) es

  abbrev annotated_all : Bool
  annotated_all = every (annotated T) es

  abbrev typed_all : Bool
  typed_all = every (λ e. on_number (type_number T [] e) (λ n. true)) es

  abbrev linear_all : Bool
  linear_all = every (linear T []) es

  abbrev many_all : Bool
  many_all = every (λ e. on_number (type_number T [] e) (is_many T)) es

  verdict_first : First scoped_all annotated_all typed_all linear_all many_all (verdict T es)
  unfolding verdict chain
  verdict_first = first scoped_all annotated_all typed_all linear_all many_all

  -- each test over all bays fails exactly where some bay has its cause, if lower ones pass
  seven : (scoped_all ≡ false) ↔ Some (Cause7 T (length es)) es
  seven = fails_iff (scoped (length T) (length es) 0) (Cause7 T (length es)) (λ e. Unit {0}) es (λ i e g. tt) (λ e u. (unbound_sound T (length es) 0 e, unbound_complete T (length es)))

  eight : (annotated_all ≡ false) ↔ Some (Cause8 (type_at T)) es
  eight = fails_iff (annotated T) (Cause8 (type_at T)) (λ e. Unit {0}) es (λ i e g. tt)
      (λ e u. ((λ h. misnumbered_sound (type_at T) 0 e (sym (annotated_agree R e) ∙ h)), (λ s. annotated_agree R e ∙ misnumbered_complete (type_at T) s)))

  untyped : (e : Exp) → scoped (length T) (length es) 0 e ≡ true → (on_number (type_number T [] e) (λ n. true) ≡ false) ↔ (type_of (type_at T) [] e ≡ none)
  unfolding on_number
  untyped e s = go (type_of_agree R (length es) 0 e (sym (scoped_agree R (length es) 0 e) ∙ s) same_nil)
    where
      go : {o : Option ℕ} {o' : Option LinType} → Same T o o' → (on_number o (λ n. true) ≡ false) ↔ (o' ≡ none)
      go same_none = ((λ h. refl), (λ h. refl))
      go (same_some {α = α} v) = ((λ h. absurd (false≢true (sym h))), (λ h. absurd (none-ne-some α (sym h))))

  nine : scoped_all ≡ true → annotated_all ≡ true → (typed_all ≡ false) ↔ Some (Cause9 (type_at T)) es
  nine a b = fails_iff (λ e. on_number (type_number T [] e) (λ n. true)) (Cause9 (type_at T)) (λ e. (scoped (length T) (length es) 0 e ≡ true) × (annotated T e ≡ true)) es
      (λ i e g. (every_sound _ es a i e g, every_sound _ es b i e g))
      (λ e u.
      let o = offence_iff (type_at T) (length es) [] e (sym (scoped_agree R (length es) 0 e) ∙ u.0) (sym (annotated_agree R e) ∙ u.1) in
      ((λ h. o.0 ((untyped e u.0).0 h)), (λ s. (untyped e u.0).1 (o.1 s))))

  ten : scoped_all ≡ true → typed_all ≡ true → (linear_all ≡ false) ↔ Some (Cause10 (type_at T)) es
  ten a c = fails_iff (linear T []) (Cause10 (type_at T)) (λ e. (scoped (length T) (length es) 0 e ≡ true) × (on_number (type_number T [] e) (λ n. true) ≡ true)) es
      (λ i e g. (every_sound _ es a i e g, every_sound _ es c i e g))
      (λ e u.
      let s = sym (scoped_agree R (length es) 0 e) ∙ u.0 in
      let (n, p, z) = on_number_parts (type_number T [] e) _ u.1 in
      let (γ, y, v) = same_there (type_of_agree R (length es) 0 e s same_nil) p in
      let same = linear_agree R (length es) 0 e s same_nil in
      ((λ h. misused_sound (type_at T) [] e y (sym same ∙ h)), (λ m. same ∙ misused_complete m)))

  once_bay : (e : Exp) → scoped (length T) (length es) 0 e ≡ true → on_number (type_number T [] e) (λ n. true) ≡ true →
      (on_number (type_number T [] e) (is_many T) ≡ false) ↔ Cause11 (type_at T) e
  unfolding on_number
  once_bay e s y = go (type_of_agree R (length es) 0 e (sym (scoped_agree R (length es) 0 e) ∙ s) same_nil) y
    where
      once_of : (α : LinType) → τ_is_many_type α ≡ false → multiplicity α ≡ once
      once_of α h = pick (multiplicity α) h
        where
          pick : (κ : Multiplicity) → same_multiplicity κ many ≡ false → κ ≡ once
          pick once h = refl
          pick many h = absurd (false≢true (sym h))

      of_once : (α : LinType) → multiplicity α ≡ once → τ_is_many_type α ≡ false
      of_once α m = rw m refl

      go : {o : Option ℕ} {o' : Option LinType} → Same T o o' → on_number o (λ n. true) ≡ true →
          (on_number o (is_many T) ≡ false) ↔ ((α : LinType) × (o' ≡ some α) × (multiplicity α ≡ once))
      go same_none y = absurd (false≢true y)
      go (same_some {α = α} v) y = (
        (λ h. (α, refl, once_of α (sym (many_agree R v) ∙ h))),
        (λ q. many_agree R v ∙ of_once α (let p = q.1 in let m = q.2 in let r : α ≡ q.0 = cc in rw r m)),
      )

  eleven : scoped_all ≡ true → typed_all ≡ true → (many_all ≡ false) ↔ Some (Cause11 (type_at T)) es
  eleven a c = fails_iff (λ e. on_number (type_number T [] e) (is_many T)) (Cause11 (type_at T))
      (λ e. (scoped (length T) (length es) 0 e ≡ true) × (on_number (type_number T [] e) (λ n. true) ≡ true)) es
      (λ i e g. (every_sound _ es a i e g, every_sound _ es c i e g))
      (λ e u. once_bay e u.0 u.1)

  none_7 : ¬ Some (Cause7 T (length es)) es → scoped_all ≡ true
  none_7 n = true_bool scoped_all (λ f. n (seven.0 f))

  none_8 : ¬ Some (Cause8 (type_at T)) es → annotated_all ≡ true
  none_8 n = true_bool annotated_all (λ f. n (eight.0 f))

  none_9 : scoped_all ≡ true → annotated_all ≡ true → ¬ Some (Cause9 (type_at T)) es → typed_all ≡ true
  none_9 a b n = true_bool typed_all (λ f. n ((nine a b).0 f))

  none_10 : scoped_all ≡ true → typed_all ≡ true → ¬ Some (Cause10 (type_at T)) es → linear_all ≡ true
  none_10 a c n = true_bool linear_all (λ f. n ((ten a c).0 f))

  there_is_none : {x : Bool} {P : Type 0} → (x ≡ false) ↔ P → x ≡ true → ¬ P
  there_is_none f e p = false≢true (sym (f.1 p) ∙ e)

  -- each answer, exactly where some bay has its cause and none a lower one
  pub verdict_means :
      ((verdict T es ≡ scope_cause) ↔ Some (Cause7 T (length es)) es) ×
      ((verdict T es ≡ annotation_cause) ↔ ((¬ Some (Cause7 T (length es)) es) × Some (Cause8 (type_at T)) es)) ×
      ((verdict T es ≡ type_cause) ↔ ((¬ Some (Cause7 T (length es)) es) × (¬ Some (Cause8 (type_at T)) es) × Some (Cause9 (type_at T)) es)) ×
      ((verdict T es ≡ linearity_cause) ↔ ((¬ Some (Cause7 T (length es)) es) × (¬ Some (Cause8 (type_at T)) es) × (¬ Some (Cause9 (type_at T)) es) × Some (Cause10 (type_at T)) es)) ×
      ((verdict T es ≡ bay_once_cause) ↔
      ((¬ Some (Cause7 T (length es)) es) × (¬ Some (Cause8 (type_at T)) es) × (¬ Some (Cause9 (type_at T)) es) × (¬ Some (Cause10 (type_at T)) es) × Some (Cause11 (type_at T)) es))
  unfolding verdict
  verdict_means = (
    ((λ v. seven.0 (is_7 (rw v at verdict_first))), (λ s. rw (seven.1 s) refl)),
    (
      (λ v. let (a, b) = is_8 (rw v at verdict_first) in (there_is_none seven a, eight.0 b)),
      (λ s. rw (none_7 s.0, eight.1 s.1) refl),
    ),
    (
      (λ v. let (a, b, c) = is_9 (rw v at verdict_first) in (there_is_none seven a, there_is_none eight b, (nine a b).0 c)),
      (λ s. let a = none_7 s.0 in let b = none_8 s.1 in rw (a, b, (nine a b).1 s.2) refl),
    ),
    (
      (λ v. let (a, b, c, d) = is_10 (rw v at verdict_first) in (there_is_none seven a, there_is_none eight b, there_is_none (nine a b) c, (ten a c).0 d)),
      (λ s. let a = none_7 s.0 in let b = none_8 s.1 in let c = none_9 a b s.2 in rw (a, b, c, (ten a c).1 s.3) refl),
    ),
    (
      (λ v. let (a, b, c, d, f) = is_11 (rw v at verdict_first) in
          (there_is_none seven a, there_is_none eight b, there_is_none (nine a b) c, there_is_none (ten a c) d, (eleven a c).0 f)),
      (λ s. let a = none_7 s.0 in let b = none_8 s.1 in let c = none_9 a b s.2 in rw (a, b, c, none_10 a c s.3, (eleven a c).1 s.4) refl),
    ),
  )
