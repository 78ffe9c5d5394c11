-- In a sound configuration a thread that is not done goes or waits: causes 16 (the paper's Corollary 1) and 17 never fit.
use Rattle.std.specs.Prelude.{◌≡◌, List, [], ℕ}
use Rattle.std.proofs.Math.Path.{refl}
use Rattle.std.proofs.Math.Option.{Option, none, some}
use Rattle.std.proofs.Common.{arith}
use Rattle.calculus.proofs.Theory.Configurations.{sum_part}
use Rattle.calculus.specs.Types.{Multiplicity, LinType, ref, fun, once, unit_type}
use Rattle.calculus.specs.Syntax.{Const, unit, num, op, cell, exch, thread, handle, Exp, name, const, lam, app, Value, is_name, is_const, is_lam, is_exch, Component, thread_of, holds, open_for, used, awaited, Config, at, sum_in, on_thread, Shape, pair, list, both, is_both}
use Rattle.calculus.specs.Typing.{TypeNumbers, NameTypes, of_op, fig8_exch, split_nil, Derivation, d_const, d_app, Fig10, fig10_pair, fig10_list, d_many, d_once, d_both}
use Rattle.calculus.specs.Reduction.{Context, plug, Rule, FUTURE_DEREF}
use Rattle.calculus.specs.Names.{count}
use Rattle.calculus.specs.Step.{Place, settled, meet, loose, place, Answer, rule, waiting, done, no_thread, used_handle, wrong_kind, when_done, step_call, step_exchange, step_meeting, step_place, step_of, Redex, application, subject, step_subject, step_case, step_redex}
use Rattle.calculus.proofs.Theory.Tests.{clash}
use Rattle.calculus.proofs.Theory.Lists.{at_bound, at_below}
use Rattle.calculus.proofs.Theory.Expressions.{count_same, count_plug, context, derivation_closed}
use Rattle.calculus.proofs.Theory.Places.{Placed, place_sound}
use Rattle.calculus.proofs.Theory.Sound.{Sound}
use Rattle.calculus.proofs.Theory.Preservation.{app_parts, name_type, case_parts}

-- neither 16 nor 17
abbrev pub Proper : Answer → Type 0
Proper (rule r C) = Unit {0}
Proper (waiting y) = Unit {0}
Proper done = Unit {0}
Proper no_thread = Unit {0}
Proper used_handle = ⊥
Proper wrong_kind = ⊥

when_done_proper : (y : ℕ) (p : Place) (r : Rule) (C : Config) → Proper (when_done y p (rule r C))
unfolding when_done
when_done_proper y (settled v w) r C = tt
when_done_proper y (meet F r' d) r C = tt
when_done_proper y loose r C = tt

-- only a name, an exch or a lambda has a function type; only a name is a value of a cell's type
exch_argument : {τ : TypeNumbers} {Σ : NameTypes} {t : ℕ} {u : Exp} {β : LinType} → Derivation τ Σ [] (app (const (op exch t)) u) β →
    (α : LinType) × Derivation τ Σ [] u (ref α)
exch_argument (d_app split_nil (d_const n (of_op p (fig8_exch {α = α}))) d) = (α, d)

const_no_ref : {τ : TypeNumbers} {Σ : NameTypes} {c : Const} {α : LinType} → ¬ Derivation τ Σ [] (const c) (ref α)
const_no_ref (d_const n (of_op p f)) = elim f [ ]

lam_no_ref : {τ : TypeNumbers} {Σ : NameTypes} {t : ℕ} {e : Exp} {α : LinType} → ¬ Derivation τ Σ [] (lam t e) (ref α)
lam_no_ref d = elim d [ ]

exch_no_ref : {τ : TypeNumbers} {Σ : NameTypes} {t : ℕ} {u : Exp} {α : LinType} → ¬ Derivation τ Σ [] (app (const (op exch t)) u) (ref α)
exch_no_ref (d_app split_nil (d_const n (of_op p f)) d) = elim f [ ]

unit_no_fun : {τ : TypeNumbers} {Σ : NameTypes} {κ : Multiplicity} {α β : LinType} → ¬ Derivation τ Σ [] (const unit) (fun κ α β)
unit_no_fun (d_const n t) = elim t [ ]

num_no_fun : {τ : TypeNumbers} {Σ : NameTypes} {i : ℕ} {κ : Multiplicity} {α β : LinType} → ¬ Derivation τ Σ [] (const (num i)) (fun κ α β)
num_no_fun (d_const n t) = elim t [ ]

both_no_ref : {τ : TypeNumbers} {Σ : NameTypes} {s : Shape} {t : ℕ} {u v : Exp} {α : LinType} → ¬ Derivation τ Σ [] (both s t u v) (ref α)
both_no_ref (d_both p f split_nil d d') = elim f [ ]

both_no_fun : {τ : TypeNumbers} {Σ : NameTypes} {s : Shape} {t : ℕ} {u v : Exp} {κ : Multiplicity} {α β : LinType} → ¬ Derivation τ Σ [] (both s t u v) (fun κ α β)
both_no_fun (d_both p f split_nil d d') = elim f [ ]

-- Fig. 10: only a pair is a value of a pair's type, and only a list front one of a list's
fun_no_parts : {s : Shape} {κ : Multiplicity} {α β γ δ : LinType} → ¬ Fig10 s (fun κ γ δ) α β
fun_no_parts f = elim f [ ]

const_no_parts : {τ : TypeNumbers} {Σ : NameTypes} {s : Shape} {c : Const} {α β γ : LinType} → Fig10 s γ α β → ¬ Derivation τ Σ [] (const c) γ
const_no_parts (fig10_pair h h') (d_const n (of_op p f)) = elim f [ ]
const_no_parts (fig10_list h) (d_const n (of_op p f)) = elim f [ ]

lam_no_parts : {τ : TypeNumbers} {Σ : NameTypes} {s : Shape} {t : ℕ} {e : Exp} {α β γ : LinType} → Fig10 s γ α β → ¬ Derivation τ Σ [] (lam t e) γ
lam_no_parts f (d_many p n d) = fun_no_parts f
lam_no_parts f (d_once p d) = fun_no_parts f

exch_no_parts : {τ : TypeNumbers} {Σ : NameTypes} {s : Shape} {t : ℕ} {u : Exp} {α β γ : LinType} → Fig10 s γ α β → ¬ Derivation τ Σ [] (app (const (op exch t)) u) γ
exch_no_parts f (d_app split_nil (d_const n (of_op p fig8_exch)) d) = fun_no_parts f

list_no_pair : {τ : TypeNumbers} {Σ : NameTypes} {t : ℕ} {u v : Exp} {α β γ : LinType} → Fig10 pair γ α β → ¬ Derivation τ Σ [] (both list t u v) γ
list_no_pair (fig10_pair h h') (d_both p f split_nil d d') = elim f [ ]

pair_no_list : {τ : TypeNumbers} {Σ : NameTypes} {t : ℕ} {u v : Exp} {α β γ : LinType} → Fig10 list γ α β → ¬ Derivation τ Σ [] (both pair t u v) γ
pair_no_list (fig10_list h) (d_both p f split_nil d d') = elim f [ ]

-- nor has a cell or a handle such a type
ref_no_parts : {s : Shape} {α β γ : LinType} → ¬ Fig10 s (ref γ) α β
ref_no_parts f = elim f [ ]

module _ {τ : TypeNumbers} {S : List LinType} {C : Config} (s : Sound τ S C) (x : ℕ) where
  has_component : (y : ℕ) {α : LinType} → at S y ≡ some α → ¬ (at C y ≡ none)
  has_component y t n = let c = at_below C y (omega (arith, at_bound S y t, s.sizes)) in let e = c.1 in clash (cc)

  not_used : (F : Context) (z : ℕ) (v : Exp) → at C x ≡ some (thread_of (plug F (app (name z) v))) → ¬ (at C z ≡ some used)
  unfolding count sum_in
  not_used F z v h u = omega (arith, s.gone z u, sum_part (sum_in (count z)) C x h, count_plug z F (app (name z) v), count_same z)

  step_call_proper : (F : Context) (y : ℕ) (v : Exp) → at C x ≡ some (thread_of (plug F (app (name y) v))) →
      (κ : Multiplicity) (α β : LinType) → at S y ≡ some (fun κ α β) → (c : Option Component) → at C y ≡ c → Proper (step_call C x F y v c)
  unfolding step_call
  step_call_proper F y v h κ α β t (some (thread_of w)) e = when_done_proper y (place w) FUTURE_DEREF _
  step_call_proper F y v h κ α β t (some awaited) e = tt
  step_call_proper F y v h κ α β t (some (open_for z)) e = tt
  step_call_proper F y v h κ α β t (some used) e = not_used F y v h e
  step_call_proper F y v h κ α β t (some (holds w)) e = let f = s.fits y (holds w) e in let q = f.1 in clash (cc)
  step_call_proper F y v h κ α β t none e = has_component y t e

  step_exchange_proper : (F : Context) (u y : ℕ) (v : Exp) (α : LinType) → at S y ≡ some (ref α) → (c : Option Component) → at C y ≡ c → Proper (step_exchange C x F u y v c)
  unfolding step_exchange
  step_exchange_proper F u y v α t (some (thread_of w)) e = when_done_proper y (place w) FUTURE_DEREF _
  step_exchange_proper F u y v α t (some awaited) e = tt
  step_exchange_proper F u y v α t (some (holds w)) e = tt
  step_exchange_proper F u y v α t (some (open_for z)) e = let f = s.fits y (open_for z) e in let q = f.1 in clash (cc)
  step_exchange_proper F u y v α t (some used) e = let f = s.fits y used e in let q = f.1 in clash (cc)
  step_exchange_proper F u y v α t none e = has_component y t e

  step_meeting_proper : (F : Context) {f : Exp} (v : Exp) (wf : Value f) → Value v → ¬ Value (app f v) → at C x ≡ some (thread_of (plug F (app f v))) →
      (κ : Multiplicity) (α β : LinType) → Derivation τ S [] f (fun κ α β) → Proper (step_meeting C x F wf v)
  unfolding step_meeting
  step_meeting_proper F v (is_lam {t = t} {e = e}) wv n h κ α β d = tt
  step_meeting_proper F v (is_const {c = op thread t}) wv n h κ α β d = tt
  step_meeting_proper F v (is_name {k = y}) wv n h κ α β d = step_call_proper F y v h κ α β (name_type d) (at C y) refl
  step_meeting_proper F v (is_exch {t = t} (is_name {k = y})) wv n h κ α β d =
      let u = exch_argument d in step_exchange_proper F t y v u.0 (name_type u.1) (at C y) refl
  step_meeting_proper F v (is_const {c = op handle t}) wv n h κ α β d = tt
  step_meeting_proper F v (is_const {c = op cell t}) wv n h κ α β d = tt
  step_meeting_proper F v (is_const {c = unit}) wv n h κ α β d = unit_no_fun d
  step_meeting_proper F v (is_const {c = num i}) wv n h κ α β d = num_no_fun d
  step_meeting_proper F v (is_const {c = op exch t}) wv n h κ α β d = n (is_exch wv)
  step_meeting_proper F v (is_exch is_const) wv n h κ α β d = const_no_ref (exch_argument d).1
  step_meeting_proper F v (is_exch is_lam) wv n h κ α β d = lam_no_ref (exch_argument d).1
  step_meeting_proper F v (is_exch (is_exch w)) wv n h κ α β d = exch_no_ref (exch_argument d).1
  step_meeting_proper F v (is_exch (is_both w w')) wv n h κ α β d = both_no_ref (exch_argument d).1
  step_meeting_proper F v (is_both w w') wv n h κ α β d = both_no_fun d

  step_subject_proper : (F : Context) (s' : Shape) (y : ℕ) (e : Exp) {α β γ : LinType} → Fig10 s' γ α β → at S y ≡ some γ → (c : Option Component) → at C y ≡ c →
      Proper (step_subject C x F s' y e c)
  unfolding step_subject
  step_subject_proper F s' y e f t (some (thread_of w)) g = when_done_proper y (place w) FUTURE_DEREF _
  step_subject_proper F s' y e f t (some awaited) g = tt
  step_subject_proper F s' y e {γ = γ} f t (some (holds w)) g =
      let p = s.fits y (holds w) g in let p₁ = p.1 in let q : γ ≡ ref p.0 = cc in ref_no_parts (rw q at f)
  step_subject_proper F s' y e {γ = γ} f t (some (open_for z)) g =
      let p = s.fits y (open_for z) g in let p₁ = p.1 in let q : γ ≡ fun once p.0 unit_type = cc in fun_no_parts (rw q at f)
  step_subject_proper F s' y e {γ = γ} f t (some used) g =
      let p = s.fits y used g in let p₁ = p.1 in let q : γ ≡ fun once p.0 unit_type = cc in fun_no_parts (rw q at f)
  step_subject_proper F s' y e f t none g = has_component y t g

  step_case_proper : (F : Context) (s' : Shape) {v : Exp} (e : Exp) (w : Value v) {α β γ : LinType} → Fig10 s' γ α β → Derivation τ S [] v γ →
      Proper (step_case C x F s' w e)
  unfolding step_case
  step_case_proper F pair e (is_both {s = pair} w w') f d = tt
  step_case_proper F list e (is_both {s = list} w w') f d = tt
  step_case_proper F s' e (is_name {k = y}) f d = step_subject_proper F s' y e f (name_type d) (at C y) refl
  step_case_proper F pair e (is_both {s = list} w w') f d = list_no_pair f d
  step_case_proper F list e (is_both {s = pair} w w') f d = pair_no_list f d
  step_case_proper F s' e is_const f d = const_no_parts f d
  step_case_proper F s' e is_lam f d = lam_no_parts f d
  step_case_proper F s' e (is_exch w) f d = exch_no_parts f d

  step_redex_proper : (F : Context) {r : Exp} (d : Redex r) → ¬ Value r → at C x ≡ some (thread_of (plug F r)) → (β : LinType) → Derivation τ S [] r β →
      Proper (step_redex C x F d)
  unfolding step_redex
  step_redex_proper F (application {v = v} wf wv) n h β b = let p = app_parts b in step_meeting_proper F v wf wv n h p.0 p.1 β p.2
  step_redex_proper F (subject {s = s'} {e = e} w) n h β b = let (α, α', γ, f, du, de) = case_parts b in step_case_proper F s' e w f du

  step_place_proper : (e : Exp) → at C x ≡ some (thread_of e) → (p : Place) → Placed e p → Proper (step_place C x p)
  unfolding step_place
  step_place_proper e h (settled v w) q = tt
  step_place_proper e h (meet F r d) q =
      let h' : at C x ≡ some (thread_of (plug F r)) = rw q.0 at h in
      let c = context F (s.fits x (thread_of (plug F r)) h').3 in
      step_redex_proper F d q.1 h' c.0 c.1
  step_place_proper e h loose q = q (derivation_closed (s.fits x (thread_of e) h).3)

  step_component_proper : (c : Option Component) → at C x ≡ c → Proper (on_thread c no_thread (λ e. step_place C x (place e)))
  step_component_proper (some (thread_of e)) h = step_place_proper e h (place e) (place_sound e)
  step_component_proper (some (holds v)) h = tt
  step_component_proper (some (open_for y)) h = tt
  step_component_proper (some used) h = tt
  step_component_proper (some awaited) h = tt
  step_component_proper none h = tt

  -- every answer is a rule, waiting, done or no-thread
  pub progress : Proper (step_of C x)
  unfolding step_of
  progress = step_component_proper (at C x) refl

  -- Corollary 1: no handle error
  pub no_used_handle : ¬ (step_of C x ≡ used_handle)
  no_used_handle e = rw e at progress

  -- no two values meet that do not fit
  pub no_wrong_kind : ¬ (step_of C x ≡ wrong_kind)
  no_wrong_kind e = rw e at progress
