-- Every answer of a step means what it says, and what has the meaning gets the answer: `step_of` is Fig. 5 as a function.
use Rattle.std.proofs.Common.{◌∙◌, ap}
use Rattle.std.specs.Prelude.{◌≡◌, ◌↔◌, ℕ}
use Rattle.std.proofs.Math.Path.{refl}
use Rattle.std.proofs.Math.Option.{Option, none, some}
use Rattle.calculus.specs.Syntax.{unit, num, op, cell, exch, thread, handle, Exp, name, const, app, Value, is_name, is_const, is_lam, is_exch, Component, thread_of, holds, open_for, used, awaited, Config, at, on_thread, Shape, pair, list, case_of, is_both}
use Rattle.calculus.specs.Typing.{TypeNumbers}
use Rattle.calculus.specs.Reduction.{Context, plug, Rule, Reduces, beta, thread_new, future_deref, future_deref_exch, handle_new, handle_bind, cell_new, cell_exch, future_deref_case, case_both}
use Rattle.calculus.specs.Step.{Place, settled, meet, loose, place, Answer, rule, waiting, done, no_thread, used_handle, wrong_kind, when_done, step_call, step_exchange, step_meeting, step_place, step_of, Needs, to_call, to_exchange, Unready, not_done, not_bound, AppliesUsed, Meets, Redex, application, subject, step_subject, step_case, step_redex, to_case}
use Rattle.calculus.specs.NewTypes.{function_at, coming, new_types, applied}
use Rattle.calculus.specs.Image.{Closed}
use Rattle.calculus.proofs.Theory.Tests.{clash}
use Rattle.calculus.proofs.Theory.Places.{Placed, place_sound, place_value, place_meet, no_place_in_value}

-- what an answer means
abbrev pub Justified : Config → ℕ → Answer → Type 0
Justified C x (rule r C') = Reduces C x r C'
Justified C x (waiting y) = Needs C x y × Unready C y
Justified C x done = (v : Exp) × Value v × (at C x ≡ some (thread_of v))
Justified C x no_thread = (e : Exp) → ¬ (at C x ≡ some (thread_of e))
Justified C x used_handle = AppliesUsed C x
Justified C x wrong_kind = Unit {0}

when_done_sound : (C : Config) (x y : ℕ) (w : Exp) (a : Answer) (p : Place) → place w ≡ p → Needs C x y → at C y ≡ some (thread_of w) →
    (Value w → Justified C x a) → Justified C x (when_done y p a)
unfolding when_done
when_done_sound C x y w a (settled v u) e n h k = k (let s : w ≡ v = rw e at (place_sound w) in rw s u)
when_done_sound C x y w a (meet F r d) e n h k = (n, not_done w (λ u. let q : place w ≡ settled w u = place_value u in clash (cc)) h)
when_done_sound C x y w a loose e n h k = (n, not_done w (λ u. let q : place w ≡ settled w u = place_value u in clash (cc)) h)

module _ (C : Config) (x : ℕ) (F : Context) where
  step_call_sound : (y : ℕ) (v : Exp) → Value v → at C x ≡ some (thread_of (plug F (app (name y) v))) → (c : Option Component) → at C y ≡ c →
      Justified C x (step_call C x F y v c)
  unfolding step_call
  step_call_sound y v wv h (some (thread_of w)) e = when_done_sound C x y w _ (place w) refl (to_call F v wv h) e (λ u. future_deref F y v w wv u h e)
  step_call_sound y v wv h (some awaited) e = (to_call F v wv h, not_bound e)
  step_call_sound y v wv h (some (open_for z)) e = handle_bind F y z v wv h e
  step_call_sound y v wv h (some used) e = (F, y, v, wv, h, e)
  step_call_sound y v wv h (some (holds w)) e = tt
  step_call_sound y v wv h none e = tt

  step_exchange_sound : (t y : ℕ) (v : Exp) → Value v → at C x ≡ some (thread_of (plug F (app (app (const (op exch t)) (name y)) v))) →
      (c : Option Component) → at C y ≡ c → Justified C x (step_exchange C x F t y v c)
  unfolding step_exchange
  step_exchange_sound t y v wv h (some (thread_of w)) e =
      when_done_sound C x y w _ (place w) refl (to_exchange F t v wv h) e (λ u. future_deref_exch F t y v w wv u h e)
  step_exchange_sound t y v wv h (some awaited) e = (to_exchange F t v wv h, not_bound e)
  step_exchange_sound t y v wv h (some (holds w)) e = cell_exch F t y v w wv h e
  step_exchange_sound t y v wv h (some (open_for z)) e = tt
  step_exchange_sound t y v wv h (some used) e = tt
  step_exchange_sound t y v wv h none e = tt

  step_meeting_sound : {f : Exp} (v : Exp) (wf : Value f) → Value v → at C x ≡ some (thread_of (plug F (app f v))) → Justified C x (step_meeting C x F wf v)
  unfolding step_meeting
  step_meeting_sound v (is_lam {t = t} {e = e}) wv h = beta F t e v wv h
  step_meeting_sound v (is_const {c = op thread t}) wv h = thread_new F t v wv h
  step_meeting_sound v (is_name {k = y}) wv h = step_call_sound y v wv h (at C y) refl
  step_meeting_sound v (is_exch {t = t} (is_name {k = y})) wv h = step_exchange_sound t y v wv h (at C y) refl
  step_meeting_sound v (is_const {c = op handle t}) wv h = handle_new F t v wv h
  step_meeting_sound v (is_const {c = op cell t}) wv h = cell_new F t v wv h
  step_meeting_sound v (is_const {c = unit}) wv h = tt
  step_meeting_sound v (is_const {c = num n}) wv h = tt
  step_meeting_sound v (is_const {c = op exch t}) wv h = tt
  step_meeting_sound v (is_exch is_const) wv h = tt
  step_meeting_sound v (is_exch is_lam) wv h = tt
  step_meeting_sound v (is_exch (is_exch w)) wv h = tt
  step_meeting_sound v (is_exch (is_both w w')) wv h = tt
  step_meeting_sound v (is_both w w') wv h = tt

  step_subject_sound : (s : Shape) (y : ℕ) (e : Exp) → at C x ≡ some (thread_of (plug F (case_of s (name y) e))) → (c : Option Component) → at C y ≡ c →
      Justified C x (step_subject C x F s y e c)
  unfolding step_subject
  step_subject_sound s y e h (some (thread_of w)) g = when_done_sound C x y w _ (place w) refl (to_case F s e h) g (λ u. future_deref_case F s y w e u h g)
  step_subject_sound s y e h (some awaited) g = (to_case F s e h, not_bound g)
  step_subject_sound s y e h (some (holds w)) g = tt
  step_subject_sound s y e h (some (open_for z)) g = tt
  step_subject_sound s y e h (some used) g = tt
  step_subject_sound s y e h none g = tt

  step_case_sound : (s : Shape) {v : Exp} (e : Exp) (w : Value v) → at C x ≡ some (thread_of (plug F (case_of s v e))) → Justified C x (step_case C x F s w e)
  unfolding step_case
  step_case_sound pair e (is_both {s = pair} {t = t} {v = v₁} {w = v₂} w w') h = case_both F pair t v₁ v₂ e w w' h
  step_case_sound list e (is_both {s = list} {t = t} {v = v₁} {w = v₂} w w') h = case_both F list t v₁ v₂ e w w' h
  step_case_sound s e (is_name {k = y}) h = step_subject_sound s y e h (at C y) refl
  step_case_sound pair e (is_both {s = list} w w') h = tt
  step_case_sound list e (is_both {s = pair} w w') h = tt
  step_case_sound s e is_const h = tt
  step_case_sound s e is_lam h = tt
  step_case_sound s e (is_exch w) h = tt

  step_redex_sound : {r : Exp} (d : Redex r) → at C x ≡ some (thread_of (plug F r)) → Justified C x (step_redex C x F d)
  unfolding step_redex
  step_redex_sound (application {v = v} wf wv) h = step_meeting_sound v wf wv h
  step_redex_sound (subject {s = s} {e = e} w) h = step_case_sound s e w h

step_place_sound : (C : Config) (x : ℕ) (e : Exp) → at C x ≡ some (thread_of e) → (p : Place) → Placed e p → Justified C x (step_place C x p)
unfolding step_place
step_place_sound C x e h (settled v w) s = (v, w, rw s at h)
step_place_sound C x e h (meet F r d) s = step_redex_sound C x F d (rw s.0 at h)
step_place_sound C x e h loose s = tt

step_component_sound : (C : Config) (x : ℕ) (c : Option Component) → at C x ≡ c → Justified C x (on_thread c no_thread (λ e. step_place C x (place e)))
step_component_sound C x (some (thread_of e)) h = step_place_sound C x e h (place e) (place_sound e)
step_component_sound C x (some (holds v)) h = λ e g. clash (cc)
step_component_sound C x (some (open_for y)) h = λ e g. clash (cc)
step_component_sound C x (some used) h = λ e g. clash (cc)
step_component_sound C x (some awaited) h = λ e g. clash (cc)
step_component_sound C x none h = λ e g. clash (cc)

-- every answer means what it says
pub step_sound : (C : Config) (x : ℕ) → Justified C x (step_of C x)
unfolding step_of
step_sound C x = step_component_sound C x (at C x) refl

-- the other way round: what has the meaning gets the answer
step_at : (C : Config) (x : ℕ) (F : Context) {r : Exp} (d : Redex r) → ¬ Value r → at C x ≡ some (thread_of (plug F r)) → step_of C x ≡ step_redex C x F d
unfolding step_of step_place
step_at C x F d n h = rw (h, place_meet F d n)

pub step_rule : {C C' : Config} {x : ℕ} {r : Rule} → Reduces C x r C' → step_of C x ≡ rule r C'
unfolding step_redex step_meeting step_call step_exchange step_case step_subject when_done
step_rule {C} {x = x} (beta F t e v wv h) = step_at C x F (application is_lam wv) (λ n. elim n [ ]) h
step_rule {C} {x = x} (thread_new F t v wv h) = step_at C x F (application is_const wv) (λ n. elim n [ ]) h
step_rule {C} {x = x} (future_deref F y v w wv ww h g) = step_at C x F (application is_name wv) (λ n. elim n [ ]) h ∙ rw (g, place_value ww)
step_rule {C} {x = x} (future_deref_exch F t y v w wv ww h g) =
    step_at C x F (application (is_exch is_name) wv) (λ n. elim n [ ]) h ∙ rw (g, place_value ww)
step_rule {C} {x = x} (future_deref_case F s y w e ww h g) = step_at C x F (subject is_name) (λ n. elim n [ ]) h ∙ rw (g, place_value ww)
step_rule {C} {x = x} (handle_new F t v wv h) = step_at C x F (application is_const wv) (λ n. elim n [ ]) h
step_rule {C} {x = x} (handle_bind F z y v wv h g) = step_at C x F (application is_name wv) (λ n. elim n [ ]) h ∙ rw g
step_rule {C} {x = x} (cell_new F t v wv h) = step_at C x F (application is_const wv) (λ n. elim n [ ]) h
step_rule {C} {x = x} (cell_exch F t y v w wv h g) =
    step_at C x F (application (is_exch is_name) wv) (λ n. elim n [ ]) h ∙ rw g
step_rule {C} {x = x} (case_both F pair t v₁ v₂ e w w' h) = step_at C x F (subject (is_both w w')) (λ n. elim n [ ]) h
step_rule {C} {x = x} (case_both F list t v₁ v₂ e w w' h) = step_at C x F (subject (is_both w w')) (λ n. elim n [ ]) h

-- rule r with outcome C' is answered exactly when Fig. 5 lets x go so
pub rule_iff : (C C' : Config) (x : ℕ) (r : Rule) → (step_of C x ≡ rule r C') ↔ Reduces C x r C'
rule_iff C C' x r = (λ e. rw e at (step_sound C x), λ d. step_rule d)

-- Fig. 5 leaves a thread no choice
pub one_outcome : (C C' C'' : Config) (x : ℕ) (r r' : Rule) → Reduces C x r C' → Reduces C x r' C'' → (r ≡ r') × (C' ≡ C'')
one_outcome C C' C'' x r r' d d' = let p = step_rule d in let q = step_rule d' in (cc, cc)

-- done exactly when x's expression is a value
pub done_iff : (C : Config) (x : ℕ) → (step_of C x ≡ done) ↔ ((v : Exp) × Value v × (at C x ≡ some (thread_of v)))
unfolding step_of step_place
done_iff C x = (λ e. rw e at (step_sound C x), λ d. rw (d.2, place_value d.1))

-- waiting for y exactly when x's place needs y's value, and y is a thread not done or a future not bound
pub waiting_iff : (C : Config) (x y : ℕ) → (step_of C x ≡ waiting y) ↔ (Needs C x y × Unready C y)
unfolding step_redex step_meeting step_call step_exchange step_case step_subject when_done
waiting_iff C x y = (λ e. rw e at (step_sound C x), λ d. waits d.0 d.1)
  where
    unready : (e : Exp) (a : Answer) → ¬ Value e → (p : Place) → place e ≡ p → when_done y p a ≡ waiting y
    unready e a n (settled v w) q = absurd (n (let s : e ≡ v = rw q at (place_sound e) in rw s w))
    unready e a n (meet F r d) q = refl
    unready e a n loose q = refl

    waits : Needs C x y → Unready C y → step_of C x ≡ waiting y
    waits (to_call F v wv h) (not_bound g) = step_at C x F (application is_name wv) (λ n. elim n [ ]) h ∙ rw g
    waits (to_call F v wv h) (not_done e n g) = step_at C x F (application is_name wv) (λ n. elim n [ ]) h ∙ rw g (unready e _ n (place e) refl)
    waits (to_exchange F t v wv h) (not_bound g) =
        step_at C x F (application (is_exch is_name) wv) (λ n. elim n [ ]) h ∙ rw g
    waits (to_exchange F t v wv h) (not_done e n g) =
        step_at C x F (application (is_exch is_name) wv) (λ n. elim n [ ]) h ∙ rw g (unready e _ n (place e) refl)
    waits (to_case F s u h) (not_bound g) = step_at C x F (subject is_name) (λ n. elim n [ ]) h ∙ rw g
    waits (to_case F s u h) (not_done e n g) = step_at C x F (subject is_name) (λ n. elim n [ ]) h ∙ rw g (unready e _ n (place e) refl)

-- no-thread exactly when x is no thread
pub no_thread_iff : (C : Config) (x : ℕ) → (step_of C x ≡ no_thread) ↔ ((e : Exp) → ¬ (at C x ≡ some (thread_of e)))
unfolding step_of
no_thread_iff C x = (λ e. rw e at (step_sound C x), λ n. none_there (at C x) n)
  where
    none_there : (c : Option Component) → ((e : Exp) → ¬ (c ≡ some (thread_of e))) → on_thread c no_thread (λ e. step_place C x (place e)) ≡ no_thread
    none_there (some (thread_of e)) n = absurd (n e refl)
    none_there (some (holds v)) n = refl
    none_there (some (open_for y)) n = refl
    none_there (some used) n = refl
    none_there (some awaited) n = refl
    none_there none n = refl

-- used-handle exactly when x's place applies one
pub used_handle_iff : (C : Config) (x : ℕ) → (step_of C x ≡ used_handle) ↔ AppliesUsed C x
unfolding step_redex step_meeting step_call
used_handle_iff C x =
    (λ e. rw e at (step_sound C x), λ d. step_at C x d.0 (application is_name d.3) (λ n. elim n [ ]) d.4 ∙ rw d.5)

-- wrong-kind exactly when two values meet or a value is to be taken apart, and neither a rule, nor waiting, nor a used handle fits
pub wrong_kind_iff : (C : Config) (x : ℕ) → ((e : Exp) → at C x ≡ some (thread_of e) → Closed 0 e) → (step_of C x ≡ wrong_kind) ↔
    (Meets C x × ((r : Rule) (C' : Config) → ¬ Reduces C x r C') × ((y : ℕ) → ¬ (Needs C x y × Unready C y)) × ¬ AppliesUsed C x)
unfolding step_of step_place
wrong_kind_iff C x closed = (
  λ q. (
    meets (at C x) refl q,
    (λ r C' d. let p = step_rule d in clash (cc)),
    (λ y d. let p = (waiting_iff C x y).1 d in clash (cc)),
    λ d. let p = (used_handle_iff C x).1 d in clash (cc),
  ),
  λ d. only (step_of C x) refl (step_sound C x) d,
)
  where
    placed : (e : Exp) (p : Place) → at C x ≡ some (thread_of e) → Placed e p → step_place C x p ≡ wrong_kind → Meets C x
    placed e (settled v w) h s q = absurd (clash (cc))
    placed e (meet F r d) h s q = (F, r, d, s.1, rw s.0 at h)
    placed e loose h s q = absurd (s (closed e h))

    meets : (c : Option Component) → at C x ≡ c → on_thread c no_thread (λ e. step_place C x (place e)) ≡ wrong_kind → Meets C x
    meets (some (thread_of e)) h q = placed e (place e) h (place_sound e) q
    meets (some (holds v)) h q = absurd (clash (cc))
    meets (some (open_for y)) h q = absurd (clash (cc))
    meets (some used) h q = absurd (clash (cc))
    meets (some awaited) h q = absurd (clash (cc))
    meets none h q = absurd (clash (cc))

    only : (a : Answer) → step_of C x ≡ a → Justified C x a →
        (Meets C x × ((r : Rule) (C' : Config) → ¬ Reduces C x r C') × ((y : ℕ) → ¬ (Needs C x y × Unready C y)) × ¬ AppliesUsed C x) → a ≡ wrong_kind
    only (rule r C') e j d = absurd (d.1 r C' j)
    only (waiting y) e j d = absurd (d.2 y j)
    only done e j d = let m = d.0 in absurd (no_place_in_value m.0 m.1 m.2 m.3
        (let h = m.4 in let h' = j.2 in let q : j.0 ≡ plug m.0 m.1 = cc in rw q at j.1))
    only no_thread e j d = absurd (j _ d.0.4)
    only used_handle e j d = absurd (d.3 j)
    only wrong_kind e j d = refl

pub function_meet : (C : Config) (x : ℕ) (F : Context) {r : Exp} (d : Redex r) → ¬ Value r → at C x ≡ some (thread_of (plug F r)) → function_at C x ≡ applied d
unfolding function_at
function_meet C x F d n h = rw (h, place_meet F d n)

-- the new names' types are those of the function applied
pub new_at : (τ : TypeNumbers) (C : Config) (x : ℕ) (F : Context) {r : Exp} (d : Redex r) → ¬ Value r → at C x ≡ some (thread_of (plug F r)) →
    new_types τ C x ≡ coming τ (applied d)
unfolding new_types
new_at τ C x F d n h = ap (coming τ) (function_meet C x F d n h)
