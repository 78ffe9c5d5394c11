-- Fig. 3's place: a closed expression is a value, or has exactly one place where two values meet or a value is to be taken apart.
use Rattle.std.proofs.Common.{◌∙◌, ap, sym, inl, inr, arith}
use Rattle.std.specs.Prelude.{◌≡◌, refl, ◌⊎◌, ℕ}
use Rattle.calculus.specs.Syntax.{unit, num, op, cell, exch, thread, handle, Shape, Exp, var, name, const, lam, app, both, case_of, Value, is_name, is_const, is_lam, is_exch, is_both}
use Rattle.calculus.specs.Reduction.{Context, hole, in_function, in_argument, in_first, in_second, in_subject, plug}
use Rattle.calculus.specs.Step.{Redex, application, subject, Place, settled, meet, loose, beside, within, place}
use Rattle.calculus.specs.Image.{Closed, closed_var, closed_app, closed_both, closed_case}
use Rattle.calculus.proofs.Theory.Tests.{clash}

-- what `place e` claims
abbrev pub Placed : Exp → Place → Type 0
Placed e (settled v w) = e ≡ v
Placed e (meet F r d) = (e ≡ plug F r) × ¬ Value r
Placed e loose = ¬ Closed 0 e

closed_app_parts : {depth : ℕ} {f a : Exp} → Closed depth (app f a) → Closed depth f × Closed depth a
closed_app_parts (closed_app p q) = (p, q)

closed_both_parts : {depth : ℕ} {s : Shape} {t : ℕ} {e₁ e₂ : Exp} → Closed depth (both s t e₁ e₂) → Closed depth e₁ × Closed depth e₂
closed_both_parts (closed_both p q) = (p, q)

closed_subject : {depth : ℕ} {s : Shape} {e₁ e₂ : Exp} → Closed depth (case_of s e₁ e₂) → Closed depth e₁
closed_subject (closed_case p q) = p

beside_sound : (f v : Exp) (wf : Value f) (wv : Value v) → Placed (app f v) (beside f v wf wv)
unfolding beside plug
beside_sound f v (is_const {c = op exch t}) w = refl
beside_sound f v (is_const {c = unit}) w = (refl, λ x. elim x [ ])
beside_sound f v (is_const {c = num n}) w = (refl, λ x. elim x [ ])
beside_sound f v (is_const {c = op cell t}) w = (refl, λ x. elim x [ ])
beside_sound f v (is_const {c = op thread t}) w = (refl, λ x. elim x [ ])
beside_sound f v (is_const {c = op handle t}) w = (refl, λ x. elim x [ ])
beside_sound f v is_name w = (refl, λ x. elim x [ ])
beside_sound f v is_lam w = (refl, λ x. elim x [ ])
beside_sound f v (is_exch u) w = (refl, λ x. elim x [ ])
beside_sound f v (is_both u u') w = (refl, λ x. elim x [ ])

-- e with `wrap` around it, where `frame` is the same around a context: it has e's place, or e is a value and the place is to the right of it
within_sound : (frame : Context → Context) (wrap : Exp → Exp) → ((F : Context) (r : Exp) → plug (frame F) r ≡ wrap (plug F r)) →
    (e : Exp) → (Closed 0 (wrap e) → Closed 0 e) → (right : (v : Exp) → Value v → Place) → ((v : Exp) (w : Value v) → Placed (wrap v) (right v w)) →
    (p : Place) → Placed e p → Placed (wrap e) (within frame p right)
unfolding within
within_sound frame wrap same e closed right after (settled v w) s = rw s (after v w)
within_sound frame wrap same e closed right after (meet F r d) s = (ap wrap s.0 ∙ sym (same F r), s.1)
within_sound frame wrap same e closed right after loose s = λ c. s (closed c)

-- sound: an expression is as its place says
pub place_sound : (e : Exp) → Placed e (place e)
unfolding place plug
place_sound (var i) = λ c. elim c [ closed_var l ↦ omega arith ]
place_sound (name k) = refl
place_sound (const c) = refl
place_sound (lam t e) = refl
place_sound (app f a) =
    within_sound (λ F. in_function F a) (λ x. app x a) (λ F r. refl) f (λ c. (closed_app_parts c).0) _
    (λ v w. within_sound (in_argument v w) (app v) (λ F r. refl) a (λ c. (closed_app_parts c).1) _ (λ v' w'. beside_sound v v' w w') (place a) (place_sound a))
    (place f) (place_sound f)
place_sound (both s t e₁ e₂) =
    within_sound (λ F. in_first s t F e₂) (λ x. both s t x e₂) (λ F r. refl) e₁ (λ c. (closed_both_parts c).0) _
    (λ v w. within_sound (in_second s t v w) (both s t v) (λ F r. refl) e₂ (λ c. (closed_both_parts c).1) _ (λ v' w'. refl) (place e₂) (place_sound e₂))
    (place e₁) (place_sound e₁)
place_sound (case_of s e₁ e₂) =
    within_sound (λ F. in_subject s F e₂) (λ x. case_of s x e₂) (λ F r. refl) e₁ closed_subject _ (λ v w. (refl, λ x. elim x [ ])) (place e₁) (place_sound e₁)

-- complete: a value's place is `settled`
pub place_value : {v : Exp} (w : Value v) → place v ≡ settled v w
unfolding place within beside
place_value is_name = refl
place_value is_const = refl
place_value is_lam = refl
place_value (is_exch w) = rw (place_value w)
place_value (is_both w w') = rw (place_value w, place_value w')

beside_meet : (f v : Exp) (wf : Value f) (wv : Value v) → ¬ Value (app f v) → beside f v wf wv ≡ meet hole (app f v) (application wf wv)
unfolding beside
beside_meet f v (is_const {c = op exch t}) w n = absurd (n (is_exch w))
beside_meet f v (is_const {c = unit}) w n = refl
beside_meet f v (is_const {c = num i}) w n = refl
beside_meet f v (is_const {c = op cell t}) w n = refl
beside_meet f v (is_const {c = op thread t}) w n = refl
beside_meet f v (is_const {c = op handle t}) w n = refl
beside_meet f v is_name w n = refl
beside_meet f v is_lam w n = refl
beside_meet f v (is_exch u) w n = refl
beside_meet f v (is_both u u') w n = refl

-- complete and unique: whatever context and redex make up an expression, they are the ones of its place
pub place_meet : (F : Context) {r : Exp} (d : Redex r) → ¬ Value r → place (plug F r) ≡ meet F r d
unfolding place plug within
place_meet hole (application {f = f} {v = v} wf wv) n = rw (place_value wf, place_value wv) (beside_meet f v wf wv n)
place_meet hole (subject w) n = rw (place_value w)
place_meet (in_function F a) d n = rw (place_meet F d n)
place_meet (in_argument u wu F) d n = rw (place_value wu, place_meet F d n)
place_meet (in_first s t F e) d n = rw (place_meet F d n)
place_meet (in_second s t u wu F) d n = rw (place_value wu, place_meet F d n)
place_meet (in_subject s F e) d n = rw (place_meet F d n)

-- a closed expression has a place
pub place_closed : (e : Exp) → Closed 0 e → ¬ (place e ≡ loose)
place_closed e c l = let s : ¬ Closed 0 e = rw l at (place_sound e) in s c

-- Fig. 3 gives one place
pub one_place : (F G : Context) (r q : Exp) → Redex r → Redex q → ¬ Value r → ¬ Value q → plug F r ≡ plug G q → (F ≡ G) × (r ≡ q)
one_place F G r q d c n m e =
    let p : place (plug F r) ≡ meet F r d = place_meet F d n in
    let p' : place (plug G q) ≡ meet G q c = place_meet G c m in
    (cc, cc)

-- and none in a value
pub no_place_in_value : (F : Context) (r : Exp) → Redex r → ¬ Value r → ¬ Value (plug F r)
no_place_in_value F r d n w =
    let p : place (plug F r) ≡ meet F r d = place_meet F d n in
    let q : place (plug F r) ≡ settled (plug F r) w = place_value w in
    clash (cc)

-- e has a place where values meet, and no other
abbrev pub OnePlace : Exp → Type 0
OnePlace e = (F : Context) × (r : Exp) × Redex r × (¬ Value r) × (e ≡ plug F r) × ((G : Context) (q : Exp) → Redex q → ¬ Value q → e ≡ plug G q → (F ≡ G) × (r ≡ q))

-- "Otherwise Fig. 3 gives one place where two values meet": a closed expression is a value, or has exactly one
pub decompose : (e : Exp) → Closed 0 e → Value e ⊎ OnePlace e
decompose e c = go (place e) (place_sound e)
  where
    go : (p : Place) → Placed e p → Value e ⊎ OnePlace e
    go (settled v w) s = inl (rw s w)
    go (meet F r d) s = inr (F, r, d, s.1, s.0, λ G q b n e'. one_place F G r q d b s.1 n (sym s.0 ∙ e'))
    go loose s = absurd (s c)
