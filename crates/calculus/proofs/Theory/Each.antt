-- No rule makes an index, a type number of a lambda, pair or list front, or a constant but unit: what is allowed of them before a step is allowed after it.
use Rattle.std.specs.Prelude.{◌≡◌, Bool, cond, false, true, [], ◌++◌, ◌∷◌, suc, zero, ℕ, eqb, length, set}
use Rattle.std.proofs.Common.{inl, inr}
use Rattle.calculus.specs.Syntax.{unit, Exp, var, name, const, lam, app, Component, thread_of, holds, open_for, used, awaited, Config, Allowed, Each, each_var, each_name, each_const, each_lam, each_app, EachAll, In, Shape, both, case_of, each_both, each_case}
use Rattle.calculus.specs.Reduction.{substitute, Context, hole, in_function, in_argument, plug, Rule, Reduces, beta, thread_new, future_deref, future_deref_exch, handle_new, handle_bind, cell_new, cell_exch, in_first, in_second, in_subject, future_deref_case, case_both}
use Rattle.calculus.proofs.Theory.Tests.{clash}
use Rattle.calculus.proofs.Theory.Lists.{set_cases, append_cases}

pub each_substitute : {Q : Allowed} (depth : ℕ) {v e : Exp} → Each Q v → Each Q e → Each Q (substitute depth v e)
unfolding substitute
each_substitute {Q} depth {v} w (each_var {i = i} a) = go (eqb i depth)
  where
    go : (b : Bool) → Each Q (cond b v (var i))
    go true = w
    go false = each_var a
each_substitute depth w each_name = each_name
each_substitute depth w (each_const c) = each_const c
each_substitute depth w (each_lam l s) = each_lam l (each_substitute (suc depth) w s)
each_substitute depth w (each_app p q) = each_app (each_substitute depth w p) (each_substitute depth w q)
each_substitute depth w (each_both l p q) = each_both l (each_substitute depth w p) (each_substitute depth w q)
each_substitute depth w (each_case p q) = each_case (each_substitute depth w p) (each_substitute (suc (suc depth)) w q)

each_plug : {Q : Allowed} (F : Context) {e : Exp} → Each Q (plug F e) → Each Q e × ((e' : Exp) → Each Q e' → Each Q (plug F e'))
unfolding plug
each_plug hole s = (s, λ e' p. p)
each_plug (in_function F a) (each_app p q) = let (r, f) = each_plug F p in (r, λ e' w. each_app (f e' w) q)
each_plug (in_argument v w F) (each_app p q) = let (r, f) = each_plug F q in (r, λ e' u. each_app p (f e' u))
each_plug (in_first s t F e₂) (each_both l p q) = let (r, f) = each_plug F p in (r, λ e' w. each_both l (f e' w) q)
each_plug (in_second s t v w F) (each_both l p q) = let (r, f) = each_plug F q in (r, λ e' u. each_both l p (f e' u))
each_plug (in_subject s F e₂) (each_case p q) = let (r, f) = each_plug F p in (r, λ e' w. each_case (f e' w) q)

each_function : {Q : Allowed} {f a : Exp} → Each Q (app f a) → Each Q f
each_function (each_app p q) = p

each_argument : {Q : Allowed} {f a : Exp} → Each Q (app f a) → Each Q a
each_argument (each_app p q) = q

each_body : {Q : Allowed} {t : ℕ} {e : Exp} → Each Q (lam t e) → Each Q e
each_body (each_lam l s) = s

each_case_parts : {Q : Allowed} {s : Shape} {e₁ e₂ : Exp} → Each Q (case_of s e₁ e₂) → Each Q e₁ × Each Q e₂
each_case_parts (each_case p q) = (p, q)

each_both_parts : {Q : Allowed} {s : Shape} {t : ℕ} {e₁ e₂ : Exp} → Each Q (both s t e₁ e₂) → Each Q e₁ × Each Q e₂
each_both_parts (each_both l p q) = (p, q)

module _ (Q : Allowed) where
  each_set : (C : Config) (x : ℕ) (c : Component) → EachAll Q C → In (Each Q) c → EachAll Q (set C x c)
  each_set C x c a s k b p = elim (set_cases C x k c p) [ inl q ↦ rw q.1 s | inr q ↦ a k b q.1 ]

  pub each_append : (C D : Config) → EachAll Q C → EachAll Q D → EachAll Q (C ++ D)
  each_append C D a b k c p = elim (append_cases C D k p) [ inl q ↦ a k c q | inr q ↦ b q.0 c q.2 ]

  each_one : (c : Component) (C : Config) → In (Each Q) c → EachAll Q C → EachAll Q (c ∷ C)
  each_one c C s a zero b p = let e : c ≡ b = cc in rw e at s
  each_one c C s a (suc k) b p = a k b p

  each_none : EachAll Q []
  each_none k c p = absurd (clash (cc))

  module _ (at_unit : Q.constant unit) where
    pub each_step : {C C' : Config} {x : ℕ} {r : Rule} → EachAll Q C → Reduces C x r C' → EachAll Q C'
    each_step {C} {x = x} a (beta F t e v wv h) =
        let p = each_plug F (a x _ h) in
        each_set C x _ a (p.1 _ (each_substitute 0 (each_argument p.0) (each_body (each_function p.0))))
    each_step {C} {x = x} a (thread_new F t v wv h) =
        let p = each_plug F (a x _ h) in
        each_append (set C x _) (thread_of (app v (name (length C))) ∷ []) (each_set C x _ a (p.1 _ each_name))
        (each_one (thread_of (app v (name (length C)))) [] (each_app (each_argument p.0) each_name) each_none)
    each_step {C} {x = x} a (future_deref F y v w wv ww h g) =
        let p = each_plug F (a x _ h) in each_set C x _ a (p.1 _ (each_app (a y _ g) (each_argument p.0)))
    each_step {C} {x = x} a (future_deref_exch F t y v w wv ww h g) =
        let p = each_plug F (a x _ h) in each_set C x _ a (p.1 _ (each_app (each_app (each_function (each_function p.0)) (a y _ g)) (each_argument p.0)))
    each_step {C} {x = x} a (future_deref_case F s y w e ww h g) =
        let p = each_plug F (a x _ h) in each_set C x _ a (p.1 _ (each_case (a y _ g) (each_case_parts p.0).1))
    each_step {C} {x = x} a (handle_new F t v wv h) =
        let p = each_plug F (a x _ h) in
        each_append (set C x _) (awaited ∷ open_for (length C) ∷ []) (each_set C x _ a (p.1 _ (each_app (each_app (each_argument p.0) each_name) each_name)))
        (each_one awaited (open_for (length C) ∷ []) tt (each_one (open_for (length C)) [] tt each_none))
    each_step {C} {x = x} a (handle_bind F z y v wv h g) =
        let p = each_plug F (a x _ h) in
        each_set (set (set C x (thread_of (plug F (const unit)))) y (thread_of v)) z used
        (each_set (set C x (thread_of (plug F (const unit)))) y (thread_of v)
        (each_set C x (thread_of (plug F (const unit))) a (p.1 (const unit) (each_const at_unit))) (each_argument p.0)) tt
    each_step {C} {x = x} a (cell_new F t v wv h) =
        let p = each_plug F (a x _ h) in
        each_append (set C x _) (holds v ∷ []) (each_set C x _ a (p.1 _ each_name)) (each_one (holds v) [] (each_argument p.0) each_none)
    each_step {C} {x = x} a (cell_exch F t y v w wv h g) =
        let p = each_plug F (a x _ h) in
        each_set (set C x (thread_of (plug F w))) y (holds v) (each_set C x (thread_of (plug F w)) a (p.1 w (a y (holds w) g))) (each_argument p.0)
    each_step {C} {x = x} a (case_both F s t v₁ v₂ e w₁ w₂ h) =
        let p = each_plug F (a x _ h) in
        let (u, b) = each_case_parts p.0 in
        let (u₁, u₂) = each_both_parts u in
        each_set C x _ a (p.1 _ (each_substitute 0 u₂ (each_substitute 1 u₁ b)))
