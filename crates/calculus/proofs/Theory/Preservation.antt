-- Every rule of Fig. 5 leaves a sound configuration sound: the paper's Theorem 2, subject reduction.
use Rattle.std.proofs.Common.{◌∙◌, add-zero, length-set}
use Rattle.std.specs.Prelude.{◌≡◌, ◌⊎◌, Bool, cond, false, true, ◌+◌, ◌<◌, ◌≤◌, suc, zero, ℕ, eqb, set}
use Rattle.std.proofs.Math.Path.{ap, refl, sym}
use Rattle.std.proofs.Math.Logic.{inl, inr}
use Rattle.std.proofs.Math.Option.{Option, some}
use mathlib.Core.List.{List, [], ◌++◌, ◌∷◌, append-nil}
use native.Mathlib.Omega.{arith}
use Rattle.std.proofs.Math.ListN.{length, length-append}
use Rattle.calculus.specs.Types.{Multiplicity, once, many, LinType, unit_type, ref, fun, multiplicity}
use Rattle.calculus.specs.Syntax.{unit, op, cell, exch, thread, handle, Exp, name, const, lam, app, Value, is_name, is_const, is_lam, is_exch, Component, thread_of, holds, open_for, used, awaited, Config, at, In, sum_in, sum_all, Shape, both, case_of, is_both}
use Rattle.calculus.specs.Typing.{TypeNumbers, NameTypes, of_unit, of_op, fig8_cell, fig8_exch, fig8_thread, fig8_handle, no_once_nil, split_nil, Derivation, d_const, d_name, d_many, d_once, d_app, Fig10, d_both, d_case}
use Rattle.calculus.specs.Reduction.{substitute, Context, plug, Rule, Reduces, beta, thread_new, future_deref, future_deref_exch, handle_new, handle_bind, cell_new, cell_exch, substitute_both, future_deref_case, case_both}
use Rattle.calculus.specs.Names.{count, OnceName, Outside, out_name, out_const, out_once, out_none, out_app, out_both, out_case}
use Rattle.calculus.specs.Step.{application, subject}
use Rattle.calculus.specs.NewTypes.{result_type, future_and_handle, coming, new_types}
use Rattle.calculus.proofs.Theory.Tests.{clash}
use Rattle.calculus.proofs.Theory.Lists.{at_bound, set_other, append_right}
use Rattle.calculus.proofs.Theory.Expressions.{count_same, count_other, count_plug, absent_outside, outside_plug, many_value_no_once, substitution, substitution_at, substitution_both, outside_substitute, count_beta, context, more_names}
use Rattle.calculus.proofs.Theory.Environments.{last, next}
use Rattle.calculus.proofs.Theory.OneType.{one_parts}
use Rattle.calculus.proofs.Theory.Step.{new_at}
use Rattle.calculus.proofs.Theory.Configurations.{types_more, sum_set, sum_part}
use Rattle.calculus.proofs.Theory.Sound.{Fits, Sound, absent}
use Rattle.calculus.proofs.Theory.Changes.{grow, HasExpression, replace, exchange, bind}

-- what a derivation for a closed application says
module _ {τ : TypeNumbers} {Σ : NameTypes} where
  pub app_parts : {f a : Exp} {β : LinType} → Derivation τ Σ [] (app f a) β →
      (κ : Multiplicity) × (α : LinType) × Derivation τ Σ [] f (fun κ α β) × Derivation τ Σ [] a α
  app_parts (d_app {κ = κ} {α = α} split_nil d₁ d₂) = (κ, α, d₁, d₂)

  pub lambda_body : {t : ℕ} {e : Exp} {κ : Multiplicity} {α β : LinType} → Derivation τ Σ [] (lam t e) (fun κ α β) → Derivation τ Σ (some α ∷ []) e β
  lambda_body (d_many p n d) = d
  lambda_body (d_once p d) = d

  pub name_type : {k : ℕ} {α : LinType} → Derivation τ Σ [] (name k) α → at Σ k ≡ some α
  name_type (d_name n p) = p

  pub thread_parts : {t : ℕ} {v : Exp} {β : LinType} → Derivation τ Σ [] (app (const (op thread t)) v) β →
      (κ κ' : Multiplicity) × (τ t ≡ some (fun κ' (fun κ β β) β)) × (multiplicity β ≡ many) × Derivation τ Σ [] v (fun κ β β)
  thread_parts (d_app split_nil (d_const n (of_op p (fig8_thread {κ = κ} {κ' = κ'} m))) d) = (κ, κ', p, m, d)

  pub cell_parts : {t : ℕ} {v : Exp} {β : LinType} → Derivation τ Σ [] (app (const (op cell t)) v) β →
      (κ : Multiplicity) × (α : LinType) × (β ≡ ref α) × (τ t ≡ some (fun κ α (ref α))) × Derivation τ Σ [] v α
  cell_parts (d_app split_nil (d_const n (of_op p (fig8_cell {κ = κ} {α = α}))) d) = (κ, α, refl, p, d)

  pub handle_parts : {t : ℕ} {v : Exp} {ρ : LinType} → Derivation τ Σ [] (app (const (op handle t)) v) ρ →
      (κ κ' κ'' : Multiplicity) × (α : LinType) × (τ t ≡ some (fun κ'' (fun κ α (fun κ' (fun once α unit_type) ρ)) ρ)) × (multiplicity α ≡ many) ×
      Derivation τ Σ [] v (fun κ α (fun κ' (fun once α unit_type) ρ))
  handle_parts (d_app split_nil (d_const n (of_op p (fig8_handle {κ = κ} {κ' = κ'} {κ'' = κ''} {α = α} m))) d) = (κ, κ', κ'', α, p, m, d)

  pub exch_parts : {t : ℕ} {u v : Exp} {α : LinType} → Derivation τ Σ [] (app (app (const (op exch t)) u) v) α →
      Derivation τ Σ [] u (ref α) × Derivation τ Σ [] v α ×
      ((w : Exp) → Derivation τ Σ [] w (ref α) → Derivation τ Σ [] (app (app (const (op exch t)) w) v) α)
  exch_parts (d_app split_nil (d_app split_nil (d_const n (of_op p fig8_exch)) du) dv) = (du, dv, λ w dw. d_app split_nil (d_app split_nil (d_const n (of_op p fig8_exch)) dw) dv)

  pub case_parts : {s : Shape} {u e : Exp} {δ : LinType} → Derivation τ Σ [] (case_of s u e) δ →
      (α β γ : LinType) × Fig10 s γ α β × Derivation τ Σ [] u γ × Derivation τ Σ (some β ∷ some α ∷ []) e δ
  case_parts (d_case {α = α} {β = β} {γ = γ} f split_nil d₁ d₂) = (α, β, γ, f, d₁, d₂)

  pub both_parts : {s : Shape} {t : ℕ} {v₁ v₂ : Exp} {α β γ : LinType} → Fig10 s γ α β → Derivation τ Σ [] (both s t v₁ v₂) γ →
      Derivation τ Σ [] v₁ α × Derivation τ Σ [] v₂ β
  both_parts f (d_both p f' split_nil d₁ d₂) = let (q, q') = one_parts f f' in (rw q d₁, rw q' d₂)

-- a handle's type says its future's
same_future : {o : Option LinType} {κ κ' μ μ' : Multiplicity} {α β φ ψ ρ ρ' : LinType} → o ≡ some (fun κ (fun κ' α φ) ρ) → o ≡ some (fun μ (fun μ' β ψ) ρ') → α ≡ β
same_future p q = cc

outside_body : {τ : TypeNumbers} {k t : ℕ} {e : Exp} → Outside τ k (lam t e) → Outside τ k e
outside_body (out_once p o) = o
outside_body {k} (out_none {e = e} c) = absent_outside k e c

pub outside_function : {τ : TypeNumbers} {k : ℕ} {f a : Exp} → Outside τ k (app f a) → Outside τ k f
outside_function (out_app p q) = p

pub outside_argument : {τ : TypeNumbers} {k : ℕ} {f a : Exp} → Outside τ k (app f a) → Outside τ k a
outside_argument (out_app p q) = q

outside_subject : {τ : TypeNumbers} {k : ℕ} {s : Shape} {e₁ e₂ : Exp} → Outside τ k (case_of s e₁ e₂) → Outside τ k e₁
outside_subject (out_case p q) = p

outside_case_body : {τ : TypeNumbers} {k : ℕ} {s : Shape} {e₁ e₂ : Exp} → Outside τ k (case_of s e₁ e₂) → Outside τ k e₂
outside_case_body (out_case p q) = q

outside_both : {τ : TypeNumbers} {k : ℕ} {s : Shape} {t : ℕ} {e₁ e₂ : Exp} → Outside τ k (both s t e₁ e₂) → Outside τ k e₁ × Outside τ k e₂
outside_both (out_both p q) = (p, q)

at_one : (a : Component) (i : ℕ) {c : Component} → at (a ∷ []) i ≡ some c → (i ≡ 0) × (c ≡ a)
at_one a zero h = (refl, cc)
at_one a (suc i) h = absurd (clash (cc))

at_two : (a b : Component) (i : ℕ) {c : Component} → at (a ∷ b ∷ []) i ≡ some c → ((i ≡ 0) × (c ≡ a)) ⊎ ((i ≡ 1) × (c ≡ b))
at_two a b zero h = inl (refl, cc)
at_two a b (suc i) h = let p = at_one b i h in inr (ap suc p.0, p.1)

count_name : (k j : ℕ) → count k (name j) ≤ 1
unfolding count
count_name k j = go (eqb j k)
  where
    go : (b : Bool) → cond b 1 0 ≤ 1
    go true = omega arith
    go false = omega arith

module _ {τ : TypeNumbers} {S : List LinType} {C : Config} (s : Sound τ S C) (x : ℕ) (F : Context) where
  -- what stands at the place has a type there
  pub at_place : (r : Exp) → at C x ≡ some (thread_of (plug F r)) →
      (β : LinType) × Derivation τ S [] r β
  at_place r h = let c = context F (s.fits x (thread_of (plug F r)) h).3 in (c.0, c.1)

  pub outside_place : (r : Exp) → at C x ≡ some (thread_of (plug F r)) → (k : ℕ) → OnceName S k → Outside τ k r
  outside_place r h k o = (outside_plug k F r (s.outside k o x (thread_of (plug F r)) h)).0

  -- the thread fits its type when what stands at the place changes to something of its type
  refits : (r r' : Exp) → at C x ≡ some (thread_of (plug F r)) →
      ((β : LinType) → Derivation τ S [] r β → Derivation τ S [] r' β) → Fits τ S C x (thread_of (plug F r'))
  refits r r' h typed =
      let f = s.fits x (thread_of (plug F r)) h in
      let c = context F f.3 in
      (f.0, f.1, f.2, c.2 r' (typed c.0 c.1))

  -- a reduction within the thread
  reduce : (r r' : Exp) → at C x ≡ some (thread_of (plug F r)) →
      ((β : LinType) → Derivation τ S [] r β → Derivation τ S [] r' β) →
      ((k : ℕ) → OnceName S k → Outside τ k r → (count k r' ≤ count k r) × Outside τ k r') →
      Sound τ S (set C x (thread_of (plug F r')))
  reduce r r' h typed less = replace s x (plug F r') h (refits r r' h typed) (λ k o.
      let (c, out) = less k o (outside_place r h k o) in
      (omega (arith, count_plug k F r, count_plug k F r'), (outside_plug k F r (s.outside k o x (thread_of (plug F r)) h)).1 r' out))

  -- rule 1
  beta_sound : (t : ℕ) (e v : Exp) → Value v → at C x ≡ some (thread_of (plug F (app (lam t e) v))) → Sound τ S (set C x (thread_of (plug F (substitute 0 v e))))
  unfolding count
  beta_sound t e v wv h = reduce (app (lam t e) v) (substitute 0 v e) h
      (λ β d. let p = app_parts d in substitution (lambda_body p.2) wv p.3)
      (λ k o out. let p = app_parts (at_place (app (lam t e) v) h).1 in (
        omega (arith, count_beta last (lambda_body p.2) wv p.3 k o (outside_argument out)),
        outside_substitute last (lambda_body p.2) wv p.3 k o (outside_body (outside_function out)) (outside_argument out),
      ))

  -- rules 8 and 9: v₁ takes the place of var 1, then v₂ that of var 0
  case_sound : (s : Shape) (t : ℕ) (v₁ v₂ e : Exp) → Value v₁ → Value v₂ → at C x ≡ some (thread_of (plug F (case_of s (both s t v₁ v₂) e))) →
      Sound τ S (set C x (thread_of (plug F (substitute_both v₁ v₂ e))))
  unfolding count
  case_sound s' t v₁ v₂ e w₁ w₂ h = reduce (case_of s' (both s' t v₁ v₂) e) (substitute_both v₁ v₂ e) h
      (λ δ d. let (α, β, γ, f, du, de) = case_parts d in let (d₁, d₂) = both_parts f du in substitution_both de d₁ d₂)
      (λ k o out.
      let (α, β, γ, f, du, de) = case_parts (at_place (case_of s' (both s' t v₁ v₂) e) h).1 in
      let (d₁, d₂) = both_parts f du in
      let (o₁, o₂) = outside_both (outside_subject out) in
      let oe = outside_substitute (next last) de w₁ d₁ k o (outside_case_body out) o₁ in (
        omega (arith, count_beta (next last) de w₁ d₁ k o o₁, count_beta last (substitution_at (next last) de d₁) w₂ d₂ k o o₂),
        outside_substitute last (substitution_at (next last) de d₁) w₂ d₂ k o oe o₂,
      ))

  -- a thread's name has a many type, and its value no once name
  thread_value : (y : ℕ) (w : Exp) → Value w → at C y ≡ some (thread_of w) → (α : LinType) → at S y ≡ some α →
      Derivation τ S [] w α × ((k : ℕ) → OnceName S k → count k w ≡ 0)
  thread_value y w ww g α t =
      let f = s.fits y (thread_of w) g in
      let e : f.0 ≡ α = cc in
      (rw e at f.3, λ k o. many_value_no_once ww f.3 f.2 k o (s.outside k o y (thread_of w) g))

  -- rule 3
  deref_sound : (y : ℕ) (v w : Exp) → Value v → Value w → at C x ≡ some (thread_of (plug F (app (name y) v))) → at C y ≡ some (thread_of w) →
      Sound τ S (set C x (thread_of (plug F (app w v))))
  unfolding count
  deref_sound y v w wv ww h g = reduce (app (name y) v) (app w v) h
      (λ β d. let p = app_parts d in d_app split_nil (thread_value y w ww g _ (name_type p.2)).0 p.3)
      (λ k o out. let p = app_parts (at_place (app (name y) v) h).1 in
      let q = (thread_value y w ww g _ (name_type p.2)).1 k o in
      (omega arith, out_app (absent_outside k w q) (outside_argument out)))

  deref_exch_sound : (t y : ℕ) (v w : Exp) → Value v → Value w → at C x ≡ some (thread_of (plug F (app (app (const (op exch t)) (name y)) v))) →
      at C y ≡ some (thread_of w) → Sound τ S (set C x (thread_of (plug F (app (app (const (op exch t)) w) v))))
  unfolding count
  deref_exch_sound t y v w wv ww h g = reduce (app (app (const (op exch t)) (name y)) v) (app (app (const (op exch t)) w) v) h
      (λ β d. let p = exch_parts d in p.2 w (thread_value y w ww g _ (name_type p.0)).0)
      (λ k o out. let p = exch_parts (at_place _ h).1 in
      let q = (thread_value y w ww g _ (name_type p.0)).1 k o in
      (omega arith, out_app (out_app out_const (absent_outside k w q)) (outside_argument out)))

  deref_case_sound : (s' : Shape) (y : ℕ) (w e : Exp) → Value w → at C x ≡ some (thread_of (plug F (case_of s' (name y) e))) → at C y ≡ some (thread_of w) →
      Sound τ S (set C x (thread_of (plug F (case_of s' w e))))
  unfolding count
  deref_case_sound s' y w e ww h g = reduce (case_of s' (name y) e) (case_of s' w e) h
      (λ δ d. let (α, β, γ, f, du, de) = case_parts d in d_case f split_nil (thread_value y w ww g γ (name_type du)).0 de)
      (λ k o out.
      let (α, β, γ, f, du, de) = case_parts (at_place (case_of s' (name y) e) h).1 in
      let q = (thread_value y w ww g γ (name_type du)).1 k o in
      (omega arith, out_case (absent_outside k w q) (outside_case_body out)))

  -- rule 7: v and w change places, and with them the once names that they hold; in thread and cell together each stands as often as before
  exch_sound : (t y : ℕ) (v w : Exp) → Value v → at C x ≡ some (thread_of (plug F (app (app (const (op exch t)) (name y)) v))) →
      at C y ≡ some (holds w) → Sound τ S (set (set C x (thread_of (plug F w))) y (holds v))
  unfolding count
  exch_sound t y v w wv h g =
      let r : Exp = app (app (const (op exch t)) (name y)) v in
      let f = s.fits y (holds w) g in
      let p = exch_parts (at_place r h).1 in
      exchange s x y (plug F w) v h g
      (refits r w h (λ β d. let q = name_type (exch_parts d).0 in let e : f.0 ≡ β = cc in rw e at f.3))
      ((at_place r h).0, name_type p.0, wv, p.1)
      (λ k o. (
        omega (arith, count_plug k F r, count_plug k F w),
        (outside_plug k F r (s.outside k o x (thread_of (plug F r)) h)).1 w (s.outside k o y (holds w) g),
        outside_argument (outside_place r h k o),
      ))

  -- rule 5
  bind_sound : (z y : ℕ) (v : Exp) → Value v → at C x ≡ some (thread_of (plug F (app (name z) v))) → at C z ≡ some (open_for y) →
      Sound τ S (set (set (set C x (thread_of (plug F (const unit)))) y (thread_of v)) z used)
  unfolding count sum_in
  bind_sound z y v wv h g =
      let r : Exp = app (name z) v in
      let f = s.fits z (open_for y) g in
      let p = app_parts (at_place r h).1 in
      let tz : at S z ≡ some (fun p.0 p.1 (at_place r h).0) = name_type p.2 in
      let e : f.0 ≡ p.1 = cc in
      let dv : Derivation τ S [] v f.0 = rw e p.3 in
      let u : Derivation τ S [] (const unit) unit_type = d_const no_once_nil of_unit in
      let no_once : (k : ℕ) → OnceName S k → count k v ≡ 0 =
      λ k o. many_value_no_once wv dv f.3 k o (outside_argument (outside_place r h k o)) in
      let s₁ : Sound τ S (set C x (thread_of (plug F (const unit)))) = reduce r (const unit) h
      (λ β d. let q = name_type (app_parts d).2 in let b : unit_type ≡ β = cc in rw b at u)
      (λ k o out. (omega arith, out_const)) in
      bind s₁ z y v (set_other C x z (thread_of (plug F (const unit))) (λ e. clash (cc)) ∙ g)
      (omega (arith, sum_set (sum_in (count z)) C x (thread_of (plug F (const unit))) h, count_plug z F r, count_plug z F (const unit), count_same z, s.linear z (fun once f.0 unit_type, f.1, refl)))
      (λ α t. let b : f.0 ≡ α = cc in rw b at dv)
      no_once

  -- a name of a once type that C has is not the one to come
  old_name : (k m : ℕ) → OnceName S k → length C ≤ m → count k (name m) ≡ 0
  old_name k m o l = count_other k m (λ e. omega (arith, at_bound S k o.1, s.sizes))

  new_name : (α : LinType) (N : List LinType) → at (S ++ (α ∷ N)) (length C) ≡ some α
  new_name α N = let e : length S + 0 ≡ length C = omega (arith, s.sizes) in rw e at (append_right S (α ∷ N) 0)

  -- a reduction to a new name, with component c and the many type α
  one_new : (r : Exp) (α : LinType) (c : Component) → at C x ≡ some (thread_of (plug F r)) → multiplicity α ≡ many →
      ((β : LinType) → Derivation τ (S ++ (α ∷ [])) [] r β → α ≡ β) → HasExpression c →
      Fits τ (S ++ (α ∷ [])) (set C x (thread_of (plug F (name (length C)))) ++ (c ∷ [])) (length C) c →
      ((k : ℕ) → OnceName S k → sum_in (count k) c ≤ count k r) →
      ((k : ℕ) → OnceName S k → Outside τ k r → In (Outside τ k) c) →
      Sound τ (S ++ (α ∷ [])) (set C x (thread_of (plug F (name (length C)))) ++ (c ∷ []))
  unfolding sum_all
  one_new r α c h m same p f counts out = grow s h (record {
    sizes = refl;
    typed = λ γ d. let q = context F (more_names (types_more S (α ∷ [])) d) in
        q.2 (name (length C)) (d_name no_once_nil (new_name α [] ∙ ap some (same q.0 q.1)));
    fits = λ i b q. let e = at_one c i q in rw (e.0, e.1, add-zero) f;
    for_new = λ i y q. absurd (plain (open_for y) (λ n. n) i q);
    one_handle = λ y i j q q'. absurd (plain (open_for y) (λ n. n) i q);
    none_used = λ i q. plain used (λ n. n) i q;
    counts = λ k o. omega (arith, count_plug k F r, count_plug k F (name (length C)), counts k o, old_name k (length C) o (omega arith));
    new_counts = λ k l o. absurd (no_new k l o);
    outside = λ k o u. let q = outside_plug k F r u in (q.1 (name (length C)) out_name, λ i b e. let w = at_one c i e in rw w.1 (out k o q.0));
    new_outside = λ k l o. absurd (no_new k l o);
  })
    where
      no_new : (k : ℕ) → length C ≤ k → OnceName (S ++ (α ∷ [])) k → ⊥
      no_new k l o =
          let b : k < length (S ++ (α ∷ [])) = at_bound (S ++ (α ∷ [])) k o.1 in
          let e : k ≡ length C = omega (arith, s.sizes, length-append S (α ∷ [])) in
          clash (let u = o.1 in let w = o.2 in cc (new_name α []))

      plain : (b : Component) → ¬ HasExpression b → (i : ℕ) → ¬ (at (c ∷ []) i ≡ some b)
      plain b n i q = n (rw (at_one c i q).1 p)

  -- rule 2
  thread_new_sound : (t : ℕ) (v : Exp) → Value v → at C x ≡ some (thread_of (plug F (app (const (op thread t)) v))) →
      Sound τ (S ++ result_type (τ t)) (set C x (thread_of (plug F (name (length C)))) ++ (thread_of (app v (name (length C))) ∷ []))
  unfolding result_type sum_in count
  thread_new_sound t v wv h =
      let r : Exp = app (const (op thread t)) v in
      let b = at_place r h in
      let p = thread_parts b.1 in
      rw p.2 (one_new r b.0 (thread_of (app v (name (length C)))) h p.3
      (λ β d. let q = thread_parts d in let e = q.2 in let e' = p.2 in cc) tt (
        b.0,
        new_name b.0 [],
        p.3,
        d_app split_nil (more_names (types_more S (b.0 ∷ [])) p.4) (d_name no_once_nil (new_name b.0 [])),
      )
      (λ k o. omega (arith, old_name k (length C) o (omega arith)))
      (λ k o out. out_app (outside_argument out) out_name))

  -- rule 6: the once names that v holds go from the thread into the cell
  cell_new_sound : (t : ℕ) (v : Exp) → Value v → at C x ≡ some (thread_of (plug F (app (const (op cell t)) v))) →
      Sound τ (S ++ result_type (τ t)) (set C x (thread_of (plug F (name (length C)))) ++ (holds v ∷ []))
  unfolding result_type sum_in count
  cell_new_sound t v wv h =
      let r : Exp = app (const (op cell t)) v in
      let b = at_place r h in
      let p = cell_parts b.1 in
      rw p.3 (one_new r (ref p.1) (holds v) h refl
      (λ β d. let q = cell_parts d in let e = q.3 in let e' = p.3 in let e'' = q.2 in cc) tt
      (p.1, new_name (ref p.1) [], wv, more_names (types_more S (ref p.1 ∷ [])) p.4)
      (λ k o. omega arith)
      (λ k o out. outside_argument out))

  -- rule 4
  handle_new_sound : (t : ℕ) (v : Exp) → Value v → at C x ≡ some (thread_of (plug F (app (const (op handle t)) v))) →
      Sound τ (S ++ future_and_handle (τ t))
      (set C x (thread_of (plug F (app (app v (name (length C))) (name (length C + 1))))) ++ (awaited ∷ open_for (length C) ∷ []))
  unfolding future_and_handle count sum_all sum_in
  handle_new_sound t v wv h = rw τt (grow s h (record {
    sizes = refl;
    typed = λ γ d.
        let q = context F (more_names (types_more S N) d) in
        let u = handle_parts q.1 in
        let e : α ≡ u.3 = same_future τt u.4 in
        q.2 r' (d_app split_nil (d_app split_nil u.6 (d_name no_once_nil (future_typed ∙ ap some e)))
        (d_name no_once_nil (handle_typed ∙ ap (λ a. some (fun once a unit_type)) e)));
    fits = λ i c q. elim (at_two awaited (open_for (length C)) i q) [
      | inl e ↦ rw (e.0, e.1, add-zero) (length C + 1, at_handle)
      | inr e ↦ rw (e.0, e.1) (α, handle_typed, future_typed, p.5, at_future)
    ];
    for_new = λ i y q. elim (at_two awaited (open_for (length C)) i q) [
      | inl e ↦ absurd (clash (cc))
      | inr e ↦ let z : y ≡ length C = cc in omega arith
    ];
    one_handle = λ y i j q q'. is_one i y q ∙ sym (is_one j y q');
    none_used = λ i q. elim (at_two awaited (open_for (length C)) i q) [
      | inl e ↦ clash (cc)
      | inr e ↦ clash (cc)
    ];
    counts = λ k o. omega (arith, count_plug k F r, count_plug k F r', old_name k (length C) o (omega arith), old_name k (length C + 1) o (omega arith));
    new_counts = λ k l o. omega (arith, count_plug k F r, count_plug k F r', gone_from k l, not_future k o, count_name k (length C + 1));
    outside = λ k o u. still_outside k u;
    new_outside = λ k l o. still_outside k (absent_outside k (plug F r) (gone_from k l));
  }))
    where
      r : Exp
      r = app (const (op handle t)) v

      r' : Exp
      r' = app (app v (name (length C))) (name (length C + 1))

      p : (κ κ' κ'' : Multiplicity) × (α : LinType) × (τ t ≡ some (fun κ'' (fun κ α (fun κ' (fun once α unit_type) (at_place r h).0)) (at_place r h).0)) × (multiplicity α ≡ many) ×
          Derivation τ S [] v (fun κ α (fun κ' (fun once α unit_type) (at_place r h).0))
      p = handle_parts (at_place r h).1

      α : LinType
      α = p.3

      τt : τ t ≡ some (fun p.2 (fun p.0 p.3 (fun p.1 (fun once p.3 unit_type) (at_place r h).0)) (at_place r h).0)
      τt = p.4

      N : List LinType
      N = α ∷ fun once α unit_type ∷ []

      C' : Config
      C' = set C x (thread_of (plug F r')) ++ (awaited ∷ open_for (length C) ∷ [])

      future_typed : at (S ++ N) (length C) ≡ some α
      future_typed = new_name α (fun once α unit_type ∷ [])

      handle_typed : at (S ++ N) (length C + 1) ≡ some (fun once α unit_type)
      handle_typed = let e : length S + 1 ≡ length C + 1 = omega (arith, s.sizes) in rw e at (append_right S N 1)

      at_future : at C' (length C) ≡ some awaited
      at_future = rw (length-set, add-zero) at (append_right (set C x (thread_of (plug F r'))) (awaited ∷ open_for (length C) ∷ []) 0)

      at_handle : at C' (length C + 1) ≡ some (open_for (length C))
      at_handle = rw length-set at (append_right (set C x (thread_of (plug F r'))) (awaited ∷ open_for (length C) ∷ []) 1)

      is_one : (i y : ℕ) → at (awaited ∷ open_for (length C) ∷ []) i ≡ some (open_for y) → i ≡ 1
      is_one i y q = elim (at_two awaited (open_for (length C)) i q) [ inl e ↦ absurd (clash (cc)) | inr e ↦ e.0 ]

      gone_from : (k : ℕ) → length C ≤ k → count k (plug F r) ≡ 0
      gone_from k l = omega (arith, absent s k l, sum_part (sum_in (count k)) C x h)

      not_future : (k : ℕ) → OnceName (S ++ N) k → count k (name (length C)) ≡ 0
      not_future k o = count_other k (length C) (λ e. clash (let u = o.1 in let w = o.2 in cc (future_typed, p.5)))

      still_outside : (k : ℕ) → Outside τ k (plug F r) →
          Outside τ k (plug F r') × ((i : ℕ) (c : Component) → at (awaited ∷ open_for (length C) ∷ []) i ≡ some c → In (Outside τ k) c)
      still_outside k u = let q = outside_plug k F r u in (
        q.1 r' (out_app (out_app (outside_argument q.0) out_name) out_name),
        λ i c e. elim (at_two awaited (open_for (length C)) i e) [ inl w ↦ rw w.1 tt | inr w ↦ rw w.1 tt ],
      )

-- Theorem 2, rule by rule; new-types is [] but for rules 2, 4 and 6
pub preservation : {τ : TypeNumbers} {S : List LinType} {C C' : Config} {x : ℕ} {r : Rule} → Sound τ S C → Reduces C x r C' → Sound τ (S ++ new_types τ C x) C'
unfolding coming
preservation {τ} {C = C} {x = x} s (beta F t e v wv h) =
    rw (new_at τ C x F (application is_lam wv) (λ n. elim n [ ]) h, append-nil) (beta_sound s x F t e v wv h)
preservation {τ} {C = C} {x = x} s (thread_new F t v wv h) =
    rw (new_at τ C x F (application is_const wv) (λ n. elim n [ ]) h) (thread_new_sound s x F t v wv h)
preservation {τ} {C = C} {x = x} s (future_deref F y v w wv ww h g) =
    rw (new_at τ C x F (application is_name wv) (λ n. elim n [ ]) h, append-nil) (deref_sound s x F y v w wv ww h g)
preservation {τ} {C = C} {x = x} s (future_deref_exch F t y v w wv ww h g) =
    rw (new_at τ C x F (application (is_exch is_name) wv) (λ n. elim n [ ]) h, append-nil)
    (deref_exch_sound s x F t y v w wv ww h g)
preservation {τ} {C = C} {x = x} s (future_deref_case F s' y w e ww h g) =
    rw (new_at τ C x F (subject is_name) (λ n. elim n [ ]) h, append-nil) (deref_case_sound s x F s' y w e ww h g)
preservation {τ} {C = C} {x = x} s (handle_new F t v wv h) =
    rw (new_at τ C x F (application is_const wv) (λ n. elim n [ ]) h) (handle_new_sound s x F t v wv h)
preservation {τ} {C = C} {x = x} s (handle_bind F z y v wv h g) =
    rw (new_at τ C x F (application is_name wv) (λ n. elim n [ ]) h, append-nil) (bind_sound s x F z y v wv h g)
preservation {τ} {C = C} {x = x} s (cell_new F t v wv h) =
    rw (new_at τ C x F (application is_const wv) (λ n. elim n [ ]) h) (cell_new_sound s x F t v wv h)
preservation {τ} {C = C} {x = x} s (cell_exch F t y v w wv h g) =
    rw (new_at τ C x F (application (is_exch is_name) wv) (λ n. elim n [ ]) h, append-nil)
    (exch_sound s x F t y v w wv h g)
preservation {τ} {C = C} {x = x} s (case_both F s' t v₁ v₂ e w₁ w₂ h) =
    rw (new_at τ C x F (subject (is_both w₁ w₂)) (λ n. elim n [ ]) h, append-nil) (case_sound s x F s' t v₁ v₂ e w₁ w₂ h)
