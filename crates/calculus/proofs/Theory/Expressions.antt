-- The paper's Lemmas 1 to 5, for expressions with numbered variables, and for Fig. 10's.
use Rattle.std.specs.Prelude.{◌≡◌, Bool, cond, [], ◌++◌, ◌∷◌, ◌*◌, ◌+◌, suc, ℕ, eqb, length}
use Rattle.std.proofs.Math.Path.{refl}
use Rattle.std.proofs.Math.Bool.{false, true}
use Rattle.std.proofs.Math.Option.{Option, none, some}
use Rattle.std.proofs.Common.{arith}
use Rattle.calculus.specs.Types.{once, many, LinType, multiplicity}
use Rattle.calculus.specs.Syntax.{Shape, Exp, var, name, const, lam, app, both, case_of, Value, is_name, is_const, is_lam, is_exch, is_both, at}
use Rattle.calculus.specs.Typing.{TypeNumbers, NameTypes, of_op, fig8_exch, Fig10, fig10_pair, fig10_list, Env, NoOnce, split_nil, Derivation, d_const, d_name, d_var, d_many, d_once, d_app, d_both, d_case}
use Rattle.calculus.specs.Reduction.{substitute, substitute_both, Context, hole, in_function, in_argument, in_first, in_second, in_subject, plug}
use Rattle.calculus.specs.Names.{count, uses, OnceName, Outside, out_var, out_name, out_const, out_once, out_none, out_app, out_both, out_case}
use Rattle.calculus.specs.Image.{Closed, closed_var, closed_name, closed_const, closed_lam, closed_app, closed_both, closed_case}
use Rattle.calculus.proofs.Theory.Tests.{clash, eqb_complete, eqb_differ, once_not_many, many_held}
use Rattle.calculus.proofs.Theory.Environments.{Last, last, next, no_once_last, split_last, share_left, share_right, Which, is_last, is_other, only_last, Due, due_is_one, due_times, due_same, AllDue, due_tail, all_none, all_only, all_sum, due_last, no_once_more, only_more, split_more, only_bound, split_lengths}

-- a name stands in itself once, in another name not
pub count_same : (k : ℕ) → count k (name k) ≡ 1
unfolding count
count_same k = rw (eqb_complete k k refl)

pub count_other : (k j : ℕ) → ¬ (j ≡ k) → count k (name j) ≡ 0
unfolding count
count_other k j n = rw (eqb_differ j k n)

-- how often a name stands after a substitution
pub count_substitute : (k depth : ℕ) (v e : Exp) → count k (substitute depth v e) ≡ count k e + uses depth e * count k v
unfolding count substitute uses
count_substitute k depth v (var i) = go (eqb i depth)
  where
    go : (b : Bool) → count k (cond b v (var i)) ≡ 0 + cond b 1 0 * count k v
    go true = omega arith
    go false = omega arith
count_substitute k depth v (name j) = omega arith
count_substitute k depth v (const c) = omega arith
count_substitute k depth v (lam t e) = count_substitute k (suc depth) v e
count_substitute k depth v (app e₁ e₂) = omega (arith, count_substitute k depth v e₁, count_substitute k depth v e₂)
count_substitute k depth v (both s t e₁ e₂) = omega (arith, count_substitute k depth v e₁, count_substitute k depth v e₂)
count_substitute k depth v (case_of s e₁ e₂) = omega (arith, count_substitute k depth v e₁, count_substitute k (suc (suc depth)) v e₂)

-- how often a name stands in a context's frame
unfoldable pub count_frame : ℕ → Context → ℕ
count_frame k hole = 0
count_frame k (in_function F e) = count_frame k F + count k e
count_frame k (in_argument v w F) = count k v + count_frame k F
count_frame k (in_first s t F e) = count_frame k F + count k e
count_frame k (in_second s t v w F) = count k v + count_frame k F
count_frame k (in_subject s F e) = count_frame k F + count k e

pub count_plug : (k : ℕ) (F : Context) (e : Exp) → count k (plug F e) ≡ count_frame k F + count k e
unfolding plug count count_frame
count_plug k hole e = omega arith
count_plug k (in_function F e₂) e = omega (arith, count_plug k F e)
count_plug k (in_argument v w F) e = omega (arith, count_plug k F e)
count_plug k (in_first s t F e₂) e = omega (arith, count_plug k F e)
count_plug k (in_second s t v w F) e = omega (arith, count_plug k F e)
count_plug k (in_subject s F e₂) e = omega (arith, count_plug k F e)

-- a name that does not stand in e stands under no many-lambda of e
pub absent_outside : {τ : TypeNumbers} (k : ℕ) (e : Exp) → count k e ≡ 0 → Outside τ k e
unfolding count
absent_outside k (var i) c = out_var
absent_outside k (name j) c = out_name
absent_outside k (const x) c = out_const
absent_outside k (lam t e) c = out_none c
absent_outside k (app e₁ e₂) c = out_app (absent_outside k e₁ (omega arith)) (absent_outside k e₂ (omega arith))
absent_outside k (both s t e₁ e₂) c = out_both (absent_outside k e₁ (omega arith)) (absent_outside k e₂ (omega arith))
absent_outside k (case_of s e₁ e₂) c = out_case (absent_outside k e₁ (omega arith)) (absent_outside k e₂ (omega arith))

pub outside_plug : {τ : TypeNumbers} (k : ℕ) (F : Context) (e : Exp) → Outside τ k (plug F e) →
    Outside τ k e × ((e' : Exp) → Outside τ k e' → Outside τ k (plug F e'))
unfolding plug
outside_plug k hole e o = (o, λ e' o'. o')
outside_plug k (in_function F e₂) e (out_app o o₂) = let (p, q) = outside_plug k F e o in (p, λ e' o'. out_app (q e' o') o₂)
outside_plug k (in_argument v w F) e (out_app o₁ o) = let (p, q) = outside_plug k F e o in (p, λ e' o'. out_app o₁ (q e' o'))
outside_plug k (in_first s t F e₂) e (out_both o o₂) = let (p, q) = outside_plug k F e o in (p, λ e' o'. out_both (q e' o') o₂)
outside_plug k (in_second s t v w F) e (out_both o₁ o) = let (p, q) = outside_plug k F e o in (p, λ e' o'. out_both o₁ (q e' o'))
outside_plug k (in_subject s F e₂) e (out_case o o₂) = let (p, q) = outside_plug k F e o in (p, λ e' o'. out_case (q e' o') o₂)

-- Fig. 10: a many pair or list has only many contents
pub many_contents : {s : Shape} {α β γ : LinType} → Fig10 s γ α β → multiplicity γ ≡ many → (multiplicity α ≡ many) × (multiplicity β ≡ many)
many_contents (fig10_pair {α = α} {β = β} h h') m = (many_held α h m, many_held β h' m)
many_contents (fig10_list {α = α} h) m = (many_held α h m, m)

module _ {τ : TypeNumbers} {Σ : NameTypes} where
  -- Lemma 1: a value of a many type has no name of a once type
  pub many_value_no_once : {v : Exp} {α : LinType} → Value v → Derivation τ Σ [] v α → multiplicity α ≡ many →
      (k : ℕ) → OnceName Σ k → Outside τ k v → count k v ≡ 0
  unfolding count
  many_value_no_once is_name (d_name {k = j} n e) m k (β, e', m') out = count_other k j (λ q. once_not_many m' (cc))
  many_value_no_once is_const d m k o out = refl
  many_value_no_once is_lam (d_many t n d) m k o (out_once t' out) = cc
  many_value_no_once is_lam (d_many t n d) m k o (out_none c) = c
  many_value_no_once is_lam (d_once t d) m k o out = cc
  many_value_no_once (is_exch w) (d_app split_nil (d_const n (of_op t fig8_exch)) d) m k o (out_app out₁ out₂) =
      omega (arith, many_value_no_once w d refl k o out₂)
  many_value_no_once (is_both w w') (d_both t f split_nil d d') m k o (out_both out₁ out₂) =
      let (n, n') = many_contents f m in omega (arith, many_value_no_once w d n k o out₁, many_value_no_once w' d' n' k o out₂)

  -- Lemma 2: entries that need not be used may be added
  pub weaken : {Γ Δ : Env} {e : Exp} {α : LinType} → NoOnce Δ → Derivation τ Σ Γ e α → Derivation τ Σ (Γ ++ Δ) e α
  weaken n (d_const f t) = d_const (no_once_more f n) t
  weaken n (d_name f t) = d_name (no_once_more f n) t
  weaken n (d_var o) = d_var (only_more o n)
  weaken n (d_many t f d) = d_many t (no_once_more f n) (weaken n d)
  weaken n (d_once t d) = d_once t (weaken n d)
  weaken n (d_app s d₁ d₂) = d_app (split_more s n) (weaken n d₁) (weaken n d₂)
  weaken n (d_both t f s d₁ d₂) = d_both t f (split_more s n) (weaken n d₁) (weaken n d₂)
  weaken n (d_case f s d₁ d₂) = d_case f (split_more s n) (weaken n d₁) (weaken n d₂)

  -- Lemma 4, for any environment's last entry
  substitute_var : {o : Option LinType} {d i : ℕ} {Γ' : Env} {v : Exp} {α : LinType} → Which Γ' α o d i →
      ((β : LinType) → o ≡ some β → Derivation τ Σ [] v β) → Derivation τ Σ Γ' (cond (eqb i d) v (var i)) α
  substitute_var (is_last {d = d} n) f = rw (eqb_complete d d refl) (weaken n (f _ refl))
  substitute_var (is_other e t n) f = rw e (d_var n)

  pub substitute_derivation : {Γ : Env} {o : Option LinType} {d : ℕ} {Γ' : Env} {v e : Exp} {α : LinType} → Last o d Γ Γ' →
      ((β : LinType) → o ≡ some β → Derivation τ Σ [] v β) → Derivation τ Σ Γ e α → Derivation τ Σ Γ' (substitute d v e) α
  unfolding substitute
  substitute_derivation l f (d_const n t) = d_const (no_once_last l n).0 t
  substitute_derivation l f (d_name n t) = d_name (no_once_last l n).0 t
  substitute_derivation l f (d_var o) = substitute_var (only_last l o) f
  substitute_derivation l f (d_many t n d) = d_many t (no_once_last l n).0 (substitute_derivation (next l) f d)
  substitute_derivation l f (d_once t d) = d_once t (substitute_derivation (next l) f d)
  substitute_derivation l f (d_app s d₁ d₂) = let (_, _, _, _, l₁, l₂, r, h) = split_last l s in
      d_app r (substitute_derivation l₁ (λ β p. f β (share_left h p)) d₁) (substitute_derivation l₂ (λ β p. f β (share_right h p)) d₂)
  substitute_derivation l f (d_both t g s d₁ d₂) = let (_, _, _, _, l₁, l₂, r, h) = split_last l s in
      d_both t g r (substitute_derivation l₁ (λ β p. f β (share_left h p)) d₁) (substitute_derivation l₂ (λ β p. f β (share_right h p)) d₂)
  substitute_derivation l f (d_case g s d₁ d₂) = let (_, _, _, _, l₁, l₂, r, h) = split_last l s in
      d_case g r (substitute_derivation l₁ (λ β p. f β (share_left h p)) d₁) (substitute_derivation (next (next l₂)) (λ β p. f β (share_right h p)) d₂)

  -- Lemma 4, for an environment's last entry, of type β
  pub substitution_at : {e v : Exp} {d : ℕ} {Γ Γ' : Env} {α β : LinType} → Last (some β) d Γ Γ' → Derivation τ Σ Γ e α → Derivation τ Σ [] v β →
      Derivation τ Σ Γ' (substitute d v e) α
  substitution_at {β = β} l d dv = substitute_derivation l (λ γ p. let q : β ≡ γ = cc in rw q at dv) d

  -- Lemma 4, for the one variable that a closed lambda's body has
  pub substitution : {e v : Exp} {α β : LinType} → Derivation τ Σ (some β ∷ []) e α → Value v → Derivation τ Σ [] v β →
      Derivation τ Σ [] (substitute 0 v e) α
  substitution d w dv = substitution_at last d dv

  -- Lemma 4, for the two variables that a closed case's body has
  pub substitution_both : {e v₁ v₂ : Exp} {α β δ : LinType} → Derivation τ Σ (some β ∷ some α ∷ []) e δ → Derivation τ Σ [] v₁ α → Derivation τ Σ [] v₂ β →
      Derivation τ Σ [] (substitute_both v₁ v₂ e) δ
  substitution_both d d₁ d₂ = substitution_at last (substitution_at (next last) d d₁) d₂

  -- Lemma 3, for all variables
  pub all_due : {Γ : Env} {e : Exp} {α : LinType} → Derivation τ Σ Γ e α → AllDue (λ i. uses i e) Γ
  unfolding uses
  all_due (d_const n t) = all_none (λ i. refl) n
  all_due (d_name n t) = all_none (λ i. refl) n
  all_due (d_var o) = all_only (λ j. refl) o
  all_due (d_many t n d) = due_tail (all_due d)
  all_due (d_once t d) = due_tail (all_due d)
  all_due (d_app s d₁ d₂) = all_sum s (all_due d₁) (all_due d₂)
  all_due (d_both t f s d₁ d₂) = all_sum s (all_due d₁) (all_due d₂)
  all_due (d_case f s d₁ d₂) = all_sum s (all_due d₁) (due_tail (due_tail (all_due d₂)))

  uses_due : {o : Option LinType} {d : ℕ} {Γ Γ' : Env} {e : Exp} {α : LinType} → Last o d Γ Γ' → Derivation τ Σ Γ e α → Due o (uses d e)
  uses_due l d = due_last l (all_due d)

  -- Lemma 3: a once variable stands exactly once, and under no many-lambda
  pub once_used_once : {e : Exp} {α β : LinType} → Derivation τ Σ (some β ∷ []) e α → multiplicity β ≡ once → uses 0 e ≡ 1
  once_used_once d m = due_is_one m (uses_due last d)

  -- a once name of v, or of e, stays outside many-lambdas when v is put in
  pub outside_substitute_at : {Γ : Env} {o : Option LinType} {d k : ℕ} {Γ' : Env} {v e : Exp} {α : LinType} → Last o d Γ Γ' →
      ((β : LinType) → o ≡ some β → multiplicity β ≡ many → count k v ≡ 0) → Outside τ k v →
      Derivation τ Σ Γ e α → Outside τ k e → Outside τ k (substitute d v e)
  unfolding substitute
  outside_substitute_at l f ov (d_const n t) out = out_const
  outside_substitute_at l f ov (d_name n t) out = out_name
  outside_substitute_at {d = d} {k = k} {v = v} l f ov (d_var {i = i} o) out = go (eqb i d)
    where
      go : (b : Bool) → Outside τ k (cond b v (var i))
      go true = ov
      go false = out
  outside_substitute_at l f ov (d_many t n d) (out_once t' out) = absurd (once_not_many {κ = once} refl cc)
  outside_substitute_at {d = i} {k = k} {v = v} l f ov (d_many {e = e} t n d) (out_none c) =
      out_none {e = substitute (suc i) v e} (omega (arith, count_substitute k (suc i) v e, due_times (count k v) (no_once_last l n).1 (uses_due (next l) d) f))
  outside_substitute_at l f ov (d_once t d) (out_once t' out) = out_once t' (outside_substitute_at (next l) f ov d out)
  outside_substitute_at l f ov (d_once t d) (out_none c) = out_once t (outside_substitute_at (next l) f ov d (absent_outside _ _ c))
  outside_substitute_at l f ov (d_app s d₁ d₂) (out_app out₁ out₂) = let (_, _, _, _, l₁, l₂, r, h) = split_last l s in
      out_app (outside_substitute_at l₁ (λ β p. f β (share_left h p)) ov d₁ out₁) (outside_substitute_at l₂ (λ β p. f β (share_right h p)) ov d₂ out₂)
  outside_substitute_at l f ov (d_both t g s d₁ d₂) (out_both out₁ out₂) = let (_, _, _, _, l₁, l₂, r, h) = split_last l s in
      out_both (outside_substitute_at l₁ (λ β p. f β (share_left h p)) ov d₁ out₁) (outside_substitute_at l₂ (λ β p. f β (share_right h p)) ov d₂ out₂)
  outside_substitute_at l f ov (d_case g s d₁ d₂) (out_case out₁ out₂) = let (_, _, _, _, l₁, l₂, r, h) = split_last l s in
      out_case (outside_substitute_at l₁ (λ β p. f β (share_left h p)) ov d₁ out₁) (outside_substitute_at (next (next l₂)) (λ β p. f β (share_right h p)) ov d₂ out₂)

  -- of a value v of type β put in for an environment's last entry, and a name k of a once type
  module _ {e v : Exp} {d : ℕ} {Γ Γ' : Env} {α β : LinType} (l : Last (some β) d Γ Γ') (de : Derivation τ Σ Γ e α) (w : Value v) (dv : Derivation τ Σ [] v β)
      (k : ℕ) (o : OnceName Σ k) where
    pub outside_substitute : Outside τ k e → Outside τ k v → Outside τ k (substitute d v e)
    outside_substitute oe ov = outside_substitute_at l (λ γ p m. many_value_no_once w dv (cc) k o ov) ov de oe

    -- putting a value in for a variable changes no count of a once name: such a name stands in v only if the variable stands exactly once
    pub count_beta : Outside τ k v → count k (substitute d v e) ≡ count k e + count k v
    count_beta ov = omega (arith, count_substitute k d v e, due_same (count k v) (uses_due l de) (λ m. many_value_no_once w dv m k o ov))

  -- a name with no type does not stand in e
  pub untyped_absent : {Γ : Env} {e : Exp} {α : LinType} (k : ℕ) → at Σ k ≡ none → Derivation τ Σ Γ e α → count k e ≡ 0
  unfolding count
  untyped_absent k p (d_const n t) = refl
  untyped_absent k p (d_name {k = j} n t) = count_other k j (λ q. clash (cc))
  untyped_absent k p (d_var o) = refl
  untyped_absent k p (d_many t n d) = untyped_absent k p d
  untyped_absent k p (d_once t d) = untyped_absent k p d
  untyped_absent k p (d_app s d₁ d₂) = omega (arith, untyped_absent k p d₁, untyped_absent k p d₂)
  untyped_absent k p (d_both t f s d₁ d₂) = omega (arith, untyped_absent k p d₁, untyped_absent k p d₂)
  untyped_absent k p (d_case f s d₁ d₂) = omega (arith, untyped_absent k p d₁, untyped_absent k p d₂)

  -- Lemma 5: what stands in a context has a type, and another expression of that type may take its place
  pub context : {e : Exp} {α : LinType} (F : Context) → Derivation τ Σ [] (plug F e) α →
      (β : LinType) × Derivation τ Σ [] e β × ((e' : Exp) → Derivation τ Σ [] e' β → Derivation τ Σ [] (plug F e') α)
  unfolding plug
  context hole d = (_, d, λ e' d'. d')
  context (in_function F e₂) (d_app split_nil d d₂) =
      let (β, p, q) = context F d in (β, p, λ e' d'. d_app split_nil (q e' d') d₂)
  context (in_argument v w F) (d_app split_nil d₁ d) =
      let (β, p, q) = context F d in (β, p, λ e' d'. d_app split_nil d₁ (q e' d'))
  context (in_first s t F e₂) (d_both g f split_nil d d₂) =
      let (β, p, q) = context F d in (β, p, λ e' d'. d_both g f split_nil (q e' d') d₂)
  context (in_second s t v w F) (d_both g f split_nil d₁ d) =
      let (β, p, q) = context F d in (β, p, λ e' d'. d_both g f split_nil d₁ (q e' d'))
  context (in_subject s F e₂) (d_case f split_nil d d₂) =
      let (β, p, q) = context F d in (β, p, λ e' d'. d_case f split_nil (q e' d') d₂)

-- a derivation stands when names get types that had none
pub more_names : {τ : TypeNumbers} {Σ Σ' : NameTypes} {Γ : Env} {e : Exp} {α : LinType} → ((k : ℕ) (β : LinType) → at Σ k ≡ some β → at Σ' k ≡ some β) →
    Derivation τ Σ Γ e α → Derivation τ Σ' Γ e α
more_names more (d_const n t) = d_const n t
more_names more (d_name {k = k} {α = β} n e) = d_name n (more k β e)
more_names more (d_var o) = d_var o
more_names more (d_many t n d) = d_many t n (more_names more d)
more_names more (d_once t d) = d_once t (more_names more d)
more_names more (d_app s d₁ d₂) = d_app s (more_names more d₁) (more_names more d₂)
more_names more (d_both t f s d₁ d₂) = d_both t f s (more_names more d₁) (more_names more d₂)
more_names more (d_case f s d₁ d₂) = d_case f s (more_names more d₁) (more_names more d₂)

-- Lemma 3, first part: a typed expression's variables are bound in it, or have a type in Γ
pub derivation_closed : {τ : TypeNumbers} {Σ : NameTypes} {Γ : Env} {e : Exp} {α : LinType} → Derivation τ Σ Γ e α → Closed (length Γ) e
derivation_closed (d_const n t) = closed_const
derivation_closed (d_name n p) = closed_name
derivation_closed (d_var o) = closed_var (only_bound o)
derivation_closed (d_many p n d) = closed_lam (derivation_closed d)
derivation_closed (d_once p d) = closed_lam (derivation_closed d)
derivation_closed (d_app s d₁ d₂) =
    closed_app (rw (split_lengths s).0 at (derivation_closed d₁)) (rw (split_lengths s).1 at (derivation_closed d₂))
derivation_closed (d_both t f s d₁ d₂) =
    closed_both (rw (split_lengths s).0 at (derivation_closed d₁)) (rw (split_lengths s).1 at (derivation_closed d₂))
derivation_closed (d_case f s d₁ d₂) =
    closed_case (rw (split_lengths s).0 at (derivation_closed d₁)) (rw (split_lengths s).1 at (derivation_closed d₂))
