-- A variable that goes, and what a lambda's entry says of the calculus' tests and of the pass.
use Rattle.std.specs.Prelude.{◌≡◌, Bool, ◌&&◌, [], ◌∷◌, eqb}
use Rattle.std.proofs.Math.Path.{refl}
use Rattle.std.proofs.Common.{sym, ◌∙◌}
use Rattle.std.proofs.Math.Bool.{cond, false, true}
use Rattle.std.proofs.lemmas.Bool.{false≢true}
use Rattle.std.proofs.Math.Option.{Option, none-ne-some, none, some}
use Prim.Native.Nat.{◌<◌, suc, ℕ}
use native.Mathlib.Omega.{arith}
use Rattle.calculus.specs.Kinds.{once_type_kind}
use Rattle.calculus.specs.Syntax.{Exp, var, name, const, lam, app, both, case_of, at}
use Rattle.calculus.specs.Names.{uses}
use Rattle.calculus.specs.Table.{Entry, Table, test_entry, is_many}
use Rattle.calculus.specs.Verdict.{is_function_kind, on_function, on_once_function, outside_many, linear_variable}
use Rattle.calculus.proofs.Theory.Tests.{and_true, and_parts, eqb_sound, eqb_complete, eqb_differ}
use Rattle.check_linearity.specs.Spend.{Marks, new_mark, reach_under, leave, spend_lambda, many_mark, due_mark}
use Rattle.check_linearity.proofs.Theory.Changes.{Change, change_due, change_not_due, change_many, Fit, fit_many, fit_due}
use Rattle.check_linearity.proofs.Theory.Subterms.{Changed, FitAll, InReach}

-- a once-variable with number i may be used in e
abbrev pub Allowed : Table → ℕ → Exp → ℕ → Type 0
Allowed T reach e i = InReach reach (λ i. outside_many T i e) i

-- what e makes of the marks M, variable by variable
abbrev pub Spent : Table → ℕ → Marks → Exp → Marks → Type 0
Spent T reach M e M' = Changed (λ i. uses i e) (Allowed T reach e) M M'

-- e may meet the marks M, variable by variable
abbrev pub Fits : Table → ℕ → Marks → Exp → Type 0
Fits T reach M e = FitAll (λ i. uses i e) (Allowed T reach e) M

-- a variable that does not stand in e stands under no many-lambda of it
pub unused_outside : (T : Table) (i : ℕ) (e : Exp) → uses i e ≡ 0 → outside_many T i e ≡ true
unfolding uses outside_many
unused_outside T i (var j) z = refl
unused_outside T i (name k) z = refl
unused_outside T i (const c) z = refl
unused_outside T i (lam t e) z = go (on_once_function T t (λ p q. true)) (unused_outside T (suc i) e z)
  where
    go : (o : Bool) → outside_many T (suc i) e ≡ true → cond o (outside_many T (suc i) e) (eqb (uses (suc i) e) 0) ≡ true
    go true h = h
    go false h = eqb_complete (uses (suc i) e) 0 z
unused_outside T i (app f a) z = and_true (unused_outside T i f (omega arith)) (unused_outside T i a (omega arith))
unused_outside T i (both s t e₁ e₂) z = and_true (unused_outside T i e₁ (omega arith)) (unused_outside T i e₂ (omega arith))
unused_outside T i (case_of s e₁ e₂) z = and_true (unused_outside T i e₁ (omega arith)) (unused_outside T (suc (suc i)) e₂ (omega arith))

-- the tests of an entry that is there
pub and_true_right : (a : Bool) → (a && true) ≡ a
and_true_right true = refl
and_true_right false = refl

pub once_function_at : (T : Table) (t : ℕ) (x : Entry) → at T t ≡ some x → on_once_function T t (λ p q. true) ≡ eqb x.kind 3
unfolding on_once_function test_entry
once_function_at T t x g = rw g (and_true_right (eqb x.kind 3))

pub on_function_at : (T : Table) (t : ℕ) (x : Entry) (test : ℕ → ℕ → Bool) → at T t ≡ some x → is_function_kind x.kind ≡ true →
    on_function T t test ≡ test x.p x.q
unfolding on_function test_entry
on_function_at T t x test g h = rw (g, h)

pub on_function_parts : (T : Table) (t : ℕ) (test : ℕ → ℕ → Bool) → on_function T t test ≡ true →
    (x : Entry) × (at T t ≡ some x) × (is_function_kind x.kind ≡ true) × (test x.p x.q ≡ true)
unfolding on_function test_entry
on_function_parts T t test h = go (at T t) refl h
  where
    go : (o : Option Entry) → at T t ≡ o → test_entry o (λ kind p q. is_function_kind kind && test p q) ≡ true →
        (x : Entry) × (at T t ≡ some x) × (is_function_kind x.kind ≡ true) × (test x.p x.q ≡ true)
    go none g h = absurd (false≢true h)
    go (some x) g h = let (k, l) = and_parts (is_function_kind x.kind) (test x.p x.q) h in (x, g, k, l)

-- a once-variable outside may be used in the body exactly where it may be used in the lambda
module _ (T : Table) (t : ℕ) (x : Entry) (g : at T t ≡ some x) (reach i : ℕ) (e : Exp) where
  pub allowed_lambda : Allowed T (reach_under x.kind reach) e (suc i) → Allowed T reach (lam t e) i
  unfolding outside_many reach_under
  allowed_lambda h = rw (once_function_at T t x g) (go (eqb x.kind 3) h.0 h.1)
    where
      go : (o : Bool) → suc i < cond o (suc reach) 1 → outside_many T (suc i) e ≡ true →
          (i < reach) × (cond o (outside_many T (suc i) e) (eqb (uses (suc i) e) 0) ≡ true)
      go true l h = (omega arith, h)
      go false l h = absurd (omega arith)

  pub allowed_body : uses (suc i) e ≡ 1 → Allowed T reach (lam t e) i → Allowed T (reach_under x.kind reach) e (suc i)
  unfolding outside_many reach_under
  allowed_body w h = go (eqb x.kind 3) h.0 (rw (once_function_at T t x g) at h.1)
    where
      go : (o : Bool) → i < reach → cond o (outside_many T (suc i) e) (eqb (uses (suc i) e) 0) ≡ true →
          (suc i < cond o (suc reach) 1) × (outside_many T (suc i) e ≡ true)
      go true l h = (omega arith, h)
      go false l h = let z = eqb_sound (uses (suc i) e) 0 h in absurd (omega arith)

pub own_reach : (kind reach : ℕ) → 0 < reach_under kind reach
unfolding reach_under
own_reach kind reach = go (eqb kind once_type_kind)
  where
    go : (o : Bool) → 0 < cond o (suc reach) 1
    go true = omega arith
    go false = omega arith

-- a variable of a lambda or case: the test of it, and its mark before and after the body
module _ (T : Table) (i p : ℕ) (e : Exp) (reach : ℕ) where
  pub variable_sound : (mark : ℕ) → Change (uses i e) (Allowed T reach e i) (new_mark T p) mark → ¬ (mark ≡ due_mark) → linear_variable T i p e ≡ true
  unfolding new_mark linear_variable
  variable_sound mark c n = go (is_many T p) c
    where
      go : (m : Bool) → Change (uses i e) (Allowed T reach e i) (cond m many_mark due_mark) mark → cond m true (eqb (uses i e) 1 && outside_many T i e) ≡ true
      go true c = refl
      go false c = let (w, a) = change_due c n in and_true (eqb_complete (uses i e) 1 w) a.1

  pub variable_fit : i < reach → linear_variable T i p e ≡ true → Fit (uses i e) (Allowed T reach e i) (new_mark T p)
  unfolding new_mark linear_variable
  variable_fit l h = go (is_many T p) h
    where
      go : (m : Bool) → cond m true (eqb (uses i e) 1 && outside_many T i e) ≡ true → Fit (uses i e) (Allowed T reach e i) (cond m many_mark due_mark)
      go true h = fit_many
      go false h = let (w, o) = and_parts (eqb (uses i e) 1) (outside_many T i e) h in fit_due (eqb_sound (uses i e) 1 w) (l, o)

  pub variable_left : (mark : ℕ) → linear_variable T i p e ≡ true → Change (uses i e) (Allowed T reach e i) (new_mark T p) mark → ¬ (mark ≡ due_mark)
  unfolding new_mark linear_variable
  variable_left mark h c = go (is_many T p) h c
    where
      go : (m : Bool) → cond m true (eqb (uses i e) 1 && outside_many T i e) ≡ true → Change (uses i e) (Allowed T reach e i) (cond m many_mark due_mark) mark → ¬ (mark ≡ due_mark)
      go true h c = let z = change_many c in λ d. omega arith
      go false h c = let (w, o) = and_parts (eqb (uses i e) 1) (outside_many T i e) h in change_not_due c (eqb_sound (uses i e) 1 w)

-- leaving a lambda or case
pub leave_parts : (o : Option Marks) {M' : Marks} → leave o ≡ some M' → (mark : ℕ) × (o ≡ some (mark ∷ M')) × (¬ (mark ≡ due_mark))
unfolding leave
leave_parts none {M'} h = absurd (none-ne-some M' h)
leave_parts (some []) {M'} h = absurd (none-ne-some M' h)
leave_parts (some (mark ∷ M)) {M'} h = go (eqb mark due_mark) refl h
  where
    go : (d : Bool) → eqb mark due_mark ≡ d → cond d none (some M) ≡ some M' → (m : ℕ) × (some (mark ∷ M) ≡ some (m ∷ M')) × (¬ (m ≡ due_mark))
    go true q h = absurd (none-ne-some M' h)
    go false q h = let s : M ≡ M' = cc in (mark, cc, λ d. false≢true (sym q ∙ eqb_complete mark 1 d))

pub leave_some : (mark : ℕ) (M : Marks) → ¬ (mark ≡ due_mark) → leave (some (mark ∷ M)) ≡ some M
unfolding leave
leave_some mark M n = rw (eqb_differ mark 1 n)

-- a lambda that leaves marks has the entry of a function
pub spend_lambda_parts : (T : Table) (reach : ℕ) (M : Marks) (o : Option Entry) (body : ℕ → ℕ → Marks → Option Marks) {M' : Marks} →
    spend_lambda T reach M o body ≡ some M' →
    (x : Entry) × (o ≡ some x) × (is_function_kind x.kind ≡ true) × (leave (body x.p (reach_under x.kind reach) (new_mark T x.p ∷ M)) ≡ some M')
unfolding spend_lambda
spend_lambda_parts T reach M none body {M'} h = absurd (none-ne-some M' h)
spend_lambda_parts T reach M (some x) body {M'} h = go (is_function_kind x.kind) refl h
  where
    go : (f : Bool) → is_function_kind x.kind ≡ f → cond f (leave (body x.p (reach_under x.kind reach) (new_mark T x.p ∷ M))) none ≡ some M' →
        (y : Entry) × (some x ≡ some y) × (is_function_kind y.kind ≡ true) × (leave (body y.p (reach_under y.kind reach) (new_mark T y.p ∷ M)) ≡ some M')
    go true k h = (x, refl, k, h)
    go false k h = absurd (none-ne-some M' h)

pub spend_lambda_at : (T : Table) (reach : ℕ) (M : Marks) (o : Option Entry) (body : ℕ → ℕ → Marks → Option Marks) (x : Entry) →
    o ≡ some x → is_function_kind x.kind ≡ true →
    spend_lambda T reach M o body ≡ leave (body x.p (reach_under x.kind reach) (new_mark T x.p ∷ M))
unfolding spend_lambda
spend_lambda_at T reach M o body x g k = rw (g, k)
