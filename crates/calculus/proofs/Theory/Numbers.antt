-- Comparing the numbers of types compares the types, so the tests on numbers agree with those on types.
use Rattle.std.proofs.Common.{◌∙◌, sym, ltb→lt}
use Rattle.std.specs.Prelude.{◌≡◌, Bool, ◌&&◌, cond, true, List, [], ◌∷◌, suc, zero, ℕ, ltb, length}
use Rattle.std.proofs.Math.Path.{refl}
use Rattle.std.proofs.Math.Bool.{false}
use Rattle.std.proofs.lemmas.Bool.{false≢true}
use Rattle.std.proofs.Math.Option.{Option, none-ne-some, none, some}
use Rattle.std.proofs.Math.Dec.{eqb}
use Rattle.calculus.specs.Types.{Multiplicity, once, many, LinType, unit_type, num_type, ref, fun, pair_type, list_type}
use Rattle.calculus.specs.Syntax.{Const, unit, num, op, cell, exch, thread, handle, Shape, pair, list, Exp, var, name, const, lam, app, both, case_of, at}
use Rattle.calculus.specs.Typing.{fig10_pair, fig10_list}
use Rattle.calculus.specs.Names.{uses}
use Rattle.calculus.specs.Table.{Table, TableRule, type_at, test_entry, is_many}
use Rattle.calculus.proofs.Theory.TypeTests.{same_multiplicity, same_type, τ_is_many_type, τ_on_function, τ_on_cell, on_type, τ_in_table, τ_scoped_const, τ_scoped, τ_is_cell_type, τ_is_exch_type, τ_is_thread_type, τ_is_handle_type, τ_annotated_const, τ_annotated, type_of_const, applied_type, lambda_type, type_of, is_once_lambda, τ_outside_many, τ_linear, parts_of, by_parts, τ_with_components, both_type, case_type, τ_linear_variable}
use Rattle.calculus.specs.Verdict.{on_function, on_once_function, on_cell, scoped_const, scoped, cell_parts, exch_parts, thread_parts, handle_parts, annotated_const, annotated, const_number, on_number, result_number, applied_number, lambda_number, type_number, outside_many, linear, with_components, both_number, case_number, linear_variable}
use Rattle.calculus.proofs.Theory.Tests.{false_of, and_parts, eqb_sound, eqb_complete, ltb_complete, same_type_sound, same_type_refl, one_reading}
use Rattle.calculus.proofs.Theory.Lists.{at_below}
use Rattle.calculus.proofs.Theory.Constants.{on_type_parts, components_at}
use Rattle.calculus.proofs.Theory.Tables.{View, view_unit, view_num, view_cell, view_function, view_pair, view_list, view, view_type, view_unique, view_bound, Looked, no_entry, has_entry, look}

and_path : {a a' b b' : Bool} → a ≡ a' → b ≡ b' → (a && b) ≡ (a' && b')
and_path p q = rw (p, q)

cond_path : {c c' a a' b b' : Bool} → c ≡ c' → a ≡ a' → b ≡ b' → cond c a b ≡ cond c' a' b'
cond_path p q r = rw (p, q, r)

module _ {T : Table} (R : TableRule T) where
  -- comparing numbers compares types
  pub eq_agree : {m n : ℕ} {α β : LinType} → View T m α → View T n β → eqb m n ≡ same_type α β
  eq_agree {m} {n} {α} {β} a b = go (eqb m n) (same_type α β) refl refl
    where
      go : (x y : Bool) → eqb m n ≡ x → same_type α β ≡ y → x ≡ y
      go true true e e' = refl
      go false false e e' = refl
      go true false e e' =
          let p : m ≡ n = eqb_sound m n e in
          let q : α ≡ β = one_reading (view_type R (rw p at a)) (view_type R b) in
          absurd (false≢true (sym e' ∙ rw q (same_type_refl β)))
      go false true e e' =
          let p : m ≡ n = view_unique R β (rw (same_type_sound α β e') at a) b in
          absurd (false≢true (sym e ∙ eqb_complete m n p))

  pub many_agree : {t : ℕ} {γ : LinType} → View T t γ → is_many T t ≡ τ_is_many_type γ
  unfolding is_many test_entry
  many_agree (view_unit g) = rw g
  many_agree (view_num g) = rw g
  many_agree (view_cell g a) = rw g
  many_agree (view_function {κ = once} g a b) = rw g
  many_agree (view_function {κ = many} g a b) = rw g
  many_agree (view_pair {κ = once} g a b h h') = rw g
  many_agree (view_pair {κ = many} g a b h h') = rw g
  many_agree (view_list {κ = once} g a h) = rw g
  many_agree (view_list {κ = many} g a h) = rw g

  function_agree : {t : ℕ} (number_test : ℕ → ℕ → Bool) (test : Multiplicity → LinType → LinType → Bool) {γ : LinType} → View T t γ →
      ((p q : ℕ) (κ : Multiplicity) (α β : LinType) → View T p α → View T q β → number_test p q ≡ test κ α β) →
      on_function T t number_test ≡ τ_on_function γ test
  unfolding on_function τ_on_function test_entry
  function_agree number_test test (view_unit g) h = rw g
  function_agree number_test test (view_num g) h = rw g
  function_agree number_test test (view_cell g a) h = rw g
  function_agree number_test test (view_function {κ = once} g a b) h = rw g (h _ _ once _ _ (view R a) (view R b))
  function_agree number_test test (view_function {κ = many} g a b) h = rw g (h _ _ many _ _ (view R a) (view R b))
  function_agree number_test test (view_pair {κ = once} g a b o o') h = rw g
  function_agree number_test test (view_pair {κ = many} g a b o o') h = rw g
  function_agree number_test test (view_list {κ = once} g a o) h = rw g
  function_agree number_test test (view_list {κ = many} g a o) h = rw g

  once_function_agree : {t : ℕ} (number_test : ℕ → ℕ → Bool) (test : LinType → LinType → Bool) {γ : LinType} → View T t γ →
      ((p q : ℕ) (α β : LinType) → View T p α → View T q β → number_test p q ≡ test α β) →
      on_once_function T t number_test ≡ τ_on_function γ (λ κ α β. same_multiplicity κ once && test α β)
  unfolding on_once_function τ_on_function test_entry
  once_function_agree number_test test (view_unit g) h = rw g
  once_function_agree number_test test (view_num g) h = rw g
  once_function_agree number_test test (view_cell g a) h = rw g
  once_function_agree number_test test (view_function {κ = once} g a b) h = rw g (h _ _ _ _ (view R a) (view R b))
  once_function_agree number_test test (view_function {κ = many} g a b) h = rw g
  once_function_agree number_test test (view_pair {κ = once} g a b o o') h = rw g
  once_function_agree number_test test (view_pair {κ = many} g a b o o') h = rw g
  once_function_agree number_test test (view_list {κ = once} g a o) h = rw g
  once_function_agree number_test test (view_list {κ = many} g a o) h = rw g

  cell_agree : {t : ℕ} (number_test : ℕ → Bool) (test : LinType → Bool) {γ : LinType} → View T t γ →
      ((p : ℕ) (α : LinType) → View T p α → number_test p ≡ test α) → on_cell T t number_test ≡ τ_on_cell γ test
  unfolding on_cell τ_on_cell test_entry
  cell_agree number_test test (view_unit g) h = rw g
  cell_agree number_test test (view_num g) h = rw g
  cell_agree number_test test (view_cell g a) h = rw g (h _ _ (view R a))
  cell_agree number_test test (view_function {κ = once} g a b) h = rw g
  cell_agree number_test test (view_function {κ = many} g a b) h = rw g
  cell_agree number_test test (view_pair {κ = once} g a b o o') h = rw g
  cell_agree number_test test (view_pair {κ = many} g a b o o') h = rw g
  cell_agree number_test test (view_list {κ = once} g a o) h = rw g
  cell_agree number_test test (view_list {κ = many} g a o) h = rw g

  -- Fig. 10: what follows from the components' numbers agrees with what follows from their types, whatever is meant by agreeing
  components_agree : {A B : Type 0} (Agree : A → B → Type 0) (other : A) (other' : B) → Agree other other' →
      (follows : ℕ → ℕ → A) (follows' : LinType → LinType → B) → ((p q : ℕ) (α β : LinType) → View T p α → View T q β → Agree (follows p q) (follows' α β)) →
      (s : Shape) {t : ℕ} {γ : LinType} → View T t γ → Agree (with_components other s t (at T t) follows) (τ_with_components other' s γ follows')
  unfolding with_components by_parts parts_of
  components_agree Agree x x' o f f' h pair (view_unit g) = rw g o
  components_agree Agree x x' o f f' h pair (view_num g) = rw g o
  components_agree Agree x x' o f f' h pair (view_cell g a) = rw g o
  components_agree Agree x x' o f f' h pair (view_function {κ = once} g a b) = rw g o
  components_agree Agree x x' o f f' h pair (view_function {κ = many} g a b) = rw g o
  components_agree Agree x x' o f f' h pair (view_pair {κ = once} {α = α} {β = β} g a b c c') =
      rw (g, components_at x' f' (fig10_pair {κ = once} {α = α} {β = β} c c')) (h _ _ _ _ (view R a) (view R b))
  components_agree Agree x x' o f f' h pair (view_pair {κ = many} {α = α} {β = β} g a b c c') =
      rw (g, components_at x' f' (fig10_pair {κ = many} {α = α} {β = β} c c')) (h _ _ _ _ (view R a) (view R b))
  components_agree Agree x x' o f f' h pair (view_list {κ = once} g a c) = rw g o
  components_agree Agree x x' o f f' h pair (view_list {κ = many} g a c) = rw g o
  components_agree Agree x x' o f f' h list (view_unit g) = rw g o
  components_agree Agree x x' o f f' h list (view_num g) = rw g o
  components_agree Agree x x' o f f' h list (view_cell g a) = rw g o
  components_agree Agree x x' o f f' h list (view_function {κ = once} g a b) = rw g o
  components_agree Agree x x' o f f' h list (view_function {κ = many} g a b) = rw g o
  components_agree Agree x x' o f f' h list (view_pair {κ = once} g a b c c') = rw g o
  components_agree Agree x x' o f f' h list (view_pair {κ = many} g a b c c') = rw g o
  components_agree Agree x x' o f f' h list (view_list {κ = once} {α = α} g a c) =
      rw (g, components_at x' f' (fig10_list {κ = once} {α = α} c)) (h _ _ _ _ (view R a) (view_list {κ = once} g a c))
  components_agree Agree x x' o f f' h list (view_list {κ = many} {α = α} g a c) =
      rw (g, components_at x' f' (fig10_list {κ = many} {α = α} c)) (h _ _ _ _ (view R a) (view_list {κ = many} g a c))

  pub unit_at_0 : View T 0 unit_type
  unit_at_0 = view_unit R.unit_first

  pub num_at_1 : View T 1 num_type
  num_at_1 = view_num R.num_second

  pub cell_at_2 : View T 2 (ref num_type)
  cell_at_2 = view_cell R.cell_third (view_type R num_at_1)

  -- a once to unit
  handle_of_agree : {h a : ℕ} {η α : LinType} → View T h η → View T a α →
      on_once_function T h (λ a' u. eqb a' a && eqb u 0) ≡ τ_on_function η (λ κ α' υ. same_multiplicity κ once && (same_type α' α && same_type υ unit_type))
  handle_of_agree v w = once_function_agree _ _ v (λ p q α β a b. and_path (eq_agree a w) (eq_agree b unit_at_0))

  cell_type_agree : {t : ℕ} {γ : LinType} → View T t γ → on_function T t (cell_parts T) ≡ τ_is_cell_type γ
  unfolding τ_is_cell_type
  cell_type_agree v = function_agree _ _ v (λ p q κ α β a b. cell_agree _ _ b (λ p' α' v'. eq_agree v' a))

  exch_type_agree : {t : ℕ} {γ : LinType} → View T t γ → on_function T t (exch_parts T) ≡ τ_is_exch_type γ
  unfolding τ_is_exch_type
  exch_type_agree v = function_agree _ _ v (λ p q κ α β a b. cell_agree _ _ a (λ p α v. function_agree _ _ b (λ p' q' κ' α' β' a' b'.
      and_path (eq_agree a' v) (eq_agree b' v))))

  thread_type_agree : {t : ℕ} {γ : LinType} → View T t γ → on_function T t (thread_parts T) ≡ τ_is_thread_type γ
  unfolding τ_is_thread_type
  thread_type_agree v = function_agree _ _ v (λ p q κ α β a b. function_agree _ _ a (λ p' q' κ' α' β' a' b'.
      and_path (eq_agree a' b) (and_path (eq_agree b' b) (many_agree b))))

  handle_type_agree : {t : ℕ} {γ : LinType} → View T t γ → on_function T t (handle_parts T) ≡ τ_is_handle_type γ
  unfolding τ_is_handle_type
  handle_type_agree v = function_agree _ _ v (λ f r κ φ ρ vf vr. function_agree _ _ vf (λ a g κ' α ψ va vg. function_agree _ _ vg (λ h r' κ'' η ρ' vh vr'.
      and_path (handle_of_agree vh va) (and_path (eq_agree vr' vr) (many_agree va)))))

  -- a test by an entry agrees with a test by its type, also where there is neither
  on_type_agree : (t : ℕ) (number_test : Bool) (test : LinType → Bool) → (at T t ≡ none → number_test ≡ false) → ((γ : LinType) → View T t γ → number_test ≡ test γ) →
      number_test ≡ on_type (type_at T t) test
  unfolding on_type
  on_type_agree t number_test test n h = go (look R t)
    where
      go : Looked T t → number_test ≡ on_type (type_at T t) test
      go (no_entry g e) = rw e (n g)
      go (has_entry γ e) = rw e (h γ (view R e))

  absent_bound : (t : ℕ) → at T t ≡ none → ltb t (length T) ≡ false
  absent_bound t g = false_of (ltb t (length T)) (λ h. let (x, e) = at_below T t (ltb→lt t (length T) h) in none-ne-some x (sym g ∙ e))

  absent_function : (t : ℕ) (number_test : ℕ → ℕ → Bool) → at T t ≡ none → on_function T t number_test ≡ false
  unfolding on_function test_entry
  absent_function t number_test g = rw g

  absent_once : (t : ℕ) (number_test : ℕ → ℕ → Bool) → at T t ≡ none → on_once_function T t number_test ≡ false
  unfolding on_once_function test_entry
  absent_once t number_test g = rw g

  absent_components : (s : Shape) (t : ℕ) (follows : ℕ → ℕ → Bool) → at T t ≡ none → with_components false s t (at T t) follows ≡ false
  unfolding with_components
  absent_components s t follows g = rw g

  -- Cause 7
  in_table_agree : (t : ℕ) → ltb t (length T) ≡ τ_in_table (type_at T) t
  unfolding τ_in_table
  in_table_agree t = on_type_agree t _ _ (absent_bound t) (λ γ v. ltb_complete t (length T) (view_bound v))

  scoped_const_agree : (c : Const) → scoped_const (length T) c ≡ τ_scoped_const (type_at T) c
  unfolding scoped_const τ_scoped_const
  scoped_const_agree unit = refl
  scoped_const_agree (num n) = refl
  scoped_const_agree (op o t) = in_table_agree t

  pub scoped_agree : (b depth : ℕ) (e : Exp) → scoped (length T) b depth e ≡ τ_scoped (type_at T) b depth e
  unfolding scoped τ_scoped
  scoped_agree b depth (var i) = refl
  scoped_agree b depth (name k) = refl
  scoped_agree b depth (const c) = scoped_const_agree c
  scoped_agree b depth (lam t e) = and_path (in_table_agree t) (scoped_agree b (suc depth) e)
  scoped_agree b depth (app f a) = and_path (scoped_agree b depth f) (scoped_agree b depth a)
  scoped_agree b depth (both s t e₁ e₂) = and_path (in_table_agree t) (and_path (scoped_agree b depth e₁) (scoped_agree b depth e₂))
  scoped_agree b depth (case_of s e₁ e₂) = and_path (scoped_agree b depth e₁) (scoped_agree b (suc (suc depth)) e₂)

  -- Cause 8
  annotated_const_agree : (c : Const) → annotated_const T c ≡ τ_annotated_const (type_at T) c
  unfolding annotated_const τ_annotated_const
  annotated_const_agree unit = refl
  annotated_const_agree (num n) = refl
  annotated_const_agree (op cell t) = on_type_agree t _ _ (absent_function t _) (λ γ v. cell_type_agree v)
  annotated_const_agree (op exch t) = on_type_agree t _ _ (absent_function t _) (λ γ v. exch_type_agree v)
  annotated_const_agree (op thread t) = on_type_agree t _ _ (absent_function t _) (λ γ v. thread_type_agree v)
  annotated_const_agree (op handle t) = on_type_agree t _ _ (absent_function t _) (λ γ v. handle_type_agree v)

  pub annotated_agree : (e : Exp) → annotated T e ≡ τ_annotated (type_at T) e
  unfolding annotated τ_annotated
  annotated_agree (var i) = refl
  annotated_agree (name k) = refl
  annotated_agree (const c) = annotated_const_agree c
  annotated_agree (lam t e) =
      and_path (on_type_agree t _ _ (absent_function t _) (λ γ v. function_agree _ _ v (λ p q κ α β a b. refl))) (annotated_agree e)
  annotated_agree (app f a) = and_path (annotated_agree f) (annotated_agree a)
  annotated_agree (both s t e₁ e₂) =
      and_path (on_type_agree t _ _ (absent_components s t _) (λ γ v. components_agree (λ x y. x ≡ y) false false refl _ _ (λ p q α β a b. refl) s v))
      (and_path (annotated_agree e₁) (annotated_agree e₂))
  annotated_agree (case_of s e₁ e₂) = and_path (annotated_agree e₁) (annotated_agree e₂)

-- Cause 9: a number and its type
pub data Same (T : Table) : Option ℕ → Option LinType → Type 0 where
  same_none : Same T none none
  same_some : {n : ℕ} {α : LinType} → View T n α → Same T (some n) (some α)

pub data SameAll (T : Table) : List ℕ → List LinType → Type 0 where
  same_nil : SameAll T [] []
  same_cons : {n : ℕ} {α : LinType} {N : List ℕ} {Δ : List LinType} → View T n α → SameAll T N Δ → SameAll T (n ∷ N) (α ∷ Δ)

same_at : {T : Table} {N : List ℕ} {Δ : List LinType} → SameAll T N Δ → (i : ℕ) → Same T (at N i) (at Δ i)
same_at same_nil i = same_none
same_at (same_cons v s) zero = same_some v
same_at (same_cons v s) (suc i) = same_at s i

same_cond : {T : Table} {n : ℕ} {α : LinType} (x y : Bool) → x ≡ y → View T n α → Same T (cond x (some n) none) (cond y (some α) none)
same_cond true true e v = same_some v
same_cond true false e v = absurd (false≢true (sym e))
same_cond false true e v = absurd (false≢true e)
same_cond false false e v = same_none

-- tests of a function's parts that agree
same_tests : (test test' : Multiplicity → LinType → LinType → Bool) → ((κ : Multiplicity) (α β : LinType) → test κ α β ≡ test' κ α β) → (γ : LinType) →
    τ_on_function γ test ≡ τ_on_function γ test'
unfolding τ_on_function
same_tests test test' h unit_type = refl
same_tests test test' h num_type = refl
same_tests test test' h (ref α) = refl
same_tests test test' h (fun κ α β) = h κ α β
same_tests test test' h (pair_type κ α β) = refl
same_tests test test' h (list_type κ α) = refl

module _ {T : Table} (R : TableRule T) where
  on_number_agree : {o : Option ℕ} {o' : Option LinType} {q : ℕ} {β : LinType} → Same T o o' → View T q β →
      on_number o (λ n. eqb n q) ≡ on_type o' (λ β'. same_type β' β)
  unfolding on_number on_type
  on_number_agree same_none v = refl
  on_number_agree (same_some w) v = eq_agree R w v

  applied_agree : {f a : Option ℕ} {f' a' : Option LinType} → Same T f f' → Same T a a' → Same T (applied_number T f a) (applied_type f' a')
  unfolding applied_number applied_type result_number
  applied_agree same_none s = same_none
  applied_agree (same_some (view_unit g)) same_none = same_none
  applied_agree (same_some (view_unit g)) (same_some w) = rw g same_none
  applied_agree (same_some (view_num g)) same_none = same_none
  applied_agree (same_some (view_num g)) (same_some w) = rw g same_none
  applied_agree (same_some (view_cell g a)) same_none = same_none
  applied_agree (same_some (view_cell g a)) (same_some w) = rw g same_none
  applied_agree (same_some (view_function g a b)) same_none = same_none
  applied_agree (same_some (view_pair g a b c c')) same_none = same_none
  applied_agree (same_some (view_pair {κ = once} g a b c c')) (same_some w) = rw g same_none
  applied_agree (same_some (view_pair {κ = many} g a b c c')) (same_some w) = rw g same_none
  applied_agree (same_some (view_list g a c)) same_none = same_none
  applied_agree (same_some (view_list {κ = once} g a c)) (same_some w) = rw g same_none
  applied_agree (same_some (view_list {κ = many} g a c)) (same_some w) = rw g same_none
  applied_agree (same_some (view_function {κ = once} g a b)) (same_some w) = rw g (same_cond _ _ (eq_agree R w (view R a)) (view R b))
  applied_agree (same_some (view_function {κ = many} g a b)) (same_some w) = rw g (same_cond _ _ (eq_agree R w (view R a)) (view R b))

  lambda_type_agree : {t : ℕ} {γ : LinType} (body : ℕ → Option ℕ) (body' : LinType → Option LinType) → View T t γ →
      ((p : ℕ) (α : LinType) → View T p α → Same T (body p) (body' α)) → Same T (lambda_number t (at T t) body) (lambda_type (some γ) body')
  unfolding lambda_number lambda_type
  lambda_type_agree body body' (view_unit g) h = rw g same_none
  lambda_type_agree body body' (view_num g) h = rw g same_none
  lambda_type_agree body body' (view_cell g a) h = rw g same_none
  lambda_type_agree body body' (view_pair {κ = once} g a b c c') h = rw g same_none
  lambda_type_agree body body' (view_pair {κ = many} g a b c c') h = rw g same_none
  lambda_type_agree body body' (view_list {κ = once} g a c) h = rw g same_none
  lambda_type_agree body body' (view_list {κ = many} g a c) h = rw g same_none
  lambda_type_agree body body' (view_function {κ = once} g a b) h =
      rw g (same_cond _ _ (on_number_agree (h _ _ (view R a)) (view R b)) (view_function {κ = once} g a b))
  lambda_type_agree body body' (view_function {κ = many} g a b) h =
      rw g (same_cond _ _ (on_number_agree (h _ _ (view R a)) (view R b)) (view_function {κ = many} g a b))

  both_type_agree : (s : Shape) {t : ℕ} {γ : LinType} {n₁ n₂ : Option ℕ} {o₁ o₂ : Option LinType} → View T t γ → Same T n₁ o₁ → Same T n₂ o₂ →
      Same T (both_number s t (at T t) n₁ n₂) (both_type s (some γ) o₁ o₂)
  unfolding both_number both_type
  both_type_agree s v w₁ w₂ = same_cond _ _ (components_agree R (λ x y. x ≡ y) false false refl _ _
      (λ p q α β a b. and_path (on_number_agree w₁ a) (on_number_agree w₂ b)) s v) v

  case_type_agree : (s : Shape) {n : Option ℕ} {o : Option LinType} (body : ℕ → ℕ → Option ℕ) (body' : LinType → LinType → Option LinType) → Same T n o →
      ((p q : ℕ) (α β : LinType) → View T p α → View T q β → Same T (body p q) (body' α β)) → Same T (case_number s T n body) (case_type s o body')
  unfolding case_number case_type
  case_type_agree s body body' same_none h = same_none
  case_type_agree s body body' (same_some v) h = components_agree R (Same T) none none same_none body body' h s v

  number_agree : (t : ℕ) → τ_in_table (type_at T) t ≡ true → Same T (some t) (type_at T t)
  unfolding τ_in_table
  number_agree t h = let (γ, e, o) = on_type_parts (type_at T t) _ h in rw e (same_some (view R e))

  type_of_const_agree : (c : Const) → τ_scoped_const (type_at T) c ≡ true → Same T (const_number c) (type_of_const (type_at T) c)
  unfolding const_number type_of_const τ_scoped_const
  type_of_const_agree unit s = same_some (unit_at_0 R)
  type_of_const_agree (num n) s = same_some (num_at_1 R)
  type_of_const_agree (op o t) s = number_agree t s

  -- the number found is the number of the type found
  pub type_of_agree : (b depth : ℕ) (e : Exp) {N : List ℕ} {Δ : List LinType} → τ_scoped (type_at T) b depth e ≡ true → SameAll T N Δ →
      Same T (type_number T N e) (type_of (type_at T) Δ e)
  unfolding type_number type_of τ_scoped τ_in_table
  type_of_agree b depth (var i) s d = same_at d i
  type_of_agree b depth (name k) s d = same_some (cell_at_2 R)
  type_of_agree b depth (const c) s d = type_of_const_agree c s
  type_of_agree b depth (lam t e) {N} {Δ} s d =
      let (h, s') = and_parts (τ_in_table (type_at T) t) (τ_scoped (type_at T) b (suc depth) e) s in
      let (γ, g, o) = on_type_parts (type_at T t) _ h in
      rw g (lambda_type_agree (λ p. type_number T (p ∷ N) e) (λ α. type_of (type_at T) (α ∷ Δ) e) (view R g)
      (λ p α v. type_of_agree b (suc depth) e s' (same_cons v d)))
  type_of_agree b depth (app f a) s d =
      let (s₁, s₂) = and_parts (τ_scoped (type_at T) b depth f) (τ_scoped (type_at T) b depth a) s in
      applied_agree (type_of_agree b depth f s₁ d) (type_of_agree b depth a s₂ d)
  type_of_agree b depth (both sh t e₁ e₂) {N} {Δ} s d =
      let (h, s') = and_parts (τ_in_table (type_at T) t) _ s in
      let (s₁, s₂) = and_parts (τ_scoped (type_at T) b depth e₁) (τ_scoped (type_at T) b depth e₂) s' in
      let (γ, g, o) = on_type_parts (type_at T t) _ h in
      rw g (both_type_agree sh (view R g) (type_of_agree b depth e₁ s₁ d) (type_of_agree b depth e₂ s₂ d))
  type_of_agree b depth (case_of sh e₁ e₂) {N} {Δ} s d =
      let (s₁, s₂) = and_parts (τ_scoped (type_at T) b depth e₁) (τ_scoped (type_at T) b (suc (suc depth)) e₂) s in
      case_type_agree sh (λ p q. type_number T (q ∷ p ∷ N) e₂) (λ α β. type_of (type_at T) (β ∷ α ∷ Δ) e₂) (type_of_agree b depth e₁ s₁ d)
      (λ p q α β v w. type_of_agree b (suc (suc depth)) e₂ s₂ (same_cons w (same_cons v d)))

  -- Cause 10
  once_lambda_agree : (t : ℕ) → on_once_function T t (λ p q. true) ≡ is_once_lambda (type_at T) t
  unfolding is_once_lambda
  once_lambda_agree t = on_type_agree R t _ _ (absent_once R t _) (λ γ v. once_test v)
    where
      once_and : (κ : Multiplicity) → (same_multiplicity κ once && true) ≡ same_multiplicity κ once
      once_and once = refl
      once_and many = refl

      once_test : {γ : LinType} → View T t γ → on_once_function T t (λ p q. true) ≡ τ_on_function γ (λ κ α β. same_multiplicity κ once)
      once_test v = once_function_agree R _ (λ α β. true) v (λ p q α β a b. refl) ∙ same_tests _ _ (λ κ α β. once_and κ) _

  outside_many_agree : (i : ℕ) (e : Exp) → outside_many T i e ≡ τ_outside_many (type_at T) i e
  unfolding outside_many τ_outside_many
  outside_many_agree i (var j) = refl
  outside_many_agree i (name k) = refl
  outside_many_agree i (const c) = refl
  outside_many_agree i (lam t e) = cond_path (once_lambda_agree t) (outside_many_agree (suc i) e) refl
  outside_many_agree i (app f a) = and_path (outside_many_agree i f) (outside_many_agree i a)
  outside_many_agree i (both s t e₁ e₂) = and_path (outside_many_agree i e₁) (outside_many_agree i e₂)
  outside_many_agree i (case_of s e₁ e₂) = and_path (outside_many_agree i e₁) (outside_many_agree (suc (suc i)) e₂)

  linear_variable_agree : (i : ℕ) (e : Exp) {p : ℕ} {α : LinType} → View T p α → linear_variable T i p e ≡ τ_linear_variable (type_at T) i α e
  unfolding linear_variable τ_linear_variable
  linear_variable_agree i e v = cond_path (many_agree R v) refl (and_path {a = eqb (uses i e) 1} refl (outside_many_agree i e))

  on_found_agree : {o : Option ℕ} {o' : Option LinType} (number_test : ℕ → Bool) (test : LinType → Bool) → Same T o o' →
      ((n : ℕ) (γ : LinType) → View T n γ → number_test n ≡ test γ) → on_number o number_test ≡ on_type o' test
  unfolding on_number on_type
  on_found_agree number_test test same_none h = refl
  on_found_agree number_test test (same_some v) h = h _ _ v

  pub linear_agree : (b depth : ℕ) (e : Exp) {N : List ℕ} {Δ : List LinType} → τ_scoped (type_at T) b depth e ≡ true → SameAll T N Δ →
      linear T N e ≡ τ_linear (type_at T) Δ e
  unfolding linear τ_linear τ_scoped
  linear_agree b depth (var i) s d = refl
  linear_agree b depth (name k) s d = refl
  linear_agree b depth (const c) s d = refl
  linear_agree b depth (lam t e) s d =
      let (h, s') = and_parts (τ_in_table (type_at T) t) (τ_scoped (type_at T) b (suc depth) e) s in
      on_type_agree R t _ _ (absent_function R t _) (λ γ v. function_agree R _ _ v (λ p q κ α β a c.
      and_path (linear_variable_agree 0 e a) (linear_agree b (suc depth) e s' (same_cons a d))))
  linear_agree b depth (app f a) s d =
      let (s₁, s₂) = and_parts (τ_scoped (type_at T) b depth f) (τ_scoped (type_at T) b depth a) s in
      and_path (linear_agree b depth f s₁ d) (linear_agree b depth a s₂ d)
  linear_agree b depth (both sh t e₁ e₂) s d =
      let (s₁, s₂) = and_parts (τ_scoped (type_at T) b depth e₁) (τ_scoped (type_at T) b depth e₂) (and_parts (τ_in_table (type_at T) t) _ s).1 in
      and_path (linear_agree b depth e₁ s₁ d) (linear_agree b depth e₂ s₂ d)
  linear_agree b depth (case_of sh e₁ e₂) s d =
      let (s₁, s₂) = and_parts (τ_scoped (type_at T) b depth e₁) (τ_scoped (type_at T) b (suc (suc depth)) e₂) s in
      and_path (linear_agree b depth e₁ s₁ d) (on_found_agree _ _ (type_of_agree b depth e₁ s₁ d) (λ n γ v.
      components_agree R (λ x y. x ≡ y) false false refl _ _ (λ p q α β a c.
      and_path (and_path (linear_variable_agree 0 e₂ c) (linear_variable_agree 1 e₂ a)) (linear_agree b (suc (suc depth)) e₂ s₂ (same_cons c (same_cons a d)))) sh v))
