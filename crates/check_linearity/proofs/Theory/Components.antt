-- A case: what its subject's type says of the calculus' test and of the pass, and its body's marks.
use Rattle.std.specs.Prelude.{◌≡◌, Bool, cond, [], ◌∷◌, suc, zero, ℕ}
use Rattle.std.proofs.Math.Path.{refl}
use Rattle.std.proofs.Math.Bool.{false, false≢true, true}
use Rattle.std.proofs.Math.Option.{Option, none-ne-some, none, some}
use Rattle.std.proofs.Common.{arith}
use Rattle.calculus.specs.Syntax.{Shape, Exp, at}
use Rattle.calculus.specs.Names.{uses}
use Rattle.calculus.specs.Table.{Entry, Table}
use Rattle.calculus.specs.Verdict.{is_kind_of, second_number, with_components, on_number, outside_many, linear_variable}
use Rattle.check_linearity.specs.Spend.{Marks, new_mark, leave, spend_case, due_mark}
use Rattle.check_linearity.proofs.Theory.Changes.{change_allowed, fit_allowed}
use Rattle.check_linearity.proofs.Theory.Subterms.{Changed, FitAll, InReach}
use Rattle.check_linearity.proofs.Theory.Lambdas.{Spent, Fits, variable_fit, variable_left, leave_parts, leave_some}

-- a subject's type is a pair's, or a list's, and its components' types have numbers p and q
pub data Components (T : Table) (s : Shape) : Option ℕ → ℕ → ℕ → Type 0 where
  components : (n : ℕ) (x : Entry) → at T n ≡ some x → is_kind_of s x.kind ≡ true → Components T s (some n) x.p (second_number s n x.q)

module _ (T : Table) (s : Shape) where
  -- what follows from the components
  pub components_number : {o : Option ℕ} {p q : ℕ} (test : ℕ → ℕ → Bool) → Components T s o p q →
      on_number o (λ n. with_components false s n (at T n) test) ≡ test p q
  unfolding on_number with_components
  components_number test (components n x g k) = rw (g, k)

  pub components_spend : {o : Option ℕ} {p q : ℕ} (M : Marks) (body : ℕ → ℕ → Marks → Option Marks) → Components T s o p q →
      spend_case s T M o body ≡ leave (leave (body p q (new_mark T q ∷ new_mark T p ∷ M)))
  unfolding spend_case with_components
  components_spend M body (components n x g k) = rw (g, k)

  -- and where something follows, they are there
  found : {A : Type 0} (P : A → Type 0) (otherwise : A) (follows : ℕ → ℕ → A) (n : ℕ) → ¬ P otherwise → P (with_components otherwise s n (at T n) follows) →
      (p q : ℕ) × Components T s (some n) p q × P (follows p q)
  unfolding with_components
  found P otherwise follows n fails h = go (at T n) refl h
    where
      known : (x : Entry) → at T n ≡ some x → (k : Bool) → is_kind_of s x.kind ≡ k → P (cond k (follows x.p (second_number s n x.q)) otherwise) →
          (p q : ℕ) × Components T s (some n) p q × P (follows p q)
      known x g true k h = (x.p, second_number s n x.q, components n x g k, h)
      known x g false k h = absurd (fails h)

      go : (o : Option Entry) → at T n ≡ o → P (with_components otherwise s n o follows) → (p q : ℕ) × Components T s (some n) p q × P (follows p q)
      go none g h = absurd (fails h)
      go (some x) g h = known x g (is_kind_of s x.kind) refl h

  pub number_components : (o : Option ℕ) (test : ℕ → ℕ → Bool) → on_number o (λ n. with_components false s n (at T n) test) ≡ true →
      (p q : ℕ) × Components T s o p q × (test p q ≡ true)
  unfolding on_number
  number_components none test h = absurd (false≢true h)
  number_components (some n) test h = found (λ b. b ≡ true) false test n false≢true h

  pub spend_components : (M : Marks) (o : Option ℕ) (body : ℕ → ℕ → Marks → Option Marks) {M' : Marks} → spend_case s T M o body ≡ some M' →
      (p q : ℕ) × Components T s o p q × (leave (leave (body p q (new_mark T q ∷ new_mark T p ∷ M))) ≡ some M')
  unfolding spend_case
  spend_components M none body {M'} h = absurd (none-ne-some M' h)
  spend_components M (some n) body {M'} h =
      found (λ o. o ≡ some M') none (λ p q. leave (leave (body p q (new_mark T q ∷ new_mark T p ∷ M)))) n (none-ne-some M') h

-- both variables go
pub leave_both : (o : Option Marks) {M' : Marks} → leave (leave o) ≡ some M' →
    (second first : ℕ) × (o ≡ some (second ∷ first ∷ M')) × (¬ (second ≡ due_mark)) × (¬ (first ≡ due_mark))
leave_both o h = let (first, p, n) = leave_parts (leave o) h in let (second, q, m) = leave_parts o p in (second, first, q, m, n)

-- what the body uses of the variables outside
module _ (T : Table) (reach : ℕ) (e : Exp) where
  abbrev pub Outer : ℕ → Type 0
  Outer = InReach reach (λ i. outside_many T (suc (suc i)) e)

  abbrev pub outer_uses : ℕ → ℕ
  outer_uses i = uses (suc (suc i)) e

  pub changed_outside : {second first second' first' : ℕ} {M M' : Marks} → Spent T (suc (suc reach)) (second ∷ first ∷ M) e (second' ∷ first' ∷ M') →
      Changed outer_uses Outer M M'
  changed_outside c = record {
    same_length = omega (arith, c.same_length);
    each = λ i. change_allowed (λ a. (omega (arith, a.0), a.1)) (c.each (suc (suc i)));
  }

  -- the marks that it meets, where the calculus' test holds of its own two variables
  pub fits_case : (p q : ℕ) (M : Marks) → linear_variable T 0 q e ≡ true → linear_variable T 1 p e ≡ true → FitAll outer_uses Outer M →
      Fits T (suc (suc reach)) (new_mark T q ∷ new_mark T p ∷ M) e
  fits_case p q M k l h zero = variable_fit T 0 q e (suc (suc reach)) (omega arith) k
  fits_case p q M k l h (suc zero) = variable_fit T 1 p e (suc (suc reach)) (omega arith) l
  fits_case p q M k l h (suc (suc i)) = fit_allowed (λ w a. (omega (arith, a.0), a.1)) (h i)

  -- and that it leaves
  pub leaves_case : (p q : ℕ) {M : Marks} (M' : Marks) → linear_variable T 0 q e ≡ true → linear_variable T 1 p e ≡ true →
      Spent T (suc (suc reach)) (new_mark T q ∷ new_mark T p ∷ M) e M' → (M'' : Marks) × (leave (leave (some M')) ≡ some M'')
  leaves_case p q [] k l c = absurd (omega (arith, c.same_length))
  leaves_case p q (second ∷ []) k l c = absurd (omega (arith, c.same_length))
  leaves_case p q (second ∷ first ∷ M') k l c = (
    M',
    rw (leave_some second (first ∷ M') (variable_left T 0 q e (suc (suc reach)) second k (c.each 0)))
        (leave_some first M' (variable_left T 1 p e (suc (suc reach)) first l (c.each 1))),
  )
