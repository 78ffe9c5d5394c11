-- A term that leaves marks keeps the rule of cause 10, and leaves the marks that it should.
use Rattle.std.specs.Prelude.{◌≡◌, refl, Bool, ◌&&◌, cond, false, true, List, [], ◌∷◌, ◌+◌, ◌<◌, suc, zero, ℕ, eqb, ltb, get_or, length, set}
use Rattle.std.proofs.Common.{sym, ◌∙◌, arith, length-set, get_or-set_same, get_or-set_other}
use Rattle.std.proofs.lemmas.Bool.{false≢true}
use Rattle.std.proofs.Math.Option.{none-ne-some, some-injective, none, some}
use Rattle.calculus.proofs.Theory.Derivable.{uses_other, uses_self}
use Rattle.calculus.specs.Syntax.{Exp, var, name, const, lam, app, both, case_of, at}
use Rattle.calculus.specs.Names.{uses}
use Rattle.calculus.specs.Table.{Entry, Table}
use Rattle.calculus.specs.Verdict.{outside_many, linear_variable, type_number, linear}
use Rattle.calculus.proofs.Theory.Tests.{and_true, and_parts, eqb_sound, eqb_complete, ltb_sound}
use Rattle.check_linearity.specs.Spend.{Marks, new_mark, reach_under, spend_variable, spend_next, spend_case, spend, many_mark, due_mark, spent_mark}
use Rattle.check_linearity.proofs.Theory.Changes.{Change, stays_many, is_spent, change_unused, change_allowed}
use Rattle.check_linearity.proofs.Theory.Subterms.{Changed, InReach, changed_two, spend_next_parts}
use Rattle.check_linearity.proofs.Theory.Lambdas.{Allowed, Spent, unused_outside, on_function_at, allowed_lambda, variable_sound, leave_parts, spend_lambda_parts}
use Rattle.check_linearity.proofs.Theory.Components.{components_number, spend_components, leave_both, changed_outside}

-- a term that uses no variable
spent_nothing : (T : Table) (reach : ℕ) (M : Marks) (e : Exp) → ((i : ℕ) → uses i e ≡ 0) → Spent T reach M e M
spent_nothing T reach M e z = record { same_length = refl; each = λ i. change_unused (get_or M i 0) (z i) }

-- a variable
marked_below : (M : Marks) (i : ℕ) → get_or M i 0 ≡ due_mark → i < length M
marked_below [] i h = absurd (omega arith)
marked_below (mark ∷ M) zero h = omega arith
marked_below (mark ∷ M) (suc i) h = omega (arith, marked_below M i h)

-- every variable but i keeps its mark, and of i it is to be shown
at_variable : (T : Table) (reach : ℕ) (M M' : Marks) (i : ℕ) → length M' ≡ length M → ((j : ℕ) → ¬ (j ≡ i) → get_or M' j 0 ≡ get_or M j 0) →
    Change (uses i (var i)) (Allowed T reach (var i) i) (get_or M i 0) (get_or M' i 0) → Spent T reach M (var i) M'
at_variable T reach M M' i l others c = record { same_length = l; each = λ j. go j (eqb j i) refl }
  where
    go : (j : ℕ) (b : Bool) → eqb j i ≡ b → Change (uses j (var i)) (Allowed T reach (var i) j) (get_or M j 0) (get_or M' j 0)
    go j true q = let r : j ≡ i = eqb_sound j i q in rw r c
    go j false q = let n : ¬ (j ≡ i) = λ r. false≢true (sym q ∙ eqb_complete j i r) in rw (others j n) (change_unused (get_or M j 0) (uses_other i j n))

spent_variable : (T : Table) (reach : ℕ) (M : Marks) (i : ℕ) {M' : Marks} → spend_variable reach M i (get_or M i 0) ≡ some M' → Spent T reach M (var i) M'
unfolding spend_variable outside_many
spent_variable T reach M i {M'} h = go (eqb (get_or M i 0) many_mark) refl h
  where
    due : (b : Bool) → (eqb (get_or M i 0) due_mark && ltb i reach) ≡ b → cond b (some (set M i spent_mark)) none ≡ some M' → Spent T reach M (var i) M'
    due true q h =
        let (d, l) = and_parts (eqb (get_or M i 0) due_mark) (ltb i reach) q in
        let d' : get_or M i 0 ≡ due_mark = eqb_sound (get_or M i 0) due_mark d in
        let s : set M i spent_mark ≡ M' = cc in
        rw (← s) (at_variable T reach M (set M i spent_mark) i (length-set M i spent_mark) (λ j n. get_or-set_other M i j spent_mark 0 n)
        (rw (d', get_or-set_same M i spent_mark 0 (marked_below M i d')) (is_spent (uses_self i) (ltb_sound i reach l, refl))))
    due false q h = absurd (none-ne-some M' h)

    go : (b : Bool) → eqb (get_or M i 0) many_mark ≡ b → cond b (some M) (cond (eqb (get_or M i 0) due_mark && ltb i reach) (some (set M i spent_mark)) none) ≡ some M' → Spent T reach M (var i) M'
    go true q h =
        let z : get_or M i 0 ≡ many_mark = eqb_sound (get_or M i 0) many_mark q in
        let s : M ≡ M' = cc in
        rw (← s) (at_variable T reach M M i refl (λ j n. refl) (rw z stays_many))
    go false q h = due (eqb (get_or M i 0) due_mark && ltb i reach) refl h

-- the body, and then the lambda
spent_lambda : (T : Table) (reach : ℕ) (M M' : Marks) (t : ℕ) (e : Exp) (x : Entry) (mark mark' : ℕ) → at T t ≡ some x →
    Spent T (reach_under x.kind reach) (mark ∷ M) e (mark' ∷ M') → Spent T reach M (lam t e) M'
unfolding uses
spent_lambda T reach M M' t e x mark mark' g s = record {
  same_length = omega (arith, s.same_length);
  each = λ i. change_allowed (allowed_lambda T t x g reach i e) (s.each (suc i));
}

-- an application, or a pair or front: both subterms in the scope of the whole
abbrev Holds : Table → List ℕ → ℕ → Exp → Type 0
Holds T Δ reach e = (M M' : Marks) → spend T Δ reach M e ≡ some M' → (linear T Δ e ≡ true) × Spent T reach M e M'

sound_two : (T : Table) (Δ : List ℕ) (reach : ℕ) (M M' : Marks) (e₁ e₂ : Exp) → Holds T Δ reach e₁ → Holds T Δ reach e₂ →
    spend_next (spend T Δ reach M e₁) (λ M. spend T Δ reach M e₂) ≡ some M' →
    ((linear T Δ e₁ && linear T Δ e₂) ≡ true) ×
    Changed (λ i. uses i e₁ + uses i e₂) (InReach reach (λ i. outside_many T i e₁ && outside_many T i e₂)) M M'
sound_two T Δ reach M M' e₁ e₂ f g h =
    let (M₁, p, q) = spend_next_parts (spend T Δ reach M e₁) (λ M. spend T Δ reach M e₂) h in
    let (l, s) = f M M₁ p in
    let (l', s') = g M₁ M' q in (
      and_true l l',
      changed_two reach (λ i. uses i e₁) (λ i. uses i e₂) (λ i. outside_many T i e₁) (λ i. outside_many T i e₂)
          (λ i. unused_outside T i e₁) (λ i. unused_outside T i e₂) s s',
    )

pub sound : (T : Table) (Δ : List ℕ) (reach : ℕ) (M : Marks) (e : Exp) {M' : Marks} → spend T Δ reach M e ≡ some M' → (linear T Δ e ≡ true) × Spent T reach M e M'
unfolding spend linear uses outside_many
sound T Δ reach M (var i) h = (refl, spent_variable T reach M i h)
sound T Δ reach M (name k) h = (refl, rw (← some-injective _ _ h) (spent_nothing T reach M (name k) (λ i. refl)))
sound T Δ reach M (const c) h = (refl, rw (← some-injective _ _ h) (spent_nothing T reach M (const c) (λ i. refl)))
sound T Δ reach M (lam t e) {M'} h =
    let (x, g, k, b) = spend_lambda_parts T reach M (at T t) (λ p reach M. spend T (p ∷ Δ) reach M e) h in
    let under = reach_under x.kind reach in
    let (mark, r, n) = leave_parts (spend T (x.p ∷ Δ) under (new_mark T x.p ∷ M) e) b in
    let (l, s) = sound T (x.p ∷ Δ) under (new_mark T x.p ∷ M) e r in (
      on_function_at T t x (λ p q. linear_variable T 0 p e && linear T (p ∷ Δ) e) g k ∙ and_true (variable_sound T 0 x.p e under mark (s.each 0) n) l,
      spent_lambda T reach M M' t e x (new_mark T x.p) mark g s,
    )
sound T Δ reach M (app f a) {M'} h = sound_two T Δ reach M M' f a (λ M M' h. sound T Δ reach M f h) (λ M M' h. sound T Δ reach M a h) h
sound T Δ reach M (both sh t e₁ e₂) {M'} h = sound_two T Δ reach M M' e₁ e₂ (λ M M' h. sound T Δ reach M e₁ h) (λ M M' h. sound T Δ reach M e₂ h) h
sound T Δ reach M (case_of sh e₁ e₂) {M'} h =
    let (M₁, r, b) = spend_next_parts (spend T Δ reach M e₁) (λ M. spend_case sh T M (type_number T Δ e₁) λ p q M. spend T (q ∷ p ∷ Δ) (suc (suc reach)) M e₂) h in
    let (l, s) = sound T Δ reach M e₁ r in
    let (p, q, c, b') = spend_components T sh M₁ (type_number T Δ e₁) (λ p q M. spend T (q ∷ p ∷ Δ) (suc (suc reach)) M e₂) b in
    let (second, first, r', m, n) = leave_both (spend T (q ∷ p ∷ Δ) (suc (suc reach)) (new_mark T q ∷ new_mark T p ∷ M₁) e₂) b' in
    let (l', s') = sound T (q ∷ p ∷ Δ) (suc (suc reach)) (new_mark T q ∷ new_mark T p ∷ M₁) e₂ r' in (
      and_true l (components_number T sh (λ p q. (linear_variable T 0 q e₂ && linear_variable T 1 p e₂) && linear T (q ∷ p ∷ Δ) e₂) c
          ∙ and_true (and_true (variable_sound T 0 q e₂ (suc (suc reach)) second (s'.each 0) m) (variable_sound T 1 p e₂ (suc (suc reach)) first (s'.each 1) n)) l'),
      changed_two reach (λ i. uses i e₁) (λ i. uses (suc (suc i)) e₂) (λ i. outside_many T i e₁) (λ i. outside_many T (suc (suc i)) e₂)
          (λ i. unused_outside T i e₁) (λ i. unused_outside T (suc (suc i)) e₂) s (changed_outside T reach e₂ s'),
    )
