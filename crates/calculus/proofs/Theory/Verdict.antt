-- The tests on numbers accept what the tests on types accept; the verdict is 0 exactly where each bay's term has a derivation of a many type.
use Rattle.std.proofs.Common.{◌∙◌, sym}
use Rattle.std.specs.Prelude.{◌≡◌, refl, ◌↔◌, Bool, false, not, true, List, [], ◌∷◌, suc, zero, ℕ, length}
use Rattle.std.proofs.lemmas.Bool.{false≢true, not-false}
use Rattle.std.proofs.Math.Option.{Option, none-ne-some, some-injective, none, some}
use Rattle.calculus.specs.Types.{many, LinType, multiplicity}
use Rattle.calculus.specs.Syntax.{Exp, at}
use Rattle.calculus.specs.Typing.{Derivation}
use Rattle.calculus.specs.Recipe.{setting_types}
use Rattle.calculus.specs.Table.{Table, TableRule, type_at, is_many}
use Rattle.calculus.proofs.Theory.TypeTests.{τ_scoped, AcceptedByType}
use Rattle.calculus.specs.Table.{is_many}
use Rattle.calculus.specs.Verdict.{scoped, annotated, on_number, type_number, linear, Accepted, every, type_causes, verdict}
use Rattle.calculus.proofs.Theory.Tests.{and_true, and_parts}
use Rattle.calculus.proofs.Theory.Lowest.{none_fits}
use Rattle.calculus.proofs.Theory.Derivable.{accepted_by_type_iff}
use Rattle.calculus.proofs.Theory.Tables.{View, view, view_type, view_unique}
use Rattle.calculus.proofs.Theory.Numbers.{many_agree, scoped_agree, annotated_agree, linear_agree, Same, same_none, same_some, same_nil, type_of_agree}

-- one found is the other found
pub same_there : {T : Table} {o : Option ℕ} {o' : Option LinType} {n : ℕ} → Same T o o' → o ≡ some n → (α : LinType) × (o' ≡ some α) × View T n α
same_there {n = n} same_none e = absurd (none-ne-some n e)
same_there {n = n} (same_some {n = m} {α = α} v) e = (α, refl, rw (some-injective m n e) at v)

pub same_back : {T : Table} {o : Option ℕ} {o' : Option LinType} {α : LinType} → Same T o o' → o' ≡ some α → (n : ℕ) × (o ≡ some n) × View T n α
same_back {α = α} same_none e = absurd (none-ne-some α e)
same_back {α = α} (same_some {n = n} {α = β} v) e = (n, refl, rw (some-injective β α e) at v)

module _ {T : Table} (R : TableRule T) where
  -- the tests on numbers accept what the tests on types accept
  pub accepted_from_number : (b : ℕ) (e : Exp) (n : ℕ) → Accepted T b e n → (α : LinType) × (type_at T n ≡ some α) × AcceptedByType (type_at T) b e α
  accepted_from_number b e n a =
      let s : τ_scoped (type_at T) b 0 e ≡ true = sym (scoped_agree R b 0 e) ∙ a.no_cause_7 in
      let (α, y, v) = same_there (type_of_agree R b 0 e s same_nil) a.no_cause_9 in (
        α,
        view_type R v,
        record {
          no_cause_7 = s;
          no_cause_8 = sym (annotated_agree R e) ∙ a.no_cause_8;
          no_cause_9 = y;
          no_cause_10 = sym (linear_agree R b 0 e s same_nil) ∙ a.no_cause_10;
          no_cause_11 = sym (many_agree R v) ∙ a.no_cause_11;
        },
      )

  pub accepted_to_number : (b : ℕ) (e : Exp) (α : LinType) → AcceptedByType (type_at T) b e α → (n : ℕ) × (type_at T n ≡ some α) × Accepted T b e n
  accepted_to_number b e α a =
      let (n, y, v) = same_back (type_of_agree R b 0 e a.no_cause_7 same_nil) a.no_cause_9 in (
        n,
        view_type R v,
        record {
          no_cause_7 = scoped_agree R b 0 e ∙ a.no_cause_7;
          no_cause_8 = annotated_agree R e ∙ a.no_cause_8;
          no_cause_9 = y;
          no_cause_10 = linear_agree R b 0 e a.no_cause_7 same_nil ∙ a.no_cause_10;
          no_cause_11 = many_agree R v ∙ a.no_cause_11;
        },
      )

  -- The tests on numbers accept exactly the terms that have a derivation of the many type with the number answered.
  pub accepted_iff : (b : ℕ) (e : Exp) (n : ℕ) →
      Accepted T b e n ↔ ((α : LinType) × (type_at T n ≡ some α) × Derivation (type_at T) (setting_types b) [] e α × (multiplicity α ≡ many))
  accepted_iff b e n = (there, back)
    where
      there : Accepted T b e n → (α : LinType) × (type_at T n ≡ some α) × Derivation (type_at T) (setting_types b) [] e α × (multiplicity α ≡ many)
      there a =
          let (α, y, a') = accepted_from_number b e n a in
          let (d, m) = (accepted_by_type_iff (type_at T) b e α).0 a' in
          (α, y, d, m)

      back : ((α : LinType) × (type_at T n ≡ some α) × Derivation (type_at T) (setting_types b) [] e α × (multiplicity α ≡ many)) → Accepted T b e n
      back d =
          let (n', y, a) = accepted_to_number b e d.0 ((accepted_by_type_iff (type_at T) b e d.0).1 (d.2, d.3)) in
          rw (view_unique R d.0 (view R d.1) (view R y)) a

-- The verdict is 0 exactly where each bay's term has a derivation of a many type.
pub every_sound : (test : Exp → Bool) (es : List Exp) → every test es ≡ true → (i : ℕ) (e : Exp) → at es i ≡ some e → test e ≡ true
unfolding every
every_sound test [] p i e g = absurd (none-ne-some e g)
every_sound test (e' ∷ es) p zero e g = rw (some-injective e' e g) at (and_parts (test e') (every test es) p).0
every_sound test (e' ∷ es) p (suc i) e g = every_sound test es (and_parts (test e') (every test es) p).1 i e g

pub every_complete : (test : Exp → Bool) (es : List Exp) → ((i : ℕ) (e : Exp) → at es i ≡ some e → test e ≡ true) → every test es ≡ true
unfolding every
every_complete test [] h = refl
every_complete test (e ∷ es) h = and_true (h 0 e refl) (every_complete test es (λ i. h (suc i)))

pub on_number_parts : (o : Option ℕ) (test : ℕ → Bool) → on_number o test ≡ true → (n : ℕ) × (o ≡ some n) × (test n ≡ true)
unfolding on_number
on_number_parts none test e = absurd (false≢true e)
on_number_parts (some n) test e = (n, refl, e)

on_number_at : (o : Option ℕ) (test : ℕ → Bool) {n : ℕ} → o ≡ some n → test n ≡ true → on_number o test ≡ true
unfolding on_number
on_number_at o test p e = rw p e

abbrev pub EachAccepted : Table → List Exp → Type 0
EachAccepted T es = (i : ℕ) (e : Exp) → at es i ≡ some e → (n : ℕ) × Accepted T (length es) e n

pub verdict_iff : (T : Table) (es : List Exp) → (verdict T es ≡ 0) ↔ EachAccepted T es
unfolding verdict
verdict_iff T es = (there, back)
  where
    passes : (test : Exp → Bool) → not (every test es) ≡ false → (i : ℕ) (e : Exp) → at es i ≡ some e → test e ≡ true
    passes test h = every_sound test es (not-false _ h)

    there : verdict T es ≡ 0 → EachAccepted T es
    there v i e g =
        let (a, (b, (c, (d, (f, u))))) = none_fits (type_causes T es) tt v in
        let (n, y, m) = on_number_parts (type_number T [] e) (is_many T) (passes _ f i e g) in (
          n,
          record {
            no_cause_7 = passes _ a i e g;
            no_cause_8 = passes _ b i e g;
            no_cause_9 = y;
            no_cause_10 = passes _ d i e g;
            no_cause_11 = m;
          },
        )

    back : EachAccepted T es → verdict T es ≡ 0
    back h =
        let a : every (scoped (length T) (length es) 0) es ≡ true = every_complete _ es (λ i e g. (h i e g).1.no_cause_7) in
        let b : every (annotated T) es ≡ true = every_complete _ es (λ i e g. (h i e g).1.no_cause_8) in
        let c : every (λ e. on_number (type_number T [] e) (λ n. true)) es ≡ true = every_complete _ es (λ i e g. on_number_at _ _ (h i e g).1.no_cause_9 refl) in
        let d : every (linear T []) es ≡ true = every_complete _ es (λ i e g. (h i e g).1.no_cause_10) in
        let f : every (λ e. on_number (type_number T [] e) (is_many T)) es ≡ true = every_complete _ es (λ i e g. on_number_at _ _ (h i e g).1.no_cause_9 (h i e g).1.no_cause_11) in
        rw (a, b, c, d, f)

abbrev pub EachDerived : Table → List Exp → Type 0
EachDerived T es = (i : ℕ) (e : Exp) → at es i ≡ some e → (α : LinType) × Derivation (type_at T) (setting_types (length es)) [] e α × (multiplicity α ≡ many)

pub verdict_derived_iff : {T : Table} → TableRule T → (es : List Exp) → (verdict T es ≡ 0) ↔ EachDerived T es
verdict_derived_iff {T} R es = (there, back)
  where
    there : verdict T es ≡ 0 → EachDerived T es
    there v i e g =
        let (n, a) = (verdict_iff T es).0 v i e g in
        let (α, y, d, m) = (accepted_iff R (length es) e n).0 a in
        (α, d, m)

    back : EachDerived T es → verdict T es ≡ 0
    back h = (verdict_iff T es).1 (λ i e g.
        let (α, d, m) = h i e g in
        let (n, y, a) = accepted_to_number R (length es) e α ((accepted_by_type_iff (type_at T) (length es) e α).1 (d, m)) in
        (n, a))
