-- A configuration with one component changed or one more, as a table of components in bytes.
use Rattle.std.proofs.Common.{◌∙◌, sym, inl, inr, arith, eq-eqb, ne_eqb, length-append, length-set}
use Rattle.std.specs.Prelude.{◌≡◌, refl, Bool, cond, false, true, [], ◌++◌, ◌∷◌, ℕ, ◌+◌, suc, zero, eqb, length, set}
use Rattle.std.proofs.Math.Option.{some}
use Rattle.calculus.specs.Syntax.{Component, Config, at}
use Rattle.calculus.proofs.Theory.Tests.{clash, eqb_sound}
use Rattle.calculus.proofs.Theory.Lists.{append_cases, at_bound, set_cases}
use Rattle.image_layout.specs.Encoded.{Encoded}
use Rattle.image.specs.Configuration.{encode}

-- the components of a configuration in bytes are the first n values of f, where `owner` says who owns each name
pub record Table (owner : ℕ → ℕ) (C : Config) (n : ℕ) (f : ℕ → Encoded) : Type 0 where
  pub size : length C ≡ n
  pub each : (k : ℕ) (c : Component) → at C k ≡ some c → f k ≡ encode c (owner k)

module _ {owner : ℕ → ℕ} {C : Config} {n : ℕ} {f : ℕ → Encoded} where
  -- one changed
  pub table_set : (x : ℕ) (c : Component) → Table owner C n f → Table owner (set C x c) n (λ i. cond (eqb i x) (encode c (owner i)) (f i))
  table_set x c t = record {
    size = length-set C x c ∙ t.size;
    each = λ k d h. elim (set_cases C x k c h) [
      | inl p ↦ rw (eq-eqb k x p.0, p.1) refl
      | inr p ↦ rw (ne_eqb k x p.0) (t.each k d p.1)
    ];
  }

  -- one more
  pub table_more : (c : Component) → Table owner C n f → Table owner (C ++ (c ∷ [])) (n + 1) (λ i. cond (eqb i n) (encode c (owner i)) (f i))
  table_more c t = record {
    size = length-append C (c ∷ []) ∙ omega (arith, t.size);
    each = λ k d h. elim (append_cases C (c ∷ []) k h) [
      | inl p ↦ rw (ne_eqb k n (λ e. omega (arith, at_bound C k p, t.size))) (t.each k d p)
      | inr p ↦ let (z, e) = only p.0 p.2 in rw (eq-eqb k n (omega (arith, p.1, z, t.size)), e) refl
    ];
  }
    where
      only : (i : ℕ) {d : Component} → at (c ∷ []) i ≡ some d → (i ≡ 0) × (d ≡ c)
      only zero h = (refl, cc)
      only (suc i) h = absurd (clash (cc))

-- changes at different names do not meet
pub swap : {A : Type 0} (k x y : ℕ) (a b c : A) → ¬ (x ≡ y) → cond (eqb k y) b (cond (eqb k x) a c) ≡ cond (eqb k x) a (cond (eqb k y) b c)
swap {A} k x y a b c n = go (eqb k x) (eqb k y) (λ p q. n (sym (eqb_sound k x p) ∙ eqb_sound k y q))
  where
    go : (p q : Bool) → (p ≡ true → q ≡ true → ⊥) → cond q b (cond p a c) ≡ cond p a (cond q b c)
    go true true h = absurd (h refl refl)
    go true false h = refl
    go false true h = refl
    go false false h = refl
