-- The marks before a term and after it, variable by variable; a term with two subterms, of which the second meets the marks that the first leaves.
use Rattle.std.specs.Prelude.{◌≡◌, refl, Bool, ◌&&◌, true, ◌+◌, ◌<◌, ℕ, get_or, length}
use Rattle.std.proofs.Common.{◌∙◌}
use Rattle.std.proofs.Math.Option.{Option, none-ne-some, none, some}
use Rattle.calculus.proofs.Theory.Tests.{and_true, and_parts}
use Rattle.check_linearity.specs.Spend.{Marks, spend_next}
use Rattle.check_linearity.proofs.Theory.Changes.{Change, change_two, Fit, fit_first, fit_second}

-- the marks M and then M', where variable i is used `uses i` times, and a once-variable may be used where Allowed says so
pub record Changed (uses : ℕ → ℕ) (Allowed : ℕ → Type 0) (M M' : Marks) : Type 0 where
  pub same_length : length M' ≡ length M
  pub each : (i : ℕ) → Change (uses i) (Allowed i) (get_or M i 0) (get_or M' i 0)

-- such marks may be met
abbrev pub FitAll : (ℕ → ℕ) → (ℕ → Type 0) → Marks → Type 0
FitAll uses Allowed M = (i : ℕ) → Fit (uses i) (Allowed i) (get_or M i 0)

-- variable i is in reach, and a test holds of it: it stands under no many-lambda
abbrev pub InReach : ℕ → (ℕ → Bool) → ℕ → Type 0
InReach reach outside i = (i < reach) × (outside i ≡ true)

-- two subterms that use variable i u i times and v i times
module _ (reach : ℕ) (u v : ℕ → ℕ) (outside₁ outside₂ : ℕ → Bool) where
  abbrev First : ℕ → Type 0
  First = InReach reach outside₁

  abbrev Second : ℕ → Type 0
  Second = InReach reach outside₂

  abbrev Two : ℕ → Type 0
  Two = InReach reach (λ i. outside₁ i && outside₂ i)

  pub changed_two : {M M₁ M₂ : Marks} → ((i : ℕ) → u i ≡ 0 → outside₁ i ≡ true) → ((i : ℕ) → v i ≡ 0 → outside₂ i ≡ true) →
      Changed u First M M₁ → Changed v Second M₁ M₂ → Changed (λ i. u i + v i) Two M M₂
  changed_two f g c d = record {
    same_length = d.same_length ∙ c.same_length;
    each = λ i. change_two (λ l z. (l.0, and_true l.1 (g i z))) (λ z l. (l.0, and_true (f i z) l.1)) (c.each i) (d.each i);
  }

  pub leaves_two : {M : Marks} (o : Option Marks) (next : Marks → Option Marks) →
      (FitAll u First M → (M₁ : Marks) × (o ≡ some M₁) × Changed u First M M₁) → ((M₁ : Marks) → FitAll v Second M₁ → (M₂ : Marks) × (next M₁ ≡ some M₂)) →
      FitAll (λ i. u i + v i) Two M → (M₂ : Marks) × (spend_next o next ≡ some M₂)
  unfolding spend_next
  leaves_two {M} o next f g h =
      let (M₁, p, c) = f (λ i. fit_first (u i) (v i) (λ b. (b.0, (and_parts (outside₁ i) (outside₂ i) b.1).0)) (h i)) in
      let (M₂, q) = g M₁ (λ i. fit_second (λ b. (b.0, (and_parts (outside₁ i) (outside₂ i) b.1).1)) (h i) (c.each i)) in
      (M₂, rw p q)

pub spend_next_parts : (o : Option Marks) (next : Marks → Option Marks) {M' : Marks} → spend_next o next ≡ some M' →
    (M₁ : Marks) × (o ≡ some M₁) × (next M₁ ≡ some M')
unfolding spend_next
spend_next_parts none next {M'} h = absurd (none-ne-some M' h)
spend_next_parts (some M₁) next h = (M₁, refl, h)
