-- The mark of one variable, before a term that uses it so many times and after it.
use Rattle.std.specs.Prelude.{◌≡◌, refl, ◌+◌, suc, zero, ℕ}
use Rattle.std.proofs.Common.{arith}
use Rattle.check_linearity.specs.Spend.{many_mark, due_mark, spent_mark}

-- A term that uses a variable u times makes of its mark the second one. Allowed says that a once-variable may be used here.
pub data Change (u : ℕ) (Allowed : Type 0) : ℕ → ℕ → Type 0 where
  stays_many : Change u Allowed many_mark many_mark
  stays_due : u ≡ 0 → Change u Allowed due_mark due_mark
  is_spent : u ≡ 1 → Allowed → Change u Allowed due_mark spent_mark
  was_spent : {mark : ℕ} → u ≡ 0 → Change u Allowed (suc (suc mark)) (suc (suc mark))

-- a term that uses a variable u times may meet it with this mark
pub data Fit (u : ℕ) (Allowed : Type 0) : ℕ → Type 0 where
  fit_many : Fit u Allowed many_mark
  fit_unused : {mark : ℕ} → u ≡ 0 → Fit u Allowed mark
  fit_due : u ≡ 1 → Allowed → Fit u Allowed due_mark

module _ {A : Type 0} where
  pub change_unused : {u : ℕ} (mark : ℕ) → u ≡ 0 → Change u A mark mark
  change_unused zero z = stays_many
  change_unused (suc zero) z = stays_due z
  change_unused (suc (suc mark)) z = was_spent z

  -- a variable that goes: a once-variable that is not due any more was used once
  pub change_due : {u mark : ℕ} → Change u A due_mark mark → ¬ (mark ≡ due_mark) → (u ≡ 1) × A
  change_due (stays_due z) n = absurd (n refl)
  change_due (is_spent w a) n = (w, a)

  pub change_not_due : {u mark : ℕ} → Change u A due_mark mark → u ≡ 1 → ¬ (mark ≡ due_mark)
  change_not_due (stays_due z) w = absurd (omega arith)
  change_not_due (is_spent w' a) w = λ e. omega arith

  pub change_many : {u mark : ℕ} → Change u A many_mark mark → mark ≡ many_mark
  change_many stays_many = refl

module _ {A B : Type 0} where
  -- another condition on the use
  pub change_allowed : {u mark mark' : ℕ} → (A → B) → Change u A mark mark' → Change u B mark mark'
  change_allowed h stays_many = stays_many
  change_allowed h (stays_due z) = stays_due z
  change_allowed h (is_spent w a) = is_spent w (h a)
  change_allowed h (was_spent z) = was_spent z

  pub fit_allowed : {u mark : ℕ} → (u ≡ 1 → A → B) → Fit u A mark → Fit u B mark
  fit_allowed h fit_many = fit_many
  fit_allowed h (fit_unused z) = fit_unused z
  fit_allowed h (fit_due w a) = fit_due w (h w a)

  -- of two subterms the first uses a variable u times, the second v times
  pub fit_first : {mark : ℕ} (u v : ℕ) → (B → A) → Fit (u + v) B mark → Fit u A mark
  fit_first u v h fit_many = fit_many
  fit_first u v h (fit_unused z) = fit_unused (omega arith)
  fit_first zero v h (fit_due w b) = fit_unused refl
  fit_first (suc u) v h (fit_due w b) = fit_due (omega arith) (h b)

module _ {A B C : Type 0} where
  pub fit_second : {u v mark mark' : ℕ} → (C → B) → Fit (u + v) C mark → Change u A mark mark' → Fit v B mark'
  fit_second h fit_many stays_many = fit_many
  fit_second h (fit_unused z) c = fit_unused (omega arith)
  fit_second h (fit_due w c) (stays_due z) = fit_due (omega arith) (h c)
  fit_second h (fit_due w c) (is_spent w' a) = fit_unused (omega arith)

  pub change_two : {u v mark mark' mark'' : ℕ} → (A → v ≡ 0 → C) → (u ≡ 0 → B → C) → Change u A mark mark' → Change v B mark' mark'' →
      Change (u + v) C mark mark''
  change_two f g stays_many stays_many = stays_many
  change_two f g (stays_due z) (stays_due z') = stays_due (omega arith)
  change_two f g (stays_due z) (is_spent w b) = is_spent (omega arith) (g z b)
  change_two f g (is_spent w a) (was_spent z) = is_spent (omega arith) (f a z)
  change_two f g (was_spent z) (was_spent z') = was_spent (omega arith)
