-- Lists by their places: what stands where after a change, and in two lists one after the other.
use Rattle.std.proofs.Common.{ap₂, ap, inl, inr, suc-add, zero-add, arith}
use Rattle.std.specs.Prelude.{◌≡◌, refl, ◌⊎◌, List, [], ◌++◌, ◌∷◌, ◌+◌, ◌<◌, ◌≤◌, suc, zero, ℕ, get_or, length, replicate, set}
use Rattle.std.proofs.Math.Option.{none, some}
use Rattle.calculus.specs.Syntax.{at}
use Rattle.calculus.proofs.Theory.Tests.{clash}

module _ {A : Type 0} where
  -- the places are the numbers below the length
  pub at_bound : (l : List A) (k : ℕ) {a : A} → at l k ≡ some a → k < length l
  at_bound [] k h = absurd (clash (cc))
  at_bound (b ∷ l) zero h = omega arith
  at_bound (b ∷ l) (suc k) h = omega (arith, at_bound l k h)

  pub at_below : (l : List A) (k : ℕ) → k < length l → (a : A) × (at l k ≡ some a)
  at_below [] k h = absurd (omega arith)
  at_below (b ∷ l) zero h = (b, refl)
  at_below (b ∷ l) (suc k) h = at_below l k (omega arith)

  pub at_past : (l : List A) (k : ℕ) → length l ≤ k → at l k ≡ none
  at_past [] k h = refl
  at_past (b ∷ l) zero h = absurd (omega arith)
  at_past (b ∷ l) (suc k) h = at_past l k (omega arith)

  -- lists with the same at every place are the same
  pub same_at : (l m : List A) → ((k : ℕ) → at l k ≡ at m k) → l ≡ m
  same_at [] [] h = refl
  same_at [] (b ∷ m) h = absurd (let e = h 0 in clash (cc))
  same_at (a ∷ l) [] h = absurd (let e = h 0 in clash (cc))
  same_at (a ∷ l) (b ∷ m) h = let e = h 0 in let p : a ≡ b = cc in ap₂ (λ (x : A) (r : List A). x ∷ r) p (same_at l m (λ k. h (suc k)))

  -- `set`
  pub set_same : (l : List A) (x : ℕ) (a : A) {b : A} → at l x ≡ some b → at (set l x a) x ≡ some a
  set_same [] x a h = absurd (clash (cc))
  set_same (c ∷ l) zero a h = refl
  set_same (c ∷ l) (suc x) a h = set_same l x a h

  pub set_other : (l : List A) (x k : ℕ) (a : A) → ¬ (k ≡ x) → at (set l x a) k ≡ at l k
  set_other [] x k a n = refl
  set_other (c ∷ l) zero zero a n = absurd (n refl)
  set_other (c ∷ l) zero (suc k) a n = refl
  set_other (c ∷ l) (suc x) zero a n = refl
  set_other (c ∷ l) (suc x) (suc k) a n = set_other l x k a (λ e. n (ap suc e))

  -- what stands at k after a change at x: the new element, or the old one at another place
  pub set_cases : (l : List A) (x k : ℕ) (a : A) {c : A} → at (set l x a) k ≡ some c →
      ((k ≡ x) × (c ≡ a)) ⊎ ((¬ (k ≡ x)) × (at l k ≡ some c))
  set_cases [] x k a h = absurd (clash (cc))
  set_cases (c ∷ l) zero zero a h = inl (refl, cc)
  set_cases (c ∷ l) zero (suc k) a h = inr (omega arith, h)
  set_cases (c ∷ l) (suc x) zero a h = inr (omega arith, h)
  set_cases (c ∷ l) (suc x) (suc k) a h = elim (set_cases l x k a h) [ inl p ↦ inl (omega arith, p.1) | inr p ↦ inr (omega (arith, p.0), p.1) ]

  -- `++`
  pub append_left : (l m : List A) (k : ℕ) {a : A} → at l k ≡ some a → at (l ++ m) k ≡ some a
  append_left [] m k h = absurd (clash (cc))
  append_left (c ∷ l) m zero h = h
  append_left (c ∷ l) m (suc k) h = append_left l m k h

  pub append_below : (l m : List A) (k : ℕ) → k < length l → at (l ++ m) k ≡ at l k
  append_below [] m k h = absurd (omega arith)
  append_below (c ∷ l) m zero h = refl
  append_below (c ∷ l) m (suc k) h = append_below l m k (omega arith)

  pub append_right : (l m : List A) (i : ℕ) → at (l ++ m) (length l + i) ≡ at m i
  append_right [] m i = ap (at m) (zero-add i)
  append_right (c ∷ l) m i = rw suc-add (append_right l m i)

  pub append_cases : (l m : List A) (k : ℕ) {a : A} → at (l ++ m) k ≡ some a →
      (at l k ≡ some a) ⊎ ((i : ℕ) × (k ≡ length l + i) × (at m i ≡ some a))
  append_cases [] m k h = inr (k, omega arith, h)
  append_cases (c ∷ l) m zero h = inl h
  append_cases (c ∷ l) m (suc k) h = elim (append_cases l m k h) [ inl p ↦ inl p | inr p ↦ inr (p.0, omega arith, p.2) ]

  -- `replicate`
  pub at_replicate : (n : ℕ) (b : A) (k : ℕ) {a : A} → at (replicate n b) k ≡ some a → (k < n) × (a ≡ b)
  at_replicate zero b k h = absurd (clash (cc))
  at_replicate (suc n) b zero h = (omega arith, cc)
  at_replicate (suc n) b (suc k) h = let p = at_replicate n b k h in (omega (arith, p.0), p.1)

  pub replicate_at : (n : ℕ) (b : A) (k : ℕ) → k < n → at (replicate n b) k ≡ some b
  replicate_at zero b k h = absurd (omega arith)
  replicate_at (suc n) b zero h = refl
  replicate_at (suc n) b (suc k) h = replicate_at n b k (omega arith)

-- what stands at a place, where 0 counts for what is not there
pub get_d_at : (l : List ℕ) (k : ℕ) {n : ℕ} → at l k ≡ some n → get_or l k 0 ≡ n
get_d_at [] k h = absurd (clash (cc))
get_d_at (m ∷ l) zero h = cc
get_d_at (m ∷ l) (suc k) h = get_d_at l k h
