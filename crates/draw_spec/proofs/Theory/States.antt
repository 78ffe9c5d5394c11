-- A state stays within 32 bits, and one that is not zero never becomes zero.
use Rattle.std.specs.Prelude.{◌≡◌, refl, [], ◌∷◌, map, ℕ, ◌-◌, ◌*◌, ◌/◌, ◌^◌, ◌<◌}
use Rattle.std.proofs.Common.{arith}
use Rattle.std.specs.Int.Bits.{bit_xor, xor_add_and}
use Rattle.std.proofs.lemmas.Nat.{and_le_l, and_le_r, xor_lt}
use Rattle.draw_spec.specs.State.{states, shifted_left, shifted_right, first_shift, second_shift, third_shift, drawn}

-- "from 1 the first draw is 270,369"
pub first_draw : drawn 1 ≡ 270369
unfolding drawn
first_draw = refl

-- and the next ones: the right shift, and the order of the shifts, show in the second
pub next_draws : map drawn (270369 ∷ 67634689 ∷ 2647435461 ∷ []) ≡ 67634689 ∷ 2647435461 ∷ 307599695 ∷ []
unfolding drawn
next_draws = refl

-- two numbers whose binary digits nowhere differ are equal
pub same_digits : (a b : ℕ) → bit_xor a b ≡ 0 → a ≡ b
same_digits a b e =
    let s = xor_add_and a b in
    let l = and_le_l a b in
    let r = and_le_r a b in
    omega (arith, s, l, r, e)

-- no state but zero is a multiple of their number
no_multiple : (state t : ℕ) → state < states → state ≡ states * t → state ≡ 0
no_multiple state t l e = omega (arith, e)

-- no state but zero is its own shift by 13: what was dropped, q, is a multiple of 8,191, and less; the numbers between are Euclid's
not_by_13 : (state : ℕ) → state < states → state ≡ shifted_left 13 state → state ≡ 0
not_by_13 state l e =
    let q : ℕ = state * 2 ^ 13 / states in
    let h : 8191 * state ≡ 4294967296 * q = omega (arith, e) in
    let r : ℕ = state - 524352 * q in
    let h₁ : 8191 * r ≡ 64 * q = omega (arith, h) in
    let s : ℕ = q - 127 * r in
    let h₂ : 64 * s ≡ 63 * r = omega (arith, h₁) in
    let t : ℕ = r - s in
    let h₃ : s ≡ 63 * t = omega (arith, h₂) in
    let h₄ : q ≡ 8191 * t = omega (arith, h₁, h₂, h₃) in
    no_multiple state t l (omega (arith, h, h₄))

-- nor by 5
not_by_5 : (state : ℕ) → state < states → state ≡ shifted_left 5 state → state ≡ 0
not_by_5 state l e =
    let q : ℕ = state * 2 ^ 5 / states in
    let h : 31 * state ≡ 4294967296 * q = omega (arith, e) in
    let r : ℕ = state - 138547332 * q in
    let h₁ : 31 * r ≡ 4 * q = omega (arith, h) in
    let s : ℕ = q - 7 * r in
    let h₂ : 4 * s ≡ 3 * r = omega (arith, h₁) in
    let t : ℕ = r - s in
    let h₃ : s ≡ 3 * t = omega (arith, h₂) in
    let h₄ : q ≡ 31 * t = omega (arith, h₁, h₂, h₃) in
    no_multiple state t l (omega (arith, h, h₄))

-- nor by 17 to the right
not_by_17 : (state : ℕ) → state ≡ shifted_right 17 state → state ≡ 0
not_by_17 state e = omega (arith, e)

-- "The state is 32 bits"
first_within : (state : ℕ) → state < states → first_shift state < states
first_within state l = xor_lt 32 state (shifted_left 13 state) l (omega arith)

second_within : (state : ℕ) → state < states → second_shift state < states
second_within state l = xor_lt 32 state (shifted_right 17 state) l (omega arith)

third_within : (state : ℕ) → state < states → third_shift state < states
third_within state l = xor_lt 32 state (shifted_left 5 state) l (omega arith)

pub drawn_within : (state : ℕ) → state < states → drawn state < states
unfolding drawn
drawn_within state l = third_within (second_shift (first_shift state)) (second_within (first_shift state) (first_within state l))

-- a state that is not zero never becomes zero: what it is drawn from would have been zero
pub drawn_not_zero : (state : ℕ) → state < states → ¬ (state ≡ 0) → ¬ (drawn state ≡ 0)
unfolding drawn
drawn_not_zero state l n e =
    let a = first_shift state in
    let b = second_shift a in
    let within = second_within a (first_within state l) in
    let b_zero : b ≡ 0 = not_by_5 b within (same_digits b (shifted_left 5 b) e) in
    let a_zero : a ≡ 0 = not_by_17 a (same_digits a (shifted_right 17 a) b_zero) in
    n (not_by_13 state l (same_digits state (shifted_left 13 state) a_zero))
