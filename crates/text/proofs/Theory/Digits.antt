-- Decimal numbers by the number of their digits, read back, and the lengths of numbers and of the line.
use Rattle.std.specs.Prelude.{◌≡◌, Bool, ◌&&◌, List, [], ◌∷◌, map, ℕ, ◌+◌, ◌-◌, ◌*◌, ◌/◌, ◌%◌, ◌<◌, ◌≤◌, eqb, leb, ltb}
use Rattle.std.proofs.Math.Path.{refl}
use Rattle.std.proofs.Math.Bool.{cond, true, false}
use native.Mathlib.Omega.{arith}
use Rattle.std.proofs.Math.Decide.{dec_lt}
use Rattle.std.proofs.Math.ListN.{length, length-append}
use Rattle.calculus.specs.Lists.{each_below}
use Rattle.calculus.proofs.Theory.Tabulate.{each_below_sound}
use Rattle.calculus.proofs.Theory.Tests.{eqb_sound, ltb_complete, ltb_not}
use Rattle.text.specs.Ascii.{decimal, digit, max_verdict_line_length, verdict_line}

-- the least and the most of one digit and of two, the least of three and the most of a byte
rows : map decimal (0 ∷ 9 ∷ 10 ∷ 99 ∷ 100 ∷ 255 ∷ [])
    ≡ (0x30 ∷ []) ∷ (0x39 ∷ []) ∷ (0x31 ∷ 0x30 ∷ []) ∷ (0x39 ∷ 0x39 ∷ []) ∷ (0x31 ∷ 0x30 ∷ 0x30 ∷ []) ∷ (0x32 ∷ 0x35 ∷ 0x35 ∷ []) ∷ []
unfolding decimal
rows = refl

-- the number that decimal digits say, after those that say `before`
unfoldable pub value_after : ℕ → List ℕ → ℕ
value_after before [] = before
value_after before (x ∷ s) = value_after (10 * before + (x - 0x30)) s

unfoldable pub value_of_digits : List ℕ → ℕ
value_of_digits s = value_after 0 s

module _ (n : ℕ) where
  pub decimal_one : n < 10 → digit n ∷ [] ≡ decimal n
  unfolding decimal
  decimal_one h = rw (ltb_complete n 10 h) refl

  pub decimal_two : 10 ≤ n → n < 100 → digit (n / 10) ∷ digit (n % 10) ∷ [] ≡ decimal n
  unfolding decimal
  decimal_two h l = rw (ltb_not n 10 h, ltb_complete n 100 l) refl

  pub decimal_three : 100 ≤ n → digit (n / 100) ∷ digit (n / 10 % 10) ∷ digit (n % 10) ∷ [] ≡ decimal n
  unfolding decimal
  decimal_three h = rw (ltb_not n 10 (omega arith), ltb_not n 100 h) refl

  -- the first digit, and the two of what is left
  pub decimal_rest : 100 ≤ n → digit (n / 100) ∷ digit (n % 100 / 10) ∷ digit (n % 100 % 10) ∷ [] ≡ decimal n
  decimal_rest h =
      let tens : n % 100 / 10 ≡ n / 10 % 10 = omega arith in
      let units : n % 100 % 10 ≡ n % 10 = omega arith in
      rw (tens, units) (decimal_three h)

-- the digits of a number below 10, in ASCII
pub digit_is : (n : ℕ) → n < 10 → digit n ≡ 0x30 + n
unfolding each_below
digit_is n h = eqb_sound (digit n) (0x30 + n) (each_below_sound 10 (λ k. eqb (digit k) (0x30 + k)) refl n h)

-- "in decimal": the digits say the number
pub reads_back : (n : ℕ) → n < 1000 → value_of_digits (decimal n) ≡ n
unfolding value_of_digits value_after
reads_back n h =
    elim (dec_lt n 10) [
      | yes a ↦ rw (← decimal_one n a) (omega (arith, digit_is n a))
      | no a ↦
          elim (dec_lt n 100) [
            | yes b ↦ rw (← decimal_two n (omega arith) b) (omega (arith, digit_is (n / 10) (omega arith), digit_is (n % 10) (omega arith)))
            | no b ↦
                rw (← decimal_three n (omega arith))
                (omega (arith, digit_is (n / 100) (omega arith), digit_is (n / 10 % 10) (omega arith), digit_is (n % 10) (omega arith)))
          ]
    ]

-- bytes of ASCII that are decimal digits
unfoldable pub are_digits : List ℕ → Bool
are_digits [] = true
are_digits (x ∷ s) = leb 0x30 x && leb x 0x39 && are_digits s

-- "no zeros in front"
unfoldable pub no_zero_in_front : List ℕ → Bool
no_zero_in_front [] = true
no_zero_in_front (x ∷ []) = true
no_zero_in_front (x ∷ y ∷ s) = ltb 0x30 x

pub decimal_digits : (n : ℕ) → n < 1000 → (are_digits (decimal n) && no_zero_in_front (decimal n)) ≡ true
unfolding each_below decimal are_digits no_zero_in_front
decimal_digits n h = each_below_sound 1000 (λ k. are_digits (decimal k) && no_zero_in_front (decimal k)) refl n h

module _ (n : ℕ) where
  length_between : (1 ≤ length (decimal n)) × (length (decimal n) ≤ 3)
  unfolding decimal
  length_between = go (ltb n 10) (ltb n 100)
    where
      go : (a b : Bool) →
          let s = cond a (digit n ∷ []) (cond b (digit (n / 10) ∷ digit (n % 10) ∷ []) (digit (n / 100) ∷ digit (n / 10 % 10) ∷ digit (n % 10) ∷ [])) in (1 ≤ length s) × (length s ≤ 3)
      go true b = (omega arith, omega arith)
      go false true = (omega arith, omega arith)
      go false false = (omega arith, omega arith)

  pub length_decimal : length (decimal n) ≤ 3
  length_decimal = length_between.1

  pub some_digit : 1 ≤ length (decimal n)
  some_digit = length_between.0

  pub length_verdict_line : length (verdict_line n) ≤ max_verdict_line_length
  unfolding verdict_line
  length_verdict_line = simp length-append (omega (arith, length_decimal))

-- "0 for accepted"
pub length_accepted : length (verdict_line 0) ≡ 10
unfolding verdict_line decimal
length_accepted = refl
