-- Numbers after a tag: writing and reading undo each other.
use mathlib.Core.Path.{◌≡◌, refl}
use mathlib.Core.List.{List, [], ◌∷◌, ◌++◌}
use Prim.Native.Nat.{ℕ, zero, suc, ◌+◌, ◌*◌, ◌/◌, ◌%◌, ◌^◌, ◌<◌, ◌≤◌}
use native.Mathlib.Omega.{arith}
use lib.ListN.{length, get_or, drop}
use Rattle.calculus.specs.Bytes.{Bytes, two_bytes, word}
use Rattle.calculus.specs.Limits.{byte_values}
use Rattle.term.specs.Numbers.{little_endian, value_of}

pub length_little_endian : (k n : ℕ) → k ≤ 2 → length (little_endian k n) ≡ k
unfolding little_endian two_bytes
length_little_endian zero n h = refl
length_little_endian (suc zero) n h = refl
length_little_endian (suc (suc zero)) n h = refl
length_little_endian (suc (suc (suc k))) n h = absurd (omega arith)

pub value_bytes : (k n : ℕ) (rest : List ℕ) → k ≤ 2 → n < byte_values ^ k → value_of k (little_endian k n ++ rest) ≡ n
unfolding little_endian value_of two_bytes word
value_bytes zero n rest h f = omega arith
value_bytes (suc zero) n rest h f = refl
value_bytes (suc (suc k)) n rest h f = omega arith

pub value_fits : (k : ℕ) (l : List ℕ) → k ≤ 2 → Bytes l → value_of k l < byte_values ^ k
unfolding value_of word
value_fits zero l h b = omega arith
value_fits (suc zero) l h b = omega (arith, b 0)
value_fits (suc (suc zero)) l h b = omega (arith, b 0, b 1)
value_fits (suc (suc (suc k))) l h b = absurd (omega arith)

pub bytes_value : (k : ℕ) (l : List ℕ) → k ≤ 2 → Bytes l → k ≤ length l → little_endian k (value_of k l) ++ drop k l ≡ l
unfolding little_endian value_of two_bytes word
bytes_value zero l h b le = refl
bytes_value (suc zero) [] h b le = absurd (omega arith)
bytes_value (suc zero) (x ∷ l) h b le = refl
bytes_value (suc (suc zero)) [] h b le = absurd (omega arith)
bytes_value (suc (suc zero)) (x ∷ []) h b le = absurd (omega arith)
bytes_value (suc (suc zero)) (x ∷ y ∷ l) h b le =
    let low = b 0 in
    let m : (x + byte_values * y) % byte_values ≡ x = omega arith in
    let d : (x + byte_values * y) / byte_values ≡ y = omega arith in
    rw (m, d) refl
bytes_value (suc (suc (suc k))) l h b le = absurd (omega arith)

-- the number after a tag, of one byte and of two; a byte past the end counts as 0
value_one : (l : List ℕ) → value_of 1 (drop 1 l) ≡ get_or l 1 0
unfolding value_of
value_one [] = refl
value_one (a ∷ l) = refl

pub value_two : (l : List ℕ) → value_of 2 (drop 1 l) ≡ word l 1
unfolding value_of word
value_two [] = refl
value_two (a ∷ l) = refl

-- no byte or one: byte n of the list, n times
pub value_few : (l : List ℕ) (n : ℕ) → n < 2 → get_or l n 0 * n ≡ value_of n (drop 1 l)
unfolding value_of
value_few l zero h = omega arith
value_few l (suc zero) h = omega (arith, value_one l)
value_few l (suc (suc n)) h = absurd (omega arith)
