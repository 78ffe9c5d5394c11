-- The two bytes of a number, and the number in two bytes of a slice: laws.
use Rattle.std.specs.Prelude.{◌≡◌, refl, List, [], ◌∷◌, ℕ, suc, ◌+◌, ◌*◌, ◌/◌, ◌%◌, ◌≤◌, ◌<◌, get_or, length, take, drop}
use Rattle.std.proofs.Common.{sym, ◌∙◌, add-one, arith, drop-cons}
use Rattle.calculus.specs.Bytes.{Bytes, two_bytes, word}

pub length_two_bytes : (n : ℕ) → length (two_bytes n) ≡ 2
unfolding two_bytes
length_two_bytes n = refl

-- the number in the bytes of n is n
pub number_of_bytes : (n : ℕ) → (n % 256) + 256 * (n / 256) ≡ n
number_of_bytes n = omega arith

-- the bytes of a number in two bytes are these
pub bytes_of_number : (a b : ℕ) → a < 256 → two_bytes (a + 256 * b) ≡ a ∷ b ∷ []
unfolding two_bytes
bytes_of_number a b h =
    let low : (a + 256 * b) % 256 ≡ a = omega arith in
    let high : (a + 256 * b) / 256 ≡ b = omega arith in
    rw (low, high)

-- two bytes of a slice, one by one
pub two_there : (s : List ℕ) (at : ℕ) → at + 2 ≤ length s → take 2 (drop at s) ≡ get_or s at 0 ∷ get_or s (at + 1) 0 ∷ []
two_there s at room =
    let first : at < length s = omega arith in
    let second : suc at < length s = omega arith in
    rw (drop-cons s at 0 first, drop-cons s (suc at) 0 second, add-one at)

-- the bytes of a number that is read are the bytes that it was read from
pub word_bytes : (s : List ℕ) (at : ℕ) → Bytes s → at + 2 ≤ length s → two_bytes (word s at) ≡ take 2 (drop at s)
unfolding word
word_bytes s at h room = bytes_of_number (get_or s at 0) (get_or s (at + 1) 0) (h at) ∙ sym (two_there s at room)
