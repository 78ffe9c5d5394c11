-- Document 02, T-06: the state, and a draw.
use Rattle.std.specs.Prelude.{ℕ, ◌*◌, ◌/◌, ◌%◌, ◌^◌}
use Rattle.std.specs.Int.Bits.{bit_xor}

-- "The state is 32 bits"
abbrev pub states : ℕ
states = 2 ^ 32

-- "its left shift by" so much, "bits beyond 32 dropped"
abbrev pub shifted_left : ℕ → ℕ → ℕ
shifted_left n state = (state * 2 ^ n) % states

-- "its right shift by" so much
abbrev pub shifted_right : ℕ → ℕ → ℕ
shifted_right n state = state / 2 ^ n

-- the three that make a draw: "itself xor its left shift by 13", "xor its right shift by 17", "xor its left shift by 5"
abbrev pub first_shift : ℕ → ℕ
first_shift state = bit_xor state (shifted_left 13 state)

abbrev pub second_shift : ℕ → ℕ
second_shift state = bit_xor state (shifted_right 17 state)

abbrev pub third_shift : ℕ → ℕ
third_shift state = bit_xor state (shifted_left 5 state)

-- "a draw replaces it by itself xor .., then xor .., then xor .."
unfoldable pub drawn : ℕ → ℕ
drawn state = third_shift (second_shift (first_shift state))
