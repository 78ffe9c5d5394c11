-- `buffer::put_u16` meets its contract: its two bytes are copied.
use mathlib.Core.Path.{◌≡◌, ◌∙◌, ap}
use mathlib.Core.List.{[], ◌∷◌}
use Prim.Native.Nat.{ℕ, ◌/◌, ◌%◌}
use native.Mathlib.Omega.{arith}
use Rattle.calculus.specs.Bytes.{two_bytes}
use Rattle.buffer.proofs.Theory.Writes.{known_as}
use Rattle.buffer.proofs.put_u16.Goals as goal

pub returns : goal.returns
unfolding two_bytes
returns c =
    let high : c.args.n / 256 % 256 ≡ c.args.n / 256 = omega arith in
    known_as c.put_bytes.ensures (c.to_le_bytes.ensures ∙ ap (λ (b : ℕ). c.args.n % 256 ∷ b ∷ []) high)
