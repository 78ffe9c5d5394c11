-- `term::operand_of` meets its contract.
use mathlib.Core.Path.{◌≡◌, sym, ◌∙◌}
use Prim.Native.Nat.{◌*◌, ◌<◌, suc, zero, ℕ}
use native.Mathlib.Omega.{arith}
use lib.ListN.{get_or}
use Rattle.calculus.specs.Limits.{byte_values}
use Rattle.term.proofs.Numbers.{value_few, value_two}
use Rattle.term.proofs.operand_of.Goals as goal

-- so few of a byte are no more than a byte
few : (x n : ℕ) → x < byte_values → n < 2 → x * n < byte_values
few x zero h le = omega arith
few x (suc zero) h le = omega arith
few x (suc (suc n)) h le = absurd (omega arith)

pub overflow_cast-result : goal.overflow_cast-result
overflow_cast-result c = omega (arith, c.shared_slice_known-then-bytes-lt2-1.given c.args.n)

pub overflow_mul-result : goal.overflow_mul-result
overflow_mul-result c =
    let a = c.args in
    omega (arith, few (get_or a.s.now a.n 0) a.n (omega (arith, c.shared_slice_known-then-bytes-lt2-1.given a.n)) c.if-bytes-lt2.true)

pub returns-then-bytes-lt2 : goal.returns-then-bytes-lt2
returns-then-bytes-lt2 c = let a = c.args in value_few a.s.now a.n c.if-bytes-lt2.true

pub returns : goal.returns
returns c =
    let two : c.args.n ≡ 2 = omega (arith, c.requires, c.if-bytes-lt2.false) in
    c.word_at.ensures.0 ∙ sym (simp (two, value_two))
