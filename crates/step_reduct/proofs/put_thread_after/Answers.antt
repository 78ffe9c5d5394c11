-- `step_reduct::put_thread_after` meets its contract.
use mathlib.Core.Path.{ap, ◌≡◌, ap₂}
use Prim.Native.Nat.{◌-◌, ◌+◌, ℕ}
use native.Mathlib.Omega.{arith}
use lib.ListN.{take, drop}
use Rattle.buffer.proofs.Theory.Writes.{same, then, known_as}
use Rattle.step_rules.specs.Effects.{bytes_between}
use Rattle.step_rules.specs.Moves.{expression_after}
use Rattle.step_rules.proofs.Theory.Lengths.{length_between, expression_length}
use Rattle.step_reduct.proofs.Redexes.{has_thread}
use Rattle.step_reduct.proofs.put_thread_after.Goals as goal

pub offset_at-begin-requires : goal.offset_at-begin-requires
offset_at-begin-requires c = has_thread c.args.writable.can_write

pub length_at-requires : goal.length_at-requires
length_at-requires c = has_thread c.args.writable.can_write

pub put_part-redex-requires : goal.put_part-redex-requires
put_part-redex-requires c =
    let w = c.args.writable.can_write in
    let o = c.offset_at-begin.ensures.0 in
    (omega (arith, o, w.movable.begins), (omega (arith, w.movable.second, w.movable.third, w.movable.ends, w.movable.inside), omega (arith, o, expression_length w.movable, c.requires)))

pub put_redex_after-rest-requires : goal.put_redex_after-rest-requires
unfolding bytes_between
put_redex_after-rest-requires c =
    let first_part : c.put_part-redex.result ≡ c.args.at + (c.args.writable.step.meeting.at - c.offset_at-begin.result) = let w = c.args.writable.can_write in
    let o = c.offset_at-begin.ensures.0 in
    omega (
      arith,
      c.put_part-redex.ensures.ends,
      length_between c.args.writable.image.now c.offset_at-begin.result c.args.writable.step.meeting.at (omega (arith, o, w.movable.begins)) (omega (arith, w.movable.second, w.movable.third, w.movable.ends, w.movable.inside)),
    ) in
    let w = c.args.writable.can_write in
    let o = c.offset_at-begin.ensures.0 in
    let u = c.put_part-redex.ensures in
    omega (arith, first_part, expression_length w.movable, u.ends, same u, c.requires)

pub put_part-requires : goal.put_part-requires
unfolding bytes_between
put_part-requires c =
    let first_part : c.put_part-redex.result ≡ c.args.at + (c.args.writable.step.meeting.at - c.offset_at-begin.result) = let w = c.args.writable.can_write in
    let o = c.offset_at-begin.ensures.0 in
    omega (
      arith,
      c.put_part-redex.ensures.ends,
      length_between c.args.writable.image.now c.offset_at-begin.result c.args.writable.step.meeting.at (omega (arith, o, w.movable.begins)) (omega (arith, w.movable.second, w.movable.third, w.movable.ends, w.movable.inside)),
    ) in
    let w = c.args.writable.can_write in
    let o = c.offset_at-begin.ensures.0 in
    let l = c.length_at.ensures.0 in
    let u = c.put_part-redex.ensures in
    let v = c.put_redex_after-rest.ensures in
    (omega (arith, o, l, w.movable.ends), (omega (arith, o, l, w.movable.inside), omega (arith, o, l, first_part, expression_length w.movable, u.ends, same u, v.ends, same v, c.requires)))

pub returns : goal.returns
unfolding bytes_between expression_after
returns c =
    let s = c.args.writable.image.now in
    let m = c.args.writable.step.meeting in
    let o = c.offset_at-begin.ensures.0 in
    let l = c.length_at.ensures.0 in
    then (then (known_as c.put_part-redex.ensures (ap (λ (k : ℕ). take (m.at - k) (drop k s)) o)) c.put_redex_after-rest.ensures) (known_as c.put_part.ensures (ap₂ (λ (k n : ℕ). take (k + n - m.end) (drop m.end s)) o l))
