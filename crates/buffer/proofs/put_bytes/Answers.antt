-- `buffer::put_bytes` meets its contract. The loop's invariant: `out` has the first i bytes of `src` written at `at`.
use Rattle.std.specs.Prelude.{◌≡◌, ◌+◌, length}
use Rattle.std.proofs.Common.{add-zero, arith}
use Rattle.buffer.proofs.Theory.Writes.{still, same}
use Rattle.buffer.proofs.Theory.Copies.{copied_one, copied_all}
use Rattle.buffer.proofs.put_bytes.Goals as goal

pub loop-i-init : goal.loop-i-init
loop-i-init c = rw add-zero still

pub bounds-out-at : goal.bounds-out-at
bounds-out-at c = omega (arith, same c.loop-i.invariant)

pub loop-i-preserved : goal.loop-i-preserved
loop-i-preserved c =
    let next : c.args.at + (c.loop-i.i + 1) ≡ c.args.at + c.loop-i.i + 1 = omega arith in
    rw next (copied_one _ _ _ _ _ _ (omega arith) c.loop-i.invariant)

pub shape_of-out : goal.shape_of-out
shape_of-out c = same c.loop-i.invariant

pub returns : goal.returns
returns c =
    let all : length c.args.src.now ≡ c.loop-i.i = omega arith in
    copied_all _ _ _ (length c.args.src.now) _ _ (omega arith) (rw all c.loop-i.invariant)
