-- `step_reduct::put_dereferenced` meets its contract.
use mathlib.Core.Path.{sym}
use native.Mathlib.Omega.{arith}
use Rattle.buffer.proofs.Theory.Writes.{same, then, known_as}
use Rattle.step_rules.specs.Effects.{bytes_between, effect_of}
use Rattle.step_rules.proofs.Theory.Writers.{has_by}
use Rattle.step_rules.proofs.Theory.Lengths.{argument_length, copied_length, function_length, redex_by, length_3}
use Rattle.step_reduct.proofs.put_dereferenced.Goals as goal

pub put_part-function-requires : goal.put_part-function-requires
unfolding bytes_between
put_part-function-requires c =
    let w = c.args.writable.can_write in
    let n = length_3 w.movable c.requires.0 in
    (omega (arith, w.movable.second), (omega (arith, w.movable.third, w.movable.ends, w.movable.inside), omega (arith, n, w.movable.second, w.movable.third, c.requires)))

pub put_part-value-requires : goal.put_part-value-requires
unfolding bytes_between
put_part-value-requires c =
    let w = c.args.writable.can_write in
    let n = length_3 w.movable c.requires.0 in
    let v = (has_by w.movable c.requires.0).1 in
    let u = c.put_part-function.ensures in
    (v.onward, (v.inside, omega (arith, n, v.onward, function_length w.movable, u.ends, same u, w.movable.second, w.movable.third, c.requires)))

pub put_argument-requires : goal.put_argument-requires
unfolding bytes_between
put_argument-requires c =
    let w = c.args.writable.can_write in
    let n = length_3 w.movable c.requires.0 in
    let l = copied_length (has_by w.movable c.requires.0).1 in
    let u = c.put_part-function.ensures in
    let v = c.put_part-value.ensures in
    omega (arith, n, l, argument_length w.movable, function_length w.movable, u.ends, same u, v.ends, same v, w.movable.second, w.movable.third, c.requires)

pub returns : goal.returns
unfolding bytes_between effect_of
returns c = known_as (then (then c.put_part-function.ensures c.put_part-value.ensures) c.put_argument.ensures) (sym (redex_by c.args.writable.can_write.movable c.requires.0))
