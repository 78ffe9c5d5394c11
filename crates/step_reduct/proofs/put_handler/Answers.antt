-- `step_reduct::put_handler` meets its contract.
use mathlib.Core.Path.{ap, sym}
use Prim.Native.Nat.{◌+◌, ℕ}
use native.Mathlib.Omega.{arith}
use Rattle.buffer.proofs.Theory.Writes.{same, then, known_as}
use Rattle.step_rules.specs.Effects.{name_bytes, effect_of}
use Rattle.step_rules.proofs.Theory.Lengths.{argument_length, redex_by, length_4}
use Rattle.step_reduct.proofs.Redexes.{names_by}
use Rattle.step_reduct.proofs.put_handler.Goals as goal

pub put_byte-outer-requires : goal.put_byte-outer-requires
put_byte-outer-requires c =
    let w = c.args.writable.can_write in
    let n = length_4 w.movable c.requires.0 in
    omega (arith, n, c.requires)

pub put_byte-inner-requires : goal.put_byte-inner-requires
put_byte-inner-requires c =
    let w = c.args.writable.can_write in
    let n = length_4 w.movable c.requires.0 in
    omega (arith, n, c.put_byte-outer.ensures.ends, same c.put_byte-outer.ensures, c.requires)

pub put_argument-function-requires : goal.put_argument-function-requires
put_argument-function-requires c =
    let w = c.args.writable.can_write in
    let n = length_4 w.movable c.requires.0 in
    omega (arith, n, argument_length w.movable, c.put_byte-outer.ensures.ends, same c.put_byte-outer.ensures, c.put_byte-inner.ensures.ends, same c.put_byte-inner.ensures, c.requires)

pub put_name-future-requires : goal.put_name-future-requires
unfolding effect_of
put_name-future-requires c =
    let w = c.args.writable.can_write in
    let n = length_4 w.movable c.requires.0 in
    (omega (arith, names_by w c.requires.0, c.names_of-names.ensures.0), omega (arith, n, argument_length w.movable, c.put_byte-outer.ensures.ends, same c.put_byte-outer.ensures, c.put_byte-inner.ensures.ends, same c.put_byte-inner.ensures, c.put_argument-function.ensures.ends, same c.put_argument-function.ensures, c.requires))

pub put_name-requires : goal.put_name-requires
unfolding effect_of
put_name-requires c =
    let w = c.args.writable.can_write in
    let n = length_4 w.movable c.requires.0 in
    (omega (arith, names_by w c.requires.0, c.names_of-names.ensures.0), omega (arith, n, argument_length w.movable, c.put_byte-outer.ensures.ends, same c.put_byte-outer.ensures, c.put_byte-inner.ensures.ends, same c.put_byte-inner.ensures, c.put_argument-function.ensures.ends, same c.put_argument-function.ensures, c.put_name-future.ensures.ends, same c.put_name-future.ensures, c.requires))

pub returns : goal.returns
unfolding effect_of
returns c =
    let w = c.args.writable.can_write in
    let m = c.names_of-names.ensures.0 in
    known_as
    (then (then (then (then c.put_byte-outer.ensures c.put_byte-inner.ensures) c.put_argument-function.ensures) (known_as c.put_name-future.ensures (ap name_bytes m))) (known_as c.put_name.ensures (ap (λ (k : ℕ). name_bytes (k + 1)) m)))
    (sym (redex_by w.movable c.requires.0))
