-- `step_write::put_started` meets its contract.
use mathlib.Core.Path.{ap}
use native.Mathlib.Omega.{arith}
use Rattle.buffer.proofs.Theory.Writes.{same, then, known_as}
use Rattle.step_rules.specs.Effects.{name_bytes}
use Rattle.step_write.proofs.Components.{started_length}
use Rattle.step_rules.proofs.Theory.Lengths.{argument_length}
use Rattle.step_write.proofs.put_started.Goals as goal

pub put_argument-name-requires : goal.put_argument-name-requires
put_argument-name-requires c =
    let w = c.args.writable.can_write in
    let u = c.put_byte-function.ensures in
    omega (arith, started_length w, argument_length w.movable, u.ends, same u, c.requires.room)

pub put_name-requires : goal.put_name-requires
put_name-requires c =
    let w = c.args.writable.can_write in
    let u = c.put_byte-function.ensures in
    let v = c.put_argument-name.ensures in
    (omega (arith, c.names_of.ensures.0, c.requires.few), omega (arith, started_length w, argument_length w.movable, u.ends, same u, v.ends, same v, c.requires.room))

pub returns : goal.returns
returns c = then (then c.put_byte-function.ensures c.put_argument-name.ensures) (known_as c.put_name.ensures (ap name_bytes c.names_of.ensures.0))
