-- `step_reduct::put_argument` meets its contract.
use native.Mathlib.Omega.{arith}
use Rattle.step_rules.specs.Effects.{bytes_between}
use Rattle.step_rules.proofs.Theory.Lengths.{argument_length}
use Rattle.step_reduct.proofs.put_argument.Goals as goal

pub put_part-requires : goal.put_part-requires
put_part-requires c = let w = c.args.writable.can_write in (w.movable.third, (omega (arith, w.movable.ends, w.movable.inside), omega (arith, argument_length w.movable, c.requires)))

pub returns : goal.returns
unfolding bytes_between
returns c = c.put_part.ensures
