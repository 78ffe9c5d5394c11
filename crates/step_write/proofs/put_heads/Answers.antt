-- `step_write::put_heads` meets its contract.
use native.Mathlib.Omega.{arith}
use Rattle.std.proofs.Common.{lives, rules}
use Rattle.step_write.proofs.put_heads.Goals as goal

pub put_heads-requires : goal.put_heads-requires
put_heads-requires c κs within = (search lives depth 8, (λ k below. grind arith, (λ k h below says. search rules, rw c.requires.handed.0.names (c.requires.room, c.requires.handed.1))))

pub returns : goal.returns
returns c = rw c.requires.handed.0.names at c.put_heads.ensures
