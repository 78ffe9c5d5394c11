-- `step_decide::take_name` meets its contract.
use Rattle.std.proofs.Common.{arith}
use Rattle.step_decide.proofs.Needed.{take_head}
use Rattle.step_decide.proofs.Decisions.{take_follows, take_waits, take_refuses}
use Rattle.step_decide.proofs.take_name.Goals as goal

pub kind_at-requires : goal.kind_at-requires
kind_at-requires c = take_head c.requires

pub follow-requires : goal.follow-requires
follow-requires c = take_follows c.requires c.kind_at.ensures c.in-1.is

pub returns-in-5 : goal.returns-in-5
returns-in-5 c = take_waits c.requires c.kind_at.ensures c.in-5.is

pub returns-in_default : goal.returns-in_default
returns-in_default c = take_refuses c.requires c.kind_at.ensures (λ e. omega (arith, e)) (λ e. omega (arith, e))
