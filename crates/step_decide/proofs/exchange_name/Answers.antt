-- `step_decide::exchange_name` meets its contract.
use Rattle.std.proofs.Common.{arith}
use Rattle.step_decide.proofs.Needed.{exchange_head}
use Rattle.step_decide.proofs.Decisions.{exchange_follows, exchange_waits, exchange_goes, exchange_refuses}
use Rattle.step_decide.proofs.exchange_name.Goals as goal

pub kind_at-requires : goal.kind_at-requires
kind_at-requires c = exchange_head c.requires

pub follow-requires : goal.follow-requires
follow-requires c = exchange_follows c.requires c.kind_at.ensures c.in-1.is

pub returns-in-5 : goal.returns-in-5
returns-in-5 c = exchange_waits c.requires c.kind_at.ensures c.in-5.is

pub offset_at-from-requires : goal.offset_at-from-requires
offset_at-from-requires c = exchange_head c.requires

pub length_at-requires : goal.length_at-requires
length_at-requires c = exchange_head c.requires

pub returns-in-2 : goal.returns-in-2
returns-in-2 c = exchange_goes c.requires c.kind_at.ensures c.in-2.is c.offset_at-from.ensures.0 c.length_at.ensures.0 c.goes.ensures

pub returns-in_default : goal.returns-in_default
returns-in_default c = exchange_refuses c.requires c.kind_at.ensures (λ e. omega (arith, e)) (λ e. omega (arith, e)) (λ e. omega (arith, e))
