-- `step_decide::call` meets its contract.
use Rattle.std.proofs.Common.{arith}
use Rattle.step_decide.proofs.Needed.{call_head}
use Rattle.step_decide.proofs.Decisions.{call_follows, call_waits, call_goes, call_refuses_used, call_refuses}
use Rattle.step_decide.proofs.call.Goals as goal

pub kind_at-requires : goal.kind_at-requires
kind_at-requires c = call_head c.requires

pub follow-requires : goal.follow-requires
follow-requires c = call_follows c.requires c.kind_at.ensures c.in-1.is

pub returns-in-5 : goal.returns-in-5
returns-in-5 c = call_waits c.requires c.kind_at.ensures c.in-5.is

pub companion_at-future-requires : goal.companion_at-future-requires
companion_at-future-requires c = call_head c.requires

pub returns-in-3 : goal.returns-in-3
returns-in-3 c = call_goes c.requires c.kind_at.ensures c.in-3.is c.companion_at-future.ensures c.goes.ensures

pub returns-in-4 : goal.returns-in-4
returns-in-4 c = call_refuses_used c.requires c.kind_at.ensures c.in-4.is

pub returns-in_default : goal.returns-in_default
returns-in_default c = call_refuses c.requires c.kind_at.ensures (λ e. omega (arith, e)) (λ e. omega (arith, e)) (λ e. omega (arith, e)) (λ e. omega (arith, e))
