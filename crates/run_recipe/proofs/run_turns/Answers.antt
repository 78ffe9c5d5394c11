use Rattle.std.proofs.Common.{◌∙◌, ap, Err}
use native.Mathlib.Omega.{arith}
use Rattle.run_recipe.proofs.Underway.{other_long, underway_end, underway_met, underway_nobody, underway_on, underway_ready}
use Rattle.run_recipe.proofs.run_turns.Goals as goal

pub alternate-requires : goal.alternate-requires
alternate-requires c = let r = underway_ready c.loop-taken.invariant in record { inside = r.inside; ready = (r.stands, (r.below, other_long r)) }

pub loop-taken-preserved : goal.loop-taken-preserved
loop-taken-preserved c =
    underway_on c.loop-taken.invariant c.alternate.new.first c.alternate.new.second (omega arith) c.in-Ok.is c.alternate.auto.first c.alternate.auto.second c.alternate.ensures.came

pub returns-in-Err-Nobody : goal.returns-in-Err-Nobody
returns-in-Err-Nobody c =
    let (p, q) = underway_nobody c.loop-taken.invariant c.alternate.new.first c.alternate.new.second (omega arith)
    c.alternate.ensures.first_unchanged (c.in-Err-Nobody.is ∙ ap Err c.in-Err-Nobody.field-0-is) c.alternate.ensures.came in
    record { value = c.nobody_goes.ensures ∙ p; holds = q }

pub returns-in-Err-Met : goal.returns-in-Err-Met
returns-in-Err-Met c =
    let (p, q) = underway_met c.loop-taken.invariant c.alternate.new.first c.alternate.new.second (omega arith)
    c.alternate.ensures.first_unchanged (c.in-Err-Met.is ∙ ap Err c.in-Err-Met.field-0-is) c.alternate.ensures.came in
    record { value = p; holds = q }

pub returns : goal.returns
returns c = let (p, q) = underway_end c.loop-taken.invariant (omega arith) in record { value = p; holds = q }
