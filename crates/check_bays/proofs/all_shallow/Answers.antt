-- `check_bays::all_shallow` meets its contract.
use Rattle.std.proofs.Common.{rules, tests}
use Rattle.calculus.proofs.Theory.Ranges.{all_below}
use Rattle.check_bays.specs.Tests.{all_shallow, bay_shallow}
use Rattle.check_bays.proofs.all_shallow.Goals as goal

pub returns : goal.returns
unfolding all_shallow
returns c = all_below c.bays.ensures (bay_shallow c.args.recipe.bytes.now) _ _ _ c.all.ensures.ran (λ x b q k. search (rules, tests))
