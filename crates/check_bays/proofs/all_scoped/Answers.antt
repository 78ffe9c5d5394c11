-- `check_bays::all_scoped` meets its contract.
use Rattle.std.proofs.Common.{rules, tests}
use Rattle.calculus.proofs.Theory.Ranges.{all_below}
use Rattle.check_bays.specs.Tests.{all_scoped, bay_scoped}
use Rattle.check_bays.proofs.all_scoped.Goals as goal

pub returns : goal.returns
unfolding all_scoped
returns c = all_below c.bays.ensures (bay_scoped c.args.recipe.bytes.now) _ _ _ c.all.ensures.ran (λ x b q k. search (rules, tests))
