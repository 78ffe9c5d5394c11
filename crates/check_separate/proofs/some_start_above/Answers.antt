-- `check_separate::some_start_above` meets its contract.
use Rattle.std.proofs.Common.{rules, tests, ap, sym, ◌∙◌}
use mathlib.Core.Bool.{not}
use Rattle.calculus.proofs.Theory.Ranges.{all_below}
use Rattle.check_separate.specs.Tests.{bay_fits}
use Rattle.check_separate.proofs.Shares.{cause_21_is}
use Rattle.check_separate.proofs.some_start_above.Goals as goal

pub returns : goal.returns
returns c =
    let s = c.args.recipe.bytes.now in
    ap not (all_below c.bays.ensures (bay_fits s) _ _ _ c.all.ensures.ran (λ x b q k. search (rules, tests))) ∙ sym (cause_21_is s c.requires)
