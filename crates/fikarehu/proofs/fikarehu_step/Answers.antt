use mathlib.Core.Path.{◌∙◌, ap, subst⁻¹}
use Rattle.calculus.specs.Profile.{common}
use Rattle.step_spec.specs.Waiting.{NameSmall}
use Rattle.step_spec.proofs.Theory.Waiting.{waiting_small}
use Rattle.fikarehu.specs.Numbers.{step_numbers}
use Rattle.fikarehu.proofs.fikarehu_step.Goals as goal

pub step_numbers-requires : goal.step_numbers-requires
step_numbers-requires c =
    let a = c.args in
    subst⁻¹ NameSmall c.step.ensures.value (waiting_small common a.image.now a.thread a.out.now)

pub returns : goal.returns
returns c =
    let s = c.step.ensures in
    record {
      value = c.step_numbers.ensures ∙ ap step_numbers s.value;
      out_after = s.out_after;
    }
