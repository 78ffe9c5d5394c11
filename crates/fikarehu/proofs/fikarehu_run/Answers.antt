use mathlib.Core.Path.{◌∙◌, ap}
use Rattle.fikarehu.specs.Numbers.{run_numbers}
use Rattle.fikarehu.proofs.fikarehu_run.Goals as goal

pub returns : goal.returns
returns c = record {
  value = c.from.ensures ∙ ap run_numbers c.run.ensures.value;
  leaves = c.run.ensures.leaves;
}
