-- `check_recipe::check` meets its contract.
use mathlib.Core.Path.{◌∙◌}
use Rattle.check_recipe.proofs.Verdicts.{accepted_is, refused_is}
use Rattle.check_recipe.proofs.check.Goals as goal

pub returns-in-Ok : goal.returns-in-Ok
returns-in-Ok c = rw (c.in-Ok.ensures.bays, c.in-Ok.ensures.types) (accepted_is _ c.in-Ok.ensures.refusal)

pub returns-in-Err : goal.returns-in-Err
returns-in-Err c = c.refused.ensures ∙ refused_is _ _ c.in-Err.ensures.refusal
