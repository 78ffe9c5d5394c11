use mathlib.Core.Path.{refl}
use Rattle.run_spec.specs.Ending.{ending_by}
use Rattle.run_recipe.proofs.nobody_goes.Goals as goal

pub returns-then-lacked : goal.returns-then-lacked
unfolding ending_by
returns-then-lacked c = rw c.if-lacked.true refl

pub returns : goal.returns
unfolding ending_by
returns c = rw c.if-lacked.false refl
