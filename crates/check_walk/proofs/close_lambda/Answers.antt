-- `check_walk::close_lambda` meets its contract, case by case.
use mathlib.Core.Path.{ap, sym}
use Rattle.recipe_table.specs.Filled.{as_entry}
use Rattle.check_walk.specs.Marks.{number_of}
use Rattle.check_walk.specs.Walk.{Answer}
use Rattle.check_walk.specs.Walk.{lambda_answer}
use Rattle.check_walk.proofs.close_lambda.Goals as goal

pub returns-in_err-inside : goal.returns-in_err-inside
unfolding lambda_answer
returns-in_err-inside c = let a = c.args in rw c.from_residual.ensures (sym (ap (λ (x : Answer). lambda_answer (as_entry a.entry) a.t x (number_of a.mark)) c.in_err-inside.was))

pub returns : goal.returns
unfolding lambda_answer
returns c = rw (c.in_ok-inside.was, ← c.lambda_type.ensures, ← c.is_used.ensures) c.with_uses.ensures
