-- `check_walk::close_two` meets its contract, case by case.
use mathlib.Core.Path.{ap, sym}
use Rattle.recipe_table.specs.Filled.{as_entry}
use Rattle.check_walk.specs.Walk.{Answer}
use Rattle.check_walk.specs.Walk.{two_answer}
use Rattle.check_walk.proofs.close_two.Goals as goal

pub returns-in_err-other : goal.returns-in_err-other
unfolding two_answer
returns-in_err-other c =
    let a = c.args in
    rw c.from_residual.ensures (sym (ap (λ (x : Answer). two_answer a.tag (as_entry a.entry) a.t a.first a.kept x) c.in_err-other.was))

pub returns : goal.returns
unfolding two_answer
returns c = rw (c.in_ok-other.was, ← c.two_type.ensures) c.with_uses.ensures
