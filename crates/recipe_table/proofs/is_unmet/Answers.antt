-- `recipe_table::is_unmet` meets its contract: a key without a mark is none of those with theirs.
use mathlib.Core.Path.{◌≡◌, sym}
use mathlib.Core.Bool.{false}
use native.Mathlib.Omega.{arith}
use lib.ListN.{get_or}
use Rattle.recipe_table.specs.Keys.{mark_of}
use Rattle.recipe_table.proofs.Keys.{unmarked}
use Rattle.recipe_table.proofs.is_unmet.Goals as goal

pub returns-then-not-marks-mark_of : goal.returns-then-not-marks-mark_of
returns-then-not-marks-mark_of c =
    let m = c.mark_of.ensures.0 in
    let e : get_or c.args.marks.now (mark_of c.args.key) false ≡ false = rw (← m) c.if-not-marks-mark_of.true in
    sym (unmarked c.requires.1 c.args.key e _ _ (omega arith) (omega (arith, c.requires.0)))
