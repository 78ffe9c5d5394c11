-- `check_recipe::accept` meets its contract. Behind each cause it is known that the causes up to it do not fit.
use native.Mathlib.Omega.{arith}
use Rattle.recipe_file.proofs.LaidOut.{laid_where}
use Rattle.check_recipe.proofs.Verdicts.{filed, scoped_terms}
use Rattle.check_recipe.proofs.accept.Goals as goal

pub parts_refusal-requires : goal.parts_refusal-requires
parts_refusal-requires c = let r = c.in_ok-recipe.ensures in rw r.file (filed _ r.refusal).1

pub type_numbers-requires : goal.type_numbers-requires
type_numbers-requires c = let r = c.in_ok-recipe.ensures in rw r.file (scoped_terms _ r.refusal (rw r.file at c.in_ok-parts_refusal.ensures))

pub overflow_cast-result : goal.overflow_cast-result
overflow_cast-result c = let f = c.in_ok-recipe.recipe in omega (arith, c.bays.ensures, (laid_where f.bytes.now f.laid).has_parts.high)
