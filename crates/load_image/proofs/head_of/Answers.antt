-- `load_image::head_of` meets its contract.
use mathlib.Core.Path.{ap}
use native.Mathlib.Omega.{arith}
use lib.ListN.{length}
use Rattle.recipe_file.proofs.LaidOut.{laid_where}
use Rattle.load_image.proofs.Names.{few_bays, says_setting, says_thread}
use Rattle.load_image.proofs.head_of.Goals as goal

-- a bay has a byte
pub overflow_cast-result : goal.overflow_cast-result
overflow_cast-result c = omega (arith, c.if-k-bays.true, c.bays-bays.ensures, few_bays (laid_where c.args.recipe.bytes.now c.args.recipe.laid))

pub returns-then-k-bays : goal.returns-then-k-bays
returns-then-k-bays c = says_setting _ _ (omega (arith, c.bays-bays.ensures, c.if-k-bays.true))

pub overflow_cast-result-2 : goal.overflow_cast-result-2
overflow_cast-result-2 c = omega (arith, c.bays-bays.ensures, few_bays (laid_where c.args.recipe.bytes.now c.args.recipe.laid), c.requires)

pub returns : goal.returns
returns c = says_thread _ _ c.bays-bays.ensures c.if-k-bays.false (ap length c.term.ensures)
