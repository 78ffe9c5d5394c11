-- `load_image::put_heads` meets its contract.
use native.Mathlib.Omega.{arith}
use Rattle.std.proofs.Common.{rules}
use Rattle.recipe_file.proofs.LaidOut.{laid_where}
use Rattle.load_image.proofs.Names.{few_bays}
use Rattle.load_image.proofs.put_heads.Goals as goal

-- a bay has a byte
pub overflow_add-names : goal.overflow_add-names
overflow_add-names c = omega (arith, c.bays-bays.ensures, few_bays (laid_where c.args.recipe.bytes.now c.args.recipe.laid))

pub put_heads-requires : goal.put_heads-requires
put_heads-requires c κs within = let e = c.bays-bays.ensures in (search rules, (λ k below. grind arith, (λ k h below says. search rules, rw e c.requires)))

pub returns : goal.returns
returns c = rw c.bays-bays.ensures at c.put_heads.ensures
