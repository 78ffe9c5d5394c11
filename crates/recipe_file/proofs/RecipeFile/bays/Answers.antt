-- `recipe_file::RecipeFile::bays` meets its contract.
use mathlib.Core.Path.{ap}
use native.Mathlib.Omega.{arith}
use Rattle.recipe_file.specs.declared.Edition.{Edition}
use Rattle.recipe_file.specs.File.{parts, bays}
use Rattle.recipe_file.proofs.LaidOut.{laid_where}
use Rattle.recipe_file.proofs.RecipeFile.bays.Goals as goal

pub bounds-self-3 : goal.bounds-self-3
bounds-self-3 c = let f = c.args.self in omega (arith, (laid_where f.bytes.now f.laid).size.low)

pub overflow_sub-result : goal.overflow_sub-result
unfolding bays parts
overflow_sub-result c = let f = c.args.self in omega (arith, (laid_where f.bytes.now f.laid).has_parts.low, ap (λ (e : Edition). e.terms) f.said)

pub returns : goal.returns
unfolding bays parts
returns c = omega (arith, c.wide.ensures.0, ap (λ (e : Edition). e.terms) c.args.self.said)
