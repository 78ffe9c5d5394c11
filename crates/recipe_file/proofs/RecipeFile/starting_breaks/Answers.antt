-- `recipe_file::RecipeFile::starting_breaks` meets its contract.
use mathlib.Core.Path.{◌∙◌, ap, sym}
use native.Mathlib.Omega.{arith}
use Rattle.recipe_file.specs.declared.Edition.{Edition}
use Rattle.recipe_file.proofs.LaidOut.{laid_where}
use Rattle.recipe_file.proofs.Starting.{by_length, never_19}
use Rattle.recipe_file.proofs.RecipeFile.starting_breaks.Goals as goal

pub returns-then-not-self : goal.returns-then-not-self
returns-then-not-self c = never_19 _ (sym (ap (λ (e : Edition). e.starting) c.args.self.said) ∙ c.if-not-self.true)

pub length_of-requires : goal.length_of-requires
length_of-requires c = let f = c.args.self in (omega arith, omega (arith, (laid_where f.bytes.now f.laid).size.low))

pub overflow_mul-result : goal.overflow_mul-result
overflow_mul-result c = let f = c.args.self in omega (arith, c.bays.ensures, (laid_where f.bytes.now f.laid).has_parts.high)

pub returns : goal.returns
returns c = by_length _ (sym (ap (λ (e : Edition). e.starting) c.args.self.said) ∙ c.if-not-self.false) _ _ c.length_of.ensures.0 c.bays.ensures
