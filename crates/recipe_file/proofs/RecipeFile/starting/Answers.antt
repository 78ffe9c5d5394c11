-- `recipe_file::RecipeFile::starting` meets its contract.
use mathlib.Core.Path.{◌∙◌, ap, sym}
use Rattle.recipe_file.specs.declared.Edition.{Edition}
use Rattle.recipe_file.proofs.Inside.{starting_is_part}
use Rattle.recipe_file.proofs.LaidOut.{laid_where}
use Rattle.recipe_file.proofs.Starting.{none_starting, some_starting}
use Rattle.recipe_file.proofs.RecipeFile.starting.Goals as goal

pub returns-then-not-self : goal.returns-then-not-self
returns-then-not-self c = let f = c.args.self in sym (none_starting _ (sym (ap (λ (e : Edition). e.starting) f.said) ∙ c.if-not-self.true))

pub part-requires : goal.part-requires
part-requires c = let f = c.args.self in starting_is_part (laid_where _ f.laid) (sym (ap (λ (e : Edition). e.starting) f.said) ∙ c.if-not-self.false)

pub returns : goal.returns
returns c = let f = c.args.self in c.part.ensures ∙ sym (some_starting _ (sym (ap (λ (e : Edition). e.starting) f.said) ∙ c.if-not-self.false))
