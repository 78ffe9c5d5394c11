-- `recipe_file::RecipeFile::of` meets its contract.
use Rattle.recipe_file.proofs.LaidOut.{layout_stands}
use Rattle.recipe_file.proofs.RecipeFile.of.Goals as goal

pub invariant_of-result : goal.invariant_of-result
invariant_of-result c = record { said = c.edition_of.ensures; laid = layout_stands c.requires; fit = λ i. (c.type_inv.bytes i).fits }
