-- `recipe_file::RecipeFile::table` meets its contract.
use Rattle.recipe_file.specs.File.{table_bytes}
use Rattle.recipe_file.proofs.Inside.{table_is_part}
use Rattle.recipe_file.proofs.LaidOut.{laid_where}
use borrow.Author.Rules.{rules}
use Rattle.recipe_file.proofs.RecipeFile.table.Goals as goal

pub part-requires : goal.part-requires
part-requires c = table_is_part (laid_where _ c.args.self.laid)

pub returns : goal.returns
unfolding table_bytes
returns c = search rules
