-- `recipe_file::is_outside` meets its contract.
use borrow.Author.Tests.{le-ltb, lt-ltb}
use Rattle.recipe_file.specs.File.{outside}
use Rattle.recipe_file.proofs.is_outside.Goals as goal

pub returns-then-n-least : goal.returns-then-n-least
unfolding outside
returns-then-n-least c = simp (lt-ltb _ _ c.if-n-least.true)

pub returns-else-n-least : goal.returns-else-n-least
unfolding outside
returns-else-n-least c = simp (le-ltb _ _ c.if-n-least.false)
