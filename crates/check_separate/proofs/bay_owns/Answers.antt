-- `check_separate::bay_owns` meets its contract.
use mathlib.Core.Path.{◌∙◌, ap}
use Rattle.calculus.specs.Profile.{names_only}
use Rattle.check_separate.specs.Tests.{bay_owns}
use Rattle.check_separate.proofs.Known.{good_part, part_term}
use Rattle.check_separate.proofs.bay_owns.Goals as goal

pub names_only-requires : goal.names_only-requires
names_only-requires c = let p = c.requires in good_part _ p.0 p.1 c.term-term.ensures

pub returns : goal.returns
unfolding bay_owns
returns c = c.names_only.ensures ∙ ap (names_only c.args.bay) (part_term c.args.recipe.bytes.now c.args.bay c.term-term.ensures)
