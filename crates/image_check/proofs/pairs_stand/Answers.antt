-- `image_check::pairs_stand` meets its contract.
use Rattle.std.proofs.Common.{rules, tests}
use Rattle.calculus.proofs.Theory.Ranges.{all_below}
use Rattle.image_layout.proofs.Theory.Reading.{has_names}
use Rattle.image_check.specs.Parts.{pair_stands, pairs_stand}
use Rattle.image_check.proofs.pairs_stand.Goals as goal

pub names_of-names-requires : goal.names_of-names-requires
names_of-names-requires c = has_names _ c.requires.0

pub returns : goal.returns
unfolding pairs_stand
returns c = all_below c.names_of-names.ensures.0 (pair_stands c.args.image.now) _ _ _ c.all.ensures.ran (λ x b q k. search (rules, tests))
