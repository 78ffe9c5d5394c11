-- `image_layout::names_of` meets its contract.
use Rattle.image_layout.specs.Slice.{names}
use Rattle.image_layout.proofs.names_of.Goals as goal

pub returns : goal.returns
unfolding names
returns c = c.word_at.ensures
