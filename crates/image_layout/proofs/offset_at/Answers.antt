-- `image_layout::offset_at` meets its contract.
use Rattle.image_layout.specs.Slice.{offset_at}
use Rattle.image_layout.proofs.offset_at.Goals as goal

pub returns : goal.returns
unfolding offset_at
returns c = c.word_at.ensures
