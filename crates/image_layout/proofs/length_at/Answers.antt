-- `image_layout::length_at` meets its contract.
use Rattle.image_layout.specs.Slice.{length_at}
use Rattle.image_layout.proofs.length_at.Goals as goal

pub returns : goal.returns
unfolding length_at
returns c = c.word_at.ensures
