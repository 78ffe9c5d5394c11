-- `image_layout::kind_at` meets its contract.
use mathlib.Core.Path.{refl}
use Rattle.image_layout.specs.Slice.{kind_at}
use Rattle.image_layout.proofs.kind_at.Goals as goal

pub returns : goal.returns
unfolding kind_at
returns c = refl
