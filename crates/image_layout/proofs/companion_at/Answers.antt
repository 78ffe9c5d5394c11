-- `image_layout::companion_at` meets its contract.
use mathlib.Core.Path.{refl}
use Rattle.image_layout.specs.Slice.{companion_at}
use Rattle.image_layout.proofs.companion_at.Goals as goal

pub returns : goal.returns
unfolding companion_at
returns c = refl
