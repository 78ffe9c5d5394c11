-- Room for an image of m names, name i having the component f i.
use Rattle.std.specs.Prelude.{List, ℕ, ◌≤◌, ◌<◌, length}
use Rattle.calculus.specs.Bytes.{two_byte_values}
use Rattle.calculus.specs.Lists.{tabulate}
use Rattle.image_layout.specs.Encoded.{Encoded, image_bytes}

module _ (m : ℕ) (f : ℕ → Encoded) where
  -- room for the image
  pub record Room (out : List ℕ) : Type 0 where
    pub fits_in : length (image_bytes (tabulate m f)) ≤ length out
    pub small : length (image_bytes (tabulate m f)) < two_byte_values
