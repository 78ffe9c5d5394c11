-- How long the image of a configuration is; no image is longer than document 01 says.
use Rattle.std.proofs.Common.{◌∙◌, ap, ap₂, arith, length-append}
use Rattle.std.specs.Prelude.{◌≡◌, refl, true, List, [], ◌∷◌, ◌+◌, ◌≤◌, ℕ, drop, length}
use Rattle.calculus.specs.Bytes.{Bytes}
use Rattle.calculus.specs.Syntax.{Component, thread_of, holds, open_for, used, awaited, Config, sum_in, sum_all}
use Rattle.calculus.specs.Owners.{Owners, Owned, owner}
use Rattle.calculus.specs.Limits.{max_image_length}
use Rattle.calculus.specs.Image.{image_length, size, WithinLimits}
use Rattle.calculus.proofs.Theory.ImageTest.{image_test_iff}
use Rattle.calculus.proofs.Theory.Images.{image_fits}
use Rattle.term.proofs.Sizes.{length_bytes}
use Rattle.image_layout.specs.Encoded.{expressions}
use Rattle.image_layout.proofs.Theory.Components.{length_image}
use Rattle.image.specs.Configuration.{config_of, encode, encode_all, image_of, owned_of}
use Rattle.image.specs.Stands.{image_stands}
use Rattle.image.proofs.Theory.Components.{length_encode_all}
use Rattle.image.proofs.Theory.Exactly.{image_tested, is_image}

length_encoded : (c : Component) (owner : ℕ) → length (encode c owner).expression ≡ sum_in size c
unfolding encode sum_in
length_encoded (thread_of e) owner = length_bytes e
length_encoded (holds e) owner = length_bytes e
length_encoded (open_for y) owner = refl
length_encoded used owner = refl
length_encoded awaited owner = refl

length_all : (C : Config) (O : Owners) → length (expressions (encode_all C O)) ≡ sum_all (sum_in size) C
unfolding expressions sum_all encode_all
length_all [] O = refl
length_all (c ∷ C) O =
    length-append (encode c (owner O 0)).expression (expressions (encode_all C (drop 1 O))) ∙ ap₂ ◌+◌ (length_encoded c (owner O 0)) (length_all C (drop 1 O))

-- whoever owns its names
pub length_image_of : (I : Owned) → length (image_of I) ≡ image_length I.config
unfolding image_of
length_image_of I = length_image (encode_all I.config I.owners) ∙ omega (arith, length_all I.config I.owners, length_encode_all I.config I.owners)

-- "No image is longer than 2 + 6 × 256 + 3 × 4,096 = 13,826 bytes"
pub within_length : (I : Owned) → WithinLimits I.config → length (image_of I) ≤ max_image_length
within_length I w = rw (length_image_of I) (image_fits I.config w)

pub stands_length : (s : List ℕ) → Bytes s → image_stands s ≡ true → length s ≤ max_image_length
stands_length s b stands =
    let e = is_image s b stands in
    omega (arith, ap length e, within_length (owned_of s) ((image_test_iff (config_of s)).0 (image_tested s b stands)).limits)
