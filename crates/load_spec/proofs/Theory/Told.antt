-- What document 01's load into a buffer that is long enough says: the verdict's number; where there is none, the starting image is in the first bytes, as many as it answers.
use Rattle.std.proofs.Common.{◌∙◌, ap, sym, arith, length-append}
use Rattle.std.specs.Prelude.{◌≡◌, List, ◌++◌, ℕ, ◌≤◌, drop, length, take}
use Rattle.std.proofs.Math.Seq.{take-append_seam}
use Rattle.calculus.specs.Causes.{starting_cause}
use Rattle.calculus.specs.Profile.{common}
use Rattle.calculus.specs.Limits.{max_image_length}
use Rattle.check_spec.specs.Verdict.{refusal}
use Rattle.check_spec.proofs.Theory.Answers.{refusal_small}
use Rattle.load_spec.specs.declared.Loaded.{Loaded}
use Rattle.load_spec.specs.Starting.{starting_image}
use Rattle.load_spec.specs.Loading.{load_refusal, loaded_of, out_after_load}
use Rattle.load_spec.proofs.Theory.Answers as answers

-- a load into a buffer of `room` bytes
module _ (s : List ℕ) {room : ℕ} {l : Loaded} (is : l ≡ loaded_of common s room) (long : max_image_length ≤ room) where
  number : load_refusal common s room ≡ refusal s
  number = answers.long_common s room long

  pub refusal_told : l.refusal ≡ refusal s
  refusal_told = ap (λ (x : Loaded). x.refusal) is ∙ answers.load_refusal_is common s room ∙ number

  pub refusal_told_small : l.refusal ≤ starting_cause
  refusal_told_small = rw refusal_told (refusal_small s)

  -- it is of an accepted recipe
  module _ (z : l.refusal ≡ 0) where
    pub accepted_told : refusal s ≡ 0
    accepted_told = sym refusal_told ∙ z

    accepted : load_refusal common s room ≡ 0
    accepted = number ∙ accepted_told

    pub length_told : l.length ≡ length (starting_image s)
    length_told = ap (λ (x : Loaded). x.length) (is ∙ answers.loaded_is common s room accepted)

-- and one that took the buffer from `out` to out'
module _ (s out : List ℕ) {l : Loaded} {out' : List ℕ} (left : out' ≡ out_after_load common s out) (is : l ≡ loaded_of common s (length out)) (long : max_image_length ≤ length out) (z : l.refusal ≡ 0) where
  left_image : out' ≡ starting_image s ++ drop (length (starting_image s)) out
  left_image = left ∙ answers.left_loaded common s out (accepted s is long z)

  pub image_told : take l.length out' ≡ starting_image s
  image_told = rw (length_told s is long z, left_image) (take-append_seam (starting_image s) (drop (length (starting_image s)) out))

  pub length_inside : l.length ≤ length out'
  length_inside = rw (length_told s is long z) (omega (arith, ap length left_image ∙ length-append (starting_image s) (drop (length (starting_image s)) out)))
