-- What an image says of the owners of its names, and that an owner not below 16 is refused 13.
use Rattle.std.proofs.Common.{◌∙◌, sym, arith}
use Rattle.std.specs.Prelude.{◌≡◌, List, ℕ, ◌<◌, ◌≤◌, length}
use Rattle.std.proofs.Math.Option.{some}
use Rattle.calculus.specs.Profile.{Profile}
use Rattle.calculus.specs.Bytes.{Bytes}
use Rattle.calculus.specs.Causes.{image_cause}
use Rattle.calculus.specs.Kinds.{open_handle_kind}
use Rattle.calculus.specs.Limits.{max_bays, max_image_length}
use Rattle.calculus.specs.Syntax.{Component, at}
use Rattle.calculus.specs.Owners.{Owned, owner}
use Rattle.calculus.proofs.Theory.Lists.{at_below}
use Rattle.calculus.proofs.Theory.Images.{Kept}
use Rattle.image_layout.specs.Slice.{names, kind_at, companion_at, owner_at}
use Rattle.image_layout.proofs.Theory.Slice.{owner_of_other}
use Rattle.image.specs.Configuration.{encode, image_of}
use Rattle.image.proofs.Theory.Exactly.{companion_written, names_are, owner_again}
use Rattle.step_spec.specs.declared.Outcome.TheVariants.{Refused}
use Rattle.step_spec.specs.Stepping.{outcome_of}
use Rattle.demands.specs.Demands.{ImageOf}
use Rattle.demands.proofs.Theory.Second.{kept_image, second_demand}
use Rattle.image_owners.specs.Ownership.{SaysOwners}

-- the component of a name
there : (I : Owned) (k : ℕ) → k < names (image_of I) → (c : Component) × (at I.config k ≡ some c)
there I k l = at_below I.config k (omega (arith, names_are I))

pub says_owners : (I : Owned) → Kept max_bays I → SaysOwners (image_of I) I
unfolding encode
says_owners I k = record {
  own_byte = λ x l n. sym (owner_of_other (image_of I) x n) ∙ told x l;
  future_byte = λ z y h. (companion_written I z h, companion_written I y (k.keeps.companions z y h) ∙ sym (k.owns.handles z y h));
  told = told;
  each_has = names_are I ∙ sym k.owns.sizes;
}
  where
    told : (x : ℕ) → x < names (image_of I) → owner_at (image_of I) x ≡ owner I.owners x
    told x l = let (c, h) = there I x l in owner_again I k.owns k.keeps.companions x c h

pub sixteen : (p : Profile) (s : List ℕ) → Bytes s → (x : ℕ) (out : List ℕ) → max_image_length ≤ length out → (k : ℕ) → k < names s → ¬ (kind_at s k ≡ open_handle_kind) →
    max_bays ≤ companion_at s k → outcome_of p s x out ≡ Refused image_cause
sixteen p s b x out long k l n m = ((second_demand p).step s b x out).thirteen.1 (long, λ I io. no I io)
  where
    no : (I : Owned) → ¬ ImageOf s I
    no I io =
        let l' : k < names (image_of I) = rw io.bytes at l in
        let n' : ¬ (kind_at (image_of I) k ≡ open_handle_kind) = rw io.bytes at n in
        let m' : max_bays ≤ companion_at (image_of I) k = rw io.bytes at m in
        omega (arith, m', (says_owners I (kept_image io)).own_byte k l' n', io.owners.below k (omega (arith, l', names_are I)))
