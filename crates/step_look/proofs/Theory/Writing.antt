-- What counting a step asks, and the writer of the image after it, of a thread that goes.
use Rattle.std.specs.Prelude.{◌≡◌, true, List, ◌≤◌, ℕ, length}
use Rattle.std.proofs.Common.{arith}
use Rattle.calculus.specs.Bytes.{Bytes}
use Rattle.calculus.specs.Limits.{max_image_length}
use Rattle.calculus.specs.Owners.{grown}
use Rattle.calculus.proofs.Theory.ImageTest.{limits_test_iff}
use Rattle.image.specs.Configuration.{owned_of}
use Rattle.image.specs.Stands.{image_stands}
use Rattle.image.proofs.Theory.Exactly.{has_owner}
use Rattle.image.proofs.Theory.Lengths.{stands_length, within_length}
use Rattle.image_check.proofs.Theory.Whole.{whole_sound}
use Rattle.step_rules.specs.declared.Step.{Step}
use Rattle.step_rules.specs.Moves.{image_after}
use Rattle.step_rules.specs.Stepped.{Stepped}
use Rattle.step_reduct.specs.CanWrite.{CanWrite}
use Rattle.step_room.specs.Counting.{Countable}
use Rattle.step_look.specs.declared.Going.{Going}
use Rattle.step_look.specs.Looked.{Goes}

pub countable : {s : List ℕ} {x : ℕ} {step : Step} → Stepped s x step → Bytes s → image_stands s ≡ true → Countable s step
countable {s} S b stands = record { movable = S.movable; stands = (whole_sound s stands).heads; short = omega (arith, stands_length s b stands) }

module _ {s : List ℕ} {x : ℕ} {going : Going} (g : Goes s x going) where
  pub can_write : Bytes s → image_stands s ≡ true → CanWrite s going.step
  can_write b stands =
      let S = g.stepped in
      let c = countable S b stands in
      record {
        movable = c.movable;
        stands = c.stands;
        owners = has_owner s b stands;
        short = c.short;
        few = omega (arith, S.named, ((limits_test_iff S.outcome).0 g.fits).few_names);
      }

  pub after_fits : length (image_after s going.step) ≤ max_image_length
  after_fits = let S = g.stepped in rw S.written (within_length (grown (owned_of s) x S.outcome) ((limits_test_iff S.outcome).0 g.fits))
