-- What an answer of the check says of the slice.
use Rattle.std.specs.Prelude.{◌≡◌, refl, Bool, false, true, List, ℕ, Option}
use Rattle.std.specs.Option.{option_map}
use Rattle.calculus.specs.Image.{nodes_all}
use Rattle.calculus.proofs.Theory.Tests.{clash}
use Rattle.image.specs.Configuration.{config_of}
use Rattle.image.specs.Stands.{image_stands}
use Rattle.std.proofs.Common.{None, Some, ◌∙◌, ap, sym}
use Rattle.image_check.specs.Answer.{checked, pick_checked}

picked : (t : Bool) (m n : ℕ) → Some n ≡ pick_checked t m → (t ≡ true) × (m ≡ n)
picked true m n e = (refl, cc)
picked false m n e = absurd (clash (cc))

unpicked : (t : Bool) (m : ℕ) → None ≡ pick_checked t m → t ≡ false
unpicked true m e = absurd (clash (cc))
unpicked false m e = refl

-- it stands, and has so many nodes
pub answered : (s : List ℕ) (n : ℕ) → Some n ≡ checked s → (image_stands s ≡ true) × (nodes_all (config_of s) ≡ n)
unfolding checked
answered s n e = picked (image_stands s) (nodes_all (config_of s)) n e

-- refusal 13 fits
pub refused : (s : List ℕ) → None ≡ checked s → image_stands s ≡ false
unfolding checked
refused s e = unpicked (image_stands s) (nodes_all (config_of s)) e

-- the same where what is answered holds the nodes
pub none_refused : {A : Type 0} (f : A → ℕ) {r : Option A} (s : List ℕ) → r ≡ None → option_map f r ≡ checked s → image_stands s ≡ false
none_refused f s is e = refused s (sym (ap (option_map f) is) ∙ e)
