-- Answers that a test picks: what they say of the test, and back.
use mathlib.Core.Path.{◌≡◌, ap, refl, sym}
use mathlib.Core.Bool.{Bool, false, true}
use Prim.Native.Nat.{ℕ}
use Rattle.calculus.proofs.Theory.Tests.{clash}
use Rattle.std.proofs.Common.{None, Some}
use Rattle.image_check.specs.Parts.{pick_part}

pub pick_some : (t : Bool) (n m : ℕ) → t ≡ true → m ≡ n → Some n ≡ pick_part t m
pick_some true n m h e = ap Some (sym e)
pick_some false n m h e = absurd (clash (cc))

pub pick_none : (t : Bool) (n : ℕ) → ¬ (t ≡ true) → None ≡ pick_part t n
pick_none true n h = absurd (h refl)
pick_none false n h = refl

pub picked : (t : Bool) (n m : ℕ) → Some n ≡ pick_part t m → (t ≡ true) × (m ≡ n)
picked true n m e = (refl, cc)
picked false n m e = absurd (clash (cc))

pub unpicked : (t : Bool) (n : ℕ) → None ≡ pick_part t n → ¬ (t ≡ true)
unpicked true n e h = clash (cc)
unpicked false n e h = clash (cc)
