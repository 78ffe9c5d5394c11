-- The loop that looks for the highest owner. One law for each way through it.
use mathlib.Core.Path.{◌∙◌, ◌≡◌, ap, refl}
use mathlib.Core.Bool.{true}
use mathlib.Core.List.{List}
use Prim.Native.Nat.{◌+◌, ◌<◌, ◌≤◌, ℕ, max}
use native.Mathlib.Omega.{arith}
use Rattle.std.specs.Ordering.{nat_cmp, ord_max}
use Rattle.std.proofs.lemmas.Grind.{common_steps}
use Rattle.std.proofs.Math.Decide.{dec_lt}
use Rattle.calculus.specs.Bytes.{Bytes}
use Rattle.calculus.specs.Limits.{max_bays}
use Rattle.calculus.specs.Lists.{tabulate}
use Rattle.calculus.specs.Shares.{bays_in}
use Rattle.calculus.proofs.Theory.BaySums.{bays_most, bays_raised, bays_still}
use Rattle.image_layout.specs.Slice.{names, owner_at}
use Rattle.image.specs.Configuration.{owners_of}
use Rattle.image.specs.Stands.{image_stands}
use Rattle.image.proofs.Theory.Exactly.{kept_read, length_config, owner_said}

-- every owner is below 16
pub owner_small : (s : List ℕ) → Bytes s → image_stands s ≡ true → (k : ℕ) → k < names s → owner_at s k < max_bays
owner_small s b stands k l = let o = (kept_read s b stands).owns.below k (omega (arith, length_config s)) in rw (owner_said s k l) at o

-- the larger of two numbers, as code finds it
larger_is : (a b : ℕ) → ord_max nat_cmp a b ≡ max a b
larger_is a b = grind (arith, common_steps)

-- k of m names have been looked at
pub record Highest (s : List ℕ) (m k bays : ℕ) : Type 0 where
  pub few : k ≤ m
  pub all : m ≡ names s
  pub highest : bays ≡ bays_in (tabulate k (owner_at s))

pub highest_none : (s : List ℕ) (m : ℕ) → m ≡ names s → Highest s m 0 0
unfolding tabulate bays_in
highest_none s m e = record { few = omega arith; all = e; highest = refl }

module _ {s : List ℕ} {m k bays : ℕ} (p : Highest s m k bays) where
  pub highest_all : Bytes s → image_stands s ≡ true → m ≤ k → (bays ≡ bays_in (owners_of s)) × (bays ≤ max_bays)
  unfolding owners_of
  highest_all b stands h =
      let e : k ≡ names s = omega (arith, p.few, p.all) in
      let is : bays ≡ bays_in (tabulate (names s) (owner_at s)) = p.highest ∙ ap (λ (n : ℕ). bays_in (tabulate n (owner_at s))) e in
      (is, omega (arith, is, bays_most (owner_at s) (names s) max_bays (owner_small s b stands)))

  pub next_below : k < m → k < names s
  next_below more = omega (arith, p.all)

  module _ (more : k < m) {owner : ℕ} (is : owner ≡ owner_at s k) where
    pub highest_one : {next : ℕ} → next ≡ ord_max nat_cmp bays (owner + 1) → Highest s m (k + 1) next
    highest_one {next} e =
        let larger : next ≡ max bays (owner + 1) = e ∙ larger_is bays (owner + 1) in
        record {
          few = omega arith;
          all = p.all;
          highest = elim (dec_lt owner bays) [
            | yes l ↦ omega (arith, larger, p.highest, bays_still (owner_at s) k (omega (arith, p.highest, is)))
            | no l ↦ omega (arith, larger, is, bays_raised (owner_at s) k (omega (arith, p.highest, is)))
          ];
        }
