-- The pairs, one after the other: what the test of them says of each.
use mathlib.Core.Path.{◌≡◌, ap, refl}
use mathlib.Core.Bool.{Bool, false, not, true}
use mathlib.Core.List.{List}
use Prim.Native.Nat.{◌+◌, ◌-◌, ◌<◌, ◌≤◌, suc, zero, ℕ}
use native.Mathlib.Omega.{arith}
use borrow.Author.Tests.{eq-eqb, eqb-true, eqb-false, ne_eqb, not-true}
use lib.Dec.{eqb}
use lib.ListN.{length}
use Rattle.calculus.specs.Limits.{min_bays, max_bays}
use Rattle.calculus.proofs.Theory.Tests.{and_true, and_parts}
use Rattle.recipe_file.specs.File.{parts, bays, pair_offset, offset_of, length_of, pairs_test}
use Rattle.recipe_file.specs.FileRule.{Between, FileRule}

-- k pairs, of which i is the first and its part begins at `at`, keep the layout to the end of the file
abbrev pub Chain : List ℕ → ℕ → ℕ → ℕ → Type 0
Chain s zero i at = at ≡ length s
Chain s (suc k) i at = (offset_of s i ≡ at) × (0 < length_of s i) × Chain s k (i + 1) (at + length_of s i)

pub chain_sound : (s : List ℕ) (k i at : ℕ) → pairs_test s k i at ≡ true → Chain s k i at
unfolding pairs_test
chain_sound s zero i at e = eqb-true at (length s) e
chain_sound s (suc k) i at e =
    let (a, f) = and_parts (eqb (offset_of s i) at) _ e in
    let (b, c) = and_parts (not (eqb (length_of s i) 0)) (pairs_test s k (i + 1) (at + length_of s i)) f in
    let z = eqb-false (length_of s i) 0 (not-true (eqb (length_of s i) 0) b) in
    (eqb-true (offset_of s i) at a, omega arith, chain_sound s k (i + 1) (at + length_of s i) c)

pub chain_complete : (s : List ℕ) (k i at : ℕ) → Chain s k i at → pairs_test s k i at ≡ true
unfolding pairs_test
chain_complete s zero i at c = eq-eqb at (length s) c
chain_complete s (suc k) i at (a, b, c) =
    and_true (eq-eqb (offset_of s i) at a)
    (and_true (ap not (ne_eqb (length_of s i) 0 (λ e. omega arith))) (chain_complete s k (i + 1) (at + length_of s i) c))

-- the chain from pair i + m on
chain_at : (s : List ℕ) (m k i at j l : ℕ) → k ≡ m + l → j ≡ i + m → Chain s k i at → (at' : ℕ) × Chain s l j at'
chain_at s zero k i at j l p q c = let e : l ≡ k = omega arith in let f : j ≡ i = omega arith in (at, rw (e, f) c)
chain_at s (suc m) zero i at j l p q c = absurd (omega arith)
chain_at s (suc m) (suc k) i at j l p q (a, b, c) = chain_at s m k (i + 1) (at + length_of s i) j l (omega arith) (omega arith) c

-- the parts still to come lie between here and the end of the file
pub chain_room : (s : List ℕ) (k i at : ℕ) → Chain s k i at → at + k ≤ length s
chain_room s zero i at c = omega arith
chain_room s (suc k) i at (a, b, c) = omega (arith, chain_room s k (i + 1) (at + length_of s i) c)

-- a file that ends before a part is to begin
pub pairs_cut : (s : List ℕ) (k i at : ℕ) → length s < at → pairs_test s k i at ≡ false
pairs_cut s k i at h = go (pairs_test s k i at) refl
  where
    go : (t : Bool) → pairs_test s k i at ≡ t → t ≡ false
    go true e = absurd (omega (arith, chain_room s k i at (chain_sound s k i at e)))
    go false e = refl

module _ (s : List ℕ) (c : Chain s (parts s) 0 (pair_offset (parts s))) where
  pub chain_first : 0 < parts s → offset_of s 0 ≡ pair_offset (parts s)
  chain_first h = go (parts s) h (pair_offset (parts s)) c
    where
      go : (k : ℕ) → 0 < k → (at : ℕ) → Chain s k 0 at → offset_of s 0 ≡ at
      go zero h at c = absurd (omega arith)
      go (suc k) h at c = c.0

  pub chain_next : (i : ℕ) → i + 1 < parts s → offset_of s (i + 1) ≡ offset_of s i + length_of s i
  chain_next i h =
      let (at, d) = chain_at s i (parts s) 0 (pair_offset (parts s)) i (suc (suc (parts s - (i + 2)))) (omega arith) (omega arith) c in
      omega (arith, d.0, d.2.0)

  pub chain_last : (i : ℕ) → i + 1 ≡ parts s → offset_of s i + length_of s i ≡ length s
  chain_last i h =
      let (at, d) = chain_at s i (parts s) 0 (pair_offset (parts s)) i (suc zero) (omega arith) (omega arith) c in
      omega (arith, d.0, d.2)

  pub chain_some : (i : ℕ) → i < parts s → 0 < length_of s i
  chain_some i h =
      let (at, d) = chain_at s i (parts s) 0 (pair_offset (parts s)) i (suc (parts s - (i + 1))) (omega arith) (omega arith) c in
      d.1

  pub chain_inside : (i : ℕ) → i < parts s → offset_of s i + length_of s i ≤ length s
  chain_inside i h =
      let (at, d) = chain_at s i (parts s) 0 (pair_offset (parts s)) i (suc (parts s - (i + 1))) (omega arith) (omega arith) c in
      omega (arith, d.0, chain_room s (parts s - (i + 1)) (i + 1) (at + length_of s i) d.2)

chain_of : (s : List ℕ) → FileRule s → (k i at : ℕ) → i + k ≡ parts s → (0 < k → offset_of s i ≡ at) → (k ≡ 0 → at ≡ length s) → Chain s k i at
chain_of s l zero i at e f g = g refl
chain_of s l (suc k) i at e f g =
    let o = f (omega arith) in (
      o,
      l.some_length i (omega arith),
      chain_of s l k (i + 1) (at + length_of s i) (omega arith) (λ h. omega (arith, l.next i (omega arith))) (λ h. omega (arith, l.last i (omega arith))),
    )

-- with a bay there is a part
pub some_part : (s : List ℕ) → Between min_bays max_bays (bays s) → 0 < parts s
unfolding bays
some_part s b = omega (arith, b.low)

pub chain : (s : List ℕ) → FileRule s → Chain s (parts s) 0 (pair_offset (parts s))
chain s l = chain_of s l (parts s) 0 (pair_offset (parts s)) (omega arith) (λ h. l.first) (λ h. absurd (omega (arith, some_part s l.has_parts)))
