-- The walk over the pairs: what holds where it stands, and each way on.
use mathlib.Core.Path.{◌∙◌, ◌≡◌, refl, sym}
use mathlib.Core.Bool.{◌&&◌, false, not}
use mathlib.Core.List.{List}
use Prim.Native.Nat.{◌*◌, ◌+◌, ◌-◌, ◌<◌, ◌≤◌, suc, ℕ}
use native.Mathlib.Omega.{arith}
use borrow.Author.Tests.{eq-eqb, ne_eqb}
use lib.Dec.{eqb}
use lib.ListN.{length}
use Rattle.calculus.specs.Bytes.{two_byte_values}
use Rattle.recipe_file.specs.File.{pair_offset, offset_of, length_of, pairs_test}

-- of n pairs, pair i is next, and its part is to begin at `at`
pub record PairsWalked (s : List ℕ) (n i at : ℕ) : Type 0 where
  pub inside : i ≤ n
  pub near : at ≤ pair_offset n + two_byte_values * i
  pub same : pairs_test s n 0 (pair_offset n) ≡ pairs_test s (n - i) i at

pub walked_start : (s : List ℕ) (n : ℕ) {at : ℕ} → at ≡ pair_offset n → PairsWalked s n 0 at
walked_start s n q =
    let e : n - 0 ≡ n = omega arith in
    rw q (record { inside = omega arith; near = omega arith; same = rw e refl })

module _ {s : List ℕ} {n i at : ℕ} (w : PairsWalked s n i at) (h : i < n) (o : ℕ) (is_offset : o ≡ offset_of s i) where
  turn : pairs_test s n 0 (pair_offset n) ≡ (eqb o at && (not (eqb (length_of s i) 0) && pairs_test s (n - (i + 1)) (i + 1) (at + length_of s i)))
  unfolding pairs_test
  turn = let e : n - i ≡ suc (n - (i + 1)) = omega arith in w.same ∙ rw (e, is_offset) refl

  pub walked_elsewhere : (o ≡ at → ⊥) → false ≡ pairs_test s n 0 (pair_offset n)
  walked_elsewhere f = sym (turn ∙ rw (ne_eqb o at f) refl)

  module _ (p : o ≡ at) (size : ℕ) (is_size : size ≡ length_of s i) where
    pub walked_empty : size ≡ 0 → false ≡ pairs_test s n 0 (pair_offset n)
    walked_empty z = sym (turn ∙ rw (eq-eqb o at p, ← is_size, z) refl)

    pub walked_next : (size ≡ 0 → ⊥) → size < two_byte_values → PairsWalked s n (i + 1) (at + size)
    walked_next f b = record {
      inside = omega arith;
      near = omega (arith, w.near);
      same = turn ∙ rw (eq-eqb o at p, ← is_size, ne_eqb size 0 f) refl;
    }

pub walked_end : {s : List ℕ} {n i at : ℕ} → PairsWalked s n i at → n ≤ i → eqb at (length s) ≡ pairs_test s n 0 (pair_offset n)
unfolding pairs_test
walked_end {s} {n} {i} {at} w h = let e : n - i ≡ 0 = omega arith in sym (w.same ∙ rw e refl)
