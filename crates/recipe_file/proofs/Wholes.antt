-- A file that is laid out is the file of its parts: opening, edition, number of parts, pairs, parts. So files of one edition with equal parts are equal.
use mathlib.Core.Path.{◌∙◌, ◌≡◌, ap, ap₂, refl, sym}
use mathlib.Core.List.{List, [], ◌++◌, ◌∷◌}
use Prim.Native.Nat.{◌%◌, ◌*◌, ◌+◌, ◌/◌, ◌<◌, ◌≤◌, suc, zero, ℕ}
use native.Mathlib.Numerals.{add-one}
use native.Mathlib.Omega.{arith}
use lib.ListN.{drop, get_or, length, take, take-append-drop}
use lib.Seq.{drop-cons, drop-drop, drop-length}
use Rattle.calculus.specs.Bytes.{Bytes, two_bytes, word}
use Rattle.recipe_file.specs.File.{opening, edition_of, parts, pair_offset, offset_of, length_of, part}
use Rattle.recipe_file.specs.FileRule.{FileRule}
use Rattle.recipe_file.specs.Whole.{pairs_of, joined, file_of, parts_from, all_parts}
use Rattle.recipe_file.proofs.Chains.{Chain, chain}
use Rattle.recipe_file.proofs.Inside.{pairs_inside, length_part}

pub length_parts : (s : List ℕ) (k i : ℕ) → length (parts_from s k i) ≡ k
unfolding parts_from
length_parts s zero i = refl
length_parts s (suc k) i = ap suc (length_parts s k (i + 1))

pub bytes_word : (s : List ℕ) → Bytes s → (j : ℕ) → two_bytes (word s j) ≡ get_or s j 0 ∷ get_or s (j + 1) 0 ∷ []
unfolding two_bytes word
bytes_word s b j =
    let low = b j in
    let m : (get_or s j 0 + 256 * get_or s (j + 1) 0) % 256 ≡ get_or s j 0 = omega arith in
    let d : (get_or s j 0 + 256 * get_or s (j + 1) 0) / 256 ≡ get_or s (j + 1) 0 = omega arith in
    rw (m, d) refl

-- one byte and four, from j on
one : (s : List ℕ) (j n : ℕ) → j < length s → take (suc n) (drop j s) ≡ get_or s j 0 ∷ take n (drop (j + 1) s)
one s j n h = rw (add-one j, drop-cons s j 0 h) refl

four : (s : List ℕ) (j n : ℕ) → j + 4 ≤ length s →
    take (suc (suc (suc (suc n)))) (drop j s) ≡ get_or s j 0 ∷ get_or s (j + 1) 0 ∷ get_or s (j + 2) 0 ∷ get_or s (j + 2 + 1) 0 ∷ take n (drop (j + 4) s)
four s j n h =
    let e₁ : j + 1 + 1 ≡ j + 2 = omega arith in
    let e₂ : j + 2 + 1 + 1 ≡ j + 4 = omega arith in
    rw (one s j (suc (suc (suc n))) (omega arith), one s (j + 1) (suc (suc n)) (omega arith), e₁, one s (j + 2) (suc n) (omega arith), one s (j + 2 + 1) n (omega arith), e₂) refl

module _ (s : List ℕ) (l : FileRule s) where
  -- the parts from i on are what stands from there to the end
  pub joined_from : (k i at : ℕ) → Chain s k i at → joined (parts_from s k i) ≡ drop at s
  unfolding joined parts_from part
  joined_from zero i at c = rw c (sym (drop-length s))
  joined_from (suc k) i at (o, p, c) =
      rw (joined_from k (i + 1) (at + length_of s i) c, o, ← drop-drop (length_of s i) at s, take-append-drop) refl

  -- the pairs from i on are what stands between pair i and the parts
  pairs_from : Bytes s → (k i at : ℕ) → i + k ≡ parts s → Chain s k i at → pairs_of at (parts_from s k i) ≡ take (4 * k) (drop (pair_offset i) s)
  unfolding pairs_of parts_from offset_of length_of
  pairs_from b zero i at e c = refl
  pairs_from b (suc k) i at e (o, p, c) =
      let n : length (part s i) ≡ length_of s i = length_part (record { laid = l; below = omega arith }) in
      let q : pairs_of (at + length_of s i) (parts_from s k (i + 1)) ≡ take (4 * k) (drop (pair_offset (i + 1)) s) = pairs_from b k (i + 1) (at + length_of s i) (omega arith) c in
      let f : 4 * suc k ≡ suc (suc (suc (suc (4 * k)))) = omega arith in
      let g : pair_offset (i + 1) ≡ pair_offset i + 4 = omega arith in
      let r = pairs_inside l in
      rw (n, q, g, ← o, bytes_word s b (pair_offset i), bytes_word s b (pair_offset i + 2), f, four s (pair_offset i) (4 * k) (omega arith)) refl

-- the first four bytes
head : (s : List ℕ) (n : ℕ) → 4 ≤ length s → take (length opening) s ≡ opening → get_or s 2 0 ≡ n → s ≡ opening ++ (n ∷ parts s ∷ drop 4 s)
unfolding parts
head [] n h e f = absurd (omega arith)
head (a ∷ []) n h e f = absurd (omega arith)
head (a ∷ b ∷ []) n h e f = absurd (omega arith)
head (a ∷ b ∷ c ∷ []) n h e f = absurd (omega arith)
head (a ∷ b ∷ c ∷ d ∷ s) n h e f =
    let p : a ≡ 0x4C = cc in
    let q : b ≡ 0x46 = cc in
    rw (p, q, f) refl

-- the file is the opening, the edition, the number of its parts, their pairs, and the parts
pub one_reading : (s : List ℕ) → FileRule s → Bytes s → file_of (edition_of s) (all_parts s) ≡ s
unfolding file_of all_parts
one_reading s l b =
    let n = length_parts s (parts s) 0 in
    let c = chain s l in
    let p = pairs_from s l b (parts s) 0 (pair_offset (parts s)) (omega arith) c in
    let q = joined_from s l (parts s) 0 (pair_offset (parts s)) c in
    let e : drop (pair_offset (parts s)) s ≡ drop (4 * parts s) (drop 4 s) = sym (drop-drop (4 * parts s) 4 s) in
    rw (n, p, q, e, take-append-drop) (sym (head s (edition_of s).number (omega (arith, l.size.low)) l.opens_so l.has_edition))

-- so a file is known by its edition and its parts
pub same_parts : (s s' : List ℕ) → FileRule s → FileRule s' → Bytes s → Bytes s' → edition_of s ≡ edition_of s' → all_parts s ≡ all_parts s' → s ≡ s'
same_parts s s' l l' b b' d e = sym (one_reading s l b) ∙ (ap₂ file_of d e ∙ one_reading s' l' b')
