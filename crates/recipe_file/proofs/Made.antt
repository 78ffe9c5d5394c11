-- The file of fitting parts is laid out, and these are its parts.
use mathlib.Core.Path.{◌∙◌, ◌≡◌, ap, refl, sym}
use mathlib.Core.List.{List, [], ◌++◌, ◌∷◌}
use Prim.Native.Nat.{◌%◌, ◌*◌, ◌+◌, ◌/◌, ◌<◌, ◌≤◌, suc, zero, ℕ}
use native.Mathlib.Omega.{arith}
use lib.ListN.{drop, get_or, length, length-append, length-drop, length-take}
use lib.Seq.{drop-append_seam, drop-drop, get_or-drop, take-append_seam}
use Rattle.calculus.specs.Bytes.{two_bytes, word}
use Rattle.calculus.specs.Limits.{min_bays, max_bays}
use Rattle.recipe_file.specs.declared.Edition.{Edition}
use Rattle.recipe_file.specs.File.{parts, bays, table_part, pair_offset, offset_of, length_of, part}
use Rattle.recipe_file.specs.FileRule.{Between, FileRule}
use Rattle.recipe_file.specs.Whole.{pairs_of, joined, file_of, parts_from, all_parts, NoneEmpty, Makes}
use Rattle.recipe_file.proofs.Editions.{EditionRule, edition_rule}
use Rattle.recipe_file.proofs.Chains.{Chain, chain_first, chain_next, chain_last, chain_some, chain_inside}

-- the number whose bytes stand at j
word_read : (s : List ℕ) (j n : ℕ) (l : List ℕ) → drop j s ≡ two_bytes n ++ l → word s j ≡ n
unfolding word two_bytes
word_read s j n l e =
    let a : get_or s (j + 0) 0 ≡ n % 256 = sym (get_or-drop j s 0 0) ∙ ap (λ (x : List ℕ). get_or x 0 0) e in
    let b : get_or s (j + 1) 0 ≡ n / 256 = sym (get_or-drop j s 1 0) ∙ ap (λ (x : List ℕ). get_or x 1 0) e in
    let z : j + 0 ≡ j = omega arith in
    let c : get_or s j 0 ≡ n % 256 = rw z at a in
    omega arith

-- behind the two bytes of a number
past_word : (s : List ℕ) (j n : ℕ) (l : List ℕ) → drop j s ≡ two_bytes n ++ l → drop (j + 2) s ≡ l
unfolding two_bytes
past_word s j n l e = sym (drop-drop 2 j s) ∙ ap (drop 2) e

length_pairs : (at : ℕ) (ps : List (List ℕ)) → length (pairs_of at ps) ≡ 4 * length ps
unfolding pairs_of two_bytes
length_pairs at [] = refl
length_pairs at (p ∷ ps) = let h = length_pairs (at + length p) ps in omega arith

-- how long the file of some parts is
pub length_file : (e : Edition) (ps : List (List ℕ)) → length (file_of e ps) ≡ pair_offset (length ps) + length (joined ps)
unfolding file_of
length_file e ps = omega (arith, length-append (pairs_of (pair_offset (length ps)) ps) (joined ps), length_pairs (pair_offset (length ps)) ps)

-- a part by its number
pub part_in : (s : List ℕ) (n i k : ℕ) → k < n → get_or (parts_from s n i) k [] ≡ part s (i + k)
unfolding parts_from
part_in s zero i k h = absurd (omega arith)
part_in s (suc n) i zero h = let e : i ≡ i + 0 = omega arith in ap (part s) e
part_in s (suc n) i (suc k) h = let e : i + 1 + k ≡ i + suc k = omega arith in part_in s n (i + 1) k (omega arith) ∙ ap (part s) e

-- the parts qs, whose pairs stand from pair i on
made : (s : List ℕ) (qs : List (List ℕ)) (i at : ℕ) (rest : List ℕ) → NoneEmpty qs → drop (pair_offset i) s ≡ pairs_of at qs ++ rest → drop at s ≡ joined qs →
    at + length (joined qs) ≡ length s → Chain s (length qs) i at × (parts_from s (length qs) i ≡ qs)
unfolding pairs_of joined parts_from part offset_of length_of two_bytes
made s [] i at rest f d j n = (omega arith, refl)
made s (q ∷ qs) i at rest (f, g) d j n =
    let more = pairs_of (at + length q) qs ++ rest in
    let o : offset_of s i ≡ at = word_read s (pair_offset i) at (two_bytes (length q) ++ more) d in
    let d₂ = past_word s (pair_offset i) at (two_bytes (length q) ++ more) d in
    let m : length_of s i ≡ length q = word_read s (pair_offset i + 2) (length q) more d₂ in
    let e : pair_offset i + 2 + 2 ≡ pair_offset (i + 1) = omega arith in
    let d₃ : drop (pair_offset (i + 1)) s ≡ more = rw e at (past_word s (pair_offset i + 2) (length q) more d₂) in
    let j₂ : drop (at + length q) s ≡ joined qs = sym (drop-drop (length q) at s) ∙ (ap (drop (length q)) j ∙ drop-append_seam q (joined qs)) in
    let n₂ : at + length q + length (joined qs) ≡ length s = omega (arith, length-append q (joined qs)) in
    let (c, p) = made s qs (i + 1) (at + length q) rest g d₃ j₂ n₂ in
    let w : part s i ≡ q = rw (m, o, j) (take-append_seam q (joined qs)) in
    ((o, rw m f, rw m c), rw (w, p) refl)

behind_four : (a b c d : ℕ) (l m : List ℕ) (n : ℕ) → n ≡ 4 + length l → drop n (a ∷ b ∷ c ∷ d ∷ (l ++ m)) ≡ m
behind_four a b c d l m n h =
    let e : n ≡ suc (suc (suc (suc (length l)))) = omega arith in
    rw e (drop-append_seam l m)

-- each part takes a byte
length_joined : (ps : List (List ℕ)) → NoneEmpty ps → length ps ≤ length (joined ps)
unfolding joined
length_joined [] f = omega arith
length_joined (p ∷ ps) (f, g) = omega (arith, length-append p (joined ps), length_joined ps g)

module _ (e : Edition) (ps : List (List ℕ)) (k : Makes e ps) where
  whole : Chain (file_of e ps) (parts (file_of e ps)) 0 (pair_offset (parts (file_of e ps))) × (all_parts (file_of e ps) ≡ ps)
  unfolding file_of parts all_parts
  whole =
      let j : drop (pair_offset (length ps)) (file_of e ps) ≡ joined ps =
      behind_four 0x4C 0x46 e.number (length ps) (pairs_of (pair_offset (length ps)) ps) (joined ps) (pair_offset (length ps)) (omega (arith, length_pairs (pair_offset (length ps)) ps)) in
      made (file_of e ps) ps 0 (pair_offset (length ps)) (joined ps) k.none_empty refl j
      (sym (length_file e ps))

  edition : EditionRule e
  edition = rw k.known at (edition_rule (file_of e ps))

  pub made_parts : all_parts (file_of e ps) ≡ ps
  made_parts = whole.1

  parts_made : parts (file_of e ps) ≡ length ps
  unfolding file_of parts
  parts_made = refl

  table_length : length_of (file_of e ps) 0 ≡ length (get_or ps table_part [])
  unfolding all_parts part
  table_length =
      let s = file_of e ps in
      let n : 0 < parts s = omega (arith, parts_made, k.number.low) in
      let i = chain_inside s whole.0 0 n in
      let t : part s 0 ≡ get_or ps 0 [] = sym (part_in s (parts s) 0 0 n) ∙ ap (λ (qs : List (List ℕ)). get_or qs 0 []) made_parts in
      let l : length (part s 0) ≡ length_of s 0 = simp (length-take, length-drop) (omega arith) in
      sym l ∙ ap length t

  bays_made : Between min_bays max_bays (bays (file_of e ps))
  unfolding bays
  bays_made = rw (k.known, parts_made) k.number

  pub made_laid : FileRule (file_of e ps)
  unfolding file_of parts
  made_laid =
      let s = file_of e ps in
      let n = length_joined ps k.none_empty in
      record {
        size = record { low = omega (arith, k.number.low, edition.behind_table, length_file e ps); high = k.short };
        opens_so = refl;
        has_edition = ap (λ (f : Edition). f.number) (sym k.known);
        has_parts = bays_made;
        first = chain_first s whole.0 (omega (arith, k.number.low));
        next = chain_next s whole.0;
        last = chain_last s whole.0;
        some_length = chain_some s whole.0;
        entries = let (t, q, b) = k.table in (t, table_length ∙ q, b);
      }
