-- A test of all entries, by a loop from the last entry down. The test is `from i` of what is left from place i on.
use mathlib.Core.Path.{◌∙◌, ◌≡◌, refl}
use mathlib.Core.Bool.{Bool, ◌&&◌, and-false, false, not, true}
use mathlib.Core.List.{List, [], ◌∷◌}
use Prim.Native.Nat.{◌+◌, ◌<◌, ◌≤◌, suc, zero, ℕ}
use native.Mathlib.Numerals.{add-one}
use native.Mathlib.Omega.{arith}
use lib.ListN.{drop, drop_of_length-le, get_or, length}
use lib.Seq.{drop-cons}
use Rattle.calculus.specs.Table as calculus
use Rattle.recipe_table.specs.declared.Entry.{Entry}
use Rattle.recipe_table.specs.Filled.{unused, as_entry, as_table}
use Rattle.recipe_table.proofs.Arrays.{length_as_table, entry_of}

-- a test that fails from a place on fails
pub fails_from : (from test : ℕ → Bool) (count : ℕ) → ((i : ℕ) → i < count → from i ≡ (test i && from (i + 1))) → (i : ℕ) → i ≤ count → from i ≡ false → from 0 ≡ false
fails_from from test count turn zero l e = e
fails_from from test count turn (suc i) l e = fails_from from test count turn i (omega arith) (turn i (omega arith) ∙ rw (add-one i, e) (and-false (test i)))

-- the three tests of a table
unfoldable pub entries_from : ℕ → calculus.Table → ℕ → Bool
entries_from kinds T i = calculus.entries_test (calculus.entry_stands kinds T) i (drop i T)

unfoldable pub new_from : calculus.Entry → calculus.Table → ℕ → Bool
new_from x T i = calculus.new_to x (drop i T)

unfoldable pub distinct_from : calculus.Table → ℕ → Bool
distinct_from T i = calculus.distinct_test (drop i T)

module _ (a : List Entry) (count : ℕ) (h : count ≤ length a) where
  next : (i : ℕ) → i < count → drop i (as_table a count) ≡ as_entry (get_or a i unused) ∷ drop (i + 1) (as_table a count)
  next i l =
      let k : i < length (as_table a count) = rw (length_as_table a count h) l in
      rw (add-one i, drop-cons (as_table a count) i (calculus.entry 0 0 0), entry_of a count h i l) refl

  pub entries_turn : (kinds i : ℕ) → i < count → entries_from kinds (as_table a count) i
      ≡ (calculus.entry_stands kinds (as_table a count) i (as_entry (get_or a i unused)) && entries_from kinds (as_table a count) (i + 1))
  unfolding entries_from calculus.entries_test
  entries_turn kinds i l = rw (next i l, add-one i) refl

  pub new_turn : (x : calculus.Entry) (i : ℕ) → i < count → new_from x (as_table a count) i
      ≡ (not (calculus.same_entry x (as_entry (get_or a i unused))) && new_from x (as_table a count) (i + 1))
  unfolding new_from calculus.new_to
  new_turn x i l = rw (next i l) refl

  pub distinct_turn : (i : ℕ) → i < count → distinct_from (as_table a count) i
      ≡ (calculus.new_to (as_entry (get_or a i unused)) (drop (i + 1) (as_table a count)) && distinct_from (as_table a count) (i + 1))
  unfolding distinct_from calculus.distinct_test
  distinct_turn i l = rw (next i l) refl

  none_left : drop count (as_table a count) ≡ []
  none_left = drop_of_length-le (as_table a count) {i = count} (rw (length_as_table a count h) (omega arith))

  pub entries_done : (kinds : ℕ) → entries_from kinds (as_table a count) count ≡ true
  unfolding entries_from calculus.entries_test
  entries_done kinds = rw none_left refl

  pub new_done : (x : calculus.Entry) → new_from x (as_table a count) count ≡ true
  unfolding new_from calculus.new_to
  new_done x = rw none_left refl

  pub distinct_done : distinct_from (as_table a count) count ≡ true
  unfolding distinct_from calculus.distinct_test
  distinct_done = rw none_left refl
