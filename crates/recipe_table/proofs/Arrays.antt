-- A table and the array that holds it.
use mathlib.Core.Path.{◌∙◌, ◌≡◌, ap, refl, sym}
use mathlib.Core.Option.{some}
use mathlib.Core.List.{List, [], ◌++◌, ◌∷◌, map, map-append}
use Prim.Native.Nat.{◌*◌, ◌+◌, ◌-◌, ◌/◌, ◌<◌, ◌≤◌, suc, zero, ℕ}
use native.Mathlib.Numerals.{add-one}
use native.Mathlib.Omega.{arith}
use lib.ListN.{get_or-map, get_or, length, length-map, length-take, replicate, set, take}
use lib.Seq.{append_snoc, get_or-take, set_at, take_all, take_at, take-suc}
use Rattle.calculus.specs.Limits.{max_entries}
use Rattle.calculus.specs.Syntax.{at}
use Rattle.calculus.specs.Table as calculus
use Rattle.recipe_file.specs.File.{entry_length}
use Rattle.recipe_table.specs.declared.Entry.{Entry}
use Rattle.recipe_table.specs.Entries.{table_of}
use Rattle.recipe_table.specs.Filled.{unused, as_entry, by_value, as_table, filled}

-- the number of entries that the bytes say, and entry i of them
pub length_table_of : (l : List ℕ) → length (table_of l) ≡ length l / entry_length
unfolding table_of
length_table_of [] = refl
length_table_of (a ∷ []) = refl
length_table_of (a ∷ b ∷ []) = refl
length_table_of (a ∷ b ∷ c ∷ l) = let h = length_table_of l in omega arith

abbrev blank : calculus.Entry
blank = calculus.entry 0 0 0

pub table_of_at : (l : List ℕ) (i j : ℕ) → j ≡ 3 * i → i < length l / entry_length →
    get_or (table_of l) i blank ≡ calculus.entry (get_or l j 0) (get_or l (j + 1) 0) (get_or l (j + 2) 0)
unfolding table_of
table_of_at [] i j e h = absurd (omega arith)
table_of_at (a ∷ []) i j e h = absurd (omega arith)
table_of_at (a ∷ b ∷ []) i j e h = absurd (omega arith)
table_of_at (a ∷ b ∷ c ∷ l) zero j e h = let z : j ≡ 0 = omega arith in rw z refl
table_of_at (a ∷ b ∷ c ∷ l) (suc i) j e h =
    let z : j ≡ suc (suc (suc (3 * i))) = omega arith in
    let z₁ : j + 1 ≡ suc (suc (suc (3 * i + 1))) = omega arith in
    let z₂ : j + 2 ≡ suc (suc (suc (3 * i + 2))) = omega arith in
    rw (z₁, z₂, z) (table_of_at l i (3 * i) refl (omega arith))

-- the first i entries are there, and the rest is unused
unfoldable pub filled_to : calculus.Table → ℕ → List Entry
filled_to T i = map by_value (take i T) ++ replicate (max_entries - i) unused

pub filled_none : (T : calculus.Table) → replicate max_entries unused ≡ filled_to T 0
unfolding filled_to
filled_none T = refl

pub filled_more : (T : calculus.Table) (i : ℕ) (x : Entry) → i < length T → length T ≤ max_entries → by_value (get_or T i blank) ≡ x →
    set (filled_to T i) i x ≡ filled_to T (i + 1)
unfolding filled_to
filled_more T i x h b e =
    let k : max_entries - i ≡ suc (max_entries - (i + 1)) = omega arith in
    let n : length (map by_value (take i T)) ≡ i = length-map (take i T) by_value ∙ (length-take i T ∙ omega arith) in
    rw (k, add-one i, take-suc T i blank, map-append, e)
    (set_at (map by_value (take i T)) unused (replicate (max_entries - suc i) unused) x i n
    ∙ sym (append_snoc (map by_value (take i T)) x (replicate (max_entries - suc i) unused)))

pub filled_all : (T : calculus.Table) (i : ℕ) → i ≡ length T → filled_to T i ≡ filled T
unfolding filled_to filled
filled_all T i e = rw (e, take_all (length T) T (omega arith))

there_and_back : (T : calculus.Table) → map as_entry (map by_value T) ≡ T
there_and_back [] = refl
there_and_back (x ∷ T) = ap (λ (y : calculus.Table). x ∷ y) (there_and_back T)

-- the array gives the table back
pub as_table_filled : (T : calculus.Table) (count : ℕ) → count ≡ length T → as_table (filled T) count ≡ T
unfolding as_table filled
as_table_filled T count e =
    let n : length (map by_value T) ≡ count = length-map T by_value ∙ sym e in
    rw (take_at (map by_value T) (replicate (max_entries - length T) unused) count n) (there_and_back T)

at_getD : {A : Type 0} (l : List A) (i : ℕ) (d : A) → i < length l → at l i ≡ some (get_or l i d)
at_getD [] i d h = absurd (omega arith)
at_getD (a ∷ l) zero d h = refl
at_getD (a ∷ l) (suc i) d h = at_getD l i d (omega arith)

-- an array of entries as a table: its length, and what stands in it
module _ (a : List Entry) (count : ℕ) (h : count ≤ length a) where
  pub length_as_table : length (as_table a count) ≡ count
  unfolding as_table
  length_as_table = length-map (take count a) as_entry ∙ (length-take count a ∙ omega arith)

  pub entry_of : (i : ℕ) → i < count → get_or (as_table a count) i blank ≡ as_entry (get_or a i unused)
  unfolding as_table
  entry_of i l = get_or-map as_entry (take count a) i unused ∙ ap as_entry (get_or-take count a i unused l)

  -- entry i, as a reader of the table finds it
  pub entry_at : (i : ℕ) → i < count → at (as_table a count) i ≡ some (as_entry (get_or a i unused))
  entry_at i l = at_getD (as_table a count) i blank (rw length_as_table l) ∙ ap some (entry_of i l)
