-- Keys are equal where entries are, so that the search among keys is the search among entries.
use mathlib.Core.Path.{◌≡◌, ap, ap₂, refl, sym, ◌∙◌}
use mathlib.Core.Bool.{Bool, ◌&&◌, and_assoc, and-true, false, false≢true, not, true}
use mathlib.Core.List.{List}
use Prim.Native.Nat.{◌+◌, ◌-◌, ◌<◌, ◌≤◌, suc, zero, ℕ}
use native.Mathlib.Numerals.{add-one}
use native.Mathlib.Omega.{arith}
use borrow.Author.Tests.{ne_eqb}
use lib.Dec.{eqb}
use lib.ListN.{drop, get_or, length, length-set, set}
use lib.Seq.{get_or-set_other, get_or-set_same}
use Rattle.calculus.specs.Limits.{max_entries}
use Rattle.calculus.specs.Table as calculus
use Rattle.calculus.proofs.Theory.Tests.{and_parts, eqb_sound, eqb_complete, equal_from}
use Rattle.recipe_table.specs.declared.Entry.{Entry}
use Rattle.recipe_table.specs.Filled.{unused, as_entry, as_table}
use Rattle.recipe_table.specs.Keys.{absent, Coded, mark_of, Marked, marks_room}
use Rattle.recipe_table.proofs.Turns.{distinct_done, distinct_from, distinct_turn, fails_from, new_done, new_from, new_turn}

-- two keys
key_same : {x y : calculus.Entry} {k m : ℕ} → Coded x k → Coded y m → eqb m k ≡ calculus.same_entry x y
unfolding calculus.same_entry
key_same {x} {y} {k} {m} c d = equal_from _ _ there back
  where
    there : eqb m k ≡ true → (eqb x.kind y.kind && (eqb x.p y.p && eqb x.q y.q)) ≡ true
    there e =
        let z = eqb_sound m k e in
        let q : x.q ≡ y.q = omega (arith, z, c.code, d.code, c.kind, d.kind, c.p, d.p) in
        let p : x.p ≡ y.p = omega (arith, z, c.code, d.code, c.kind, d.kind, c.p, d.p) in
        let n : x.kind ≡ y.kind = omega (arith, z, c.code, d.code, c.kind, d.kind, c.p, d.p) in
        rw (eqb_complete x.kind y.kind n, eqb_complete x.p y.p p, eqb_complete x.q y.q q) refl

    back : (eqb x.kind y.kind && (eqb x.p y.p && eqb x.q y.q)) ≡ true → eqb m k ≡ true
    back e =
        let (n, r) = and_parts (eqb x.kind y.kind) _ e in
        let (p, q) = and_parts (eqb x.p y.p) _ r in
        let n' = eqb_sound x.kind y.kind n in
        let p' = eqb_sound x.p y.p p in
        let q' = eqb_sound x.q y.q q in
        eqb_complete m k (omega (arith, n', p', q', c.code, d.code))

-- the keys from place i on are those of the entries
pub record Keyed (a : List Entry) (count : ℕ) (keys : List ℕ) (i : ℕ) : Type 0 where
  pub inside : i ≤ count
  pub few : count ≤ max_entries
  pub room : length keys ≡ max_entries
  pub each : (j : ℕ) → i ≤ j → j < count → Coded (as_entry (get_or a j unused)) (get_or keys j 0)
  pub distinct : distinct_from (as_table a count) i ≡ true

pub keyed_before : {a : List Entry} {count : ℕ} {keys : List ℕ} {i : ℕ} → Keyed a count keys i → 0 < i → Keyed a count keys (i - 1 + 1)
keyed_before {i = i} w l = let z : i - 1 + 1 ≡ i = omega arith in rw z w

module _ (a : List Entry) (count : ℕ) (h : count ≤ length a) where
  pub keyed_none : (keys : List ℕ) → count ≤ max_entries → length keys ≡ max_entries → Keyed a count keys count
  keyed_none keys few r = record { inside = omega arith; few = few; room = r; each = λ j low high. absurd (omega arith); distinct = distinct_done a count h }

  -- where an entry stands again, the table fails
  fails : (i : ℕ) → i ≤ count → distinct_from (as_table a count) i ≡ false → false ≡ calculus.distinct_test (as_table a count)
  unfolding distinct_from
  fails i l e = sym (fails_from (distinct_from (as_table a count)) (λ j. calculus.new_to (as_entry (get_or a j unused)) (drop (j + 1) (as_table a count))) count (distinct_turn a count h) i l e)

  -- the search among keys
  search_is : (keys : List ℕ) (x : calculus.Entry) (k : ℕ) → Coded x k → (n j : ℕ) → j + n ≡ count
      → ((i : ℕ) → j ≤ i → i < count → Coded (as_entry (get_or a i unused)) (get_or keys i 0)) → absent k keys j n ≡ new_from x (as_table a count) j
  unfolding absent
  search_is keys x k c zero j e f = let z : j ≡ count = omega arith in rw z (sym (new_done a count h x))
  search_is keys x k c (suc n) j e f =
      ap₂ ◌&&◌ (ap not (key_same c (f j (omega arith) (omega arith)))) (search_is keys x k c n (suc j) (omega arith) (λ i low high. f i (omega arith) high))
      ∙ sym (rw (add-one j) at (new_turn a count h x j (omega arith)))

  module _ (keys : List ℕ) (i : ℕ) (w : Keyed a count keys (i + 1)) {key : ℕ} (c : Coded (as_entry (get_or a i unused)) key)
      {t : Bool} (e : t ≡ absent key keys (i + 1) (count - (i + 1))) where
    decides : distinct_from (as_table a count) i ≡ t
    unfolding new_from
    decides = rw (e, search_is keys (as_entry (get_or a i unused)) key c (count - (i + 1)) (i + 1) (omega (arith, w.inside)) w.each)
        (distinct_turn a count h i (omega (arith, w.inside)) ∙ rw w.distinct (and-true _))

    pub keyed_twice : t ≡ false → false ≡ calculus.distinct_test (as_table a count)
    keyed_twice z = fails i (omega (arith, w.inside)) (decides ∙ z)

    pub keyed_more : t ≡ true → Keyed a count (set keys i key) i
    keyed_more z = record {
      inside = omega (arith, w.inside);
      few = w.few;
      room = length-set keys i key ∙ w.room;
      each = λ j low high. go j low high (eqb j i) refl;
      distinct = decides ∙ z;
    }
      where
        go : (j : ℕ) → i ≤ j → j < count → (b : Bool) → eqb j i ≡ b → Coded (as_entry (get_or a j unused)) (get_or (set keys i key) j 0)
        go j low high true q = let z : j ≡ i = eqb_sound j i q in rw (z, get_or-set_same keys i key 0 (omega (arith, w.few, w.room))) c
        go j low high false q =
            let other : ¬ (j ≡ i) = λ z. false≢true (sym q ∙ eqb_complete j i z) in
            rw (get_or-set_other keys i j key 0 other) (w.each j (omega (arith, other)) high)

-- a turn of the search
pub absent_turn : (key : ℕ) (keys : List ℕ) (count j : ℕ) (fresh t next : Bool) → j < count → t ≡ not (eqb (get_or keys j 0) key) → next ≡ (fresh && t)
    → (next && absent key keys (j + 1) (count - (j + 1))) ≡ (fresh && absent key keys j (count - j))
unfolding absent
absent_turn key keys count j fresh t next l e f =
    let z : count - j ≡ suc (count - (j + 1)) = omega arith in
    rw (z, f, e, add-one j) (and_assoc fresh (not (eqb (get_or keys j 0) key)) (absent key keys (suc j) (count - suc j)))

pub absent_done : (key : ℕ) (keys : List ℕ) (count j : ℕ) (fresh : Bool) → count ≤ j → (fresh && absent key keys j (count - j)) ≡ fresh
unfolding absent
absent_done key keys count j fresh l = let z : count - j ≡ 0 = omega arith in rw z (and-true fresh)

-- a key without a mark is none of those with theirs
pub unmarked : {keys : List ℕ} {marks : List Bool} {from count : ℕ} → Marked keys marks from count → (key : ℕ) → get_or marks (mark_of key) false ≡ false
    → (n j : ℕ) → from ≤ j → j + n ≡ count → absent key keys j n ≡ true
unfolding absent
unmarked w key e zero j l f = refl
unmarked {keys} {marks} w key e (suc n) j l f =
    let other : ¬ (get_or keys j 0 ≡ key) = λ z. false≢true (sym e ∙ (rw z at (w.each j l (omega arith)))) in
    rw (ne_eqb (get_or keys j 0) key other) (unmarked w key e n (suc j) (omega arith) (omega arith))

pub marked_none : (keys : List ℕ) (marks : List Bool) (count : ℕ) → length marks ≡ marks_room → Marked keys marks count count
marked_none keys marks count r = record { room = r; each = λ j low high. absurd (omega arith) }

pub marked_before : {keys : List ℕ} {marks : List Bool} {i count : ℕ} → Marked keys marks i count → 0 < i → Marked keys marks (i - 1 + 1) count
marked_before {i = i} w l = let z : i - 1 + 1 ≡ i = omega arith in rw z w

-- the key of one entry more, and its mark
pub marked_more : (keys : List ℕ) (marks : List Bool) (i count key : ℕ) → i < length keys → mark_of key < marks_room → Marked keys marks (i + 1) count
    → Marked (set keys i key) (set marks (mark_of key) true) i count
marked_more keys marks i count key inside there w = record { room = length-set marks (mark_of key) true ∙ w.room; each = λ j low high. go j low high (eqb j i) refl }
  where
    here : get_or (set marks (mark_of key) true) (mark_of key) false ≡ true
    here = get_or-set_same marks (mark_of key) true false (omega (arith, there, w.room))

    kept : (m : ℕ) → get_or marks m false ≡ true → (b : Bool) → eqb m (mark_of key) ≡ b → get_or (set marks (mark_of key) true) m false ≡ true
    kept m e true q = rw (eqb_sound m (mark_of key) q) here
    kept m e false q = get_or-set_other marks (mark_of key) m true false (λ z. false≢true (sym q ∙ eqb_complete m (mark_of key) z)) ∙ e

    go : (j : ℕ) → i ≤ j → j < count → (b : Bool) → eqb j i ≡ b → get_or (set marks (mark_of key) true) (mark_of (get_or (set keys i key) j 0)) false ≡ true
    go j low high true q = let z : j ≡ i = eqb_sound j i q in rw (z, get_or-set_same keys i key 0 inside) here
    go j low high false q =
        let other : ¬ (j ≡ i) = λ z. false≢true (sym q ∙ eqb_complete j i z) in
        rw (get_or-set_other keys i j key 0 other) (kept (mark_of (get_or keys j 0)) (w.each j (omega (arith, other)) high) (eqb (mark_of (get_or keys j 0)) (mark_of key)) refl)

-- all entries are passed
pub keyed_done : {a : List Entry} {count : ℕ} {keys : List ℕ} {i : ℕ} → Keyed a count keys i → i ≤ 0 → calculus.distinct_test (as_table a count) ≡ true
unfolding distinct_from
keyed_done {i = i} w l = let z : i ≡ 0 = omega arith in rw z at w.distinct
