-- Cause 4: the test passes exactly the tables that keep the rules, with the kinds that there are.
use Rattle.std.proofs.Common.{◌∙◌, ap, sym, arith}
use Rattle.std.specs.Prelude.{◌≡◌, refl, ◌↔◌, Bool, ◌&&◌, false, not, true, [], ◌∷◌, ◌+◌, ◌<◌, suc, zero, ℕ, eqb, ltb}
use Rattle.std.proofs.lemmas.Bool.{false≢true}
use Rattle.std.proofs.Math.Option.{Option, none-ne-some, some-injective, none, some}
use Rattle.calculus.specs.Syntax.{at}
use Rattle.calculus.specs.Table.{Entry, entry, Table, EntryRule, unit_rule, num_rule, cell_rule, once_rule, many_rule, once_pair_rule, many_pair_rule, once_list_rule, many_list_rule, is_once_kind, ManyEntry, TableRule, test_entry, is_many, entry_test, entry_stands, entries_test, same_entry, new_to, distinct_test, entry_is, table_test}
use Rattle.calculus.proofs.Theory.Tests.{and_true, and_parts, eqb_sound, eqb_complete, ltb_sound, ltb_complete}

-- multiplicity many of an entry
many_entry_sound : (T : Table) (p : ℕ) → is_many T p ≡ true → ManyEntry T p
unfolding is_many test_entry
many_entry_sound T p e = go (at T p) refl e
  where
    go : (o : Option Entry) → at T p ≡ o → test_entry o (λ kind p q. not (is_once_kind kind)) ≡ true → ManyEntry T p
    go none g e = absurd (false≢true e)
    go (some x) g e = (x, g, not_true (is_once_kind x.kind) e)
      where
        not_true : (b : Bool) → not b ≡ true → b ≡ false
        not_true true h = absurd (false≢true h)
        not_true false h = refl

many_entry_complete : (T : Table) (p : ℕ) → ManyEntry T p → is_many T p ≡ true
unfolding is_many test_entry
many_entry_complete T p (x, g, m) = rw (g, m)

-- one entry
entry_test_sound : (T : Table) (k kind p q : ℕ) → entry_test T k kind p q ≡ true → EntryRule T k kind p q
unfolding entry_test
entry_test_sound T k zero p q e = let (y, z) = and_parts (eqb p 0) (eqb q 0) e in rw (eqb_sound p 0 y, eqb_sound q 0 z) unit_rule
entry_test_sound T k (suc zero) p q e = let (y, z) = and_parts (eqb p 0) (eqb q 0) e in rw (eqb_sound p 0 y, eqb_sound q 0 z) num_rule
entry_test_sound T k (suc (suc zero)) p q e =
    let (l, z) = and_parts (ltb p k) (eqb q 0) e in rw (eqb_sound q 0 z) (cell_rule (ltb_sound p k l))
entry_test_sound T k (suc (suc (suc zero))) p q e =
    let (l, m) = and_parts (ltb p k) (ltb q k) e in once_rule (ltb_sound p k l) (ltb_sound q k m)
entry_test_sound T k (suc (suc (suc (suc zero)))) p q e =
    let (l, m) = and_parts (ltb p k) (ltb q k) e in many_rule (ltb_sound p k l) (ltb_sound q k m)
entry_test_sound T k (suc (suc (suc (suc (suc zero))))) p q e =
    let (l, m) = and_parts (ltb p k) (ltb q k) e in once_pair_rule (ltb_sound p k l) (ltb_sound q k m)
entry_test_sound T k (suc (suc (suc (suc (suc (suc zero)))))) p q e =
    let (lm, ww) = and_parts (ltb p k && ltb q k) (is_many T p && is_many T q) e in
    let (l, m) = and_parts (ltb p k) (ltb q k) lm in
    let (w, w') = and_parts (is_many T p) (is_many T q) ww in
    many_pair_rule (ltb_sound p k l) (ltb_sound q k m) (many_entry_sound T p w) (many_entry_sound T q w')
entry_test_sound T k (suc (suc (suc (suc (suc (suc (suc zero))))))) p q e =
    let (l, z) = and_parts (ltb p k) (eqb q 0) e in rw (eqb_sound q 0 z) (once_list_rule (ltb_sound p k l))
entry_test_sound T k (suc (suc (suc (suc (suc (suc (suc (suc zero)))))))) p q e =
    let (lz, w) = and_parts (ltb p k && eqb q 0) (is_many T p) e in
    let (l, z) = and_parts (ltb p k) (eqb q 0) lz in
    rw (eqb_sound q 0 z) (many_list_rule (ltb_sound p k l) (many_entry_sound T p w))
entry_test_sound T k (suc (suc (suc (suc (suc (suc (suc (suc (suc n))))))))) p q e = absurd (false≢true e)

entry_test_complete : {T : Table} {k kind p q : ℕ} → EntryRule T k kind p q → entry_test T k kind p q ≡ true
unfolding entry_test
entry_test_complete unit_rule = refl
entry_test_complete num_rule = refl
entry_test_complete {k = k} (cell_rule {p = p} l) = and_true (ltb_complete p k l) refl
entry_test_complete {k = k} (once_rule {p = p} {q = q} l m) = and_true (ltb_complete p k l) (ltb_complete q k m)
entry_test_complete {k = k} (many_rule {p = p} {q = q} l m) = and_true (ltb_complete p k l) (ltb_complete q k m)
entry_test_complete {k = k} (once_pair_rule {p = p} {q = q} l m) = and_true (ltb_complete p k l) (ltb_complete q k m)
entry_test_complete {T} {k} (many_pair_rule {p = p} {q = q} l m w w') =
    and_true (and_true (ltb_complete p k l) (ltb_complete q k m)) (and_true (many_entry_complete T p w) (many_entry_complete T q w'))
entry_test_complete {k = k} (once_list_rule {p = p} l) = and_true (ltb_complete p k l) refl
entry_test_complete {T} {k} (many_list_rule {p = p} l w) = and_true (and_true (ltb_complete p k l) refl) (many_entry_complete T p w)

same_entry_sound : (x y : Entry) → same_entry x y ≡ true → x ≡ y
unfolding same_entry
same_entry_sound x y e =
    let (a, f) = and_parts (eqb x.kind y.kind) _ e in
    let (b, c) = and_parts (eqb x.p y.p) (eqb x.q y.q) f in
    λ i. record { kind = eqb_sound x.kind y.kind a i; p = eqb_sound x.p y.p b i; q = eqb_sound x.q y.q c i }

same_entry_refl : (x : Entry) → same_entry x x ≡ true
unfolding same_entry
same_entry_refl x = and_true (eqb_complete x.kind x.kind refl) (and_true (eqb_complete x.p x.p refl) (eqb_complete x.q x.q refl))

-- an entry's kind and its rule
entry_stands_sound : (kinds : ℕ) (T : Table) (k : ℕ) (x : Entry) → entry_stands kinds T k x ≡ true → (x.kind < kinds) × EntryRule T k x.kind x.p x.q
unfolding entry_stands
entry_stands_sound kinds T k x e =
    let (b, c) = and_parts (ltb x.kind kinds) _ e in
    (ltb_sound x.kind kinds b, entry_test_sound T k x.kind x.p x.q c)

entry_stands_complete : (kinds : ℕ) (T : Table) (k : ℕ) (x : Entry) → x.kind < kinds → EntryRule T k x.kind x.p x.q → entry_stands kinds T k x ≡ true
unfolding entry_stands
entry_stands_complete kinds T k x b r = and_true (ltb_complete x.kind kinds b) (entry_test_complete r)

-- each entry
entries_test_sound : (test : ℕ → Entry → Bool) (k : ℕ) (T : Table) → entries_test test k T ≡ true → (i j : ℕ) (x : Entry) → at T i ≡ some x → j ≡ k + i → test j x ≡ true
unfolding entries_test
entries_test_sound test k [] e i j x g s = absurd (none-ne-some x g)
entries_test_sound test k (y ∷ T) e zero j x g s =
    let (a, r) = and_parts (test k y) (entries_test test (suc k) T) e in
    let z : k ≡ j = omega arith in
    rw (← (some-injective y x g), ← z) a
entries_test_sound test k (y ∷ T) e (suc i) j x g s =
    entries_test_sound test (suc k) T (and_parts (test k y) (entries_test test (suc k) T) e).1 i j x g (omega arith)

entries_test_complete : (test : ℕ → Entry → Bool) (k : ℕ) (T : Table) → ((i j : ℕ) (x : Entry) → at T i ≡ some x → j ≡ k + i → test j x ≡ true) → entries_test test k T ≡ true
unfolding entries_test
entries_test_complete test k [] h = refl
entries_test_complete test k (y ∷ T) h =
    and_true (h 0 k y refl (omega arith)) (entries_test_complete test (suc k) T (λ i j x g s. h (suc i) j x g (omega arith)))

new_to_sound : (y : Entry) (T : Table) → new_to y T ≡ true → (j : ℕ) → at T j ≡ some y → ⊥
unfolding new_to
new_to_sound y [] e j g = none-ne-some y g
new_to_sound y (z ∷ T) e zero g =
    let (a, r) = and_parts (not (same_entry y z)) (new_to y T) e in
    false≢true (rw (some-injective z y g, same_entry_refl y) at a)
new_to_sound y (z ∷ T) e (suc j) g = new_to_sound y T (and_parts (not (same_entry y z)) (new_to y T) e).1 j g

new_to_complete : (y : Entry) (T : Table) → ((j : ℕ) → at T j ≡ some y → ⊥) → new_to y T ≡ true
unfolding new_to
new_to_complete y [] h = refl
new_to_complete y (z ∷ T) h = and_true (go (same_entry y z) refl) (new_to_complete y T (λ j. h (suc j)))
  where
    go : (t : Bool) → same_entry y z ≡ t → not t ≡ true
    go true e = absurd (h 0 (ap some (sym (same_entry_sound y z e))))
    go false e = refl

distinct_test_sound : (T : Table) → distinct_test T ≡ true → (i j : ℕ) (x : Entry) → at T i ≡ some x → at T j ≡ some x → i ≡ j
unfolding distinct_test
distinct_test_sound [] e i j x g g' = absurd (none-ne-some x g)
distinct_test_sound (y ∷ T) e zero zero x g g' = refl
distinct_test_sound (y ∷ T) e zero (suc j) x g g' =
    absurd (new_to_sound y T (and_parts (new_to y T) (distinct_test T) e).0 j (g' ∙ sym g))
distinct_test_sound (y ∷ T) e (suc i) zero x g g' =
    absurd (new_to_sound y T (and_parts (new_to y T) (distinct_test T) e).0 i (g ∙ sym g'))
distinct_test_sound (y ∷ T) e (suc i) (suc j) x g g' = ap suc (distinct_test_sound T (and_parts (new_to y T) (distinct_test T) e).1 i j x g g')

distinct_test_complete : (T : Table) → ((i j : ℕ) (x : Entry) → at T i ≡ some x → at T j ≡ some x → i ≡ j) → distinct_test T ≡ true
unfolding distinct_test
distinct_test_complete [] h = refl
distinct_test_complete (y ∷ T) h =
    and_true (new_to_complete y T (λ j g. let z : 0 ≡ suc j = h 0 (suc j) y refl g in omega arith))
    (distinct_test_complete T (λ i j x g g'. let z : suc i ≡ suc j = h (suc i) (suc j) x g g' in omega arith))

entry_is_sound : (T : Table) (k : ℕ) (x : Entry) → entry_is T k x ≡ true → at T k ≡ some x
unfolding entry_is test_entry
entry_is_sound T k x e = go (at T k) e
  where
    go : (o : Option Entry) → test_entry o (λ kind p q. same_entry (entry kind p q) x) ≡ true → o ≡ some x
    go none e = absurd (false≢true e)
    go (some y) e = ap some (same_entry_sound y x e)

entry_is_complete : (T : Table) (k : ℕ) (x : Entry) → at T k ≡ some x → entry_is T k x ≡ true
unfolding entry_is test_entry
entry_is_complete T k x g = rw g (same_entry_refl x)

-- the kinds of a table are among the first `kinds`
abbrev pub KindsBelow : ℕ → Table → Type 0
KindsBelow kinds T = (k : ℕ) (x : Entry) → at T k ≡ some x → x.kind < kinds

pub table_test_iff : (kinds : ℕ) (T : Table) → (table_test kinds T ≡ true) ↔ (KindsBelow kinds T × TableRule T)
unfolding table_test
table_test_iff kinds T = (there, λ (b, r). back b r)
  where
    there : table_test kinds T ≡ true → KindsBelow kinds T × TableRule T
    there e =
        let (a, e₁) = and_parts (entries_test (entry_stands kinds T) 0 T) _ e in
        let (b, e₂) = and_parts (distinct_test T) _ e₁ in
        let (c, e₃) = and_parts (entry_is T 0 (entry 0 0 0)) _ e₂ in
        let (d, f) = and_parts (entry_is T 1 (entry 1 0 0)) _ e₃ in (
          λ k x g. (entry_stands_sound kinds T k x (entries_test_sound _ 0 T a k k x g (omega arith))).0,
          record {
            each = λ k x g. (entry_stands_sound kinds T k x (entries_test_sound _ 0 T a k k x g (omega arith))).1;
            unit_first = entry_is_sound T 0 (entry 0 0 0) c;
            num_second = entry_is_sound T 1 (entry 1 0 0) d;
            cell_third = entry_is_sound T 2 (entry 2 1 0) f;
            distinct = distinct_test_sound T b;
          },
        )

    back : KindsBelow kinds T → TableRule T → table_test kinds T ≡ true
    back b R =
        and_true (entries_test_complete _ 0 T (λ i j x g s. let z : i ≡ j = omega arith in rw (← z) (entry_stands_complete kinds T i x (b i x g) (R.each i x g))))
        (and_true (distinct_test_complete T R.distinct)
        (and_true (entry_is_complete T 0 (entry 0 0 0) R.unit_first)
        (and_true (entry_is_complete T 1 (entry 1 0 0) R.num_second) (entry_is_complete T 2 (entry 2 1 0) R.cell_third))))
