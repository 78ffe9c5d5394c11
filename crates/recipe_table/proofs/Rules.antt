-- The rule of an entry by its kind, and the rules of a table, by the tests that led to an answer.
use mathlib.Core.Path.{◌∙◌, ◌≡◌, refl, sym}
use mathlib.Core.Bool.{Bool, ◌&&◌, and_assoc, and-false, and-true, false, true}
use mathlib.Core.List.{List}
use Prim.Native.Nat.{◌+◌, ◌-◌, ◌<◌, ◌≤◌, suc, zero, ℕ}
use native.Mathlib.Omega.{arith}
use borrow.Author.Tests.{eq-eqb, le-ltb, lt-ltb, ne_eqb}
use lib.Dec.{eqb, ltb}
use lib.ListN.{get_or, length}
use Rattle.calculus.specs.Kinds.{num_type_kind, cell_type_kind, many_pair_kind, many_list_kind, unit_entry, num_entry, setting_entry}
use Rattle.calculus.specs.Limits.{min_entries}
use Rattle.calculus.specs.Table as calculus
use Rattle.calculus.proofs.Theory.Tests.{and_parts, eqb_sound, ltb_sound}
use Rattle.recipe_table.specs.declared.Entry.{Entry}
use Rattle.recipe_table.specs.Filled.{unused, as_entry, as_table, stands_at, first_three}
use Rattle.recipe_table.specs.Rules.{names_test, many_entry, contents_test}
use Rattle.recipe_table.proofs.Arrays.{entry_at}
use Rattle.recipe_table.proofs.Turns.{entries_from, entries_turn, fails_from}

-- p and q, by the kind
plain : (k kind p q : ℕ) → kind ≤ num_type_kind → names_test k kind p q ≡ (eqb p 0 && eqb q 0)
unfolding names_test
plain k zero p q h = refl
plain k (suc zero) p q h = refl
plain k (suc (suc kind)) p q h = absurd (omega arith)

cell : (k kind p q : ℕ) → kind ≡ cell_type_kind → names_test k kind p q ≡ (ltb p k && eqb q 0)
unfolding names_test
cell k kind p q h = rw h refl

two : (k kind p q : ℕ) → num_type_kind < kind → (kind ≡ cell_type_kind → ⊥) → kind ≤ many_pair_kind → names_test k kind p q ≡ (ltb p k && ltb q k)
unfolding names_test
two k zero p q h f b = absurd (omega arith)
two k (suc zero) p q h f b = absurd (omega arith)
two k (suc (suc zero)) p q h f b = absurd (f refl)
two k (suc (suc (suc zero))) p q h f b = refl
two k (suc (suc (suc (suc zero)))) p q h f b = refl
two k (suc (suc (suc (suc (suc zero))))) p q h f b = refl
two k (suc (suc (suc (suc (suc (suc zero)))))) p q h f b = refl
two k (suc (suc (suc (suc (suc (suc (suc kind))))))) p q h f b = absurd (omega arith)

list : (k n p q : ℕ) → suc n ≤ 2 → names_test k (suc (suc (suc (suc (suc (suc (suc n))))))) p q ≡ (ltb p k && eqb q 0)
unfolding names_test
list k zero p q b = refl
list k (suc zero) p q b = refl
list k (suc (suc n)) p q b = absurd (omega arith)

none : (k n p q : ℕ) → 2 ≤ n → names_test k (suc (suc (suc (suc (suc (suc (suc n))))))) p q ≡ false
unfolding names_test
none k zero p q b = absurd (omega arith)
none k (suc zero) p q b = absurd (omega arith)
none k (suc (suc n)) p q b = refl

-- a kind past those of pairs
past_pairs : (kind : ℕ) → many_pair_kind < kind → (n : ℕ) × (kind ≡ suc (suc (suc (suc (suc (suc (suc n)))))))
past_pairs kind h = (kind - 7, omega arith)

module _ (k kind p q : ℕ) where
  pub plain_zero : kind ≤ num_type_kind → p ≡ 0 → eqb q 0 ≡ names_test k kind p q
  plain_zero h e = sym (plain k kind p q h ∙ rw (eq-eqb p 0 e) refl)

  pub plain_not : kind ≤ num_type_kind → (p ≡ 0 → ⊥) → eqb p 0 ≡ names_test k kind p q
  plain_not h e = ne_eqb p 0 e ∙ sym (plain k kind p q h ∙ rw (ne_eqb p 0 e) refl)

  pub cell_below : kind ≡ cell_type_kind → p < k → eqb q 0 ≡ names_test k kind p q
  cell_below h e = sym (cell k kind p q h ∙ rw (lt-ltb p k e) refl)

  pub cell_not : kind ≡ cell_type_kind → k ≤ p → ltb p k ≡ names_test k kind p q
  cell_not h e = le-ltb p k e ∙ sym (cell k kind p q h ∙ rw (le-ltb p k e) refl)

  module _ (h : num_type_kind < kind) (f : kind ≡ cell_type_kind → ⊥) (b : kind ≤ many_pair_kind) where
    pub two_below : p < k → ltb q k ≡ names_test k kind p q
    two_below e = sym (two k kind p q h f b ∙ rw (lt-ltb p k e) refl)

    pub two_not : k ≤ p → ltb p k ≡ names_test k kind p q
    two_not e = le-ltb p k e ∙ sym (two k kind p q h f b ∙ rw (le-ltb p k e) refl)

  module _ (h : many_pair_kind < kind) where
    one : kind ≤ many_list_kind → names_test k kind p q ≡ (ltb p k && eqb q 0)
    one b = let (n, e) = past_pairs kind h in rw e (list k n p q (omega arith))

    pub list_zero : kind ≤ many_list_kind → q ≡ 0 → ltb p k ≡ names_test k kind p q
    list_zero b e = sym (one b ∙ rw (eq-eqb q 0 e) (and-true (ltb p k)))

    pub list_not : kind ≤ many_list_kind → (q ≡ 0 → ⊥) → eqb q 0 ≡ names_test k kind p q
    list_not b e = ne_eqb q 0 e ∙ sym (one b ∙ rw (ne_eqb q 0 e) (and-false (ltb p k)))

    pub unknown : many_list_kind < kind → false ≡ names_test k kind p q
    unknown b = let (n, e) = past_pairs kind h in rw e (sym (none k n p q (omega arith)))

-- the contents, by the kind
module _ (kind : ℕ) (m m' : Bool) where
  pair_contents : kind ≡ many_pair_kind → contents_test kind m m' ≡ (m && m')
  unfolding contents_test
  pair_contents e = rw (eq-eqb kind many_pair_kind e) refl

  module _ (e : kind ≡ many_pair_kind) {t : Bool} (is : t ≡ m) where
    pub pair_contents_first : t ≡ false → t ≡ contents_test kind m m'
    pair_contents_first f = f ∙ sym (pair_contents e ∙ rw (← is, f) refl)

    pub pair_contents_second : t ≡ true → {u : Bool} → u ≡ m' → u ≡ contents_test kind m m'
    pair_contents_second f is' = is' ∙ sym (pair_contents e ∙ rw (← is, f) refl)

  module _ (f : kind ≡ many_pair_kind → ⊥) where
    pub list_contents : kind ≡ many_list_kind → contents_test kind m m' ≡ m
    unfolding contents_test
    list_contents e = rw (ne_eqb kind many_pair_kind f, eq-eqb kind many_list_kind e) refl

    pub other_contents : (kind ≡ many_list_kind → ⊥) → contents_test kind m m' ≡ true
    unfolding contents_test
    other_contents g = rw (ne_eqb kind many_pair_kind f, ne_eqb kind many_list_kind g) refl

-- the calculus's rule is the two tests
in_two : (T : calculus.Table) (k kind p q : ℕ) → calculus.entry_test T k kind p q ≡ (names_test k kind p q && contents_test kind (calculus.is_many T p) (calculus.is_many T q))
unfolding calculus.entry_test names_test contents_test
in_two T k zero p q = sym (and-true _)
in_two T k (suc zero) p q = sym (and-true _)
in_two T k (suc (suc zero)) p q = sym (and-true _)
in_two T k (suc (suc (suc zero))) p q = sym (and-true _)
in_two T k (suc (suc (suc (suc zero)))) p q = sym (and-true _)
in_two T k (suc (suc (suc (suc (suc zero))))) p q = sym (and-true _)
in_two T k (suc (suc (suc (suc (suc (suc zero)))))) p q = refl
in_two T k (suc (suc (suc (suc (suc (suc (suc zero))))))) p q = sym (and-true _)
in_two T k (suc (suc (suc (suc (suc (suc (suc (suc zero)))))))) p q = refl
in_two T k (suc (suc (suc (suc (suc (suc (suc (suc (suc n))))))))) p q = refl

-- the kind is one of the edition's, or not
module _ (kinds kind : ℕ) (t : Bool) where
  pub kind_known : kind < kinds → {r : Bool} → r ≡ t → r ≡ (ltb kind kinds && t)
  kind_known h e = rw (lt-ltb kind kinds h) e

  pub kind_not : kinds ≤ kind → false ≡ (ltb kind kinds && t)
  kind_not h = rw (le-ltb kind kinds h) refl

-- an entry below `count` is many in the table as it is in the array
many_at : (a : List Entry) (count : ℕ) (h : count ≤ length a) (p : ℕ) → p < count → calculus.is_many (as_table a count) p ≡ many_entry (get_or a p unused)
unfolding calculus.is_many calculus.test_entry
many_at a count h p l = rw (entry_at a count h p l) refl

-- names that stand are those of entries before k, so that the contents may be asked of the array
contents_at : (a : List Entry) (count : ℕ) (h : count ≤ length a) (k kind p q : ℕ) → k < count → names_test k kind p q ≡ true
    → contents_test kind (calculus.is_many (as_table a count) p) (calculus.is_many (as_table a count) q) ≡ contents_test kind (many_entry (get_or a p unused)) (many_entry (get_or a q unused))
unfolding names_test contents_test
contents_at a count h k kind p q l n = go (eqb kind many_pair_kind) refl (eqb kind many_list_kind) refl
  where
    go : (b : Bool) → eqb kind many_pair_kind ≡ b → (b' : Bool) → eqb kind many_list_kind ≡ b'
        → contents_test kind (calculus.is_many (as_table a count) p) (calculus.is_many (as_table a count) q) ≡ contents_test kind (many_entry (get_or a p unused)) (many_entry (get_or a q unused))
    go true e b' e' =
        let is : kind ≡ many_pair_kind = eqb_sound kind many_pair_kind e in
        let (x, y) = and_parts (ltb p k) (ltb q k) (rw is at n) in
        let u : p < k = ltb_sound p k x in
        let w : q < k = ltb_sound q k y in
        rw (many_at a count h p (omega arith), many_at a count h q (omega arith)) refl
    go false e true e' =
        let is : kind ≡ many_list_kind = eqb_sound kind many_list_kind e' in
        let (x, y) = and_parts (ltb p k) (eqb q 0) (rw is at n) in
        let u : p < k = ltb_sound p k x in
        rw (e, e', many_at a count h p (omega arith)) refl
    go false e false e' = rw (e, e') refl

-- each entry keeps its rule and no two are equal
abbrev entries_pass : ℕ → List Entry → ℕ → Bool
entries_pass kinds a count = calculus.entries_test (calculus.entry_stands kinds (as_table a count)) 0 (as_table a count) && calculus.distinct_test (as_table a count)

-- an entry that keeps its rule, or does not, before those that do
module _ (kinds : ℕ) (a : List Entry) (count : ℕ) (h : count ≤ length a) where
  -- entry i keeps its rule; its kind, p and q do; what it holds does
  abbrev keeps : ℕ → Bool
  keeps i = calculus.entry_stands kinds (as_table a count) i (as_entry (get_or a i unused))

  abbrev named : ℕ → Bool
  named i = ltb (get_or a i unused).kind kinds && names_test i (get_or a i unused).kind (get_or a i unused).p (get_or a i unused).q

  abbrev holds : ℕ → Bool
  holds i = contents_test (get_or a i unused).kind (many_entry (get_or a (get_or a i unused).p unused)) (many_entry (get_or a (get_or a i unused).q unused))

  module _ (i : ℕ) (l : i < count) where
    both_tests : keeps i ≡ (named i && contents_test (get_or a i unused).kind (calculus.is_many (as_table a count) (get_or a i unused).p) (calculus.is_many (as_table a count) (get_or a i unused).q))
    unfolding calculus.entry_stands
    both_tests = rw (in_two (as_table a count) i (get_or a i unused).kind (get_or a i unused).p (get_or a i unused).q) (sym (and_assoc (ltb (get_or a i unused).kind kinds) _ _))

    broken : keeps i ≡ false → false ≡ entries_pass kinds a count
    unfolding entries_from
    broken f =
        let z : entries_from kinds (as_table a count) i ≡ false = entries_turn a count h kinds i l ∙ rw f refl in
        rw (fails_from (entries_from kinds (as_table a count)) keeps count (entries_turn a count h kinds) i (omega arith) z) refl

    module _ {t : Bool} (e : t ≡ named i) where
      pub names_broken : t ≡ false → false ≡ entries_pass kinds a count
      names_broken f = broken (both_tests ∙ rw (← e, f) refl)

      module _ (f : t ≡ true) {u : Bool} (e' : u ≡ holds i) where
        decided : keeps i ≡ u
        decided =
            let g : named i ≡ true = sym e ∙ f in
            let (x, y) = and_parts (ltb (get_or a i unused).kind kinds) _ g in
            both_tests ∙ rw (g, e') (contents_at a count h i (get_or a i unused).kind (get_or a i unused).p (get_or a i unused).q l y)

        pub contents_broken : u ≡ false → false ≡ entries_pass kinds a count
        contents_broken z = broken (decided ∙ z)

        pub rule_kept : u ≡ true → entries_from kinds (as_table a count) (i + 1) ≡ true → entries_from kinds (as_table a count) i ≡ true
        rule_kept z w = entries_turn a count h kinds i l ∙ rw (decided, z, w) refl

  pub both_fail : false ≡ calculus.distinct_test (as_table a count) → false ≡ entries_pass kinds a count
  both_fail d = rw (← d) (sym (and-false (calculus.entries_test (calculus.entry_stands kinds (as_table a count)) 0 (as_table a count))))

  pub both_hold : entries_from kinds (as_table a count) 0 ≡ true → calculus.distinct_test (as_table a count) ≡ true
      → true ≡ entries_pass kinds a count
  unfolding entries_from
  both_hold e d = rw (e, d) refl

-- the first three entries
is_at : (a : List Entry) (count k : ℕ) (x : calculus.Entry) → count ≤ length a → k < count → calculus.entry_is (as_table a count) k x ≡ stands_at a k x
unfolding calculus.entry_is calculus.test_entry stands_at
is_at a count k x h l = rw (entry_at a count h k l) refl

-- the table
module _ (kinds : ℕ) (a : List Entry) (count : ℕ) (h : count ≤ length a) (l : min_entries ≤ count) where
  rules : calculus.table_test kinds (as_table a count)
      ≡ (entries_pass kinds a count && first_three a)
  unfolding calculus.table_test first_three
  rules =
      rw (is_at a count unit_entry calculus.entry_of_unit h (omega arith), is_at a count num_entry calculus.entry_of_num h (omega arith), is_at a count setting_entry calculus.entry_of_setting h (omega arith))
      (sym (and_assoc (calculus.entries_test (calculus.entry_stands kinds (as_table a count)) 0 (as_table a count)) (calculus.distinct_test (as_table a count)) _))

  module _ (t : Bool) (e : t ≡ entries_pass kinds a count) where
    pub entry_broken : t ≡ false → false ≡ calculus.table_test kinds (as_table a count)
    entry_broken f = sym (rules ∙ rw (← e, f) refl)

    pub table_kept : t ≡ true → first_three a ≡ calculus.table_test kinds (as_table a count)
    table_kept f = sym (rules ∙ rw (← e, f) refl)
