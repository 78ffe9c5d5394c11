-- What a call answers: a refusal, the first that is listed and comes after, or no more.
use Rattle.std.proofs.Common.{◌∙◌, inl, inr, arith, length-append}
use Rattle.std.specs.Prelude.{◌≡◌, ◌↔◌, ◌⊎◌, Bool, cond, false, not, true, List, ◌-◌, ◌<◌, ◌≤◌, suc, zero, ℕ, eqb, length, replicate}
use Rattle.std.proofs.Math.Path.{ap, refl, sym}
use Rattle.std.proofs.lemmas.Bool.{false≢true, not-false}
use Rattle.std.proofs.Math.Option.{Option, none, some}
use Rattle.std.proofs.lemmas.List.{length-replicate}
use Rattle.std.proofs.Math.Seq.{drop-append_seam, take-append_seam}
use Rattle.calculus.specs.Causes.{layout_cause, size_cause, type_entry_cause}
use Rattle.calculus.specs.Limits.{min_term_nodes, max_term_nodes, max_term_length}
use Rattle.calculus.specs.Table.{table_test}
use Rattle.calculus.proofs.Theory.Tests.{eqb_differ}
use Rattle.calculus.proofs.Theory.TableTest.{table_test_iff}
use Rattle.recipe_file.specs.Editions.{edition_1}
use Rattle.recipe_file.specs.File.{outside, table_length_test}
use Rattle.recipe_file.proofs.LaidOut.{between, within, entries_sound, entries_complete}
use Rattle.recipe_table.specs.Entries.{table_of}
use Rattle.list_spec.specs.Listed.{Listed, Next, NoMore}
use Rattle.list_spec.specs.NextTerm.{search, with_zeros, empty, given, next_refusal, next_term, term_given, call}
use Rattle.list_spec.specs.SmallRecipes.{SizeRule, LengthRule, EntriesRule, Asked, Shape}
use Rattle.list_spec.proofs.Theory.Exact.{ListedIn, search_some, search_none}
use Rattle.list_spec.proofs.Theory.Files.{length_nodes, bytes_some, listed_in, listed_out}

-- a test that fails exactly where P holds
fails_not : (b : Bool) {P : Type 0} → (b ≡ false → P) → (P → b ≡ false) → (b ≡ true) ↔ (¬ P)
fails_not b f g = (λ e p. false≢true (sym (g p) ∙ e), go b f)
  where
    go : (b : Bool) {P : Type 0} → (b ≡ false → P) → ¬ P → b ≡ true
    go true f n = refl
    go false f n = absurd (n (f refl))

-- the three tests
size_stands : (size : ℕ) → (outside min_term_nodes max_term_nodes size ≡ false) ↔ SizeRule size
size_stands size = (between min_term_nodes max_term_nodes size, within min_term_nodes max_term_nodes size)

length_stands : (n : ℕ) → (not (table_length_test n) ≡ false) ↔ LengthRule n
length_stands n = (λ e. entries_sound n (not-false (table_length_test n) e), λ r. ap not (entries_complete n r))

entries_stand : (table : List ℕ) → (not (table_test edition_1.kinds (table_of table)) ≡ false) ↔ EntriesRule (table_of table)
entries_stand table = (
  λ e. let (k, r) = (table_test_iff edition_1.kinds (table_of table)).0 (not-false _ e) in record { kinds = k; rule = r },
  λ r. ap not ((table_test_iff edition_1.kinds (table_of table)).1 (r.kinds, r.rule)),
)

-- the first of three causes
first_of : Bool → Bool → Bool → ℕ
first_of a b c = cond a size_cause (cond b layout_cause (cond c type_entry_cause 0))

is_first : (a b c : Bool) → (first_of a b c ≡ size_cause) ↔ (a ≡ true)
unfolding first_of
is_first true b c = (λ e. refl, λ e. refl)
is_first false true c = (λ e. absurd (omega arith), λ e. absurd (false≢true e))
is_first false false true = (λ e. absurd (omega arith), λ e. absurd (false≢true e))
is_first false false false = (λ e. absurd (omega arith), λ e. absurd (false≢true e))

is_second : (a b c : Bool) → (first_of a b c ≡ layout_cause) ↔ ((a ≡ false) × (b ≡ true))
unfolding first_of
is_second true b c = (λ e. absurd (omega arith), λ (e, f). absurd (false≢true (sym e)))
is_second false true c = (λ e. (refl, refl), λ e. refl)
is_second false false true = (λ e. absurd (omega arith), λ (e, f). absurd (false≢true f))
is_second false false false = (λ e. absurd (omega arith), λ (e, f). absurd (false≢true f))

is_third : (a b c : Bool) → (first_of a b c ≡ type_entry_cause) ↔ ((a ≡ false) × (b ≡ false) × (c ≡ true))
unfolding first_of
is_third true b c = (λ e. absurd (omega arith), λ (e, f, g). absurd (false≢true (sym e)))
is_third false true c = (λ e. absurd (omega arith), λ (e, f, g). absurd (false≢true (sym f)))
is_third false false true = (λ e. (refl, refl, refl), λ e. refl)
is_third false false false = (λ e. absurd (omega arith), λ (e, f, g). absurd (false≢true g))

is_none : (a b c : Bool) → (first_of a b c ≡ 0) ↔ ((a ≡ false) × (b ≡ false) × (c ≡ false))
unfolding first_of
is_none true b c = (λ e. absurd (omega arith), λ (e, f, g). absurd (false≢true (sym e)))
is_none false true c = (λ e. absurd (omega arith), λ (e, f, g). absurd (false≢true (sym f)))
is_none false false true = (λ e. absurd (omega arith), λ (e, f, g). absurd (false≢true (sym g)))
is_none false false false = (λ e. (refl, refl, refl), λ e. refl)

is_one : (a b c : Bool) → ¬ (first_of a b c ≡ 0) → (first_of a b c ≡ size_cause) ⊎ ((first_of a b c ≡ layout_cause) ⊎ (first_of a b c ≡ type_entry_cause))
unfolding first_of
is_one true b c d = inl refl
is_one false true c d = inr (inl refl)
is_one false false true d = inr (inr refl)
is_one false false false d = absurd (d refl)

-- the refusal answered is the first cause
given_refusal : (o : Option (List ℕ)) → (given o).refusal ≡ 0
unfolding given empty
given_refusal none = refl
given_refusal (some s) = refl

answer_refusal : (n : ℕ) (o : Option (List ℕ)) → (cond (eqb n 0) (given o) (empty n)).refusal ≡ n
unfolding empty
answer_refusal zero o = given_refusal o
answer_refusal (suc n) o = rw (eqb_differ (suc n) 0 (λ z. omega arith)) refl

module _ (table : List ℕ) (size : ℕ) (after : List ℕ) where
  pub refusal_is : (next_term table size after).refusal ≡ next_refusal table size
  unfolding next_term
  refusal_is = answer_refusal (next_refusal table size) (search (table_of table) size after)

  by_tests : (next_term table size after).refusal
      ≡ first_of (outside min_term_nodes max_term_nodes size) (not (table_length_test (length table))) (not (table_test edition_1.kinds (table_of table)))
  unfolding next_refusal first_of
  by_tests = refusal_is

  pub refuses_22 : ((next_term table size after).refusal ≡ size_cause) ↔ (¬ SizeRule size)
  refuses_22 = rw by_tests
      (λ e. (fails_not _ (size_stands size).0 (size_stands size).1).0 ((is_first _ _ _).0 e), λ n. (is_first _ _ _).1 ((fails_not _ (size_stands size).0 (size_stands size).1).1 n))

  pub refuses_3 : ((next_term table size after).refusal ≡ layout_cause) ↔ (SizeRule size × (¬ LengthRule (length table)))
  refuses_3 = rw by_tests (
    λ e. let (a, b) = (is_second _ _ _).0 e in ((size_stands size).0 a, (fails_not _ (length_stands (length table)).0 (length_stands (length table)).1).0 b),
    λ (a, n). (is_second _ _ _).1 ((size_stands size).1 a, (fails_not _ (length_stands (length table)).0 (length_stands (length table)).1).1 n),
  )

  pub refuses_4 : ((next_term table size after).refusal ≡ type_entry_cause) ↔ (SizeRule size × LengthRule (length table) × (¬ EntriesRule (table_of table)))
  refuses_4 = rw by_tests (
    λ e. let (a, b, c) = (is_third _ _ _).0 e in
        ((size_stands size).0 a, (length_stands (length table)).0 b, (fails_not _ (entries_stand table).0 (entries_stand table).1).0 c),
    λ (a, b, n). (is_third _ _ _).1 ((size_stands size).1 a, (length_stands (length table)).1 b, (fails_not _ (entries_stand table).0 (entries_stand table).1).1 n),
  )

  pub not_refused : ((next_term table size after).refusal ≡ 0) ↔ Asked table size
  not_refused = rw by_tests (
    λ e. let (a, b, c) = (is_none _ _ _).0 e in record { sized = (size_stands size).0 a; long = (length_stands (length table)).0 b; entries = (entries_stand table).0 c },
    λ h. (is_none _ _ _).1 ((size_stands size).1 h.sized, (length_stands (length table)).1 h.long, (entries_stand table).1 h.entries),
  )

  pub no_other : ¬ ((next_term table size after).refusal ≡ 0)
      → ((next_term table size after).refusal ≡ size_cause) ⊎ (((next_term table size after).refusal ≡ layout_cause) ⊎ ((next_term table size after).refusal ≡ type_entry_cause))
  no_other = rw by_tests (λ d. is_one _ _ _ d)

-- the shape of an answer
empty_shape : (n : ℕ) → Shape (empty n)
unfolding empty with_zeros
empty_shape n = record { eighteen = refl; zeros = refl; refused_empty = λ d. refl }

none_shape : Shape (given none)
unfolding given
none_shape = empty_shape 0

term_shape : (s : List ℕ) → length s ≤ max_term_length → Shape (given (some s))
unfolding given with_zeros
term_shape s l = record {
  eighteen = simp (length-append, length-replicate) (omega arith);
  zeros = drop-append_seam s (replicate (max_term_length - length s) 0);
  refused_empty = λ d. absurd (d refl);
}

refused_is : (table : List ℕ) (size : ℕ) (after : List ℕ) (n : ℕ) → next_refusal table size ≡ suc n → next_term table size after ≡ empty (suc n)
unfolding next_term
refused_is table size after n e = rw (e, eqb_differ (suc n) 0 (λ z. omega arith)) refl

-- what a caller reads of an answer
term_given_back : (s : List ℕ) → 0 < length s → term_given (given (some s)) ≡ some s
unfolding term_given given with_zeros
term_given_back s h =
    let p : eqb (length s) 0 ≡ false = eqb_differ (length s) 0 (λ z. omega arith) in
    rw (p, take-append_seam s (replicate (max_term_length - length s) 0)) refl

none_given_back : term_given (empty 0) ≡ none
unfolding term_given empty
none_given_back = refl

-- a call that is not refused
module _ (table : List ℕ) (size : ℕ) (h : Asked table size) where
  -- listed as a file and in the table are the same
  pub to_table : (s : List ℕ) → Listed table size s → ListedIn (table_of table) size s
  to_table = listed_in table size h.sized.high (entries_complete (length table) h.long) (not-false _ ((entries_stand table).1 h.entries))

  pub from_table : (s : List ℕ) → ListedIn (table_of table) size s → Listed table size s
  from_table = listed_out table size h.sized.high (entries_complete (length table) h.long) (not-false _ ((entries_stand table).1 h.entries))

  -- the search's answer
  pub found_iff : (after s : List ℕ) → (search (table_of table) size after ≡ some s) ↔ Next table size after s
  found_iff after s = (
    λ e. let n = (search_some (table_of table) size after s).0 e in
        record { listed = from_table s n.listed; comes_after = n.comes_after; first = λ t l b k. n.first t (to_table t l) b k },
    λ n. (search_some (table_of table) size after s).1
        (record { listed = to_table s n.listed; comes_after = n.comes_after; first = λ t l b k. n.first t (from_table t l) b k }),
  )

  pub none_iff : (after : List ℕ) → (search (table_of table) size after ≡ none) ↔ NoMore table size after
  none_iff after = (
    λ e t l b. (search_none (table_of table) size after).0 e t (to_table t l) b,
    λ n. (search_none (table_of table) size after).1 (λ t l b. n t (from_table t l) b),
  )

  -- there is always one of the two, and one first
  pub next_or_none : (after : List ℕ) → ((s : List ℕ) × Next table size after s) ⊎ NoMore table size after
  next_or_none after = go (search (table_of table) size after) refl
    where
      go : (o : Option (List ℕ)) → search (table_of table) size after ≡ o → ((s : List ℕ) × Next table size after s) ⊎ NoMore table size after
      go none e = inr ((none_iff after).0 e)
      go (some s) e = inl (s, (found_iff after s).0 e)

  pub first_unique : (after s t : List ℕ) → Next table size after s → Next table size after t → s ≡ t
  first_unique after s t m n = let p = (found_iff after s).1 m in let q = (found_iff after t).1 n in cc

  -- the answer
  is_given : (after : List ℕ) → next_term table size after ≡ given (search (table_of table) size after)
  unfolding next_term
  is_given after = let e : next_refusal table size ≡ 0 = sym (refusal_is table size after) ∙ (not_refused table size after).1 h in rw e refl

  pub listed_some : (s : List ℕ) → Listed table size s → 0 < length s
  listed_some s l = rw l.written (bytes_some l.term)

  listed_short : (s : List ℕ) → Listed table size s → length s ≤ max_term_length
  listed_short s l = rw l.written (length_nodes l.term size l.of_size h.sized.high)

  pub call_is : (after : List ℕ) → call table size after ≡ search (table_of table) size after
  unfolding call given
  call_is after = rw (is_given after) (go (search (table_of table) size after) refl)
    where
      go : (o : Option (List ℕ)) → search (table_of table) size after ≡ o → term_given (given o) ≡ o
      go none e = none_given_back
      go (some s) e = term_given_back s (listed_some s ((found_iff after s).0 e).listed)

  pub answer_gives : (after s : List ℕ) → ((0 < length s) × (next_term table size after ≡ record { refusal = 0; length = length s; bytes = with_zeros s })) ↔ Next table size after s
  unfolding given call
  answer_gives after s = (
    λ (l, e). (found_iff after s).0 (sym (call_is after) ∙ (ap term_given e ∙ term_given_back s l)),
    λ n. (listed_some s n.listed, is_given after ∙ ap given ((found_iff after s).1 n)),
  )

  pub answer_no_more : (after : List ℕ) → (next_term table size after ≡ empty 0) ↔ NoMore table size after
  unfolding given call
  answer_no_more after = (
    λ e. (none_iff after).0 (sym (call_is after) ∙ (ap term_given e ∙ none_given_back)),
    λ n. is_given after ∙ ap given ((none_iff after).1 n),
  )

  given_shape : (after : List ℕ) → Shape (next_term table size after)
  given_shape after = rw (is_given after) (go (search (table_of table) size after) refl)
    where
      go : (o : Option (List ℕ)) → search (table_of table) size after ≡ o → Shape (given o)
      go none e = none_shape
      go (some s) e = term_shape s (listed_short s ((found_iff after s).0 e).listed)

pub answer_shape : (table : List ℕ) (size : ℕ) (after : List ℕ) → Shape (next_term table size after)
answer_shape table size after = go (next_refusal table size) refl
  where
    go : (n : ℕ) → next_refusal table size ≡ n → Shape (next_term table size after)
    go zero e = given_shape table size ((not_refused table size after).0 (refusal_is table size after ∙ e)) after
    go (suc n) e = rw (refused_is table size after n e) (empty_shape (suc n))
