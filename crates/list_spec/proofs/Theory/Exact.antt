-- The search is exact: its answer is the first that is listed and comes after the bytes given; it answers none exactly where there is none.
use Rattle.std.proofs.Common.{◌∙◌, ap, sym, arith}
use Rattle.std.specs.Prelude.{◌≡◌, refl, ◌↔◌, true, ◌%◌, ◌/◌, ◌<◌, ◌≤◌, ◌^◌, suc, zero, ℕ, eqb, ltb, get_or}
use Rattle.std.proofs.Math.Option.{Option, none, some}
use mathlib.Core.List.{List, [], ◌++◌, ◌∷◌, append-nil}
use Rattle.calculus.specs.Bytes.{Bytes, two_bytes}
use Rattle.calculus.specs.Syntax.{Exp}
use Rattle.calculus.specs.Image.{nodes}
use Rattle.calculus.specs.Limits.{byte_values}
use Rattle.calculus.specs.Table.{Table}
use Rattle.calculus.specs.Verdict.{linear, verdict}
use Rattle.calculus.proofs.Theory.Tests.{and_true, and_parts, eqb_sound, eqb_complete, ltb_sound, ltb_complete}
use Rattle.calculus.proofs.Theory.Verdict.{verdict_iff}
use Rattle.term.specs.Numbers.{little_endian}
use Rattle.term.specs.Forms.{operand_of}
use Rattle.term.specs.Tree.{Tree, leaf, one, two, tree_bytes, node_bytes, InTable, WellFormed}
use Rattle.term.specs.Reader.{of_edition, one_term, read_term, tree_in}
use Rattle.term.specs.Expressions.{bytes, FitsBytes, term_of, tree_of}
use Rattle.term.proofs.Nodes.{operand_at_most}
use Rattle.term.proofs.Trees.{bytes_tree, tree_well_formed}
use Rattle.term.proofs.Expressions.{edition_sound, edition_complete, read_written, term_of_bytes}
use Rattle.recipe_file.specs.Editions.{edition_1}
use Rattle.list_spec.specs.Order.{Before, above}
use Rattle.list_spec.specs.Listed.{has_small_nums, all_bytes, passes, listed_test}
use Rattle.list_spec.specs.Goals.{beginning, meets, arguments, branches}
use Rattle.list_spec.specs.NextTerm.{search}
use Rattle.list_spec.proofs.Theory.Order.{Ordered, earlier, equal, later, ordered}
use Rattle.list_spec.proofs.Theory.Search.{Word, no_more, Least, nowhere, least, found}
use Rattle.list_spec.proofs.Theory.Ascending.{branches_ascending}
use Rattle.list_spec.proofs.Theory.Complete.{plain, Typed, complete}

-- what is listed in a table that is read: with the checker's verdict on one term of edition 1
pub record ListedIn (T : Table) (size : ℕ) (s : List ℕ) : Type 0 where
  pub term : Exp
  pub written : s ≡ bytes term
  pub fits : FitsBytes term
  pub of_edition : plain term ≡ true
  pub of_size : nodes term ≡ size
  pub nums : has_small_nums term ≡ true
  pub accepted : verdict T (term ∷ []) ≡ 0

-- bytes
pub all_bytes_sound : (l : List ℕ) → all_bytes l ≡ true → Bytes l
unfolding all_bytes
all_bytes_sound [] e = λ i. omega arith
all_bytes_sound (x ∷ l) e = let (a, b) = and_parts (ltb x byte_values) _ e in go (ltb_sound x byte_values a) (all_bytes_sound l b)
  where
    go : x < byte_values → Bytes l → (i : ℕ) → get_or (x ∷ l) i 0 < byte_values
    go h k zero = h
    go h k (suc i) = k i

all_bytes_append : (l m : List ℕ) → all_bytes l ≡ true → all_bytes m ≡ true → all_bytes (l ++ m) ≡ true
unfolding all_bytes
all_bytes_append [] m e f = f
all_bytes_append (x ∷ l) m e f = let (a, b) = and_parts (ltb x byte_values) _ e in and_true a (all_bytes_append l m b f)

all_bytes_number : (k n : ℕ) → k ≤ 2 → n < byte_values ^ k → all_bytes (little_endian k n) ≡ true
unfolding all_bytes little_endian two_bytes
all_bytes_number zero n l h = refl
all_bytes_number (suc zero) n l h = and_true (ltb_complete n byte_values h) refl
all_bytes_number (suc (suc zero)) n l h =
    let b : n < 65536 = h in
    and_true (ltb_complete (n % 256) byte_values (omega arith)) (and_true (ltb_complete (n / 256) byte_values (omega arith)) refl)
all_bytes_number (suc (suc (suc k))) n l h = absurd (omega arith)

all_bytes_node : {tag arg k : ℕ} → InTable tag arg k → all_bytes (node_bytes tag arg) ≡ true
unfolding all_bytes
all_bytes_node {tag} {arg} i =
    and_true (ltb_complete tag byte_values (omega (arith, i.form.known))) (all_bytes_number (operand_of tag) arg (operand_at_most tag) i.fits)

all_bytes_tree : (t : Tree) → WellFormed t → all_bytes (tree_bytes t) ≡ true
unfolding tree_bytes
all_bytes_tree (leaf tag arg) w = all_bytes_node w
all_bytes_tree (one tag arg t) (w, v) = all_bytes_append (node_bytes tag arg) _ (all_bytes_node w) (all_bytes_tree t v)
all_bytes_tree (two tag arg t u) (w, v, v') =
    all_bytes_append (node_bytes tag arg) _ (all_bytes_node w) (all_bytes_append (tree_bytes t) _ (all_bytes_tree t v) (all_bytes_tree u v'))

pub all_bytes_exp : (e : Exp) → FitsBytes e → all_bytes (bytes e) ≡ true
all_bytes_exp e f = rw (bytes_tree e) (all_bytes_tree (tree_of e) (tree_well_formed e f))

-- the tree that is read of an expression's bytes
pub tree_read : (s : List ℕ) (e : Exp) → s ≡ bytes e → FitsBytes e → tree_in (read_term s) ≡ tree_of e
tree_read s e w f = ap tree_in (ap read_term (w ∙ sym (append-nil (bytes e))) ∙ read_written e [] f)

pub edition_read : (e : Exp) → FitsBytes e → plain e ≡ true → one_term (of_edition edition_1.forms (read_term (bytes e))) ≡ true
edition_read e f p = edition_complete edition_1.forms (bytes e) e refl f (rw (tree_read (bytes e) e refl f) p)

-- the test decides what is listed
module _ (T : Table) (size : ℕ) where
  pub test_sound : (s : List ℕ) → listed_test T size s ≡ true → ListedIn T size s
  unfolding listed_test passes
  test_sound s h =
      let (a, b) = and_parts (all_bytes s) _ h in
      let (c, d) = and_parts (one_term (of_edition edition_1.forms (read_term s))) _ b in
      let (i, j) = and_parts (eqb (nodes (term_of s)) size) _ d in
      let (k, l) = and_parts (has_small_nums (term_of s)) _ j in
      let (w, f, p) = edition_sound edition_1.forms s (all_bytes_sound s a) c in
      record {
        term = term_of s;
        written = w;
        fits = f;
        of_edition = rw (tree_read s (term_of s) w f) at p;
        of_size = eqb_sound _ _ i;
        nums = k;
        accepted = eqb_sound _ _ l;
      }

  test_term : (e : Exp) → FitsBytes e → plain e ≡ true → nodes e ≡ size → has_small_nums e ≡ true → verdict T (e ∷ []) ≡ 0 → listed_test T size (bytes e) ≡ true
  unfolding listed_test passes
  test_term e f p n m v = and_true (all_bytes_exp e f) (and_true (edition_read e f p)
      (rw (term_of_bytes e f) (and_true (eqb_complete (nodes e) size n) (and_true m (eqb_complete (verdict T (e ∷ [])) 0 v)))))

  pub test_complete : (s : List ℕ) → ListedIn T size s → listed_test T size s ≡ true
  test_complete s h = rw h.written (test_term h.term h.fits h.of_edition h.of_size h.nums h.accepted)

  pub listed_test_iff : (s : List ℕ) → (listed_test T size s ≡ true) ↔ ListedIn T size s
  listed_test_iff s = (test_sound s, test_complete s)

-- what is listed is a string of the search
term_word : (T : Table) (e : Exp) (t : ℕ) → Typed T [] e t → linear T [] e ≡ true → meets T 0 none t ≡ true → Word (branches T) (nodes e) beginning (bytes e)
unfolding arguments
term_word T e t y l m = rw (← (append-nil (bytes e)))
    (complete T e [] t 0 none [] {m = 0} {w = []} y l m (record { enough = omega arith; exact = λ z. refl }) no_more (nodes e) (omega arith))

pub listed_word : (T : Table) (size : ℕ) (s : List ℕ) → ListedIn T size s → Word (branches T) size beginning s
unfolding meets
listed_word T size s h =
    let (t, a) = (verdict_iff T (h.term ∷ [])).0 h.accepted 0 h.term refl in
    let y : Typed T [] h.term t = record { in_scope = a.no_cause_7; stands = a.no_cause_8; number = a.no_cause_9; small = h.nums; of_edition = h.of_edition } in
    let m : meets T 0 none t ≡ true = rw a.no_cause_11 refl in
    rw (h.written, ← h.of_size) (term_word T h.term t y a.no_cause_10 m)

-- the first that is listed in a table and comes after some bytes
pub record NextIn (T : Table) (size : ℕ) (after s : List ℕ) : Type 0 where
  pub listed : ListedIn T size s
  pub comes_after : Before after s
  pub first : (t : List ℕ) → ListedIn T size t → Before after t → Before t s → ⊥

abbrev pub NoMoreIn : Table → ℕ → List ℕ → Type 0
NoMoreIn T size after = (t : List ℕ) → ListedIn T size t → Before after t → ⊥

-- there is one at most
pub next_unique : {T : Table} {size : ℕ} {after s t : List ℕ} → NextIn T size after s → NextIn T size after t → s ≡ t
next_unique {s = s} {t = t} m n = go (ordered s t) m n
  where
    go : {T : Table} {size : ℕ} {after s t : List ℕ} → Ordered s t → NextIn T size after s → NextIn T size after t → s ≡ t
    go (earlier b) m n = absurd (n.first _ m.listed m.comes_after b)
    go equal m n = refl
    go (later b) m n = absurd (m.first _ n.listed n.comes_after b)

-- what an answer says
abbrev pub Means : Table → ℕ → List ℕ → Option (List ℕ) → Type 0
Means T size after none = NoMoreIn T size after
Means T size after (some s) = NextIn T size after s

module _ (T : Table) (size : ℕ) (after : List ℕ) where
  from_least : {o : Option (List ℕ)} → Least (branches T) (listed_test T size) (Word (branches T) size beginning) [] (above after) o → Means T size after o
  from_least (nowhere n) = λ t l b. n t (listed_word T size t l) (test_complete T size t l) b
  from_least (least w d e a m) = record {
    listed = test_sound T size w e;
    comes_after = a;
    first = λ t l b k. m t (listed_word T size t l) (test_complete T size t l) b k;
  }

  -- the theorem: what the search answers
  pub search_means : Means T size after (search T size after)
  unfolding search
  search_means = from_least (found (branches T) (listed_test T size) (branches_ascending T) size beginning [] (above after))

  -- as two equations
  pub search_some : (s : List ℕ) → (search T size after ≡ some s) ↔ NextIn T size after s
  search_some s = (λ e. rw e at search_means, λ n. go (search T size after) search_means n)
    where
      go : (o : Option (List ℕ)) → Means T size after o → NextIn T size after s → o ≡ some s
      go none m n = absurd (m s n.listed n.comes_after)
      go (some t) m n = ap some (next_unique m n)

  pub search_none : (search T size after ≡ none) ↔ NoMoreIn T size after
  search_none = (λ e. rw e at search_means, λ n. go (search T size after) search_means n)
    where
      go : (o : Option (List ℕ)) → Means T size after o → NoMoreIn T size after → o ≡ none
      go none m n = refl
      go (some t) m n = absurd (n t m.listed m.comes_after)
