-- Listed with the verdict on one term is listed as a file: the edition 1 file with the table and this one part is accepted.
use Rattle.std.proofs.Common.{◌∙◌}
use Rattle.std.specs.Prelude.{◌≡◌, ◌↔◌, false, ◌+◌, ◌<◌, ◌≤◌, ℕ, length}
use Rattle.std.proofs.Math.Path.{ap, refl, sym}
use Rattle.std.proofs.Math.Bool.{true}
use mathlib.Core.List.{List, [], ◌∷◌}
use native.Mathlib.Omega.{arith}
use borrow.Author.Tests.{not-false}
use Rattle.std.proofs.Math.ListN.{get_or, length-append}
use Rattle.calculus.specs.Bytes.{Bytes, two_bytes}
use Rattle.calculus.specs.Lists.{tabulate, each_below, sum_below}
use Rattle.calculus.specs.Syntax.{Exp}
use Rattle.calculus.specs.Limits.{max_nesting, max_recipe_nodes, max_term_nodes, max_term_length}
use Rattle.calculus.specs.Image.{nodes}
use Rattle.calculus.specs.Table.{table_test}
use Rattle.calculus.specs.Verdict.{verdict}
use Rattle.calculus.proofs.Theory.Tests.{leb_complete, ltb_not}
use Rattle.calculus.proofs.Theory.Images.{size_bound}
use Rattle.term.specs.Tree.{tree_size}
use Rattle.term.specs.Reader.{of_edition, one_term, read_term}
use Rattle.term.specs.Expressions.{bytes, nesting, term_of, tree_of}
use Rattle.term.proofs.Sizes.{length_bytes, nesting_exp}
use Rattle.term.proofs.Reading.{depth_size, size_some}
use Rattle.term.proofs.Terms.{size_bytes}
use Rattle.term.proofs.Trees.{bytes_tree, exp_tree}
use Rattle.term.proofs.Expressions.{edition_sound, term_of_bytes}
use Rattle.recipe_file.specs.Editions.{edition_1}
use Rattle.recipe_file.specs.File.{edition_of, parts, bays, table_bytes, term_bytes, part, table_length_test}
use Rattle.recipe_file.specs.Whole.{pairs_of, joined, file_of, parts_from, all_parts, Makes}
use Rattle.recipe_file.proofs.LaidOut.{entries_sound, laid_iff}
use Rattle.recipe_file.proofs.Starting.{never_19}
use Rattle.recipe_file.proofs.Made.{made_parts, made_laid}
use Rattle.recipe_table.specs.Entries.{table_of, type_table, cause_4}
use Rattle.check_spec.specs.Bays.{bay_reading, bay_term, bay_terms, cause_5, cause_6}
use Rattle.check_spec.specs.Verdict.{refusal}
use Rattle.check_spec.proofs.Theory.Accepted.{no_cause_iff}
use Rattle.list_spec.specs.Listed.{one_bay_file, Listed}
use Rattle.list_spec.proofs.Theory.Exact.{ListedIn, all_bytes_sound, all_bytes_exp, tree_read, edition_read}

-- "18 bytes": a term of at most 6 nodes has no more
pub length_nodes : (e : Exp) (n : ℕ) → nodes e ≡ n → n ≤ max_term_nodes → length (bytes e) ≤ max_term_length
length_nodes e n h l = omega (arith, length_bytes e, size_bound e)

-- a term has a byte, and is no deeper than it is long
bytes_size : (e : Exp) → length (bytes e) ≡ tree_size (tree_of e)
bytes_size e = ap length (bytes_tree e) ∙ size_bytes (tree_of e)

pub bytes_some : (e : Exp) → 0 < length (bytes e)
bytes_some e = omega (arith, bytes_size e, size_some (tree_of e))

nesting_length : (e : Exp) → nesting e ≤ length (bytes e)
nesting_length e = omega (arith, ap nesting (exp_tree e), nesting_exp (tree_of e), depth_size (tree_of e), bytes_size e)

-- the file of a table and a short part
module _ (table s : List ℕ) (fits : table_length_test (length table) ≡ true) (some : 0 < length s) (short : length s ≤ max_term_length) where
  makes : Makes edition_1 (table ∷ s ∷ [])
  unfolding file_of pairs_of joined two_bytes edition_of
  makes =
      let (t, e, b) = entries_sound (length table) fits in
      record {
        known = refl;
        number = record { low = omega arith; high = omega arith };
        none_empty = (omega (arith, b.low), (some, tt));
        table = (t, e, b);
        short = simp length-append (omega (arith, b.high));
      }

  of_edition_1 : edition_of (one_bay_file table s) ≡ edition_1
  unfolding one_bay_file file_of edition_of
  of_edition_1 = refl

  read_parts : part (one_bay_file table s) 0 ∷ part (one_bay_file table s) 1 ∷ [] ≡ table ∷ s ∷ []
  unfolding one_bay_file all_parts parts_from parts file_of
  read_parts = made_parts edition_1 (table ∷ s ∷ []) makes

  one_bay : bays (one_bay_file table s) ≡ 1
  unfolding one_bay_file bays parts file_of edition_of
  one_bay = refl

  table_read : type_table (one_bay_file table s) ≡ table_of table
  unfolding type_table table_bytes
  table_read = ap (λ (l : List (List ℕ)). table_of (get_or l 0 [])) read_parts

  term_read : term_bytes (one_bay_file table s) 0 ≡ s
  unfolding term_bytes
  term_read = rw of_edition_1 (ap (λ (l : List (List ℕ)). get_or l 1 []) read_parts)

  term_is : bay_term (one_bay_file table s) 0 ≡ term_of s
  unfolding bay_term
  term_is = ap term_of term_read

  terms_read : bay_terms (one_bay_file table s) ≡ term_of s ∷ []
  unfolding bay_terms tabulate
  terms_read = rw (one_bay, term_is) refl

  pub file_verdict : refusal (one_bay_file table s) ≡ 0 → verdict (table_of table) (term_of s ∷ []) ≡ 0
  file_verdict e = rw (← table_read, ← terms_read) ((no_cause_iff (one_bay_file table s)).0 e).not_7_to_11

  no_5 : one_term (of_edition edition_1.forms (read_term s)) ≡ true → cause_5 (one_bay_file table s) ≡ false
  unfolding cause_5 each_below
  no_5 o = rw (one_bay, of_edition_1, term_read, o) refl

  file_reading : refusal (one_bay_file table s) ≡ 0 → one_term (of_edition edition_1.forms (read_term s)) ≡ true
  unfolding cause_5 each_below
  file_reading e =
      let h : each_below (bays (one_bay_file table s)) (λ bay. one_term (bay_reading (one_bay_file table s) bay)) ≡ true =
      not-false _ ((no_cause_iff (one_bay_file table s)).0 e).not_5 in
      rw (one_bay, of_edition_1, term_read) at h

  no_6 : nesting (term_of s) ≤ max_nesting → nodes (term_of s) ≤ max_recipe_nodes → cause_6 (one_bay_file table s) ≡ false
  unfolding cause_6 each_below sum_below
  no_6 h k = rw (one_bay, term_is, leb_complete (nesting (term_of s)) max_nesting h) (ltb_not max_recipe_nodes (0 + nodes (term_of s)) (omega arith))

  pub file_accepted : table_test edition_1.kinds (table_of table) ≡ true → one_term (of_edition edition_1.forms (read_term s)) ≡ true → nesting (term_of s) ≤ max_nesting → nodes (term_of s) ≤ max_recipe_nodes
      → verdict (table_of table) (term_of s ∷ []) ≡ 0 → refusal (one_bay_file table s) ≡ 0
  unfolding cause_4 one_bay_file
  file_accepted t o h k v =
      let l = made_laid edition_1 (table ∷ s ∷ []) makes in
      let (a, b, c) = (laid_iff (one_bay_file table s)).1 l in
      (no_cause_iff (one_bay_file table s)).1 (record {
        not_1 = a;
        not_2 = b;
        not_3 = c;
        not_4 = rw (of_edition_1, table_read, t) refl;
        not_5 = no_5 o;
        not_6 = no_6 h k;
        not_7_to_11 = rw (table_read, terms_read) v;
        not_19 = sym (never_19 (one_bay_file table s) (ap (λ e. e.starting) of_edition_1));
      })

-- for a table and a size that are not refused
module _ (table : List ℕ) (n : ℕ) (few : n ≤ max_term_nodes) (fits : table_length_test (length table) ≡ true) (rule : table_test edition_1.kinds (table_of table) ≡ true) where
  pub listed_in : (s : List ℕ) → Listed table n s → ListedIn (table_of table) n s
  listed_in s l =
      let some : 0 < length s = rw l.written (bytes_some l.term) in
      let short : length s ≤ max_term_length = rw l.written (length_nodes l.term n l.of_size few) in
      let v = file_verdict table s fits some short l.accepted in
      let o = file_reading table s fits some short l.accepted in
      let b : Bytes s = rw l.written (all_bytes_sound (bytes l.term) (all_bytes_exp l.term l.fits)) in
      let (w, f, p) = edition_sound edition_1.forms s b o in
      let e : term_of s ≡ l.term = ap term_of l.written ∙ term_of_bytes l.term l.fits in
      record {
        term = l.term;
        written = l.written;
        fits = l.fits;
        of_edition = rw (tree_read s l.term l.written l.fits) at p;
        of_size = l.of_size;
        nums = l.nums;
        accepted = rw e at v;
      }

  pub listed_out : (s : List ℕ) → ListedIn (table_of table) n s → Listed table n s
  listed_out s l =
      let some : 0 < length s = rw l.written (bytes_some l.term) in
      let short : length s ≤ max_term_length = rw l.written (length_nodes l.term n l.of_size few) in
      let e : term_of s ≡ l.term = ap term_of l.written ∙ term_of_bytes l.term l.fits in
      let o : one_term (of_edition edition_1.forms (read_term s)) ≡ true = rw l.written (edition_read l.term l.fits l.of_edition) in
      record {
        term = l.term;
        written = l.written;
        fits = l.fits;
        of_size = l.of_size;
        nums = l.nums;
        accepted = file_accepted table s fits some short rule o
            (rw e (omega (arith, nesting_length l.term, length_nodes l.term n l.of_size few))) (rw e (omega (arith, l.of_size))) (rw e l.accepted);
      }

  pub listed_iff : (s : List ℕ) → Listed table n s ↔ ListedIn (table_of table) n s
  listed_iff s = (listed_in s, listed_out s)
