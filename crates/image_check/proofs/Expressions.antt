-- What `expression_nodes` answers: one law for each return.
use mathlib.Core.Path.{◌∙◌, ◌≡◌, ap, ap₂, refl, sym}
use mathlib.Core.Bool.{Bool, ◌&&◌, false≢true, true}
use mathlib.Core.List.{List, [], ◌∷◌}
use Prim.Native.Nat.{◌+◌, ◌≤◌, zero-le, ℕ}
use native.Mathlib.Omega.{arith}
use lib.Dec.{leb}
use lib.ListN.{length, length-drop}
use Rattle.calculus.specs.Bytes.{Bytes}
use Rattle.calculus.specs.Limits.{byte_values}
use Rattle.calculus.specs.Verdict.{scoped}
use Rattle.calculus.specs.Image.{expression_test, nodes}
use Rattle.calculus.proofs.Theory.Tests.{and_parts, and_true, leb_complete, leb_sound}
use Rattle.term.specs.Tree.{Tree, tree_size}
use Rattle.term.specs.Reader.{end_at, first_rest, first_tree, GoodAt, Got, got, none, one_term, read_term, tree_at}
use Rattle.term.specs.Expressions.{term_at}
use Rattle.term.proofs.Reading.{past_term}
use Rattle.term.proofs.Fronts.{is_good, is_tree}
use Rattle.term.proofs.Expressions.{one_term_sound}
use Rattle.std.proofs.Common.{None, Some}
use Rattle.term_scan.specs.Extents.{ends, extent_at, in_scope, small}
use Rattle.term_scan.proofs.Many.{refused_ends, same_end}
use Rattle.term_scan.proofs.Answers.{scope_ends, small_good, small_stands}
use Rattle.term_scan.proofs.Scopes.{scoped_image}
use Rattle.image_check.specs.Parts.{expression_part}
use Rattle.image_check.proofs.Picks.{pick_none, pick_some, picked, unpicked}

-- bytes are exactly one term where the term at their front ends with them
rest_length : (l : List ℕ) (t : Tree) (r : List ℕ) → read_term l ≡ got t r → length r + tree_size t ≡ length l
rest_length l t r e =
    let p = past_term l t r e in
    omega (arith, ap length p.rest ∙ length-drop (tree_size t) l, p.fits)

pub whole_term : (l : List ℕ) → one_term (read_term l) ≡ true → GoodAt l 0 × (end_at l 0 ≡ length l)
unfolding one_term end_at tree_at
whole_term l h = is (read_term l) refl h
  where
    is : (g : Got) → read_term l ≡ g → one_term g ≡ true → GoodAt l 0 × (0 + tree_size (first_tree l) ≡ length l)
    is none r h = absurd (false≢true h)
    is (got t []) r h = (
      record { inside = zero-le; good = is_good l t [] r },
      (let e : tree_size (first_tree l) ≡ tree_size t = ap tree_size (is_tree l t [] r) in omega (arith, rest_length l t [] r)),
    )
    is (got t (x ∷ rest)) r h = absurd (false≢true h)

pub term_whole : (l : List ℕ) → GoodAt l 0 → end_at l 0 ≡ length l → one_term (read_term l) ≡ true
unfolding one_term end_at tree_at
term_whole l g e = ap one_term g.good ∙ is (first_rest l) (omega (arith, e, rest_length l (first_tree l) (first_rest l) g.good))
  where
    is : (r : List ℕ) → length r ≡ 0 → one_term (got (first_tree l) r) ≡ true
    is [] z = refl
    is (x ∷ r) z = absurd (omega arith)

-- what an answer says
pub record Reads (m left : ℕ) (l : List ℕ) : Type 0 where
  pub one : one_term (read_term l) ≡ true
  pub scope : expression_test m 0 (term_at l 0) ≡ true
  pub few : nodes (term_at l 0) ≤ left

module _ (m left : ℕ) (l : List ℕ) where
  abbrev test : Bool
  test = one_term (read_term l) && (expression_test m 0 (term_at l 0) && leb (nodes (term_at l 0)) left)

  test_reads : test ≡ true → Reads m left l
  test_reads h =
      let (one, rest) = and_parts (one_term (read_term l)) (expression_test m 0 (term_at l 0) && leb (nodes (term_at l 0)) left) h in
      let (scope, few) = and_parts (expression_test m 0 (term_at l 0)) (leb (nodes (term_at l 0)) left) rest in
      record { one = one; scope = scope; few = leb_sound (nodes (term_at l 0)) left few }

  reads_test : Reads m left l → test ≡ true
  reads_test r = and_true r.one (and_true r.scope (leb_complete (nodes (term_at l 0)) left r.few))

  pub part_reads : (n : ℕ) → Some n ≡ expression_part m left l → Reads m left l × (nodes (term_at l 0) ≡ n)
  unfolding expression_part
  part_reads n h = let (t, e) = picked test n (nodes (term_at l 0)) h in (test_reads t, e)

  pub part_none : None ≡ expression_part m left l → ¬ Reads m left l
  unfolding expression_part
  part_none h r = unpicked test (nodes (term_at l 0)) h (reads_test r)

  none_part : ¬ Reads m left l → None ≡ expression_part m left l
  unfolding expression_part
  none_part h = pick_none test (nodes (term_at l 0)) (λ t. h (test_reads t))

  reads_part : (n : ℕ) → Reads m left l → nodes (term_at l 0) ≡ n → Some n ≡ expression_part m left l
  unfolding expression_part
  reads_part n r e = pick_some test n (nodes (term_at l 0)) (reads_test r) e

  -- the scan finds what there is
  scan_finds : Reads m left l → small left (extent_at l 0) ≡ ends (length l) (nodes (term_at l 0))
  scan_finds r =
      let (good, e_is) = whole_term l r.one in
      small_good left good r.few ∙ ap (λ (e : ℕ). ends e (nodes (term_at l 0))) e_is

  module _ (b : Bytes l) where
    scope_finds : Reads m left l → scoped byte_values m 0 (term_at l 0) ≡ true
    scope_finds r = scoped_image m 0 (term_at l 0) (one_term_sound l b r.one).1.writable ∙ r.scope

    both_find : Reads m left l → in_scope (scoped byte_values m 0 (term_at l 0)) (small left (extent_at l 0)) ≡ ends (length l) (nodes (term_at l 0))
    both_find r = ap₂ in_scope (scope_finds r) (scan_finds r)

    -- no term within the budget, or an index, or a name
    pub refused : None ≡ in_scope (scoped byte_values m 0 (term_at l 0)) (small left (extent_at l 0)) → None ≡ expression_part m left l
    refused q = none_part (λ r. refused_ends (q ∙ both_find r))

    module _ (e n : ℕ) (q : ends e n ≡ in_scope (scoped byte_values m 0 (term_at l 0)) (small left (extent_at l 0))) where
      -- bytes over
      pub bytes_over : (e ≡ length l → ⊥) → None ≡ expression_part m left l
      bytes_over d = none_part (λ r. d (same_end (q ∙ both_find r)))

      pub found : e ≡ length l → Some n ≡ expression_part m left l
      found d =
          let (t, p) = scope_ends (scoped byte_values m 0 (term_at l 0)) (small left (extent_at l 0)) e n q in
          let (s, few) = small_stands left l 0 e n zero-le p in
          let one = term_whole l s.good (s.end ∙ d) in
          reads_part n
          record {
            one = one;
            scope = sym (scoped_image m 0 (term_at l 0) (one_term_sound l b one).1.writable) ∙ t;
            few = omega (arith, s.count);
          }
          s.count
