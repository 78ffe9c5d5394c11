-- Cause 5 by a loop that adds up the nodes.
use mathlib.Core.Path.{◌∙◌, ◌≡◌, ap, refl, sym}
use mathlib.Core.Bool.{false, true}
use mathlib.Core.List.{List, [], ◌∷◌}
use Prim.Native.Nat.{◌*◌, ◌+◌, ◌<◌, ◌≤◌, zero-le, ℕ}
use native.Mathlib.Numerals.{add-one}
use native.Mathlib.Omega.{arith}
use lib.ListN.{length, length-drop, length-take}
use Rattle.calculus.specs.Lists.{sum_below}
use Rattle.calculus.specs.Limits.{max_file_length}
use Rattle.calculus.proofs.Theory.Tests.{clash}
use Rattle.term.specs.Tree.{forms_below}
use Rattle.term.specs.Reader.{first_tree, Got, got, none, of_edition, one_term, tree_at}
use Rattle.term.specs.Expressions.{term_of}
use Rattle.term.proofs.Sizes.{nodes_exp}
use Rattle.term.proofs.Views.{end_inside, nodes_inside}
use Rattle.recipe_file.specs.declared.Edition.{Edition}
use Rattle.recipe_file.specs.File.{bays, edition_of, part, term_bytes}
use Rattle.recipe_file.specs.FileRule.{FileRule}
use Rattle.std.proofs.Common.{None, Some}
use Rattle.term_scan.specs.Extents.{exactly, part_of}
use Rattle.term_scan.proofs.Answers.{part_single, Single}
use Rattle.check_spec.specs.Bays.{bay_reading, bay_term}
use Rattle.check_bays.specs.Terms.{bay_single, bay_nodes, nodes_in}
use Rattle.check_bays.proofs.Each.{failed, Passed, passed_all, passed_next, passed_none}

-- the loop stands at a bay, all parts before are terms, and these are their nodes
pub record NodesCounted (s : List ℕ) (bay total : ℕ) : Type 0 where
  pub passed : Passed (bays s) (bay_single s) bay
  pub sum : total ≡ sum_below bay (bay_nodes s)
  pub bound : total ≤ bay * max_file_length

pub counted_none : (s : List ℕ) → NodesCounted s 0 0
unfolding sum_below
counted_none s = record { passed = passed_none _ _; sum = refl; bound = zero-le }

short : (s : List ℕ) (bay : ℕ) → length (term_bytes s bay) ≤ length s
unfolding term_bytes part
short s bay = simp (length-take, length-drop) (omega arith)

-- a part that is one term has no more nodes than the file has bytes
part_nodes : (s : List ℕ) (bay n : ℕ) → FileRule s → Single (term_bytes s bay) n → n ≤ max_file_length
unfolding term_of tree_at first_tree
part_nodes s bay n l h =
    let p = term_bytes s bay in
    omega (arith, h.count, nodes_exp (tree_at p 0), nodes_inside p 0, end_inside h.good, short s bay, l.size.high)

one_part : (s : List ℕ) (bay n : ℕ) → Single (term_bytes s bay) n → forms_below (edition_of s).forms (tree_at (term_bytes s bay) 0) ≡ true → bay_single s bay ≡ true
unfolding bay_single one_term of_edition
one_part s bay n h f = rw (h.reads, f) refl

module _ {s : List ℕ} {bay : ℕ} (l : FileRule s) (b : bay < bays s) {p : List ℕ} (is : p ≡ term_bytes s bay) {edition : Edition} (has : edition ≡ edition_of s) where
  -- what is read of the part is what is read of the bay
  same : part_of edition.forms p ≡ part_of (edition_of s).forms (term_bytes s bay)
  same = rw (has, is) refl

  pub counted_next : {total : ℕ} (n : ℕ) → NodesCounted s bay total → Some n ≡ part_of edition.forms p → NodesCounted s (bay + 1) (total + n)
  unfolding sum_below bay_nodes bay_term
  counted_next {total} n c e =
      let (h, f) = part_single (edition_of s).forms (term_bytes s bay) n (e ∙ same) in
      record {
        passed = passed_next c.passed b true (sym (one_part s bay n h f)) refl;
        sum = rw (add-one bay) (omega (arith, c.sum, h.count));
        bound = omega (arith, c.bound, part_nodes s bay n l h);
      }

  pub counted_not : None ≡ part_of edition.forms p → None ≡ nodes_in s
  unfolding nodes_in part_of bay_single one_term
  counted_not e =
      rw (failed (bays s) (bay_single s) bay b (bay_single s bay) refl (over (bay_reading s bay) refl (e ∙ same))) refl
    where
      over : (g : Got) → bay_reading s bay ≡ g → None ≡ exactly (bay_reading s bay) → one_term (bay_reading s bay) ≡ false
      over none r q = rw r refl
      over (got t []) r q = absurd (clash (let z : None ≡ exactly (got t []) = q ∙ ap exactly r in cc))
      over (got t (x ∷ rest)) r q = rw r refl

pub counted_all : {s : List ℕ} {bay total : ℕ} → NodesCounted s bay total → bays s ≤ bay → Some total ≡ nodes_in s
unfolding nodes_in
counted_all {s} {bay} {total} c h =
    let z : bays s ≡ bay = omega (arith, c.passed.inside) in
    rw (passed_all c.passed h, z, c.sum) refl
