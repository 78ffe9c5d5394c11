-- One pass decides the four tests.
use mathlib.Core.Path.{◌≡◌, ap, ap₂, refl, ◌∙◌}
use mathlib.Core.Bool.{Bool, ◌&&◌, cond, false, true}
use mathlib.Core.List.{List, [], ◌∷◌}
use Prim.Native.Nat.{◌+◌, ◌<◌, ◌≤◌, suc, zero, ℕ}
use native.Mathlib.Omega.{arith}
use lib.Dec.{leb}
use lib.ListN.{length}
use Rattle.calculus.specs.Lists.{each_below, sum_below}
use Rattle.calculus.specs.Limits.{max_nesting, max_recipe_nodes}
use Rattle.calculus.specs.Verdict.{annotated, scoped}
use Rattle.calculus.proofs.Theory.Tests.{clash}
use Rattle.term.specs.Tree.{tree_nodes}
use Rattle.term.specs.Reader.{Got, got, none, of_edition, one_term, read_term, tree_in}
use Rattle.term.specs.Expressions.{exp_of, nesting, term_at, term_of}
use Rattle.term.proofs.Expressions.{edition_got}
use Rattle.recipe_file.specs.declared.Edition.{Edition}
use Rattle.recipe_file.specs.File.{bays, edition_of, table_bytes, term_bytes}
use Rattle.recipe_file.specs.FileRule.{FileRule}
use Rattle.std.proofs.Common.{None, Some}
use Rattle.term_scan.specs.Extents as extents
use Rattle.recipe_table.specs.Entries.{table_of, type_table}
use Rattle.check_prescan.specs.Stands.{exactly, glance, stands}
use Rattle.check_spec.specs.Bays.{bay_reading, bay_term}
use Rattle.check_bays.specs.Terms.{bay_nodes, bay_single}
use Rattle.check_bays.specs.Tests.{all_scoped, all_shallow, bay_scoped, bay_shallow}
use Rattle.check_bays.specs.Standing.{all_stand, bay_annotated, bay_stands, is_term}
use Rattle.check_bays.proofs.Counting.{NodesCounted, counted_next, counted_none}
use Rattle.check_bays.proofs.Each.{failed, Passed, passed_all, passed_next, passed_none}

is_term_cond : (b : Bool) (n : ℕ) → is_term (cond b (Some n) None) ≡ b
is_term_cond true n = refl
is_term_cond false n = refl

-- a part that is a term is the bay's
whole_term : (l : List ℕ) {g : Got} → read_term l ≡ g → term_at l 0 ≡ exp_of (tree_in g)
unfolding term_of
whole_term l e = ap (λ (x : Got). exp_of (tree_in x)) e

-- the tests of one bay
pub bay_tests : (s : List ℕ) (bay : ℕ) → bay_stands s bay ≡ (bay_single s bay && (bay_shallow s bay && (bay_scoped s bay && bay_annotated s bay)))
unfolding bay_stands bay_single bay_shallow bay_scoped bay_annotated bay_term glance stands one_term
bay_tests s bay = by (bay_reading s bay) refl
  where
    by : (g : Got) → bay_reading s bay ≡ g → is_term (exactly (type_table s) (bays s) g) ≡ (one_term g && (leb (nesting (term_at (term_bytes s bay) 0)) max_nesting
        && (scoped (length (type_table s)) (bays s) 0 (term_at (term_bytes s bay) 0) && annotated (type_table s) (term_at (term_bytes s bay) 0))))
    by none e = refl
    by (got t []) e =
        rw (whole_term (term_bytes s bay) (edition_got (edition_of s).forms (read_term (term_bytes s bay)) e).0)
        (is_term_cond (stands (type_table s) (bays s) (exp_of t)) (tree_nodes t))
    by (got t (x ∷ r)) e = refl

-- of all bays
shuffle : (a b c d : Bool) → ((a && b) && (c && d)) ≡ ((a && c) && (b && d))
shuffle false b c d = refl
shuffle true false false d = refl
shuffle true false true d = refl
shuffle true true c d = refl

each_and : (n : ℕ) (f g : ℕ → Bool) → each_below n (λ i. f i && g i) ≡ (each_below n f && each_below n g)
unfolding each_below
each_and zero f g = refl
each_and (suc n) f g = rw (each_and n f g) (shuffle (each_below n f) (each_below n g) (f n) (g n))

each_same : (n : ℕ) (f g : ℕ → Bool) → ((i : ℕ) → f i ≡ g i) → each_below n f ≡ each_below n g
unfolding each_below
each_same zero f g h = refl
each_same (suc n) f g h = ap₂ ◌&&◌ (each_same n f g h) (h n)

pub all_tests : (s : List ℕ) → all_stand s ≡ ((each_below (bays s) (bay_single s) && (all_shallow s && (all_scoped s && each_below (bays s) (bay_annotated s))))
    && leb (sum_below (bays s) (bay_nodes s)) max_recipe_nodes)
unfolding all_stand all_shallow all_scoped
all_tests s =
    let n = bays s in
    ap (λ x. x && leb (sum_below n (bay_nodes s)) max_recipe_nodes)
    (each_same n (bay_stands s) _ (bay_tests s)
    ∙ each_and n (bay_single s) (λ i. bay_shallow s i && (bay_scoped s i && bay_annotated s i))
    ∙ ap (λ x. each_below n (bay_single s) && x)
    (each_and n (bay_shallow s) (λ i. bay_scoped s i && bay_annotated s i)
    ∙ ap (λ x. each_below n (bay_shallow s) && x) (each_and n (bay_scoped s) (bay_annotated s))))

-- the loop stands at a bay, all before stand, and these are their nodes
pub record Stood (s : List ℕ) (bay total : ℕ) : Type 0 where
  pub passed : Passed (bays s) (bay_stands s) bay
  pub counted : NodesCounted s bay total

pub stood_none : (s : List ℕ) → Stood s 0 0
stood_none s = record { passed = passed_none _ _; counted = counted_none s }

-- what stands is a term
is_part : (forms : ℕ) (T : _) (names n : ℕ) (l : List ℕ) → Some n ≡ glance forms T names l → Some n ≡ extents.part_of forms l
unfolding glance extents.part_of
is_part forms T names n l e = by (of_edition forms (read_term l)) e
  where
    by : (g : Got) → Some n ≡ exactly T names g → Some n ≡ extents.exactly g
    by none e = absurd (clash (cc))
    by (got t []) e = go (stands T names (exp_of t)) e
      where
        go : (b : Bool) → Some n ≡ cond b (Some (tree_nodes t)) None → Some n ≡ Some (tree_nodes t)
        go true e = e
        go false e = absurd (clash (cc))
    by (got t (x ∷ r)) e = absurd (clash (cc))

module _ {s : List ℕ} {bay : ℕ} (l : FileRule s) (b : bay < bays s) {p t : List ℕ} (is : p ≡ term_bytes s bay) (table : t ≡ table_bytes s) {names : ℕ} (m : names ≡ bays s) {edition : Edition} (f : edition ≡ edition_of s) where
  same : glance edition.forms (table_of t) names p ≡ glance (edition_of s).forms (type_table s) (bays s) (term_bytes s bay)
  unfolding type_table
  same = rw (is, table, m, f) refl

  pub stood_next : {total : ℕ} (n : ℕ) → Stood s bay total → Some n ≡ glance edition.forms (table_of t) names p → Stood s (bay + 1) (total + n)
  unfolding bay_stands
  stood_next n w e = record {
    passed = passed_next w.passed b true (ap is_term (e ∙ same)) refl;
    counted = counted_next l b is f n w.counted (is_part _ _ _ _ _ e);
  }

  pub stood_not : None ≡ glance edition.forms (table_of t) names p → false ≡ all_stand s
  unfolding all_stand bay_stands
  stood_not e = rw (failed (bays s) (bay_stands s) bay b false (ap is_term (e ∙ same)) refl) refl

pub stood_all : {s : List ℕ} {bay total : ℕ} → Stood s bay total → bays s ≤ bay → leb total max_recipe_nodes ≡ all_stand s
unfolding all_stand
stood_all {s} {bay} {total} w h =
    let z : bays s ≡ bay = omega (arith, w.passed.inside) in
    rw (passed_all w.passed h, z, w.counted.sum) refl
