-- A test of one bay: what the walk of its part asks, and that its answer is the test's.
use mathlib.Core.Path.{◌≡◌, refl}
use mathlib.Core.Bool.{Bool}
use mathlib.Core.List.{List}
use Prim.Native.Nat.{◌<◌, ℕ}
use lib.Dec.{leb}
use lib.ListN.{length}
use Rattle.calculus.specs.Limits.{max_nesting}
use Rattle.calculus.specs.Verdict.{scoped}
use Rattle.term.specs.Expressions.{nesting, term_at}
use Rattle.recipe_file.specs.File.{bays, table_bytes, term_bytes}
use Rattle.recipe_table.specs.Entries.{table_of, type_table}
use Rattle.recipe_table.proofs.Tables.{count_between}
use Rattle.check_walk.specs.Walk.{Answer, Decides, Whole}
use Rattle.check_spec.specs.Bays.{bay_term}
use Rattle.check_bays.specs.Tests.{bay_scoped, bay_shallow}
use Rattle.check_bays.specs.Stages.{ScopedTerms}
use Rattle.check_bays.proofs.Known.{good_part, scoped_part, shallow_part}

module _ (s : List ℕ) (bay : ℕ) {l : List ℕ} (e : l ≡ term_bytes s bay) (r : Bool) where
  pub shallow_is : r ≡ leb (nesting (term_at l 0)) max_nesting → r ≡ bay_shallow s bay
  unfolding bay_shallow bay_term
  shallow_is q = rw (q, e) refl

  pub scoped_is : (types names : ℕ) → types ≡ length (type_table s) → names ≡ bays s → r ≡ scoped types names 0 (term_at l 0) → r ≡ bay_scoped s bay
  unfolding bay_scoped bay_term
  scoped_is types names t m q = rw (q, e, m, t) refl

-- the walk of one bay
module _ {s : List ℕ} (c : ScopedTerms s) {bay : ℕ} (b : bay < bays s) {l : List ℕ} (e : l ≡ term_bytes s bay) where
  pub whole : Whole l
  whole = record {
    good = good_part c.terms b e;
    shallow = shallow_part c b e;
    types = length (type_table s);
    few = (count_between c.terms.laid).high;
    names = bays s;
    scope = scoped_part c b e;
  }

  pub walked_is : {t : List ℕ} {r : Answer} → t ≡ table_bytes s → Decides (table_of t) l r → Decides (type_table s) (term_bytes s bay) r
  unfolding type_table
  walked_is t d = rw (← t, ← e) d
