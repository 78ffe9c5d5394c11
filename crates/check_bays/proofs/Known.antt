-- What the causes already passed give of a bay's part.
use mathlib.Core.Path.{◌≡◌, refl}
use mathlib.Core.Bool.{false≢true, true}
use mathlib.Core.List.{List, [], ◌∷◌}
use Prim.Native.Nat.{◌<◌, ◌≤◌, zero-le, ℕ}
use native.Mathlib.Omega.{arith}
use lib.ListN.{length}
use Rattle.calculus.specs.Limits.{max_nesting, max_nodes}
use Rattle.calculus.specs.Image.{nodes}
use Rattle.calculus.specs.Verdict.{scoped}
use Rattle.calculus.proofs.Theory.Tests.{leb_sound}
use Rattle.calculus.proofs.Theory.Tabulate.{each_below_sound}
use Rattle.term.specs.Reader.{Good, GoodAt, Got, got, none, of_edition, one_term, read_term}
use Rattle.term.specs.Expressions.{nesting, term_at}
use Rattle.term.proofs.Fronts.{is_good}
use Rattle.term.proofs.Expressions.{edition_got}
use Rattle.recipe_file.specs.File.{bays, edition_of, term_bytes}
use Rattle.recipe_table.specs.Entries.{type_table}
use Rattle.check_spec.specs.Bays.{bay_reading, bay_term}
use Rattle.check_bays.specs.Terms.{bay_single, bay_nodes}
use Rattle.check_bays.specs.Tests.{all_scoped, all_shallow, bay_scoped, bay_shallow}
use Rattle.check_bays.specs.Stages.{ScopedTerms, Terms}
use Rattle.check_bays.proofs.Each.{part_below}

pub good_of : (forms : ℕ) (l : List ℕ) (g : Got) → of_edition forms (read_term l) ≡ g → one_term g ≡ true → Good l
unfolding one_term
good_of forms l none r e = absurd (false≢true e)
good_of forms l (got t []) r e = is_good l t [] (edition_got forms (read_term l) r).0
good_of forms l (got t (x ∷ rest)) r e = absurd (false≢true e)

module _ {s : List ℕ} (t : Terms s) {bay : ℕ} (b : bay < bays s) where
  module _ {l : List ℕ} (e : l ≡ term_bytes s bay) where
    pub good_part : GoodAt l 0
    unfolding bay_single
    good_part = rw e (record {
      inside = zero-le;
      good = good_of (edition_of s).forms (term_bytes s bay) (bay_reading s bay) refl (each_below_sound (bays s) (bay_single s) t.single bay b);
    })

    pub few_nodes : nodes (term_at l 0) ≤ max_nodes
    unfolding bay_nodes bay_term
    few_nodes = rw e (omega (arith, t.few, part_below (bays s) (bay_nodes s) bay b))

module _ {s : List ℕ} (c : ScopedTerms s) {bay : ℕ} (b : bay < bays s) {l : List ℕ} (e : l ≡ term_bytes s bay) where
  pub shallow_part : nesting (term_at l 0) ≤ max_nesting
  unfolding all_shallow bay_shallow bay_term
  shallow_part = rw e (leb_sound _ _ (each_below_sound (bays s) (bay_shallow s) c.shallow bay b))

  pub scoped_part : scoped (length (type_table s)) (bays s) 0 (term_at l 0) ≡ true
  unfolding all_scoped bay_scoped bay_term
  scoped_part = rw e (each_below_sound (bays s) (bay_scoped s) c.scope bay b)
