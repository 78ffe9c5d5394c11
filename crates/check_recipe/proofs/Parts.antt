-- Causes 5 to 8, by one pass and by the loops.
use mathlib.Core.Path.{◌∙◌, ◌≡◌, refl, sym}
use mathlib.Core.Bool.{Bool, ◌&&◌, ◌||◌, and-true, false, not, true}
use mathlib.Core.List.{List, ◌∷◌}
use Prim.Native.Nat.{ℕ}
use lib.Dec.{ltb}
use borrow.Author.Tests.{not-false}
use Rattle.calculus.proofs.Theory.Lowest.{first_cause_front, first_cause_parts, none_fits}
use Rattle.calculus.specs.Lowest.{cause, first_cause}
use Rattle.calculus.specs.Causes.{no_term_cause, term_size_cause, scope_cause, annotation_cause}
use Rattle.calculus.specs.Lists.{each_below, sum_below}
use Rattle.calculus.specs.Limits.{max_recipe_nodes}
use Rattle.calculus.specs.Table.{TableRule}
use Rattle.calculus.proofs.Theory.Tests.{and_parts, leb_complete, leb_sound, ltb_not}
use Rattle.numbers.specs.declared.Cause.{Cause}
use Rattle.numbers.specs.Refusals.{number_of}
use Rattle.numbers.proofs.Refusals.{some_number}
use Rattle.recipe_file.specs.File.{bays}
use Rattle.recipe_file.specs.FileRule.{FileRule}
use Rattle.recipe_table.specs.Entries.{type_table}
use Rattle.check_spec.specs.Bays.{cause_5, cause_6, term_causes}
use Rattle.check_bays.specs.Terms.{bay_nodes, bay_single}
use Rattle.check_bays.specs.Tests.{all_scoped, all_shallow, bay_scoped, bay_shallow}
use Rattle.check_bays.specs.Standing.{all_stand, bay_annotated}
use Rattle.check_bays.specs.Stages.{ScopedTerms, Terms}
use Rattle.check_bays.proofs.Standing.{all_tests}
use Rattle.check_recipe.specs.Refusals.{parts_refusal, terms_refusal, scope_causes}
use Rattle.check_recipe.proofs.Terms.{neither}

module _ (s : List ℕ) where
  abbrev single : Bool
  single = each_below (bays s) (bay_single s)

  abbrev total : ℕ
  total = sum_below (bays s) (bay_nodes s)

  abbrev annotated : Bool
  annotated = each_below (bays s) (bay_annotated s)

  -- the number, by five tests
  by_tests : parts_refusal s
      ≡ first_cause (cause no_term_cause (not single) ∷ cause term_size_cause (not (all_shallow s) || ltb max_recipe_nodes total) ∷ scope_causes s)
  unfolding parts_refusal cause_5 cause_6 bay_single bay_nodes all_scoped all_shallow bay_scoped bay_shallow
  by_tests = refl

  -- one pass found nothing
  pub all_clear : true ≡ all_stand s → 0 ≡ parts_refusal s
  all_clear e =
      let (t, m) = and_parts (single && (all_shallow s && (all_scoped s && annotated))) _ (sym (all_tests s) ∙ sym e) in
      let (p, q) = and_parts single _ t in
      let (n, r) = and_parts (all_shallow s) _ q in
      let (c, d) = and_parts (all_scoped s) _ r in
      rw (by_tests, p, n, c, d, ltb_not max_recipe_nodes total (leb_sound total max_recipe_nodes m)) refl

  pub by_terms : (c : Cause) → number_of c ≡ terms_refusal s → number_of c ≡ parts_refusal s
  unfolding terms_refusal parts_refusal
  by_terms c e = e ∙ sym (first_cause_front (term_causes s) (scope_causes s) (λ z. some_number c (e ∙ z)))

  module _ (l : FileRule s) (r : TableRule (type_table s)) (e : 0 ≡ terms_refusal s) where
    pub terms_stand : Terms s
    terms_stand = (neither s l r (sym e)).0

    few : ltb max_recipe_nodes total ≡ false
    few = ltb_not max_recipe_nodes total terms_stand.few

    pub by_scope : all_scoped s ≡ false → scope_cause ≡ parts_refusal s
    by_scope c = rw (by_tests, terms_stand.single, (neither s l r (sym e)).1, few, c) refl

    pub by_annotations : all_scoped s ≡ true → all_stand s ≡ false → annotation_cause ≡ parts_refusal s
    by_annotations c f = rw (by_tests, terms_stand.single, (neither s l r (sym e)).1, few, c, annotated_not) refl
      where
        annotated_not : annotated ≡ false
        annotated_not = sym (and-true annotated)
            ∙ rw (terms_stand.single, (neither s l r (sym e)).1, c, leb_complete total max_recipe_nodes terms_stand.few) at (sym (all_tests s) ∙ f)

  -- none fits
  pub none_of_parts : FileRule s → TableRule (type_table s) → parts_refusal s ≡ 0 → ScopedTerms s
  unfolding parts_refusal terms_refusal
  none_of_parts l r e =
      let ((p, (q, u)), z) = first_cause_parts (term_causes s) (scope_causes s) tt e in
      let (t, n) = neither s l r (rw (p, q) refl) in
      record { terms = t; shallow = n; scope = not-false (all_scoped s) (none_fits (scope_causes s) tt z).0 }
