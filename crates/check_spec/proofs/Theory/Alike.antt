-- Files that are alike have the same verdict, cause 19 apart.
use Rattle.std.proofs.Common.{◌∙◌, sym}
use Rattle.std.specs.Prelude.{◌≡◌, Bool, ℕ, ◌<◌}
use Rattle.std.proofs.Math.Path.{ap, ap₂, refl}
use Rattle.std.proofs.Math.Bool.{◌||◌, cond, false, not, true}
use mathlib.Core.List.{List, [], ◌++◌, ◌∷◌}
use Rattle.std.proofs.Math.Dec.{leb, ltb}
use Rattle.calculus.specs.Causes.{starting_cause, type_entry_cause}
use Rattle.calculus.specs.Limits.{max_bays, max_nesting, max_recipe_nodes}
use Rattle.calculus.specs.Lists.{tabulate, each_below, sum_below}
use Rattle.calculus.specs.Lowest.{Cause, cause, first_cause}
use Rattle.calculus.specs.Image.{nodes}
use Rattle.calculus.specs.Verdict.{type_causes, type_number}
use Rattle.calculus.proofs.Theory.Lowest.{first_cause_rest}
use Rattle.calculus.proofs.Theory.Tabulate.{each_below_same, sum_below_same, tabulate_same}
use Rattle.calculus.proofs.Theory.Tests.{ltb_sound}
use Rattle.term.specs.Expressions.{nesting, term_of}
use Rattle.term.specs.Reader.{one_term}
use Rattle.recipe_file.specs.File.{bays, layout_causes}
use Rattle.recipe_file.specs.Starting.{cause_19, starting_causes}
use Rattle.recipe_file.specs.FileRule.{FileRule}
use Rattle.recipe_file.proofs.LaidOut.{laid_iff}
use Rattle.recipe_file.proofs.Twins.{Alike}
use Rattle.recipe_table.specs.Entries.{table_of, type_table, cause_4}
use Rattle.check_spec.specs.Bays.{bay_reading, bay_term, bay_terms, cause_5, cause_6, term_causes}
use Rattle.check_spec.specs.Verdict.{bay_type_number, bay_type_numbers, number_in, refusal, verdict_of}

-- causes 4 to 11
abbrev behind_layout : List ℕ → List Cause
behind_layout s = cause type_entry_cause (cause_4 s) ∷ (term_causes s ++ type_causes (type_table s) (bay_terms s))

-- those of a file that is laid out, then 19
past_layout : (s : List ℕ) → FileRule s → refusal s ≡ first_cause (behind_layout s ++ starting_causes s)
unfolding refusal
past_layout s l = let (a, b, c) = (laid_iff s).1 l in first_cause_rest (layout_causes s) (behind_layout s ++ starting_causes s) (a, (b, (c, tt)))

module _ {s s' : List ℕ} (a : Alike s s') where
  pub same_table : type_table s ≡ type_table s'
  unfolding type_table
  same_table = ap table_of a.table

  same_term : (bay : ℕ) → bay < bays s → bay_term s bay ≡ bay_term s' bay
  unfolding bay_term
  same_term bay l = ap term_of (a.terms bay l)

  pub same_terms : bay_terms s ≡ bay_terms s'
  unfolding bay_terms
  same_terms = tabulate_same (bays s) (bay_term s) (bay_term s') same_term ∙ ap (λ (n : ℕ). tabulate n (bay_term s')) a.as_many

  same_4 : cause_4 s ≡ cause_4 s'
  unfolding cause_4
  same_4 = rw (a.kinds, same_table) refl

  same_5 : cause_5 s ≡ cause_5 s'
  unfolding cause_5
  same_5 =
      ap not (
      each_below_same (bays s) (λ bay. one_term (bay_reading s bay)) (λ bay. one_term (bay_reading s' bay)) (λ bay l. rw (a.forms, a.terms bay l) refl)
      ∙ ap (λ (n : ℕ). each_below n (λ bay. one_term (bay_reading s' bay))) a.as_many
      )

  same_6 : cause_6 s ≡ cause_6 s'
  unfolding cause_6
  same_6 =
      ap₂ ◌||◌
      (ap not (
      each_below_same (bays s) (λ bay. leb (nesting (bay_term s bay)) max_nesting) (λ bay. leb (nesting (bay_term s' bay)) max_nesting) (λ bay l. rw (same_term bay l) refl)
      ∙ ap (λ (n : ℕ). each_below n (λ bay. leb (nesting (bay_term s' bay)) max_nesting)) a.as_many
      ))
      (ap (ltb max_recipe_nodes) (
      sum_below_same (bays s) (λ bay. nodes (bay_term s bay)) (λ bay. nodes (bay_term s' bay)) (λ bay l. rw (same_term bay l) refl)
      ∙ ap (λ (n : ℕ). sum_below n (λ bay. nodes (bay_term s' bay))) a.as_many
      ))

  same_causes : behind_layout s ≡ behind_layout s'
  same_causes = rw (same_4, same_5, same_6, same_table, same_terms) refl

  same_number : (bay : ℕ) → bay_type_number s bay ≡ bay_type_number s' bay
  unfolding bay_type_number
  same_number bay = go (ltb bay (bays s)) refl ∙ ap (λ (n : ℕ). cond (ltb bay n) (number_in (type_number (type_table s') [] (bay_term s' bay))) 0) a.as_many
    where
      go : (b : Bool) → ltb bay (bays s) ≡ b →
          cond b (number_in (type_number (type_table s) [] (bay_term s bay))) 0 ≡ cond b (number_in (type_number (type_table s') [] (bay_term s' bay))) 0
      go true l = rw (same_table, same_term bay (ltb_sound bay (bays s) l)) refl
      go false l = refl

  pub same_types : bay_type_numbers s ≡ bay_type_numbers s'
  unfolding bay_type_numbers
  same_types = tabulate_same max_bays (bay_type_number s) (bay_type_number s') (λ bay l. same_number bay)

  -- the lowest of causes 1 to 11 is the same
  module _ (n : cause_19 s ≡ false) (n' : cause_19 s' ≡ false) where
    pub same_refusal : refusal s ≡ refusal s'
    same_refusal =
        past_layout s a.laid
        ∙ ap₂ (λ (cs : List Cause) (b : Bool). first_cause (cs ++ (cause starting_cause b ∷ []))) same_causes (n ∙ sym n')
        ∙ sym (past_layout s' a.laid')

    pub same_verdict : verdict_of s ≡ verdict_of s'
    unfolding verdict_of
    same_verdict = rw (same_refusal, a.as_many, same_types) refl
