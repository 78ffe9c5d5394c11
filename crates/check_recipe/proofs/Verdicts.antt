-- The verdict by what is answered of the table, the parts, the types and the starting part.
use mathlib.Core.Path.{◌∙◌, ◌≡◌, refl, sym, ap}
use mathlib.Core.Bool.{cond, true}
use mathlib.Core.List.{List, [], ◌++◌}
use Prim.Native.Nat.{ℕ}
use lib.ListN.{length}
use Rattle.calculus.proofs.Theory.Lowest.{first_cause_front, first_cause_rest, none_fits}
use Rattle.calculus.specs.Lowest.{Cause, first_cause}
use Rattle.calculus.specs.Causes.{starting_cause}
use Rattle.calculus.specs.Table.{TableRule}
use Rattle.calculus.specs.Table.{is_many}
use Rattle.calculus.specs.Verdict.{annotated, linear, on_number, scoped, type_number, type_causes}
use Rattle.calculus.proofs.Theory.Tests.{eqb_differ}
use Rattle.calculus.proofs.Theory.Tabulate.{every_tabulate, length_tabulate}
use Rattle.numbers.specs.declared.Cause as code
use Rattle.numbers.specs.Refusals.{number_of}
use Rattle.numbers.proofs.Refusals.{some_number}
use Rattle.recipe_file.specs.File.{bays}
use Rattle.recipe_file.specs.Starting.{cause_19, starting_causes}
use Rattle.recipe_file.specs.FileRule.{FileRule}
use Rattle.recipe_table.specs.Entries.{table_refusal, type_table, table_causes}
use Rattle.recipe_table.proofs.Tables.{table_admitted_iff}
use Rattle.check_spec.specs.Bays.{bay_term, bay_terms, term_causes}
use Rattle.check_spec.specs.Verdict.{accepted, refusal, refused, verdict_of}
use Rattle.check_bays.specs.Tests.{all_scoped, all_shallow, bay_scoped, bay_shallow}
use Rattle.check_bays.specs.Standing.{bay_annotated}
use Rattle.check_bays.specs.Stages.{ScopedTerms}
use Rattle.check_bays.specs.Numbers.{bay_linear, bay_number, has_many, has_type, types_refusal, walk_causes}
use Rattle.check_bays.proofs.Typing.{first_not_linear, first_not_many, first_untyped, none_first, typed}
use Rattle.check_recipe.specs.Refusals.{parts_refusal, scope_causes}
use Rattle.check_recipe.proofs.Parts.{none_of_parts}

module _ (s : List ℕ) where
  by_bays : type_causes (type_table s) (bay_terms s) ≡ scope_causes s ++ walk_causes s
  unfolding bay_terms all_scoped all_shallow bay_scoped bay_shallow bay_annotated has_type has_many bay_linear bay_number
  by_bays =
      let f = bay_term s in
      let n = bays s in
      let T = type_table s in
      rw (
        length_tabulate n f,
        every_tabulate (scoped (length T) n 0) n f,
        every_tabulate (annotated T) n f,
        every_tabulate (λ e. on_number (type_number T [] e) (λ k. true)) n f,
        every_tabulate (linear T []) n f,
        every_tabulate (λ e. on_number (type_number T [] e) (is_many T)) n f,
      ) refl

  -- causes 9 to 11 and 19; 5 to 11 and 19
  abbrev late : List Cause
  late = walk_causes s ++ starting_causes s

  abbrev behind_table : List Cause
  behind_table = (term_causes s ++ scope_causes s) ++ late

  by_causes : refusal s ≡ first_cause (table_causes s ++ behind_table)
  unfolding refusal
  by_causes = ap (λ (cs : List Cause). first_cause (table_causes s ++ (term_causes s ++ (cs ++ starting_causes s)))) by_bays

  pub by_table : (table_refusal s ≡ 0 → ⊥) → refusal s ≡ table_refusal s
  unfolding table_refusal
  by_table d = by_causes ∙ first_cause_front (table_causes s) behind_table d

  -- no cause up to 4 fits
  module _ (e : 0 ≡ table_refusal s) where
    pub filed : FileRule s × TableRule (type_table s)
    filed = let (l, (k, r)) = (table_admitted_iff s).0 (sym e) in (l, r)

    past_table : refusal s ≡ first_cause behind_table
    unfolding table_refusal
    past_table = by_causes ∙ first_cause_rest (table_causes s) behind_table (none_fits (table_causes s) tt (sym e))

    pub by_parts : (parts_refusal s ≡ 0 → ⊥) → refusal s ≡ parts_refusal s
    unfolding parts_refusal
    by_parts d = past_table ∙ first_cause_front (term_causes s ++ scope_causes s) late d

    -- nor up to 8
    module _ (f : 0 ≡ parts_refusal s) where
      pub scoped_terms : ScopedTerms s
      scoped_terms = none_of_parts s filed.0 filed.1 (sym f)

      past_parts : refusal s ≡ first_cause late
      unfolding parts_refusal
      past_parts = past_table ∙ first_cause_rest (term_causes s ++ scope_causes s) late (none_fits (term_causes s ++ scope_causes s) tt (sym f))

      pub by_types : (types_refusal s ≡ 0 → ⊥) → refusal s ≡ types_refusal s
      unfolding types_refusal
      by_types d = past_parts ∙ first_cause_front (walk_causes s) (starting_causes s) d

      -- nor up to 11
      pub by_starting : 0 ≡ types_refusal s → refusal s ≡ cond (cause_19 s) starting_cause 0
      unfolding types_refusal
      by_starting g = past_parts ∙ first_cause_rest (walk_causes s) (starting_causes s) (none_fits (walk_causes s) tt (sym g))

-- the refusal by the first stage that answers a cause; of the types also by what is answered of all bays
pub ruleset stages = (by_table, by_parts, by_types, by_starting, some_number, first_untyped, first_not_linear, first_not_many, none_first, typed)

-- what a refusal's number says
module _ (s : List ℕ) where
  pub refused_is : (c : code.Cause) → number_of c ≡ refusal s → refused (number_of c) ≡ verdict_of s
  unfolding verdict_of
  refused_is c e = rw (← e, eqb_differ (number_of c) 0 (some_number c)) refl

  pub accepted_is : 0 ≡ refusal s → accepted s ≡ verdict_of s
  unfolding verdict_of
  accepted_is e = rw (← e) refl
