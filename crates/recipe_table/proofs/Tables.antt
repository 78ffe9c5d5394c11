-- The type table of a file that is laid out; the lowest of causes 1 to 4.
use mathlib.Core.Path.{◌∙◌, ◌≡◌, refl, sym}
use mathlib.Core.Logic.{◌↔◌}
use mathlib.Core.Bool.{Bool, cond, false, not, true}
use mathlib.Core.List.{List, [], ◌∷◌}
use Prim.Native.Nat.{◌/◌, ◌≤◌, ℕ}
use native.Mathlib.Omega.{arith}
use lib.ListN.{length}
use borrow.Author.Tests.{not-false}
use Rattle.calculus.specs.Causes.{type_entry_cause}
use Rattle.calculus.specs.Lowest.{cause}
use Rattle.calculus.specs.Limits.{min_entries, max_entries}
use Rattle.calculus.specs.Table.{TableRule, table_test}
use Rattle.calculus.proofs.Theory.Lowest.{first_cause_front, none_fits}
use Rattle.calculus.proofs.Theory.TableTest.{KindsBelow, table_test_iff}
use Rattle.numbers.specs.declared.Cause.{Cause}
use Rattle.numbers.specs.Refusals.{number_of}
use Rattle.numbers.proofs.Refusals.{some_number}
use Rattle.recipe_file.specs.declared.Edition.{Edition}
use Rattle.recipe_file.specs.File.{edition_of, entry_length, table_bytes, layout_causes, layout_refusal}
use Rattle.recipe_file.specs.FileRule.{Between, FileRule}
use Rattle.recipe_file.proofs.LaidOut.{laid, no_cause_1, no_cause_2, no_cause_3, no_layout_cause}
use Rattle.recipe_file.proofs.Inside.{length_table_bytes}
use Rattle.recipe_table.specs.declared.Entry.{Entry}
use Rattle.recipe_table.specs.Entries.{type_table, cause_4, table_causes, table_refusal}
use Rattle.recipe_table.specs.Filled.{as_table, filled}
use Rattle.recipe_table.proofs.Arrays.{length_table_of, as_table_filled}

module _ {s : List ℕ} (l : FileRule s) where
  pub length_table : length (type_table s) ≡ length (table_bytes s) / entry_length
  unfolding type_table
  length_table = length_table_of (table_bytes s)

  -- "3 to 256 type entries"
  pub count_between : Between min_entries max_entries (length (type_table s))
  count_between =
      let (t, e, b) = l.entries in
      let n = length_table_bytes l in
      let m = length_table in
      record { low = omega (arith, b.low); high = omega (arith, b.high) }

  pub count_fits : length (table_bytes s) / entry_length ≤ max_entries
  count_fits = omega (arith, count_between.high, length_table)

-- a cause below 4 is the answer
pub layout_first : (s : List ℕ) (c : Cause) → number_of c ≡ layout_refusal s → number_of c ≡ table_refusal s
unfolding layout_refusal table_refusal
layout_first s c e = e ∙ sym (first_cause_front (layout_causes s) (cause type_entry_cause (cause_4 s) ∷ []) (λ z. some_number c (e ∙ z)))

-- else the table decides
module _ (s : List ℕ) (n : Edition) (says : n ≡ edition_of s) (e : layout_refusal s ≡ 0) (a : List Entry) (is_table : a ≡ filled (type_table s))
    (count : ℕ) (is_count : count ≡ length (type_table s)) (t : Bool) (f : t ≡ table_test n.kinds (as_table a count)) where
  decided : ◌≡◌ {A = ℕ} (cond (not t) type_entry_cause 0) (table_refusal s)
  unfolding table_refusal cause_4
  decided =
      let (p, q, w) = no_layout_cause s e in
      let g : as_table a count ≡ type_table s = rw is_table (as_table_filled (type_table s) count is_count) in
      rw (p, q, w, f, g, says) refl

  pub table_broken : t ≡ false → type_entry_cause ≡ table_refusal s
  table_broken h = rw h at decided

  pub table_sound : t ≡ true → 0 ≡ table_refusal s
  table_sound h = rw h at decided

-- no cause up to 4 fits exactly when the file is laid out and its table keeps the rules
pub table_admitted_iff : (s : List ℕ) → (table_refusal s ≡ 0) ↔ (FileRule s × (KindsBelow (edition_of s).kinds (type_table s) × TableRule (type_table s)))
unfolding table_refusal cause_4
table_admitted_iff s = (
  λ e. let (a, (b, (c, (d, u)))) = none_fits (table_causes s) tt e in (laid s a b c, (table_test_iff (edition_of s).kinds (type_table s)).0 (not-false _ d)),
  λ (l, r). rw (no_cause_1 l, no_cause_2 l, no_cause_3 l, (table_test_iff (edition_of s).kinds (type_table s)).1 r) refl,
)
