-- Document 02, T-07, proved.
use Rattle.std.proofs.Common.{◌∙◌, ap, inl, inr, eq-eqb, eqb-true, ne_eqb}
use Rattle.std.specs.Prelude.{◌≡◌, ◌↔◌, ◌⊎◌, Bool, cond, not, List, ◌++◌, ◌∷◌, map, eqb, drop, get_or, length, replicate}
use Rattle.std.proofs.Math.Path.{refl, sym}
use Rattle.std.proofs.Math.Bool.{false, true}
use Rattle.std.proofs.lemmas.Bool.{false≢true, eqb-false, not-true}
use Rattle.std.proofs.Math.Option.{some}
use Prim.Native.Nat.{ℕ, ◌*◌, ◌+◌, ◌-◌, ◌<◌, ◌≤◌, suc, zero}
use native.Mathlib.Omega.{arith}
use Rattle.std.proofs.lemmas.List.{length-replicate}
use Rattle.calculus.specs.Profile.{common}
use Rattle.calculus.specs.Bytes.{word}
use Rattle.calculus.specs.Limits.{max_file_length, max_image_length}
use Rattle.calculus.specs.Causes.{opening_cause, starting_cause}
use Rattle.calculus.specs.Lowest.{first_cause}
use Rattle.calculus.specs.Syntax.{thread_of}
use Rattle.calculus.specs.Recipe.{loaded, setting_with, Starts}
use Rattle.calculus.proofs.Theory.Lists.{append_left, at_replicate}
use Rattle.calculus.proofs.Theory.Lowest.{first_cause_front, first_cause_rest, none_fits, not_answered}
use Rattle.calculus.proofs.Theory.Tabulate.{replicate_tabulated, tabulate_at, tabulate_is, tabulate_same}
use Rattle.calculus.proofs.Theory.Tests.{and_parts, clash}
use Rattle.recipe_file.specs.Editions.{edition_1, edition_2, edition_3, editions}
use Rattle.recipe_file.specs.File.{edition_of, parts, bays, length_of, table_bytes, part, outside, cause_1, cause_2, opens}
use Rattle.recipe_file.specs.FileRule.{Between, FileRule}
use Rattle.recipe_file.specs.Starting.{starting_num_length, starting_part, starting_bytes, starting_num, starting_nums, nums_bytes, cause_19, starting_causes}
use Rattle.recipe_file.specs.Whole.{all_parts, file_of}
use Rattle.recipe_file.specs.Twins.{term_parts, twin, edition_2_twin, edition_3_twin}
use Rattle.recipe_file.proofs.Cases.{three_to_eighteen}
use Rattle.recipe_file.proofs.Inside.{length_part, starting_is_part}
use Rattle.recipe_file.proofs.LaidOut.{between, within}
use Rattle.recipe_file.proofs.Starting.{by_length, length_nums, never_19, nums_read, some_starting, unwritten}
use Rattle.recipe_file.proofs.Twins.{Alike, all_parts_2, all_parts_3, edition_2_alike, edition_2_known, edition_3_alike, edition_3_known, edition_3_starting, length_edition_3}
use Rattle.check_spec.specs.Bays.{bay_terms}
use Rattle.check_spec.specs.Verdict.{check_causes, refusal, verdict_of}
use Rattle.check_spec.proofs.Theory.Accepted.{laid_and_started}
use Rattle.check_spec.proofs.Theory.Alike.{same_refusal, same_table, same_terms, same_types, same_verdict}
use Rattle.image.proofs.Theory.Maps.{at_map}
use Rattle.load_spec.specs.Starting.{starting_image}
use Rattle.load_spec.specs.Loading.{load_refusal, loaded_of, out_after_load}
use Rattle.load_spec.proofs.Theory.Image.{says}
use Rattle.run_spec.specs.declared.Ending.TheVariants.{Refused}
use Rattle.run_spec.specs.Ending.{ran}
use Rattle.run_spec.proofs.Theory.Ends.{run_long}
use Rattle.draw_spec.specs.Lines.{recipe_in, draw_refusal}
use Rattle.draw_spec.proofs.Theory.Lines.{recipe_refused}
use Rattle.load_starts.proofs.Theory.Lengths.{twin_short}
use Rattle.load_starts.specs.StartingValues.{Says, AcceptedIn, StartsWith, LoadsAlike, causes_to_11, TwinDemand, StartingValues}

-- the edition that a file says
module _ (s : List ℕ) where
  says_1 : Says 1 s → edition_of s ≡ edition_1
  unfolding edition_of
  says_1 e = rw e refl

  says_2 : Says 2 s → edition_of s ≡ edition_2
  unfolding edition_of
  says_2 e = rw e refl

  says_3 : Says 3 s → edition_of s ≡ edition_3
  unfolding edition_of
  says_3 e = rw e refl

  -- only edition 3 has a starting part
  only_3 : (edition_of s).starting ≡ true → Says 3 s
  unfolding edition_of
  only_3 e = go (get_or s 2 0) e
    where
      go : (n : ℕ) → (get_or editions (n - 1) edition_1).starting ≡ true → n ≡ 3
      go zero e = absurd (clash (cc))
      go (suc zero) e = absurd (clash (cc))
      go (suc (suc zero)) e = absurd (clash (cc))
      go (suc (suc (suc zero))) e = refl
      go (suc (suc (suc (suc n)))) e =
          let m : suc (suc (suc (suc n))) - 1 ≡ suc (suc (suc n)) = omega arith in
          absurd (false≢true (rw m at e))

-- the setting of a bay
starts_with : (s : List ℕ) (bay : ℕ) → bay < bays s → StartsWith s bay (starting_num s bay)
unfolding loaded starting_nums
starts_with s bay l =
    append_left (map setting_with (starting_nums s)) (map thread_of (bay_terms s)) bay (at_map setting_with (starting_nums s) bay (tabulate_at (bays s) (starting_num s) bay l))

-- where every num is 0
all_zero : (s : List ℕ) → ((bay : ℕ) → starting_num s bay ≡ 0) → starting_nums s ≡ replicate (bays s) 0
unfolding starting_nums
all_zero s z = tabulate_same (bays s) (starting_num s) (λ bay. 0) (λ bay l. z bay) ∙ sym (replicate_tabulated (bays s) 0)

zeros_num : (s : List ℕ) (bay : ℕ) → ((i : ℕ) → get_or (starting_bytes s) i 0 ≡ 0) → starting_num s bay ≡ 0
unfolding starting_num word
zeros_num s bay z = rw (z (starting_num_length * bay), z (starting_num_length * bay + 1)) refl

-- files that are alike, with the same starting nums
module _ {s s' : List ℕ} (a : Alike s s') (n : cause_19 s ≡ false) (n' : cause_19 s' ≡ false) (nums : starting_nums s ≡ starting_nums s') where
  same_image : starting_image s ≡ starting_image s'
  unfolding starting_image
  same_image = rw (same_table a, nums, same_terms a) refl

  same_load_refusal : (room : ℕ) → load_refusal common s room ≡ load_refusal common s' room
  unfolding load_refusal refusal
  same_load_refusal room = rw (same_refusal a n n') refl

  alike_loads : LoadsAlike s s'
  unfolding loaded_of out_after_load
  alike_loads out = (rw (same_load_refusal (length out), a.as_many, same_types a, same_image) refl, rw (same_load_refusal (length out), same_image) refl)

-- an accepted file of edition 3
module _ (s : List ℕ) (a : AcceptedIn 3 s) where
  is_3 : edition_of s ≡ edition_3
  is_3 = says_3 s a.says

  has_3 : (edition_of s).starting ≡ true
  has_3 = rw is_3 refl

  laid_3 : FileRule s
  laid_3 = (laid_and_started s a.accepted).0

  not_19 : cause_19 s ≡ false
  not_19 = (laid_and_started s a.accepted).1

  between_3 : all_parts s ≡ table_bytes s ∷ starting_bytes s ∷ term_parts s
  between_3 = all_parts_3 s laid_3 is_3 ∙ ap (λ (p : List ℕ). table_bytes s ∷ p ∷ term_parts s) (sym (some_starting s has_3))

  written_3 : starting_bytes s ≡ nums_bytes (starting_nums s)
  written_3 = some_starting s has_3 ∙ (says s a.bytes a.accepted).written has_3

  its_num_3 : (bay : ℕ) → bay < bays s → StartsWith s bay (word (starting_bytes s) (2 * bay))
  unfolding starting_num
  its_num_3 bay l = starts_with s bay l

  alike : Alike s (edition_2_twin s)
  alike = edition_2_alike s laid_3 is_3

  none : (edition_of (edition_2_twin s)).starting ≡ false
  none = rw (edition_2_known s laid_3 is_3) refl

  twin_2_is : Says 2 (edition_2_twin s) × (verdict_of (edition_2_twin s) ≡ verdict_of s)
  unfolding twin file_of
  twin_2_is = (refl, sym (same_verdict alike not_19 (sym (never_19 (edition_2_twin s) none))))

  twin_loads_3 : ((i : ℕ) → get_or (starting_bytes s) i 0 ≡ 0) → LoadsAlike s (edition_2_twin s)
  twin_loads_3 zeros = alike_loads alike not_19 (sym (never_19 (edition_2_twin s) none)) nums
    where
      zero_num : (bay : ℕ) → starting_num s bay ≡ 0
      zero_num bay = zeros_num s bay zeros

      nums : starting_nums s ≡ starting_nums (edition_2_twin s)
      nums = all_zero s zero_num ∙ ap (λ (b : ℕ). replicate b 0) alike.as_many ∙ sym (all_zero (edition_2_twin s) (unwritten (edition_2_twin s) none))

-- editions 1 and 2
unwritten_in : (s : List ℕ) → AcceptedIn 1 s ⊎ AcceptedIn 2 s → (bay : ℕ) → bay < bays s → StartsWith s bay 0
unwritten_in s which bay l = starts_with s bay l ∙ ap (λ (n : ℕ). some (setting_with n)) (unwritten s (none which) bay)
  where
    none : AcceptedIn 1 s ⊎ AcceptedIn 2 s → (edition_of s).starting ≡ false
    none (inl a) = rw (says_1 s a.says) refl
    none (inr a) = rw (says_2 s a.says) refl

-- an accepted file of edition 2, and its edition 3 twin with the nums ns
module _ (s : List ℕ) (a : AcceptedIn 2 s) where
  is_2 : edition_of s ≡ edition_2
  is_2 = says_2 s a.says

  none_2 : (edition_of s).starting ≡ false
  none_2 = rw is_2 refl

  laid_2 : FileRule s
  laid_2 = (laid_and_started s a.accepted).0

  short : length s + (4 + starting_num_length * bays s) ≤ max_file_length
  short = twin_short (says s a.bytes a.accepted) is_2

  module _ (ns : List ℕ) (starts : Starts ns (bays s)) where
    alike_2 : Alike s (edition_3_twin ns s)
    alike_2 = edition_3_alike s laid_2 is_2 ns starts.one_each short

    has_starting : (edition_of (edition_3_twin ns s)).starting ≡ true
    has_starting = rw (edition_3_known s laid_2 is_2 ns starts.one_each) refl

    starting_is : part (edition_3_twin ns s) starting_part ≡ nums_bytes ns
    starting_is = edition_3_starting s laid_2 is_2 ns starts.one_each short

    twin_not_19 : cause_19 (edition_3_twin ns s) ≡ false
    twin_not_19 =
        let n : length_of (edition_3_twin ns s) starting_part ≡ starting_num_length * bays (edition_3_twin ns s) =
        sym (length_part (starting_is_part alike_2.laid' has_starting)) ∙ ap length starting_is ∙ length_nums ns ∙ ap (λ (b : ℕ). starting_num_length * b) (starts.one_each ∙ alike_2.as_many) in
        sym (by_length (edition_3_twin ns s) has_starting _ _ refl refl) ∙ ap not (eq-eqb _ _ n)

    twin_nums : starting_nums (edition_3_twin ns s) ≡ ns
    unfolding starting_nums starting_num
    twin_nums = tabulate_is (bays (edition_3_twin ns s)) (starting_num (edition_3_twin ns s)) ns (starts.one_each ∙ alike_2.as_many)
        (λ k n h. rw (some_starting (edition_3_twin ns s) has_starting, starting_is) (nums_read ns k h))

    twin_demand : TwinDemand s ns
    twin_demand = record {
      verdict = sym (same_verdict alike_2 (sym (never_19 s none_2)) twin_not_19);
      nums = twin_nums;
      table = sym (same_table alike_2);
      terms = sym (same_terms alike_2);
    }

  zeros : Starts (replicate (bays s) 0) (bays s)
  zeros = record { one_each = length-replicate (bays s) 0; two_byte = λ k n h. omega (arith, (at_replicate (bays s) 0 k h).1) }

  twin_of_zeros_2 : LoadsAlike s (edition_3_twin (replicate (bays s) 0) s)
  twin_of_zeros_2 =
      let ns : List ℕ = replicate (bays s) 0 in
      alike_loads (alike_2 ns zeros) (sym (never_19 s none_2)) (twin_not_19 ns zeros) (all_zero s (unwritten s none_2) ∙ sym (twin_nums ns zeros))

-- the number of parts
less_two_3 : (s : List ℕ) → Says 3 s → bays s ≡ parts s - 2
unfolding bays
less_two_3 s e = rw (says_3 s e) refl

module _ (s : List ℕ) (long : cause_1 s ≡ false) (opened : opens s ≡ true) (e : Says 3 s) where
  by_parts : cause_2 s ≡ outside 3 18 (parts s)
  unfolding cause_2
  by_parts = rw (opened, says_3 s e, e, less_two_3 s e) (sym (three_to_eighteen (parts s)))

  refused_2 : (refusal s ≡ opening_cause) ↔ (¬ Between 3 18 (parts s))
  unfolding refusal
  refused_2 = (
    λ r b. not_answered opening_cause (drop 2 (check_causes s)) refl (rw (long, by_parts, within 3 18 (parts s) b) at r),
    λ n. go (outside 3 18 (parts s)) refl n,
  )
    where
      go : (b : Bool) → outside 3 18 (parts s) ≡ b → ¬ Between 3 18 (parts s) → first_cause (check_causes s) ≡ opening_cause
      go true o n = rw (long, by_parts, o) refl
      go false o n = absurd (n (between 3 18 (parts s) o))

-- 19 is told behind 1 to 11
module _ (s : List ℕ) where
  in_two : refusal s ≡ first_cause (causes_to_11 s ++ starting_causes s)
  unfolding refusal
  in_two = refl

  nineteen_iff : (refusal s ≡ starting_cause) ↔ ((first_cause (causes_to_11 s) ≡ 0) × Says 3 s × (¬ (length_of s starting_part ≡ 2 * bays s)))
  unfolding cause_19
  nineteen_iff = (there, back)
    where
      past : first_cause (causes_to_11 s) ≡ 0 → refusal s ≡ first_cause (starting_causes s)
      past z = in_two ∙ first_cause_rest (causes_to_11 s) (starting_causes s) (none_fits (causes_to_11 s) tt z)

      fits : (b : Bool) → cause_19 s ≡ b → first_cause (starting_causes s) ≡ starting_cause → cause_19 s ≡ true
      fits true q e = q
      fits false q e = absurd (omega (arith, rw q at e))

      both_hold : cause_19 s ≡ true → ((edition_of s).starting ≡ true) × (not (eqb (length_of s starting_part) (starting_num_length * bays s)) ≡ true)
      both_hold e = and_parts _ _ e

      none_before : refusal s ≡ starting_cause → first_cause (causes_to_11 s) ≡ 0
      none_before r = go (eqb (first_cause (causes_to_11 s)) 0) refl
        where
          go : (b : Bool) → eqb (first_cause (causes_to_11 s)) 0 ≡ b → first_cause (causes_to_11 s) ≡ 0
          go true q = eqb-true _ _ q
          go false q =
              absurd (not_answered starting_cause (causes_to_11 s) refl (sym (first_cause_front (causes_to_11 s) (starting_causes s) (eqb-false _ _ q)) ∙ sym in_two ∙ r))

      there : refusal s ≡ starting_cause → (first_cause (causes_to_11 s) ≡ 0) × Says 3 s × (¬ (length_of s starting_part ≡ 2 * bays s))
      there r =
          let z = none_before r in
          let (p, q) = both_hold (fits (cause_19 s) refl (sym (past z) ∙ r)) in
          (z, only_3 s p, eqb-false _ _ (not-true _ q))

      back : (first_cause (causes_to_11 s) ≡ 0) × Says 3 s × (¬ (length_of s starting_part ≡ 2 * bays s)) → refusal s ≡ starting_cause
      back (z, e, n) = past z ∙ ap (λ (b : Bool). cond b starting_cause 0) (sym (by_length s (rw (says_3 s e) refl) _ _ refl refl) ∙ ap not (ne_eqb _ _ n))

before_18_is : (input : List ℕ) → refusal (recipe_in input) ≡ starting_cause → draw_refusal input ≡ starting_cause
before_18_is input e = recipe_refused input (λ z. omega arith) ∙ e

passed_on_is : (file : List ℕ) → refusal file ≡ starting_cause → (k first second : ℕ) → max_image_length ≤ first → max_image_length ≤ second → ran file k first second ≡ Refused starting_cause
unfolding ran
passed_on_is file e k first second l m = rw (run_long file first second l m, e) refl

pub starting_values : StartingValues
starting_values = record {
  read_alike = (refl, refl);
  between = between_3;
  none_between = λ file a. all_parts_2 file (laid_2 file a) (is_2 file a);
  written = written_3;
  its_num = its_num_3;
  parts_number = refused_2;
  less_two = less_two_3;
  unwritten = unwritten_in;
  twin_2 = twin_2_is;
  twin_loads = twin_loads_3;
  twin_of_zeros = twin_of_zeros_2;
  twin_3 = twin_demand;
  longer = λ file l e ns n. length_edition_3 file l (says_2 file e) ns n;
  nineteen = nineteen_iff;
  before_18 = before_18_is;
  passed_on = passed_on_is;
}
