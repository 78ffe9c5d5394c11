-- Document 02, T-07, "Starting values in the file", sentence by sentence, about the definitions that the contracts of check, load, run and the test load cite.
use Rattle.std.specs.Prelude.{◌≡◌, ◌↔◌, ◌⊎◌, false, true, List, ◌++◌, ◌∷◌, ℕ, ◌*◌, ◌+◌, ◌-◌, ◌<◌, ◌≤◌, get_or, length, replicate}
use Rattle.std.proofs.Math.Option.{some}
use Rattle.calculus.specs.Profile.{common}
use Rattle.calculus.specs.Bytes.{Bytes, word}
use Rattle.calculus.specs.Limits.{max_image_length}
use Rattle.calculus.specs.Causes.{opening_cause, starting_cause}
use Rattle.calculus.specs.Lowest.{Cause, first_cause}
use Rattle.calculus.specs.Syntax.{at}
use Rattle.calculus.specs.Verdict.{type_causes}
use Rattle.calculus.specs.Recipe.{setting_with, Starts}
use Rattle.recipe_file.specs.Editions.{edition_2, edition_3}
use Rattle.recipe_file.specs.File.{parts, bays, length_of, table_bytes, cause_1, opens}
use Rattle.recipe_file.specs.Starting.{starting_part, starting_bytes, starting_nums, nums_bytes}
use Rattle.recipe_file.specs.FileRule.{Between, FileRule}
use Rattle.recipe_file.specs.Whole.{all_parts}
use Rattle.recipe_file.specs.Twins.{term_parts, edition_2_twin, edition_3_twin}
use Rattle.recipe_table.specs.Entries.{type_table, table_causes}
use Rattle.check_spec.specs.Bays.{bay_terms, term_causes}
use Rattle.check_spec.specs.Verdict.{refusal, verdict_of}
use Rattle.load_spec.specs.Starting.{starting_state}
use Rattle.load_spec.specs.Loading.{loaded_of, out_after_load}
use Rattle.run_spec.specs.declared.Ending.TheVariants.{Refused}
use Rattle.run_spec.specs.Ending.{ran}
use Rattle.draw_spec.specs.Lines.{recipe_in, draw_refusal}

-- document 01, "Byte 2 is the edition"
abbrev pub Says : ℕ → List ℕ → Type 0
Says n file = get_or file 2 0 ≡ n

-- an accepted file of this edition
pub record AcceptedIn (n : ℕ) (file : List ℕ) : Type 0 where
  pub bytes : Bytes file
  pub accepted : refusal file ≡ 0
  pub says : Says n file

-- the setting of a bay is loaded with the num n
abbrev pub StartsWith : List ℕ → ℕ → ℕ → Type 0
StartsWith file bay n = at (starting_state file).owned.config bay ≡ some (setting_with n)

-- the files are loaded with the same answer, and leave the same bytes in any buffer
abbrev pub LoadsAlike : List ℕ → List ℕ → Type 0
LoadsAlike file file' = (out : List ℕ) → (loaded_of common file (length out) ≡ loaded_of common file' (length out)) × (out_after_load common file out ≡ out_after_load common file' out)

-- causes 1 to 11
abbrev pub causes_to_11 : List ℕ → List Cause
causes_to_11 file = table_causes file ++ (term_causes file ++ type_causes (type_table file) (bay_terms file))

-- the edition 3 twin of an edition 2 file with the nums ns: "members set each bay's first opening by hand"
pub record TwinDemand (file : List ℕ) (ns : List ℕ) : Type 0 where
  pub verdict : verdict_of (edition_3_twin ns file) ≡ verdict_of file
  pub nums : starting_nums (edition_3_twin ns file) ≡ ns
  pub table : type_table (edition_3_twin ns file) ≡ type_table file
  pub terms : bay_terms (edition_3_twin ns file) ≡ bay_terms file

pub record StartingValues : Type 0 where
  -- "Edition 3 is edition 2 with a part between the type table and the terms"
  pub read_alike : (edition_3.forms ≡ edition_2.forms) × (edition_3.kinds ≡ edition_2.kinds)
  pub between : (file : List ℕ) → AcceptedIn 3 file → all_parts file ≡ table_bytes file ∷ starting_bytes file ∷ term_parts file
  pub none_between : (file : List ℕ) → AcceptedIn 2 file → all_parts file ≡ table_bytes file ∷ term_parts file
  -- "two bytes for each bay, its starting num"
  pub written : (file : List ℕ) → AcceptedIn 3 file → starting_bytes file ≡ nums_bytes (starting_nums file)
  pub its_num : (file : List ℕ) → AcceptedIn 3 file → (bay : ℕ) → bay < bays file → StartsWith file bay (word (starting_bytes file) (2 * bay))
  -- "Its n runs from 3 to 18, else refusal 2"
  pub parts_number : (file : List ℕ) → cause_1 file ≡ false → opens file ≡ true → Says 3 file → (refusal file ≡ opening_cause) ↔ (¬ Between 3 18 (parts file))
  -- "and the bays number the parts less two"
  pub less_two : (file : List ℕ) → Says 3 file → bays file ≡ parts file - 2
  -- "Editions 1 and 2 keep the unwritten 0"
  pub unwritten : (file : List ℕ) → AcceptedIn 1 file ⊎ AcceptedIn 2 file → (bay : ℕ) → bay < bays file → StartsWith file bay 0
  -- "an edition 3 file of zeros loads the same image as its edition 2 twin"
  pub twin_2 : (file : List ℕ) → AcceptedIn 3 file → Says 2 (edition_2_twin file) × (verdict_of (edition_2_twin file) ≡ verdict_of file)
  pub twin_loads : (file : List ℕ) → AcceptedIn 3 file → ((i : ℕ) → get_or (starting_bytes file) i 0 ≡ 0) → LoadsAlike file (edition_2_twin file)
  pub twin_of_zeros : (file : List ℕ) → AcceptedIn 2 file → LoadsAlike file (edition_3_twin (replicate (bays file) 0) file)
  -- any nums can be written to an accepted file: no such file is so long that its twin, longer by the part and its pair, were too long
  pub twin_3 : (file : List ℕ) → AcceptedIn 2 file → (ns : List ℕ) → Starts ns (bays file) → TwinDemand file ns
  pub longer : (file : List ℕ) → FileRule file → Says 2 file → (ns : List ℕ) → length ns ≡ bays file → length (edition_3_twin ns file) ≡ length file + (4 + 2 * bays file)
  -- "It refuses a starting part whose length is not twice the number of bays with 19, tried after 11"
  pub nineteen : (file : List ℕ) →
      (refusal file ≡ starting_cause) ↔ ((first_cause (causes_to_11 file) ≡ 0) × Says 3 file × (¬ (length_of file starting_part ≡ 2 * bays file)))
  -- "and before 18"
  pub before_18 : (input : List ℕ) → refusal (recipe_in input) ≡ starting_cause → draw_refusal input ≡ starting_cause
  -- "the runner passes it on"
  pub passed_on : (file : List ℕ) → refusal file ≡ starting_cause → (k first second : ℕ) → max_image_length ≤ first → max_image_length ≤ second →
      ran file k first second ≡ Refused starting_cause
