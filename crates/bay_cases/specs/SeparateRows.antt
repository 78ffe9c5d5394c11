-- Document 02, T-09, "Separate bays": what the second loader answers to files, and what the second stepper answers to images from outside.
use Rattle.std.specs.Prelude.{◌≡◌, refl, ℕ, replicate, List, [], ◌∷◌, ◌++◌, map, length}
use Rattle.calculus.specs.Profile.{separate, names_only, own_settings_test}
use Rattle.calculus.specs.Shares.{of_bay, bays_in, share_test, shares_test}
use Rattle.calculus.specs.Syntax.{sum_in, sum_all}
use Rattle.calculus.specs.Lists.{tabulate, each_below, sum_below}
use Rattle.calculus.specs.Bytes.{two_bytes, word}
use Rattle.calculus.specs.Names.{uses}
use Rattle.calculus.specs.Image.{nodes, expression_test, is_settled, is_awaited, handle_for, component_test, each_test, limits_test, image_test}
use Rattle.calculus.specs.Table.{test_entry, entry_test, entry_stands, entries_test, same_entry, new_to, distinct_test, entry_is, table_test, one_part, two_parts, read_entry, read_at, read_deep, type_at, is_many}
use Rattle.calculus.specs.Verdict.{on_function, on_once_function, on_cell, scoped_const, scoped, annotated_const, annotated, const_number, on_number, result_number, applied_number, lambda_number, both_number, case_number, with_components, type_number, outside_many, linear_variable, linear, every, verdict}
use Rattle.term.specs.Numbers.{value_of, little_endian}
use Rattle.term.specs.Forms.{form_of, forms}
use Rattle.term.specs.Reader.{one_term, read, read_term, of_edition}
use Rattle.term.specs.Tree.{forms_below}
use Rattle.term.specs.Expressions.{exp_of, leaf_exp, leaf_forms, nesting, bytes, const_bytes, op_tag, both_tag, case_tag, term_of, two_exp, two_forms}
use Rattle.recipe_file.specs.Editions.{edition_1}
use Rattle.recipe_file.specs.File.{edition_of, bays, parts, offset_of, length_of, part, table_bytes, term_bytes, outside, cause_1, opens, cause_2, pairs_test, table_length_test, cause_3}
use Rattle.recipe_file.specs.Starting.{cause_19, nums_bytes, starting_bytes, starting_num, starting_nums}
use Rattle.recipe_file.specs.Whole.{file_of, joined, pairs_of, parts_from}
use Rattle.recipe_table.specs.Entries.{cause_4, table_of, type_table}
use Rattle.check_spec.specs.Bays.{bay_term, bay_terms, cause_5, cause_6}
use Rattle.check_spec.specs.Verdict.{bay_type_number, bay_type_numbers, number_in as type_number_in, refusal, verdict_of}
use Rattle.calculus.specs.Reduction.{substitute, plug}
use Rattle.calculus.specs.Step.{beside, within, place, when_done, step_call, step_exchange, step_meeting, step_place, step_redex, step_case, step_subject, step_of}
use Rattle.calculus.specs.Reply.{reply_of}
use Rattle.calculus.specs.Recipe.{loaded, bay_types, with_type}
use Rattle.image_layout.specs.Encoded.{head, heads, expressions, image_bytes}
use Rattle.image_layout.specs.Slice.{names, kind_at, companion_at, offset_at as offset_in, length_at, expression_at, encoded_at, encoded_all, owner_at}
use Rattle.image_layout.specs.Layout.{kind_test, companion_test, length_test, head_agrees, head_stands, stand_from, heads_stand}
use Rattle.image.specs.Configuration.{encode, image_of, components, decode, config_of, owners_of, encode_all}
use Rattle.image.specs.Stands.{terms_stand, image_stands}
use Rattle.load_spec.specs.Starting.{starting_image}
use Rattle.step_spec.specs.Stepping.{step_reply, outcome_of_reply, out_after_reply, outcome_of, out_after_step}
use Rattle.load_spec.specs.Loading.{loaded_of, load_refusal, cause_20, cause_21}
use Rattle.calculus.specs.Owners.{first_owners, owners_after}
use Rattle.step_spec.specs.declared.Outcome.TheVariants.{Rule, Done, Refused}
use Rattle.runs.specs.Run.{renewed}
use Rattle.bay_cases.specs.HouseRuns.{repeated}
use Rattle.bay_cases.specs.PairSteps.{Turn, turn, still, stepped_in}
use Rattle.bay_cases.specs.StartingRows.{file_3, unit_term}
use Rattle.bay_cases.specs.Cases.{identities, out, T5}

-- a file, and the number that the second loader answers
record Judged : Type 0 where
  file : List ℕ
  refusal : ℕ

abbrev judged : List ℕ → ℕ → Judged
judged file refusal = record { file = file; refusal = refusal }

-- the same with what is computed in place of what is claimed
unfoldable judge : Judged → Judged
judge r = judged r.file (loaded_of separate r.file (length out)).refusal

-- exch of setting k with a num
abbrev sets : ℕ → List ℕ → List ℕ
sets k num = 0x02 ∷ 0x02 ∷ 0x06 ∷ 0x04 ∷ 0x09 ∷ k ∷ num

abbrev seven : List ℕ
seven = 0x04 ∷ 0x07 ∷ 0x00 ∷ []

-- sixteen bays, unit but for the first two
abbrev house_of_16 : List ℕ → List ℕ → List ℕ
house_of_16 zeroth first = file_of edition_1 (T5 ∷ zeroth ∷ first ∷ replicate 14 unit_term)

-- "The loader refuses a bay that names another's setting with 20 and then a bay that starts above its share with 21, both after 19"
abbrev files : List Judged
files =
    -- each bay names its own setting
    judged (file_of edition_1 (T5 ∷ sets 0 seven ∷ sets 1 seven ∷ [])) 0
    -- bay 0 names setting 1; bay 1 names setting 0. Slip: one bay is asked
    ∷ judged (file_of edition_1 (T5 ∷ sets 1 seven ∷ sets 1 seven ∷ [])) 20
    ∷ judged (file_of edition_1 (T5 ∷ sets 0 seven ∷ sets 0 seven ∷ [])) 20
    -- under a lambda that is never applied; in an argument. Slips: not asked there
    ∷ judged (file_of edition_1 (T5 ∷ (0x01 ∷ 0x03 ∷ sets 1 (0x00 ∷ 0x00 ∷ [])) ∷ unit_term ∷ [])) 20
    ∷ judged (file_of edition_1 (T5 ∷ (0x02 ∷ 0x01 ∷ 0x03 ∷ 0x00 ∷ 0x00 ∷ sets 1 seven) ∷ unit_term ∷ [])) 20
    -- a lambda of its own setting
    ∷ judged (file_of edition_1 (T5 ∷ (0x01 ∷ 0x03 ∷ sets 0 (0x00 ∷ 0x00 ∷ [])) ∷ unit_term ∷ [])) 0
    -- sixteen bays: a term of 255 nodes starts, and one of 256 does not. Slips: the setting's node is not counted; the share of fifteen or seventeen bays
    ∷ judged (house_of_16 (sets 0 (sets 0 (identities 82))) unit_term) 0
    ∷ judged (house_of_16 (identities 85) unit_term) 21
    ∷ judged (house_of_16 unit_term (identities 85)) 21
    -- both: 20 first, whichever bay has it. Slip: 21 before 20
    ∷ judged (house_of_16 (identities 85) (sets 0 seven)) 20
    -- what a check refuses comes before: 9, setting 1 applied to a num; 19, a starting part that is too long
    ∷ judged (file_of edition_1 (T5 ∷ (0x02 ∷ 0x09 ∷ 0x01 ∷ seven) ∷ unit_term ∷ [])) 9
    ∷ judged (file_3 T5 (0x00 ∷ 0x00 ∷ 0x00 ∷ 0x00 ∷ 0x00 ∷ []) (sets 1 seven ∷ unit_term ∷ [])) 19
    -- edition 3
    ∷ judged (file_3 T5 (0x2C ∷ 0x01 ∷ 0xBC ∷ 0x02 ∷ []) (sets 0 seven ∷ sets 1 seven ∷ [])) 0
    ∷ judged (file_3 T5 (0x2C ∷ 0x01 ∷ 0xBC ∷ 0x02 ∷ []) (sets 0 seven ∷ sets 0 seven ∷ [])) 20
    ∷ []

-- "a rule whose outcome leaves any bay above its share gives 15 instead. The stepper takes b as one more than the highest owner in the image": images from outside, with
-- owner 15, so that each of sixteen bays has 16 names and 256 nodes
abbrev from_outside : List Turn
from_outside =
    -- owners 0 and 15, so sixteen bays with 16 names each: bay 15 has 16. Slips: two bays, those that own something; fifteen, the highest owner
    turn ((0x11 ∷ 0x00 ∷ 0x01 ∷ 0x00 ∷ 0x68 ∷ 0x00 ∷ 0x06 ∷ 0x00 ∷ []) ++ repeated 16 (0x04 ∷ 0x0F ∷ 0x6E ∷ 0x00 ∷ 0x00 ∷ 0x00 ∷ []) (0x02 ∷ 0x01 ∷ 0x00 ∷ 0x00 ∷ 0x00 ∷ 0x03 ∷ [])) 0 (Rule 1 105) ((0x11 ∷ 0x00 ∷ 0x01 ∷ 0x00 ∷ 0x68 ∷ 0x00 ∷ 0x01 ∷ 0x00 ∷ []) ++ repeated 16 (0x04 ∷ 0x0F ∷ 0x69 ∷ 0x00 ∷ 0x00 ∷ 0x00 ∷ []) (0x03 ∷ []))
    -- bay 15 has 17, and the rule does not touch it: 15. Slip: only the bay that steps counts
    ∷ still ((0x12 ∷ 0x00 ∷ 0x01 ∷ 0x00 ∷ 0x6E ∷ 0x00 ∷ 0x06 ∷ 0x00 ∷ []) ++ repeated 17 (0x04 ∷ 0x0F ∷ 0x74 ∷ 0x00 ∷ 0x00 ∷ 0x00 ∷ []) (0x02 ∷ 0x01 ∷ 0x00 ∷ 0x00 ∷ 0x00 ∷ 0x03 ∷ [])) 0 (Refused 15)
    -- the same with a thread that is done; with a number that is no thread
    ∷ still ((0x12 ∷ 0x00 ∷ 0x01 ∷ 0x00 ∷ 0x6E ∷ 0x00 ∷ 0x01 ∷ 0x00 ∷ []) ++ repeated 17 (0x04 ∷ 0x0F ∷ 0x6F ∷ 0x00 ∷ 0x00 ∷ 0x00 ∷ []) (0x03 ∷ [])) 0 Done
    ∷ still ((0x12 ∷ 0x00 ∷ 0x01 ∷ 0x00 ∷ 0x6E ∷ 0x00 ∷ 0x06 ∷ 0x00 ∷ []) ++ repeated 17 (0x04 ∷ 0x0F ∷ 0x74 ∷ 0x00 ∷ 0x00 ∷ 0x00 ∷ []) (0x02 ∷ 0x01 ∷ 0x00 ∷ 0x00 ∷ 0x00 ∷ 0x03 ∷ [])) 1 (Refused 14)
    -- rule 4 brings two names: bay 0 has 14, and 16 then
    ∷ turn ((0x0F ∷ 0x00 ∷ 0x01 ∷ 0x00 ∷ 0x5C ∷ 0x00 ∷ 0x04 ∷ 0x00 ∷ []) ++ repeated 13 (0x04 ∷ 0x00 ∷ 0x60 ∷ 0x00 ∷ 0x00 ∷ 0x00 ∷ []) (0x04 ∷ 0x0F ∷ 0x60 ∷ 0x00 ∷ 0x00 ∷ 0x00 ∷ 0x02 ∷ 0x08 ∷ 0x00 ∷ 0x03 ∷ [])) 0 (Rule 4 111) ((0x11 ∷ 0x00 ∷ 0x01 ∷ 0x00 ∷ 0x68 ∷ 0x00 ∷ 0x07 ∷ 0x00 ∷ []) ++ repeated 13 (0x04 ∷ 0x00 ∷ 0x6F ∷ 0x00 ∷ 0x00 ∷ 0x00 ∷ []) (0x04 ∷ 0x0F ∷ 0x6F ∷ 0x00 ∷ 0x00 ∷ 0x00 ∷ 0x05 ∷ 0x00 ∷ 0x6F ∷ 0x00 ∷ 0x00 ∷ 0x00 ∷ 0x03 ∷ 0x0F ∷ 0x6F ∷ 0x00 ∷ 0x00 ∷ 0x00 ∷ 0x02 ∷ 0x02 ∷ 0x03 ∷ 0x09 ∷ 0x0F ∷ 0x09 ∷ 0x10 ∷ []))
    -- bay 0 has 15, and would have 17: 15. Slip: the image handed in counts
    ∷ still ((0x10 ∷ 0x00 ∷ 0x01 ∷ 0x00 ∷ 0x62 ∷ 0x00 ∷ 0x04 ∷ 0x00 ∷ []) ++ repeated 14 (0x04 ∷ 0x00 ∷ 0x66 ∷ 0x00 ∷ 0x00 ∷ 0x00 ∷ []) (0x04 ∷ 0x0F ∷ 0x66 ∷ 0x00 ∷ 0x00 ∷ 0x00 ∷ 0x02 ∷ 0x08 ∷ 0x00 ∷ 0x03 ∷ [])) 0 (Refused 15)
    -- rule 7 puts 256 nodes into bay 15's cell. Slips: they count for the bay that steps; bay 0 has 260 before, and is above its share
    ∷ turn ((0x02 ∷ 0x00 ∷ 0x01 ∷ 0x00 ∷ 0x0E ∷ 0x00 ∷ 0x05 ∷ 0x02 ∷ 0x02 ∷ 0x0F ∷ 0x13 ∷ 0x02 ∷ 0x01 ∷ 0x00 ∷ 0x02 ∷ 0x02 ∷ 0x06 ∷ 0x00 ∷ 0x09 ∷ 0x01 ∷ []) ++ repeated 255 (0x01 ∷ 0x00 ∷ []) (0x03 ∷ 0x03 ∷ [])) 0 (Rule 7 526) ((0x02 ∷ 0x00 ∷ 0x01 ∷ 0x00 ∷ 0x0E ∷ 0x00 ∷ 0x01 ∷ 0x00 ∷ 0x02 ∷ 0x0F ∷ 0x0F ∷ 0x00 ∷ 0xFF ∷ 0x01 ∷ 0x03 ∷ []) ++ repeated 255 (0x01 ∷ 0x00 ∷ []) (0x03 ∷ []))
    -- 257 nodes: 15
    ∷ still ((0x02 ∷ 0x00 ∷ 0x01 ∷ 0x00 ∷ 0x0E ∷ 0x00 ∷ 0x07 ∷ 0x02 ∷ 0x02 ∷ 0x0F ∷ 0x15 ∷ 0x02 ∷ 0x01 ∷ 0x00 ∷ 0x02 ∷ 0x02 ∷ 0x06 ∷ 0x00 ∷ 0x09 ∷ 0x01 ∷ []) ++ repeated 256 (0x01 ∷ 0x00 ∷ []) (0x03 ∷ 0x03 ∷ [])) 0 (Refused 15)
    -- and takes 256 out of it; 257: 15
    ∷ turn ((0x02 ∷ 0x00 ∷ 0x01 ∷ 0x00 ∷ 0x0E ∷ 0x00 ∷ 0x07 ∷ 0x00 ∷ 0x02 ∷ 0x0F ∷ 0x15 ∷ 0x00 ∷ 0xFF ∷ 0x01 ∷ 0x02 ∷ 0x02 ∷ 0x06 ∷ 0x00 ∷ 0x09 ∷ 0x01 ∷ 0x03 ∷ []) ++ repeated 255 (0x01 ∷ 0x00 ∷ []) (0x03 ∷ [])) 0 (Rule 7 526) ((0x02 ∷ 0x00 ∷ 0x01 ∷ 0x00 ∷ 0x0E ∷ 0x00 ∷ 0xFF ∷ 0x01 ∷ 0x02 ∷ 0x0F ∷ 0x0D ∷ 0x02 ∷ 0x01 ∷ 0x00 ∷ []) ++ repeated 255 (0x01 ∷ 0x00 ∷ []) (0x03 ∷ 0x03 ∷ []))
    ∷ still ((0x02 ∷ 0x00 ∷ 0x01 ∷ 0x00 ∷ 0x0E ∷ 0x00 ∷ 0x07 ∷ 0x00 ∷ 0x02 ∷ 0x0F ∷ 0x15 ∷ 0x00 ∷ 0x01 ∷ 0x02 ∷ 0x02 ∷ 0x02 ∷ 0x06 ∷ 0x00 ∷ 0x09 ∷ 0x01 ∷ 0x03 ∷ []) ++ repeated 256 (0x01 ∷ 0x00 ∷ []) (0x03 ∷ [])) 0 (Refused 15)
    -- rule 5 puts 256 nodes into bay 15's future; an open handle counts for its future's bay. 257: 15
    ∷ turn ((0x03 ∷ 0x00 ∷ 0x01 ∷ 0x00 ∷ 0x14 ∷ 0x00 ∷ 0x02 ∷ 0x02 ∷ 0x05 ∷ 0x0F ∷ 0x16 ∷ 0x02 ∷ 0x00 ∷ 0x00 ∷ 0x03 ∷ 0x01 ∷ 0x16 ∷ 0x02 ∷ 0x00 ∷ 0x00 ∷ 0x02 ∷ 0x09 ∷ 0x02 ∷ []) ++ repeated 255 (0x01 ∷ 0x00 ∷ []) (0x03 ∷ [])) 0 (Rule 5 532) ((0x03 ∷ 0x00 ∷ 0x01 ∷ 0x00 ∷ 0x14 ∷ 0x00 ∷ 0x01 ∷ 0x00 ∷ 0x01 ∷ 0x0F ∷ 0x15 ∷ 0x00 ∷ 0xFF ∷ 0x01 ∷ 0x04 ∷ 0x0F ∷ 0x14 ∷ 0x02 ∷ 0x00 ∷ 0x00 ∷ 0x03 ∷ []) ++ repeated 255 (0x01 ∷ 0x00 ∷ []) (0x03 ∷ []))
    ∷ still ((0x03 ∷ 0x00 ∷ 0x01 ∷ 0x00 ∷ 0x14 ∷ 0x00 ∷ 0x04 ∷ 0x02 ∷ 0x05 ∷ 0x0F ∷ 0x18 ∷ 0x02 ∷ 0x00 ∷ 0x00 ∷ 0x03 ∷ 0x01 ∷ 0x18 ∷ 0x02 ∷ 0x00 ∷ 0x00 ∷ 0x02 ∷ 0x09 ∷ 0x02 ∷ []) ++ repeated 256 (0x01 ∷ 0x00 ∷ []) (0x03 ∷ [])) 0 (Refused 15)
    -- bay 0 has 259 nodes, above its share, and 256 after rule 1: it goes. Slip: the image handed in counts
    ∷ turn ((0x03 ∷ 0x00 ∷ 0x01 ∷ 0x00 ∷ 0x14 ∷ 0x00 ∷ 0x06 ∷ 0x00 ∷ 0x02 ∷ 0x00 ∷ 0x1A ∷ 0x00 ∷ 0xFD ∷ 0x01 ∷ 0x04 ∷ 0x0F ∷ 0x17 ∷ 0x02 ∷ 0x00 ∷ 0x00 ∷ 0x02 ∷ 0x01 ∷ 0x00 ∷ 0x00 ∷ 0x00 ∷ 0x03 ∷ []) ++ repeated 254 (0x01 ∷ 0x00 ∷ []) (0x03 ∷ [])) 0 (Rule 1 530) ((0x03 ∷ 0x00 ∷ 0x01 ∷ 0x00 ∷ 0x14 ∷ 0x00 ∷ 0x01 ∷ 0x00 ∷ 0x02 ∷ 0x00 ∷ 0x15 ∷ 0x00 ∷ 0xFD ∷ 0x01 ∷ 0x04 ∷ 0x0F ∷ 0x12 ∷ 0x02 ∷ 0x00 ∷ 0x00 ∷ 0x03 ∷ []) ++ repeated 254 (0x01 ∷ 0x00 ∷ []) (0x03 ∷ []))
    -- 257 after it: 15
    ∷ still ((0x03 ∷ 0x00 ∷ 0x01 ∷ 0x00 ∷ 0x14 ∷ 0x00 ∷ 0x06 ∷ 0x00 ∷ 0x02 ∷ 0x00 ∷ 0x1A ∷ 0x00 ∷ 0xFF ∷ 0x01 ∷ 0x04 ∷ 0x0F ∷ 0x19 ∷ 0x02 ∷ 0x00 ∷ 0x00 ∷ 0x02 ∷ 0x01 ∷ 0x00 ∷ 0x00 ∷ 0x00 ∷ 0x03 ∷ []) ++ repeated 255 (0x01 ∷ 0x00 ∷ []) (0x03 ∷ [])) 0 (Refused 15)
    ∷ []

-- what is claimed is what is computed
pub record SeparateRows : Type 0 where
  loads : map judge files ≡ files
  steps : map (stepped_in separate) from_outside ≡ from_outside

pub separate_rows : SeparateRows
unfolding judge stepped_in identities of_bay bays_in share_test shares_test names_only own_settings_test cause_20 cause_21 renewed loaded_of load_refusal outcome_of out_after_step out_after_reply nums_bytes parts_from outcome_of_reply type_number_in verdict_of refusal bay_type_numbers bay_type_number bay_terms bay_term cause_5 cause_6 cause_4 table_of type_table file_of joined pairs_of two_bytes word bays parts offset_of length_of part table_bytes term_bytes outside cause_1 opens edition_of cause_2 pairs_test table_length_test cause_3 cause_19 starting_nums starting_num starting_bytes exp_of leaf_exp leaf_forms two_exp two_forms nesting one_term of_edition forms_below read read_term form_of forms value_of tabulate each_below sum_below uses nodes test_entry entry_test entry_stands entries_test same_entry new_to distinct_test entry_is table_test on_function on_once_function on_cell is_many scoped_const scoped annotated_const annotated const_number on_number result_number applied_number lambda_number both_number case_number with_components type_number outside_many linear_variable linear every verdict starting_image step_reply config_of decode components image_of encode terms_stand image_stands kind_test companion_test length_test head_agrees head_stands stand_from heads_stand names kind_at companion_at offset_in length_at expression_at encoded_at encoded_all head heads expressions image_bytes bytes const_bytes op_tag both_tag case_tag little_endian loaded bay_types with_type reply_of sum_in sum_all expression_test is_settled is_awaited handle_for component_test each_test limits_test image_test beside within place when_done step_call step_exchange step_meeting step_place step_redex step_case step_subject step_of substitute plug term_of type_at read_deep read_at read_entry one_part two_parts owners_of owner_at owners_after encode_all first_owners repeated
separate_rows = record { loads = refl; steps = refl }
