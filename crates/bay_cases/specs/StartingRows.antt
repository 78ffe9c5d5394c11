-- Document 02, T-07, "Starting values in the file", as rows that are computed: files of edition 3 in the form of the bay cases; their runs, and their test loads.
use Rattle.std.specs.Prelude.{◌≡◌, refl, List, [], ◌∷◌, ◌++◌, map, ℕ, ◌<◌, replicate}
use Rattle.std.proofs.Common.{ap}
use Rattle.calculus.specs.Profile.{common}
use Rattle.calculus.specs.Syntax.{sum_in, sum_all}
use Rattle.calculus.specs.Lists.{tabulate, each_below, sum_below}
use Rattle.calculus.specs.Bytes.{two_byte_values, two_bytes, word}
use Rattle.calculus.specs.Names.{uses}
use Rattle.calculus.specs.Image.{nodes, expression_test, is_settled, is_awaited, handle_for, component_test, each_test, limits_test, image_test}
use Rattle.calculus.specs.Table.{test_entry, entry_test, entry_stands, entries_test, same_entry, new_to, distinct_test, entry_is, table_test, one_part, two_parts, read_entry, read_at, read_deep, type_at, is_many}
use Rattle.calculus.specs.Verdict.{on_function, on_once_function, on_cell, scoped_const, scoped, annotated_const, annotated, const_number, on_number, result_number, applied_number, lambda_number, both_number, case_number, with_components, type_number, outside_many, linear_variable, linear, every, verdict}
use Rattle.text.specs.Ascii.{decimal, verdict_line}
use Rattle.buffer.proofs.Theory.TwoBytes.{number_of_bytes}
use Rattle.term.specs.Numbers.{value_of, little_endian}
use Rattle.term.specs.Forms.{form_of, forms}
use Rattle.term.specs.Reader.{one_term, read, read_term, of_edition}
use Rattle.term.specs.Tree.{forms_below}
use Rattle.term.specs.Expressions.{exp_of, leaf_exp, leaf_forms, nesting, bytes, const_bytes, op_tag, both_tag, case_tag, term_of, two_exp, two_forms}
use Rattle.recipe_file.specs.Editions.{edition_1, edition_2, edition_3}
use Rattle.recipe_file.specs.File.{edition_of, bays, parts, offset_of, length_of, part, table_bytes, term_bytes, outside, cause_1, opens, cause_2, pairs_test, table_length_test, cause_3}
use Rattle.recipe_file.specs.Starting.{cause_19, nums_bytes, starting_bytes, starting_num, starting_nums}
use Rattle.recipe_file.specs.Whole.{file_of, joined, pairs_of, parts_from}
use Rattle.recipe_file.specs.Twins.{edition_2_twin, edition_3_twin, term_parts, twin}
use Rattle.recipe_table.specs.Entries.{cause_4, table_of, type_table}
use Rattle.check_spec.specs.Bays.{bay_term, bay_terms, cause_5, cause_6}
use Rattle.check_spec.specs.Verdict.{bay_type_number, bay_type_numbers, number_in as type_number_in, refusal, verdict_of}
use Rattle.calculus.specs.Reduction.{substitute, plug}
use Rattle.calculus.specs.Step.{beside, within, place, when_done, step_call, step_exchange, step_meeting, step_place, step_redex, step_case, step_subject, step_of}
use Rattle.calculus.specs.Reply.{reply_of}
use Rattle.calculus.specs.Recipe.{loaded, bay_types, with_type}
use Rattle.image_layout.specs.Encoded.{head, heads, expressions, image_bytes}
use Rattle.image_layout.specs.Slice.{names, kind_at, companion_at, offset_at as offset_in, length_at, expression_at, encoded_at, encoded_all, owner_at}
use Rattle.image_layout.specs.Layout.{kind_test, companion_test, length_test, head_agrees, head_stands, stand_from, heads_stand}
use Rattle.image.specs.Configuration.{encode, image_of, components, decode, config_of, owners_of, encode_all}
use Rattle.image.specs.Stands.{terms_stand, image_stands}
use Rattle.load_spec.specs.Starting.{starting_image}
use Rattle.step_spec.specs.declared.Outcome.{Outcome}
use Rattle.step_spec.specs.declared.Outcome.TheVariants.{Rule, Done}
use Rattle.step_spec.specs.Stepping.{step_reply, outcome_of_reply, out_after_reply, outcome_of, out_after_step}
use Rattle.runs.specs.Run.{steps, renewed}
use Rattle.load_spec.specs.Loading.{loaded_of, load_refusal, out_after_load}
use Rattle.calculus.specs.NewTypes.{function_at, result_type, future_and_handle, coming, new_types}
use Rattle.calculus.specs.Owners.{first_owners, owners_after}
use Rattle.run_spec.specs.declared.Ending.TheVariants.{Turns, Idle}
use Rattle.run_spec.specs.Course.{look_of, look, upward, going_round, looking_on, look_along, search_from, one_after, turning, take_turns, course_of}
use Rattle.run_spec.specs.Ending.{run_refusal, ending_by, ran, unless_refused}
use Rattle.draw_spec.specs.State.{drawn}
use Rattle.draw_spec.specs.Draws.{draws, image_after, has_thread_kind, picked, threads_below}
use Rattle.draw_spec.specs.Lines.{draw_refusal, line, lines, number_in, number_of, outcome_text, seed_in, text_of, word_of}
use Rattle.bay_cases.specs.Cases.{Row, refused_row, computed, run_of, T3, T5, T7}
use Rattle.bay_cases.specs.Pairs.{readings, reading_with_hour}
use Rattle.bay_cases.specs.HouseRuns.{HouseRun, computed_by, computed_run, refused_run, repeated, run_row}
use Rattle.bay_cases.specs.TestLoads.{LoadRow, Text, computed_load, input, load_row, prints_so, told}

-- a file of edition 3: a type table, a starting part, the terms
abbrev pub file_3 : List ℕ → List ℕ → List (List ℕ) → List ℕ
file_3 table starting terms = file_of edition_3 (table ∷ starting ∷ terms)

-- an accepted row that makes no step
abbrev loads_row : List ℕ → List ℕ → List ℕ → Row
loads_row file types starting = record { file = file; refusal = 0; types = types; threads = []; starting = starting; answers = []; images = [] }

-- an accepted row with its steps
abbrev pub steps_row : List ℕ → List ℕ → List ℕ → List ℕ → List Outcome → List (List ℕ) → Row
steps_row file types threads starting answers images = record { file = file; refusal = 0; types = types; threads = threads; starting = starting; answers = answers; images = images }

-- the terms of cases A and B
abbrev pub unit_term : List ℕ
unit_term = 0x03 ∷ []

abbrev exch_250 : List ℕ
exch_250 = 0x02 ∷ 0x02 ∷ 0x06 ∷ 0x04 ∷ 0x09 ∷ 0x00 ∷ 0x04 ∷ 0xFA ∷ 0x00 ∷ []

-- the image of one bay: the two bytes of its setting's num; the length of the thread's expression, and the expression
abbrev one_bay : List ℕ → ℕ → List ℕ → List ℕ
one_bay setting size expression = (0x02 ∷ 0x00 ∷ 0x02 ∷ 0x00 ∷ 0x0E ∷ 0x00 ∷ 0x03 ∷ 0x00 ∷ 0x01 ∷ 0x00 ∷ 0x11 ∷ 0x00 ∷ size ∷ 0x00 ∷ 0x04 ∷ setting) ++ expression

-- case A in edition 3: the starting num's two bytes in the file, and in the image
abbrev A_at : List ℕ → List ℕ → Row
A_at file image = loads_row (file_3 T3 file (unit_term ∷ [])) (0 ∷ []) (one_bay image 0x01 unit_term)

-- case B in edition 3: the setting is 250 after its step, and the thread is the starting num
abbrev B_at : List ℕ → Row
B_at n = steps_row (file_3 T5 n (exch_250 ∷ [])) (1 ∷ []) (1 ∷ 1 ∷ []) (one_bay n 0x09 exch_250) (Rule 7 20 ∷ Done ∷ []) (one_bay (0xFA ∷ 0x00 ∷ []) 0x03 (0x04 ∷ n) ∷ one_bay (0xFA ∷ 0x00 ∷ []) 0x03 (0x04 ∷ n) ∷ [])

-- document 01's cases A and B in edition 3. Slips told here: the starting part is passed over; the setting starts with 0 all the same; rule 7 gives 0 back
abbrev cases_3 : List Row
cases_3 =
    -- A with 0: document 01's image of it
    A_at (0x00 ∷ 0x00 ∷ []) (0x00 ∷ 0x00 ∷ [])
    -- A with 250 and 65,535: "members set each bay's first opening by hand"
    ∷ A_at (0xFA ∷ 0x00 ∷ []) (0xFA ∷ 0x00 ∷ [])
    ∷ A_at (0xFF ∷ 0xFF ∷ []) (0xFF ∷ 0xFF ∷ [])
    -- B with 0: "the setting is 250, the thread is num 0"
    ∷ B_at (0x00 ∷ 0x00 ∷ [])
    -- B with 250: both are 250
    ∷ B_at (0xFA ∷ 0x00 ∷ [])
    -- B with 100: the thread ends as the starting num
    ∷ B_at (0x64 ∷ 0x00 ∷ [])
    ∷ []

-- the image of two bays: the values of the settings; the length of bay 0's thread, and its expression; the offset of bay 1's, which is unit
abbrev two_bays : List ℕ → ℕ → List ℕ → ℕ → List ℕ
two_bays settings size expression at = (0x04 ∷ 0x00 ∷ 0x02 ∷ 0x00 ∷ 0x1A ∷ 0x00 ∷ 0x03 ∷ 0x00 ∷ 0x02 ∷ 0x01 ∷ 0x1D ∷ 0x00 ∷ 0x03 ∷ 0x00 ∷ 0x01 ∷ 0x00 ∷ 0x20 ∷ 0x00 ∷ size ∷ 0x00 ∷ 0x01 ∷ 0x01 ∷ at ∷ 0x00 ∷ 0x01 ∷ 0x00 ∷ settings) ++ expression ++ unit_term

-- a head: kind, owner, the two bytes of the offset, length
abbrev head_at : ℕ → ℕ → ℕ → ℕ → ℕ → List ℕ → List ℕ
head_at kind owner low high size rest = kind ∷ owner ∷ low ∷ high ∷ size ∷ 0x00 ∷ rest

-- 32 names: the heads of 16 settings and of 16 threads, the first expression at 2 + 6 × 32 = 194
abbrev heads_of_32 : List ℕ → List ℕ
heads_of_32 rest = 0x20 ∷ 0x00 ∷ head_at 0x02 0x00 0xC2 0x00 0x03 (head_at 0x02 0x01 0xC5 0x00 0x03 (head_at 0x02 0x02 0xC8 0x00 0x03 (head_at 0x02 0x03 0xCB 0x00 0x03 (head_at 0x02 0x04 0xCE 0x00 0x03 (head_at 0x02 0x05 0xD1 0x00 0x03 (head_at 0x02 0x06 0xD4 0x00 0x03 (head_at 0x02 0x07 0xD7 0x00 0x03 (head_at 0x02 0x08 0xDA 0x00 0x03 (head_at 0x02 0x09 0xDD 0x00 0x03 (head_at 0x02 0x0A 0xE0 0x00 0x03 (head_at 0x02 0x0B 0xE3 0x00 0x03 (head_at 0x02 0x0C 0xE6 0x00 0x03 (head_at 0x02 0x0D 0xE9 0x00 0x03 (head_at 0x02 0x0E 0xEC 0x00 0x03 (head_at 0x02 0x0F 0xEF 0x00 0x03 (head_at 0x01 0x00 0xF2 0x00 0x01 (head_at 0x01 0x01 0xF3 0x00 0x01 (head_at 0x01 0x02 0xF4 0x00 0x01 (head_at 0x01 0x03 0xF5 0x00 0x01 (head_at 0x01 0x04 0xF6 0x00 0x01 (head_at 0x01 0x05 0xF7 0x00 0x01 (head_at 0x01 0x06 0xF8 0x00 0x01 (head_at 0x01 0x07 0xF9 0x00 0x01 (head_at 0x01 0x08 0xFA 0x00 0x01 (head_at 0x01 0x09 0xFB 0x00 0x01 (head_at 0x01 0x0A 0xFC 0x00 0x01 (head_at 0x01 0x0B 0xFD 0x00 0x01 (head_at 0x01 0x0C 0xFE 0x00 0x01 (head_at 0x01 0x0D 0xFF 0x00 0x01 (head_at 0x01 0x0E 0x00 0x01 0x01 (head_at 0x01 0x0F 0x01 0x01 0x01 rest)))))))))))))))))))))))))))))))

-- "two bytes for each bay, its starting num", several bays. Slips told here: the higher byte first; the first num for every bay; the bays in descending order; one byte each
abbrev several : List Row
several =
    -- the lower byte first: 256 is 00 01; bay 0 first; 65,535 is a num
    loads_row (file_3 T3 (0x00 ∷ 0x01 ∷ 0xFF ∷ 0xFF ∷ []) (unit_term ∷ (0x04 ∷ 0x07 ∷ 0x00 ∷ []) ∷ [])) (0 ∷ 1 ∷ []) (0x04 ∷ 0x00 ∷ 0x02 ∷ 0x00 ∷ 0x1A ∷ 0x00 ∷ 0x03 ∷ 0x00 ∷ 0x02 ∷ 0x01 ∷ 0x1D ∷ 0x00 ∷ 0x03 ∷ 0x00 ∷ 0x01 ∷ 0x00 ∷ 0x20 ∷ 0x00 ∷ 0x01 ∷ 0x00 ∷ 0x01 ∷ 0x01 ∷ 0x21 ∷ 0x00 ∷ 0x03 ∷ 0x00 ∷ 0x04 ∷ 0x00 ∷ 0x01 ∷ 0x04 ∷ 0xFF ∷ 0xFF ∷ 0x03 ∷ 0x04 ∷ 0x07 ∷ 0x00 ∷ [])
    -- three bays: 258, 772 and 1,286
    ∷ loads_row (file_3 T3 (0x02 ∷ 0x01 ∷ 0x04 ∷ 0x03 ∷ 0x06 ∷ 0x05 ∷ []) (unit_term ∷ unit_term ∷ unit_term ∷ [])) (0 ∷ 0 ∷ 0 ∷ []) (0x06 ∷ 0x00 ∷ 0x02 ∷ 0x00 ∷ 0x26 ∷ 0x00 ∷ 0x03 ∷ 0x00 ∷ 0x02 ∷ 0x01 ∷ 0x29 ∷ 0x00 ∷ 0x03 ∷ 0x00 ∷ 0x02 ∷ 0x02 ∷ 0x2C ∷ 0x00 ∷ 0x03 ∷ 0x00 ∷ 0x01 ∷ 0x00 ∷ 0x2F ∷ 0x00 ∷ 0x01 ∷ 0x00 ∷ 0x01 ∷ 0x01 ∷ 0x30 ∷ 0x00 ∷ 0x01 ∷ 0x00 ∷ 0x01 ∷ 0x02 ∷ 0x31 ∷ 0x00 ∷ 0x01 ∷ 0x00 ∷ 0x04 ∷ 0x02 ∷ 0x01 ∷ 0x04 ∷ 0x04 ∷ 0x03 ∷ 0x04 ∷ 0x06 ∷ 0x05 ∷ 0x03 ∷ 0x03 ∷ 0x03 ∷ [])
    -- "n runs from 3 to 18": 16 bays with sixteen different nums
    ∷ loads_row (file_3 T3 (0x00 ∷ 0x01 ∷ 0x01 ∷ 0x02 ∷ 0x02 ∷ 0x03 ∷ 0x03 ∷ 0x04 ∷ 0x04 ∷ 0x05 ∷ 0x05 ∷ 0x06 ∷ 0x06 ∷ 0x07 ∷ 0x07 ∷ 0x08 ∷ 0x08 ∷ 0x09 ∷ 0x09 ∷ 0x0A ∷ 0x0A ∷ 0x0B ∷ 0x0B ∷ 0x0C ∷ 0x0C ∷ 0x0D ∷ 0x0D ∷ 0x0E ∷ 0x0E ∷ 0x0F ∷ 0xFF ∷ 0xFF ∷ []) (replicate 16 unit_term)) (replicate 16 0) (heads_of_32 (0x04 ∷ 0x00 ∷ 0x01 ∷ 0x04 ∷ 0x01 ∷ 0x02 ∷ 0x04 ∷ 0x02 ∷ 0x03 ∷ 0x04 ∷ 0x03 ∷ 0x04 ∷ 0x04 ∷ 0x04 ∷ 0x05 ∷ 0x04 ∷ 0x05 ∷ 0x06 ∷ 0x04 ∷ 0x06 ∷ 0x07 ∷ 0x04 ∷ 0x07 ∷ 0x08 ∷ 0x04 ∷ 0x08 ∷ 0x09 ∷ 0x04 ∷ 0x09 ∷ 0x0A ∷ 0x04 ∷ 0x0A ∷ 0x0B ∷ 0x04 ∷ 0x0B ∷ 0x0C ∷ 0x04 ∷ 0x0C ∷ 0x0D ∷ 0x04 ∷ 0x0D ∷ 0x0E ∷ 0x04 ∷ 0x0E ∷ 0x0F ∷ 0x04 ∷ 0xFF ∷ 0xFF ∷ 0x03 ∷ 0x03 ∷ 0x03 ∷ 0x03 ∷ 0x03 ∷ 0x03 ∷ 0x03 ∷ 0x03 ∷ 0x03 ∷ 0x03 ∷ 0x03 ∷ 0x03 ∷ 0x03 ∷ 0x03 ∷ 0x03 ∷ 0x03 ∷ []))
    -- rule 7 twice: bay 1's num becomes a value in bay 0's thread, then bay 0's setting, and the thread ends as bay 0's num
    ∷ steps_row (file_3 T5 (0x2C ∷ 0x01 ∷ 0xBC ∷ 0x02 ∷ []) ((0x02 ∷ 0x02 ∷ 0x06 ∷ 0x04 ∷ 0x09 ∷ 0x00 ∷ 0x02 ∷ 0x02 ∷ 0x06 ∷ 0x04 ∷ 0x09 ∷ 0x01 ∷ 0x04 ∷ 0x05 ∷ 0x00 ∷ []) ∷ unit_term ∷ [])) (1 ∷ 0 ∷ []) (2 ∷ 2 ∷ []) (two_bays (0x04 ∷ 0x2C ∷ 0x01 ∷ 0x04 ∷ 0xBC ∷ 0x02 ∷ []) 0x0F (0x02 ∷ 0x02 ∷ 0x06 ∷ 0x04 ∷ 0x09 ∷ 0x00 ∷ 0x02 ∷ 0x02 ∷ 0x06 ∷ 0x04 ∷ 0x09 ∷ 0x01 ∷ 0x04 ∷ 0x05 ∷ 0x00 ∷ []) 0x2F) (Rule 7 42 ∷ Rule 7 36 ∷ []) (two_bays (0x04 ∷ 0x2C ∷ 0x01 ∷ 0x04 ∷ 0x05 ∷ 0x00 ∷ []) 0x09 (0x02 ∷ 0x02 ∷ 0x06 ∷ 0x04 ∷ 0x09 ∷ 0x00 ∷ 0x04 ∷ 0xBC ∷ 0x02 ∷ []) 0x29 ∷ two_bays (0x04 ∷ 0xBC ∷ 0x02 ∷ 0x04 ∷ 0x05 ∷ 0x00 ∷ []) 0x03 (0x04 ∷ 0x2C ∷ 0x01 ∷ []) 0x23 ∷ [])
    -- T5, and 5: cell at num. Rules 7 and 6: bay 1's num goes into a new cell of bay 0
    ∷ steps_row (file_3 (T5 ++ (0x04 ∷ 0x01 ∷ 0x02 ∷ [])) (0x2C ∷ 0x01 ∷ 0xBC ∷ 0x02 ∷ []) ((0x02 ∷ 0x05 ∷ 0x05 ∷ 0x02 ∷ 0x02 ∷ 0x06 ∷ 0x04 ∷ 0x09 ∷ 0x01 ∷ 0x04 ∷ 0x00 ∷ 0x00 ∷ []) ∷ unit_term ∷ [])) (2 ∷ 0 ∷ []) (2 ∷ 2 ∷ []) (two_bays (0x04 ∷ 0x2C ∷ 0x01 ∷ 0x04 ∷ 0xBC ∷ 0x02 ∷ []) 0x0C (0x02 ∷ 0x05 ∷ 0x05 ∷ 0x02 ∷ 0x02 ∷ 0x06 ∷ 0x04 ∷ 0x09 ∷ 0x01 ∷ 0x04 ∷ 0x00 ∷ 0x00 ∷ []) 0x2C) (Rule 7 39 ∷ Rule 6 44 ∷ []) (two_bays (0x04 ∷ 0x2C ∷ 0x01 ∷ 0x04 ∷ 0x00 ∷ 0x00 ∷ []) 0x06 (0x02 ∷ 0x05 ∷ 0x05 ∷ 0x04 ∷ 0xBC ∷ 0x02 ∷ []) 0x26 ∷ (0x05 ∷ 0x00 ∷ 0x02 ∷ 0x00 ∷ 0x20 ∷ 0x00 ∷ 0x03 ∷ 0x00 ∷ 0x02 ∷ 0x01 ∷ 0x23 ∷ 0x00 ∷ 0x03 ∷ 0x00 ∷ 0x01 ∷ 0x00 ∷ 0x26 ∷ 0x00 ∷ 0x02 ∷ 0x00 ∷ 0x01 ∷ 0x01 ∷ 0x28 ∷ 0x00 ∷ 0x01 ∷ 0x00 ∷ 0x02 ∷ 0x00 ∷ 0x29 ∷ 0x00 ∷ 0x03 ∷ 0x00 ∷ 0x04 ∷ 0x2C ∷ 0x01 ∷ 0x04 ∷ 0x00 ∷ 0x00 ∷ 0x09 ∷ 0x04 ∷ 0x03 ∷ 0x04 ∷ 0xBC ∷ 0x02 ∷ []) ∷ [])
    ∷ []

-- "Its n runs from 3 to 18, else refusal 2". Slips told here: 2 to 17; 2 to 18; 3 to 17; 3 to 18 in every edition
abbrev part_numbers : List Row
part_numbers =
    -- n = 19: 17 bays
    refused_row (file_3 T3 (replicate 34 0) (replicate 17 unit_term)) 2
    -- n = 2: no bay. Its second part as a term, and as a starting part
    ∷ refused_row (file_3 T3 unit_term []) 2
    ∷ refused_row (file_3 T3 (0x00 ∷ 0x00 ∷ []) []) 2
    -- n = 1, n = 0, n = 255
    ∷ refused_row (file_of edition_3 (T3 ∷ [])) 2
    ∷ refused_row (0x4C ∷ 0x46 ∷ 0x03 ∷ 0x00 ∷ 0x00 ∷ 0x00 ∷ 0x00 ∷ 0x00 ∷ 0x00 ∷ 0x00 ∷ 0x00 ∷ 0x00 ∷ []) 2
    ∷ refused_row (0x4C ∷ 0x46 ∷ 0x03 ∷ 0xFF ∷ 0x00 ∷ 0x00 ∷ 0x00 ∷ 0x00 ∷ 0x00 ∷ 0x00 ∷ 0x00 ∷ 0x00 ∷ []) 2
    -- n = 18 in editions 1 and 2
    ∷ refused_row (file_of edition_1 (T3 ∷ replicate 17 unit_term)) 2
    ∷ refused_row (file_of edition_2 (T3 ∷ replicate 17 unit_term)) 2
    ∷ []

-- "It refuses a starting part whose length is not twice the number of bays with 19". Slips told here: a longer part serves; absent bytes count as 0; once the number of bays
abbrev lengths : List Row
lengths =
    -- two bays: one byte short, one byte long
    refused_row (file_3 T3 (0x00 ∷ 0x00 ∷ 0x00 ∷ []) (unit_term ∷ unit_term ∷ [])) 19
    ∷ refused_row (file_3 T3 (0x00 ∷ 0x00 ∷ 0x00 ∷ 0x00 ∷ 0x00 ∷ []) (unit_term ∷ unit_term ∷ [])) 19
    -- for a bay less, or one byte for each; for a bay more, n − 1
    ∷ refused_row (file_3 T3 (0xFA ∷ 0x00 ∷ []) (unit_term ∷ unit_term ∷ [])) 19
    ∷ refused_row (file_3 T3 (0xFA ∷ 0x00 ∷ 0xFA ∷ 0x00 ∷ 0xFA ∷ 0x00 ∷ []) (unit_term ∷ unit_term ∷ [])) 19
    -- one bay: one byte, three, four
    ∷ refused_row (file_3 T3 (0xFA ∷ []) (unit_term ∷ [])) 19
    ∷ refused_row (file_3 T3 (0xFA ∷ 0x00 ∷ 0x00 ∷ []) (unit_term ∷ [])) 19
    ∷ refused_row (file_3 T3 (0xFA ∷ 0x00 ∷ 0xFA ∷ 0x00 ∷ []) (unit_term ∷ [])) 19
    -- 258 bytes for one bay. Slip: the length's lower byte alone
    ∷ refused_row (file_3 T3 (replicate 258 0) (unit_term ∷ [])) 19
    -- "No length is zero": 3
    ∷ refused_row (file_3 T3 [] (unit_term ∷ [])) 3
    ∷ []

-- "tried after 11", over the whole file. Slips told here: 19 with the layout; before the terms; bay by bay
abbrev orders : List Row
orders =
    -- 11 before 19: a bay usable once; also behind a bay of type unit
    refused_row (file_3 T7 (0x00 ∷ []) ((0x01 ∷ 0x03 ∷ 0x03 ∷ []) ∷ [])) 11
    ∷ refused_row (file_3 T7 (0x00 ∷ []) (unit_term ∷ (0x01 ∷ 0x03 ∷ 0x03 ∷ []) ∷ [])) 11
    -- 10, 9, 8 and 7 before 19: document 01's D, G, F and H
    ∷ refused_row (file_3 T7 (0x00 ∷ []) ((0x01 ∷ 0x04 ∷ 0x03 ∷ []) ∷ [])) 10
    ∷ refused_row (file_3 T3 (0x00 ∷ []) ((0x02 ∷ 0x03 ∷ 0x03 ∷ []) ∷ [])) 9
    ∷ refused_row (file_3 T7 (0x00 ∷ []) ((0x07 ∷ 0x03 ∷ []) ∷ [])) 8
    ∷ refused_row (file_3 T3 (0x00 ∷ []) ((0x00 ∷ 0x00 ∷ []) ∷ [])) 7
    -- 6 before 19: nesting 101
    ∷ refused_row (file_3 T3 (0x00 ∷ []) (repeated 100 (0x01 ∷ 0x00 ∷ []) (0x03 ∷ []) ∷ [])) 6
    -- 5 before 19: bytes over
    ∷ refused_row (file_3 T3 (0x00 ∷ []) ((0x03 ∷ 0x03 ∷ []) ∷ [])) 5
    -- 4 before 19: a cell of itself
    ∷ refused_row (file_3 (T3 ++ (0x02 ∷ 0x03 ∷ 0x00 ∷ [])) (0x00 ∷ []) (unit_term ∷ [])) 4
    -- 3 and 2 before 19: a table of ten bytes; n = 19
    ∷ refused_row (file_3 (T3 ++ (0x00 ∷ [])) (0x00 ∷ []) (unit_term ∷ [])) 3
    ∷ refused_row (file_3 T3 (0x00 ∷ []) (replicate 17 unit_term)) 2
    -- cause 7 by n: with one bay name 1 is none, whatever the starting part says. Slips: b = n − 1; b by the starting part
    ∷ refused_row (file_3 T3 (0x00 ∷ 0x00 ∷ []) ((0x09 ∷ 0x01 ∷ []) ∷ [])) 7
    ∷ refused_row (file_3 T3 (0x00 ∷ []) ((0x09 ∷ 0x01 ∷ []) ∷ [])) 7
    ∷ refused_row (file_3 T3 (0x00 ∷ 0x00 ∷ 0x00 ∷ 0x00 ∷ []) ((0x09 ∷ 0x01 ∷ []) ∷ [])) 7
    -- with two bays name 1 is one, also where the part is for one bay; name 2 is none
    ∷ refused_row (file_3 T3 (0x00 ∷ 0x00 ∷ []) ((0x09 ∷ 0x01 ∷ []) ∷ (0x09 ∷ 0x01 ∷ []) ∷ [])) 19
    ∷ refused_row (file_3 T3 (0x00 ∷ 0x00 ∷ []) ((0x09 ∷ 0x02 ∷ []) ∷ (0x09 ∷ 0x01 ∷ []) ∷ [])) 7
    -- name b − 1 is accepted: with one bay, with two
    ∷ loads_row (file_3 T3 (0xFA ∷ 0x00 ∷ []) ((0x09 ∷ 0x00 ∷ []) ∷ [])) (2 ∷ []) (one_bay (0xFA ∷ 0x00 ∷ []) 0x02 (0x09 ∷ 0x00 ∷ []))
    ∷ loads_row (file_3 T3 (0xFA ∷ 0x00 ∷ 0x64 ∷ 0x00 ∷ []) ((0x09 ∷ 0x01 ∷ []) ∷ unit_term ∷ [])) (2 ∷ 0 ∷ []) (two_bays (0x04 ∷ 0xFA ∷ 0x00 ∷ 0x04 ∷ 0x64 ∷ 0x00 ∷ []) 0x02 (0x09 ∷ 0x01 ∷ []) 0x22)
    ∷ []

-- "Edition 3 is edition 2 with a part between": byte 2 alone is changed. Slips told here: the starting part behind the terms; any edition has one; edition 1's forms in edition 3
abbrev byte_2 : List Row
byte_2 =
    -- starting num 9: in edition 2 its bytes are the term of bay 0, name 0, and there are two bays
    loads_row (file_3 T3 (0x09 ∷ 0x00 ∷ []) (unit_term ∷ [])) (0 ∷ []) (one_bay (0x09 ∷ 0x00 ∷ []) 0x01 unit_term)
    ∷ loads_row (file_of edition_2 (T3 ∷ (0x09 ∷ 0x00 ∷ []) ∷ unit_term ∷ [])) (2 ∷ 0 ∷ []) (two_bays (0x04 ∷ 0x00 ∷ 0x00 ∷ 0x04 ∷ 0x00 ∷ 0x00 ∷ []) 0x02 (0x09 ∷ 0x00 ∷ []) 0x22)
    -- starting num 250: in edition 2 an unknown tag, 5
    ∷ refused_row (file_of edition_2 (T3 ∷ (0xFA ∷ 0x00 ∷ []) ∷ unit_term ∷ [])) 5
    -- starting num 0: in edition 2 an index with no lambda, 7
    ∷ refused_row (file_of edition_2 (T3 ∷ (0x00 ∷ 0x00 ∷ []) ∷ unit_term ∷ [])) 7
    -- two bays of edition 2, the first a unit: in edition 3 a starting part of one byte, 19
    ∷ loads_row (file_of edition_2 (T3 ∷ unit_term ∷ unit_term ∷ [])) (0 ∷ 0 ∷ []) (two_bays (0x04 ∷ 0x00 ∷ 0x00 ∷ 0x04 ∷ 0x00 ∷ 0x00 ∷ []) 0x01 unit_term 0x21)
    ∷ refused_row (file_3 T3 unit_term (unit_term ∷ [])) 19
    -- three bytes behind the table: in edition 2 no starting part, but bytes over, 5
    ∷ refused_row (file_of edition_2 (T3 ∷ (0x03 ∷ 0x03 ∷ 0x03 ∷ []) ∷ unit_term ∷ unit_term ∷ [])) 5
    -- tag 14 and kind 9 are unknown in edition 3 too
    ∷ refused_row (file_3 T3 (0x00 ∷ 0x00 ∷ []) ((0x0E ∷ []) ∷ [])) 5
    ∷ refused_row (file_3 (T3 ++ (0x09 ∷ 0x00 ∷ 0x00 ∷ [])) (0x00 ∷ 0x00 ∷ []) (unit_term ∷ [])) 4
    ∷ []

-- a pair of num 250 and num 7, taken apart: the reading goes into the setting
abbrev pair_term : List ℕ
pair_term = 0x0C ∷ 0x0A ∷ 0x05 ∷ 0x04 ∷ 0xFA ∷ 0x00 ∷ 0x04 ∷ 0x07 ∷ 0x00 ∷ 0x02 ∷ 0x02 ∷ 0x06 ∷ 0x04 ∷ 0x09 ∷ 0x00 ∷ 0x00 ∷ 0x01 ∷ []

-- a list that ends in its own future
abbrev list_term : List ℕ
list_term = 0x0D ∷ 0x02 ∷ 0x07 ∷ 0x08 ∷ 0x01 ∷ 0x07 ∷ 0x0B ∷ 0x06 ∷ 0x04 ∷ 0x05 ∷ 0x00 ∷ 0x00 ∷ 0x00 ∷ 0x00 ∷ 0x01 ∷ []

-- bay 0 is the pair, bay 1 the list; of zeros
abbrev zeros : List ℕ
zeros = file_3 readings (0x00 ∷ 0x00 ∷ 0x00 ∷ 0x00 ∷ []) (pair_term ∷ list_term ∷ [])

-- their image: the two bytes of each setting's num
abbrev pair_and_list : List ℕ → List ℕ → List ℕ
pair_and_list n n' = (0x04 ∷ 0x00 ∷ 0x02 ∷ 0x00 ∷ 0x1A ∷ 0x00 ∷ 0x03 ∷ 0x00 ∷ 0x02 ∷ 0x01 ∷ 0x1D ∷ 0x00 ∷ 0x03 ∷ 0x00 ∷ 0x01 ∷ 0x00 ∷ 0x20 ∷ 0x00 ∷ 0x11 ∷ 0x00 ∷ 0x01 ∷ 0x01 ∷ 0x31 ∷ 0x00 ∷ 0x0F ∷ 0x00 ∷ []) ++ (0x04 ∷ n) ++ (0x04 ∷ n') ++ pair_term ++ list_term

-- "an edition 3 file of zeros loads the same image as its edition 2 twin", with edition 2's forms. Slips told here: edition 1's forms in edition 3; the twin's terms begin at part 2
abbrev twins : List Row
twins =
    -- the file of zeros, and its twin
    loads_row zeros (1 ∷ 1 ∷ []) (pair_and_list (0x00 ∷ 0x00 ∷ []) (0x00 ∷ 0x00 ∷ []))
    ∷ loads_row (edition_2_twin zeros) (1 ∷ 1 ∷ []) (pair_and_list (0x00 ∷ 0x00 ∷ []) (0x00 ∷ 0x00 ∷ []))
    -- an edition 3 twin of that, with 250 and 256; and the edition 2 twin of this one
    ∷ loads_row (edition_3_twin (250 ∷ 256 ∷ []) (edition_2_twin zeros)) (1 ∷ 1 ∷ []) (pair_and_list (0xFA ∷ 0x00 ∷ []) (0x00 ∷ 0x01 ∷ []))
    ∷ loads_row (edition_2_twin (edition_3_twin (250 ∷ 256 ∷ []) zeros)) (1 ∷ 1 ∷ []) (pair_and_list (0x00 ∷ 0x00 ∷ []) (0x00 ∷ 0x00 ∷ []))
    -- T-03's reading with its hour, with 100: rules 8 and 7, and the thread ends as num 100
    ∷ steps_row (edition_3_twin (100 ∷ []) reading_with_hour.file) (1 ∷ []) (1 ∷ 1 ∷ 1 ∷ []) (one_bay (0x64 ∷ 0x00 ∷ []) 0x11 pair_term) (Rule 8 26 ∷ Rule 7 20 ∷ Done ∷ []) (one_bay (0x64 ∷ 0x00 ∷ []) 0x09 exch_250 ∷ one_bay (0xFA ∷ 0x00 ∷ []) 0x03 (0x04 ∷ 0x64 ∷ 0x00 ∷ []) ∷ one_bay (0xFA ∷ 0x00 ∷ []) 0x03 (0x04 ∷ 0x64 ∷ 0x00 ∷ []) ∷ [])
    -- one num too few, one too many
    ∷ refused_row (edition_3_twin (250 ∷ []) zeros) 19
    ∷ refused_row (edition_3_twin (250 ∷ 256 ∷ 0 ∷ []) zeros) 19
    ∷ []

-- a starting part of one byte
abbrev wrong : List ℕ
wrong = file_3 T5 (0xFA ∷ []) (exch_250 ∷ [])

-- "the runner passes it on". Slips told here: 19 only where there are turns; 19 before 12; the runner starts from 0
abbrev runs : List HouseRun
runs =
    -- 19 for no turns, for one, for the most
    refused_run wrong 0 13826 13826 19
    ∷ refused_run wrong 1 13826 13826 19
    ∷ refused_run wrong 65535 13826 13826 19
    -- 12 before 19: the first buffer too short, the second, both; for no turns and for one
    ∷ refused_run wrong 0 13825 13826 12
    ∷ refused_run wrong 1 13826 13825 12
    ∷ refused_run wrong 0 13825 13825 12
    -- B with 250: no turn, and one, after which both are 250
    ∷ run_row (file_3 T5 (0xFA ∷ 0x00 ∷ []) (exch_250 ∷ [])) 0 (Turns 0 26) [] (one_bay (0xFA ∷ 0x00 ∷ []) 0x09 exch_250)
    ∷ run_row (file_3 T5 (0xFA ∷ 0x00 ∷ []) (exch_250 ∷ [])) 1 (Turns 1 20) (1 ∷ []) (one_bay (0xFA ∷ 0x00 ∷ []) 0x03 (0x04 ∷ 0xFA ∷ 0x00 ∷ []))
    -- B with 100: its thread ends as num 100
    ∷ run_row (file_3 T5 (0x64 ∷ 0x00 ∷ []) (exch_250 ∷ [])) 100 (Idle 1 20) (1 ∷ []) (one_bay (0xFA ∷ 0x00 ∷ []) 0x03 (0x04 ∷ 0x64 ∷ 0x00 ∷ []))
    -- bay 0 puts 250 into setting 0, then bay 1 takes it and leaves num 5: the threads end as 300 and 250
    ∷ run_row (file_3 T5 (0x2C ∷ 0x01 ∷ 0xBC ∷ 0x02 ∷ []) (exch_250 ∷ (0x02 ∷ 0x02 ∷ 0x06 ∷ 0x04 ∷ 0x09 ∷ 0x00 ∷ 0x04 ∷ 0x05 ∷ 0x00 ∷ []) ∷ [])) 100 (Idle 2 38) (2 ∷ 3 ∷ []) (0x04 ∷ 0x00 ∷ 0x02 ∷ 0x00 ∷ 0x1A ∷ 0x00 ∷ 0x03 ∷ 0x00 ∷ 0x02 ∷ 0x01 ∷ 0x1D ∷ 0x00 ∷ 0x03 ∷ 0x00 ∷ 0x01 ∷ 0x00 ∷ 0x20 ∷ 0x00 ∷ 0x03 ∷ 0x00 ∷ 0x01 ∷ 0x01 ∷ 0x23 ∷ 0x00 ∷ 0x03 ∷ 0x00 ∷ 0x04 ∷ 0x05 ∷ 0x00 ∷ 0x04 ∷ 0xBC ∷ 0x02 ∷ 0x04 ∷ 0x2C ∷ 0x01 ∷ 0x04 ∷ 0xFA ∷ 0x00 ∷ [])
    ∷ []

-- test loads of edition 3
abbrev loads : List LoadRow
loads =
    -- B with 250: one step, then it is done
    load_row 1 3 (file_3 T5 (0xFA ∷ 0x00 ∷ []) (exch_250 ∷ [])) (told 270369 1 (Rule 7 20) ∷ told 67634689 1 Done ∷ told 2647435461 1 Done ∷ [])
    -- two bays, whose threads are 2 and 3: not as many threads as terms and a starting part
    ∷ load_row 9 3 (file_3 T5 (0x2C ∷ 0x01 ∷ 0xBC ∷ 0x02 ∷ []) (exch_250 ∷ exch_250 ∷ [])) (told 2433321 3 (Rule 7 44) ∷ told 604648969 3 Done ∷ told 1001376492 2 (Rule 7 38) ∷ [])
    ∷ []

-- "verdict 19"
abbrev verdict_19 : List ℕ
verdict_19 = 0x76 ∷ 0x65 ∷ 0x72 ∷ 0x64 ∷ 0x69 ∷ 0x63 ∷ 0x74 ∷ 0x20 ∷ 0x31 ∷ 0x39 ∷ 0x0A ∷ []

-- "tried after 11 and before 18". Slips told here: 18 before 19; 19 only where there are draws; 18 instead of 11
abbrev texts : List Text
texts =
    -- 19 with a seed and with a seed of zero, for draws and for none
    prints_so (input 1 5 wrong) verdict_19
    ∷ prints_so (input 0 5 wrong) verdict_19
    ∷ prints_so (input 0 0 wrong) verdict_19
    -- the right part and a seed of zero: "verdict 18"
    ∷ prints_so (input 0 5 (file_3 T5 (0xFA ∷ 0x00 ∷ []) (exch_250 ∷ []))) (0x76 ∷ 0x65 ∷ 0x72 ∷ 0x64 ∷ 0x69 ∷ 0x63 ∷ 0x74 ∷ 0x20 ∷ 0x31 ∷ 0x38 ∷ 0x0A ∷ [])
    -- 11 before 19 and 18: "verdict 11"
    ∷ prints_so (input 0 5 (file_3 T7 (0x00 ∷ []) ((0x01 ∷ 0x03 ∷ 0x03 ∷ []) ∷ []))) (0x76 ∷ 0x65 ∷ 0x72 ∷ 0x64 ∷ 0x69 ∷ 0x63 ∷ 0x74 ∷ 0x20 ∷ 0x31 ∷ 0x31 ∷ 0x0A ∷ [])
    -- "1 step 7", "1 done 0"
    ∷ prints_so (input 1 2 (file_3 T5 (0xFA ∷ 0x00 ∷ []) (exch_250 ∷ []))) (0x31 ∷ 0x20 ∷ 0x73 ∷ 0x74 ∷ 0x65 ∷ 0x70 ∷ 0x20 ∷ 0x37 ∷ 0x0A ∷ 0x31 ∷ 0x20 ∷ 0x64 ∷ 0x6F ∷ 0x6E ∷ 0x65 ∷ 0x20 ∷ 0x30 ∷ 0x0A ∷ [])
    ∷ []

-- the table
abbrev rows : List Row
rows = cases_3 ++ several ++ part_numbers ++ lengths ++ orders ++ byte_2 ++ twins

-- what is proved of the files
pub record StartingRows : Type 0 where
  -- case A with 250 in edition 3, byte for byte: three pairs from 4 on, the parts from 16 on
  case_A : file_3 T3 (0xFA ∷ 0x00 ∷ []) (unit_term ∷ []) ≡ 0x4C ∷ 0x46 ∷ 0x03 ∷ 0x03 ∷ 0x10 ∷ 0x00 ∷ 0x09 ∷ 0x00 ∷ 0x19 ∷ 0x00 ∷ 0x02 ∷ 0x00 ∷ 0x1B ∷ 0x00 ∷ 0x01 ∷ 0x00 ∷ 0x00 ∷ 0x00 ∷ 0x00 ∷ 0x01 ∷ 0x00 ∷ 0x00 ∷ 0x02 ∷ 0x01 ∷ 0x00 ∷ 0xFA ∷ 0x00 ∷ 0x03 ∷ []
  -- a twin has its file's table and terms, and no other part
  twin_2 : edition_2_twin (file_3 T3 (0xFA ∷ 0x00 ∷ []) (unit_term ∷ [])) ≡ 0x4C ∷ 0x46 ∷ 0x02 ∷ 0x02 ∷ 0x0C ∷ 0x00 ∷ 0x09 ∷ 0x00 ∷ 0x15 ∷ 0x00 ∷ 0x01 ∷ 0x00 ∷ 0x00 ∷ 0x00 ∷ 0x00 ∷ 0x01 ∷ 0x00 ∷ 0x00 ∷ 0x02 ∷ 0x01 ∷ 0x00 ∷ 0x03 ∷ []
  twin_3 : edition_3_twin (250 ∷ []) (file_of edition_2 (T3 ∷ unit_term ∷ [])) ≡ file_3 T3 (0xFA ∷ 0x00 ∷ []) (unit_term ∷ [])
  -- what is claimed is what is computed
  table : map computed rows ≡ rows
  -- a check says 19 too; 12 before 19, in a load
  checked : (verdict_of wrong).refusal ≡ 19
  short_buffer : load_refusal common wrong 13825 ≡ 12
  -- case A with any starting num; the bound says that its two bytes are bytes
  any_num : (n : ℕ) → n < two_byte_values → computed (A_at (two_bytes n) (two_bytes n)) ≡ A_at (two_bytes n) (two_bytes n)

pub starting_rows : StartingRows
unfolding computed run_of steps renewed loaded_of load_refusal out_after_load outcome_of out_after_step out_after_reply function_at new_types coming result_type future_and_handle nums_bytes twin term_parts parts_from repeated outcome_of_reply type_number_in verdict_of refusal bay_type_numbers bay_type_number bay_terms bay_term cause_5 cause_6 cause_4 table_of type_table file_of joined pairs_of two_bytes word bays parts offset_of length_of part table_bytes term_bytes outside cause_1 opens edition_of cause_2 pairs_test table_length_test cause_3 cause_19 starting_nums starting_num starting_bytes exp_of leaf_exp leaf_forms two_exp two_forms nesting one_term of_edition forms_below read read_term form_of forms value_of tabulate each_below sum_below uses nodes test_entry entry_test entry_stands entries_test same_entry new_to distinct_test entry_is table_test on_function on_once_function on_cell is_many scoped_const scoped annotated_const annotated const_number on_number result_number applied_number lambda_number both_number case_number with_components type_number outside_many linear_variable linear every verdict starting_image step_reply config_of decode components image_of encode terms_stand image_stands kind_test companion_test length_test head_agrees head_stands stand_from heads_stand names kind_at companion_at offset_in length_at expression_at encoded_at encoded_all head heads expressions image_bytes bytes const_bytes op_tag both_tag case_tag little_endian loaded bay_types with_type reply_of sum_in sum_all expression_test is_settled is_awaited handle_for component_test each_test limits_test image_test beside within place when_done step_call step_exchange step_meeting step_place step_redex step_case step_subject step_of substitute plug term_of type_at read_deep read_at read_entry one_part two_parts owners_of owner_at owners_after encode_all first_owners
starting_rows = record {
  case_A = refl;
  twin_2 = refl;
  twin_3 = refl;
  table = refl;
  checked = refl;
  short_buffer = refl;
  any_num = λ n h. ap (λ m. A_at (two_bytes n) (two_bytes m)) (number_of_bytes n);
}

-- what is proved of runs and test loads
pub record StartingRuns : Type 0 where
  runs_table : map computed_run runs ≡ runs
  loads_table : map computed_load loads ≡ loads
  -- "A refusal prints only its verdict line"
  texts_table : map (λ (t : Text). text_of t.given) texts ≡ map (λ (t : Text). t.prints) texts

pub starting_runs : StartingRuns
unfolding computed_run computed_by unless_refused ran run_refusal ending_by course_of take_turns turning one_after search_from look_along looking_on going_round upward look look_of computed_load input draw_refusal seed_in number_in draws image_after picked threads_below has_thread_kind drawn text_of lines line outcome_text number_of word_of decimal verdict_line repeated outcome_of_reply type_number_in verdict_of refusal bay_type_numbers bay_type_number bay_terms bay_term cause_5 cause_6 cause_4 table_of type_table file_of joined pairs_of two_bytes word bays parts offset_of length_of part table_bytes term_bytes outside cause_1 opens edition_of cause_2 pairs_test table_length_test cause_3 cause_19 starting_nums starting_num starting_bytes exp_of leaf_exp leaf_forms two_exp two_forms nesting one_term of_edition forms_below read read_term form_of forms value_of tabulate each_below sum_below uses nodes test_entry entry_test entry_stands entries_test same_entry new_to distinct_test entry_is table_test on_function on_once_function on_cell is_many scoped_const scoped annotated_const annotated const_number on_number result_number applied_number lambda_number both_number case_number with_components type_number outside_many linear_variable linear every verdict starting_image step_reply config_of decode components image_of encode terms_stand image_stands kind_test companion_test length_test head_agrees head_stands stand_from heads_stand names kind_at companion_at offset_in length_at expression_at encoded_at encoded_all head heads expressions image_bytes bytes const_bytes op_tag both_tag case_tag little_endian loaded bay_types with_type reply_of sum_in sum_all expression_test is_settled is_awaited handle_for component_test each_test limits_test image_test beside within place when_done step_call step_exchange step_meeting step_place step_redex step_case step_subject step_of substitute plug term_of type_at read_deep read_at read_entry one_part two_parts owners_of owner_at owners_after encode_all first_owners
starting_runs = record { runs_table = refl; loads_table = refl; texts_table = refl }
