-- Document 02, T-04, "A house runner", as rows of one table that is computed: a recipe, a number of turns and the lengths of the two buffers; what the runner answers, the
-- threads that its turns step, and the last image.
use Rattle.std.specs.Prelude.{◌≡◌, refl, true, false, List, [], ◌∷◌, ◌++◌, map, ℕ, suc, zero, get_or}
use Rattle.calculus.specs.Syntax.{sum_in, sum_all}
use Rattle.calculus.specs.Lists.{tabulate, each_below, sum_below}
use Rattle.calculus.specs.Bytes.{two_bytes, word}
use Rattle.calculus.specs.Names.{uses}
use Rattle.calculus.specs.Image.{nodes, expression_test, is_settled, is_awaited, handle_for, component_test, each_test, limits_test, image_test}
use Rattle.calculus.specs.Table.{test_entry, entry_test, entry_stands, entries_test, same_entry, new_to, distinct_test, entry_is, table_test, one_part, two_parts, read_entry, read_at, read_deep, type_at, is_many}
use Rattle.calculus.specs.Verdict.{on_function, on_once_function, on_cell, scoped_const, scoped, annotated_const, annotated, const_number, on_number, result_number, applied_number, lambda_number, both_number, case_number, with_components, type_number, outside_many, linear_variable, linear, every, verdict}
use Rattle.term.specs.Numbers.{value_of, little_endian}
use Rattle.term.specs.Forms.{form_of, forms}
use Rattle.term.specs.Reader.{one_term, read, read_term, of_edition}
use Rattle.term.specs.Tree.{forms_below}
use Rattle.term.specs.Expressions.{exp_of, leaf_exp, leaf_forms, nesting, bytes, const_bytes, op_tag, both_tag, case_tag, term_of, two_exp, two_forms}
use Rattle.recipe_file.specs.Editions.{edition_1}
use Rattle.recipe_file.specs.File.{edition_of, bays, parts, offset_of, length_of, part, table_bytes, term_bytes, outside, cause_1, opens, cause_2, pairs_test, table_length_test, cause_3}
use Rattle.recipe_file.specs.Starting.{cause_19, starting_bytes, starting_num, starting_nums}
use Rattle.recipe_file.specs.Whole.{file_of, joined, pairs_of}
use Rattle.recipe_table.specs.Entries.{cause_4, table_of, type_table}
use Rattle.check_spec.specs.Bays.{bay_term, bay_terms, cause_5, cause_6}
use Rattle.check_spec.specs.Verdict.{bay_type_number, bay_type_numbers, number_in, refusal, verdict_of}
use Rattle.calculus.specs.Reduction.{substitute, plug}
use Rattle.calculus.specs.Step.{beside, within, place, when_done, step_call, step_exchange, step_meeting, step_place, step_redex, step_case, step_subject, step_of}
use Rattle.calculus.specs.Reply.{reply_of}
use Rattle.calculus.specs.Recipe.{loaded, bay_types, with_type}
use Rattle.calculus.specs.Owners.{owners_after, first_owners}
use Rattle.image_layout.specs.Encoded.{head, heads, expressions, image_bytes}
use Rattle.image_layout.specs.Slice.{names, kind_at, companion_at, offset_at as offset_in, length_at, expression_at, encoded_at, encoded_all, owner_at}
use Rattle.image_layout.specs.Layout.{kind_test, companion_test, length_test, head_agrees, head_stands, stand_from, heads_stand}
use Rattle.image.specs.Configuration.{encode, image_of, components, decode, config_of, owners_of, encode_all}
use Rattle.image.specs.Stands.{terms_stand, image_stands}
use Rattle.load_spec.specs.Starting.{starting_image}
use Rattle.step_spec.specs.Stepping.{step_reply}
use Rattle.run_spec.specs.declared.Ending.{Ending}
use Rattle.run_spec.specs.declared.Ending.TheVariants.{Turns, Idle, Room, Refused}
use Rattle.run_spec.specs.Course.{Course, Turn, look_of, look, upward, going_round, looking_on, look_along, search_from, one_after, turning, take_turns, course_of}
use Rattle.run_spec.specs.Ending.{run_refusal, ending_by, ran, ends_in_first, unless_refused}
use Rattle.bay_cases.specs.Cases.{T3, num_to_num, thread_many_many, identities, row_A, row_B, row_C, row_D}
use Rattle.bay_cases.specs.Pairs.{reading_with_hour, own_rest}

-- a row: a file, the number of turns and the lengths of the buffers; what is answered; the threads that the turns step, and the last image, none where it is refused
pub record HouseRun : Type 0 where
  pub file : List ℕ
  pub turns : ℕ
  pub first : ℕ
  pub second : ℕ
  pub answer : Ending
  pub threads : List ℕ
  pub last : List ℕ

-- the row with this answer and this course in place of what is claimed
unfoldable pub computed_by : HouseRun → Ending → Course → HouseRun
computed_by r answer course = record {
  file = r.file;
  turns = r.turns;
  first = r.first;
  second = r.second;
  answer = answer;
  threads = unless_refused answer (map (λ (t : Turn). t.thread) course.turns) [];
  last = unless_refused answer course.last [];
}

-- the row with what is computed
unfoldable pub computed_run : HouseRun → HouseRun
computed_run r = computed_by r (ran r.file r.turns r.first r.second) (course_of r.file r.turns)

-- both buffers are just long enough
abbrev pub run_row : List ℕ → ℕ → Ending → List ℕ → List ℕ → HouseRun
run_row file turns answer threads last = record { file = file; turns = turns; first = 13826; second = 13826; answer = answer; threads = threads; last = last }

abbrev pub refused_run : List ℕ → ℕ → ℕ → ℕ → ℕ → HouseRun
refused_run file turns first second number = record { file = file; turns = turns; first = first; second = second; answer = Refused number; threads = []; last = [] }

-- n times the same bytes, then a term
unfoldable pub repeated : ℕ → List ℕ → List ℕ → List ℕ
repeated zero bytes term = term
repeated (suc n) bytes term = bytes ++ repeated n bytes term

-- λ x. n identities applied to x: 3n + 2 nodes
abbrev identities_of : ℕ → List ℕ
identities_of n = 0x01 ∷ 0x03 ∷ repeated n (0x02 ∷ 0x01 ∷ 0x03 ∷ 0x00 ∷ 0x00 ∷ []) (0x00 ∷ 0x00 ∷ [])

-- (λ f. f (f (.. 7))) (identities-of n), p places: 2p + 3n + 5 nodes. Rule 1 makes p (3n + 3) + 1 nodes of it
abbrev pub copies : ℕ → ℕ → List ℕ
copies p n = 0x02 ∷ 0x01 ∷ 0x04 ∷ repeated p (0x02 ∷ 0x00 ∷ 0x00 ∷ []) (0x04 ∷ 0x07 ∷ 0x00 ∷ []) ++ identities_of n

-- what rule 1 makes of it
abbrev copied : ℕ → ℕ → List ℕ
copied p n = repeated p (0x02 ∷ identities_of n) (0x04 ∷ 0x07 ∷ 0x00 ∷ [])

-- the tables, by what they are for
-- 3: num many to num; 4: 3 many to num
abbrev pub copying : List ℕ
copying = num_to_num ++ (0x04 ∷ 0x03 ∷ 0x01 ∷ [])

-- 3: unit many to unit; 4: a handle for it; 7: handle at 3; 8: unit once to unit; 9: thread at unit
abbrev pub awaiting : List ℕ
awaiting = T3 ++ (0x04 ∷ 0x00 ∷ 0x00 ∷ 0x03 ∷ 0x03 ∷ 0x00 ∷ 0x04 ∷ 0x04 ∷ 0x00 ∷ 0x04 ∷ 0x03 ∷ 0x05 ∷ 0x04 ∷ 0x06 ∷ 0x00 ∷ 0x03 ∷ 0x00 ∷ 0x00 ∷ 0x04 ∷ 0x03 ∷ 0x00 ∷ [])

-- 3: unit many to unit; 5: thread at 3
abbrev calling : List ℕ
calling = T3 ++ (0x04 ∷ 0x00 ∷ 0x00 ∷ 0x04 ∷ 0x03 ∷ 0x03 ∷ 0x04 ∷ 0x04 ∷ 0x03 ∷ [])

-- handle (λ x. λ h. (λ z. h (λ u. u)) (x unit)): it needs the future before it gets to the handle
abbrev pub waits_for_ever : List ℕ
waits_for_ever = 0x02 ∷ 0x08 ∷ 0x07 ∷ 0x01 ∷ 0x06 ∷ 0x01 ∷ 0x05 ∷ 0x02 ∷ 0x01 ∷ 0x08 ∷ 0x02 ∷ 0x00 ∷ 0x01 ∷ 0x01 ∷ 0x03 ∷ 0x00 ∷ 0x00 ∷ 0x02 ∷ 0x00 ∷ 0x01 ∷ 0x03 ∷ []

-- handle (λ x. λ h. (λ z. (λ u. h (λ v. v)) ((λ u. u) unit)) (thread (λ z. x unit))): the new thread needs the future before bay 0 binds it
abbrev pub waits_until_bound : List ℕ
waits_until_bound = 0x02 ∷ 0x08 ∷ 0x07 ∷ 0x01 ∷ 0x06 ∷ 0x01 ∷ 0x05 ∷ 0x02 ∷ 0x01 ∷ 0x08 ∷ 0x02 ∷ 0x01 ∷ 0x08 ∷ 0x02 ∷ 0x00 ∷ 0x02 ∷ 0x01 ∷ 0x03 ∷ 0x00 ∷ 0x00 ∷ 0x02 ∷ 0x01 ∷ 0x03 ∷ 0x00 ∷ 0x00 ∷ 0x03 ∷ 0x02 ∷ 0x07 ∷ 0x09 ∷ 0x01 ∷ 0x03 ∷ 0x02 ∷ 0x00 ∷ 0x02 ∷ 0x03 ∷ []

-- a new thread that applies the identity to its own name, and is its own name then
abbrev pub own_name : List ℕ
own_name = 0x02 ∷ 0x07 ∷ 0x04 ∷ 0x01 ∷ 0x03 ∷ 0x00 ∷ 0x00 ∷ []

-- document 01's cases A to C. Slips told here: idle where all the turns were taken, and the other way round; a turn less; the image before the last
abbrev cases_run : List HouseRun
cases_run =
    -- A: no thread goes. For no turns it does not look; else it is idle at once
    run_row row_A.file 0 (Turns 0 18) [] row_A.starting
    ∷ run_row row_A.file 1 (Idle 0 18) [] row_A.starting
    ∷ run_row row_A.file 100 (Idle 0 18) [] row_A.starting
    -- B: one turn. After it nothing goes, but after all the turns it looks no further
    ∷ run_row row_B.file 0 (Turns 0 26) [] row_B.starting
    ∷ run_row row_B.file 1 (Turns 1 20) (1 ∷ []) (get_or row_B.images 0 [])
    ∷ run_row row_B.file 100 (Idle 1 20) (1 ∷ []) (get_or row_B.images 0 [])
    -- the most turns
    ∷ run_row row_B.file 65535 (Idle 1 20) (1 ∷ []) (get_or row_B.images 0 [])
    -- C: four turns, the same thread each time; future 2, handle 3 and the setting are no threads. Slip: it stops at a name that is no thread
    ∷ run_row row_C.file 0 (Turns 0 29) [] row_C.starting
    ∷ run_row row_C.file 1 (Turns 1 44) (1 ∷ []) (get_or row_C.images 0 [])
    ∷ run_row row_C.file 4 (Turns 4 32) (1 ∷ 1 ∷ 1 ∷ 1 ∷ []) (get_or row_C.images 3 [])
    ∷ run_row row_C.file 5 (Idle 4 32) (1 ∷ 1 ∷ 1 ∷ 1 ∷ []) (get_or row_C.images 3 [])
    ∷ run_row row_C.file 100 (Idle 4 32) (1 ∷ 1 ∷ 1 ∷ 1 ∷ []) (get_or row_C.images 3 [])
    ∷ []

-- who is next. Slips told here: each turn from the lowest number; from the last stepped; the lower numbers first; no going round; without the new names; a new name at once
abbrev rounds : List HouseRun
rounds =
    -- two bays take turns
    run_row (file_of edition_1 (num_to_num ∷ identities 2 ∷ identities 2 ∷ [])) 3 (Turns 3 43) (2 ∷ 3 ∷ 2 ∷ []) (0x04 ∷ 0x00 ∷ 0x02 ∷ 0x00 ∷ 0x1A ∷ 0x00 ∷ 0x03 ∷ 0x00 ∷ 0x02 ∷ 0x01 ∷ 0x1D ∷ 0x00 ∷ 0x03 ∷ 0x00 ∷ 0x01 ∷ 0x00 ∷ 0x20 ∷ 0x00 ∷ 0x03 ∷ 0x00 ∷ 0x01 ∷ 0x01 ∷ 0x23 ∷ 0x00 ∷ 0x08 ∷ 0x00 ∷ 0x04 ∷ 0x00 ∷ 0x00 ∷ 0x04 ∷ 0x00 ∷ 0x00 ∷ 0x04 ∷ 0x07 ∷ 0x00 ∷ 0x02 ∷ 0x01 ∷ 0x03 ∷ 0x00 ∷ 0x00 ∷ 0x04 ∷ 0x07 ∷ 0x00 ∷ [])
    ∷ run_row (file_of edition_1 (num_to_num ∷ identities 2 ∷ identities 2 ∷ [])) 100 (Idle 4 38) (2 ∷ 3 ∷ 2 ∷ 3 ∷ []) (0x04 ∷ 0x00 ∷ 0x02 ∷ 0x00 ∷ 0x1A ∷ 0x00 ∷ 0x03 ∷ 0x00 ∷ 0x02 ∷ 0x01 ∷ 0x1D ∷ 0x00 ∷ 0x03 ∷ 0x00 ∷ 0x01 ∷ 0x00 ∷ 0x20 ∷ 0x00 ∷ 0x03 ∷ 0x00 ∷ 0x01 ∷ 0x01 ∷ 0x23 ∷ 0x00 ∷ 0x03 ∷ 0x00 ∷ 0x04 ∷ 0x00 ∷ 0x00 ∷ 0x04 ∷ 0x00 ∷ 0x00 ∷ 0x04 ∷ 0x07 ∷ 0x00 ∷ 0x04 ∷ 0x07 ∷ 0x00 ∷ [])
    -- three bays, done after two, one and three turns: who is done is passed over
    ∷ run_row (file_of edition_1 (num_to_num ∷ identities 2 ∷ identities 1 ∷ identities 3 ∷ [])) 100 (Idle 6 56) (3 ∷ 4 ∷ 5 ∷ 3 ∷ 5 ∷ 5 ∷ []) (0x06 ∷ 0x00 ∷ 0x02 ∷ 0x00 ∷ 0x26 ∷ 0x00 ∷ 0x03 ∷ 0x00 ∷ 0x02 ∷ 0x01 ∷ 0x29 ∷ 0x00 ∷ 0x03 ∷ 0x00 ∷ 0x02 ∷ 0x02 ∷ 0x2C ∷ 0x00 ∷ 0x03 ∷ 0x00 ∷ 0x01 ∷ 0x00 ∷ 0x2F ∷ 0x00 ∷ 0x03 ∷ 0x00 ∷ 0x01 ∷ 0x01 ∷ 0x32 ∷ 0x00 ∷ 0x03 ∷ 0x00 ∷ 0x01 ∷ 0x02 ∷ 0x35 ∷ 0x00 ∷ 0x03 ∷ 0x00 ∷ 0x04 ∷ 0x00 ∷ 0x00 ∷ 0x04 ∷ 0x00 ∷ 0x00 ∷ 0x04 ∷ 0x00 ∷ 0x00 ∷ 0x04 ∷ 0x07 ∷ 0x00 ∷ 0x04 ∷ 0x07 ∷ 0x00 ∷ 0x04 ∷ 0x07 ∷ 0x00 ∷ [])
    -- bay 1 makes thread 4, which is looked at next, before it goes round to bay 0. Slip: as many names as before
    ∷ run_row (file_of edition_1 (thread_many_many ∷ identities 2 ∷ own_name ∷ [])) 100 (Idle 4 45) (2 ∷ 3 ∷ 4 ∷ 2 ∷ []) (0x05 ∷ 0x00 ∷ 0x02 ∷ 0x00 ∷ 0x20 ∷ 0x00 ∷ 0x03 ∷ 0x00 ∷ 0x02 ∷ 0x01 ∷ 0x23 ∷ 0x00 ∷ 0x03 ∷ 0x00 ∷ 0x01 ∷ 0x00 ∷ 0x26 ∷ 0x00 ∷ 0x03 ∷ 0x00 ∷ 0x01 ∷ 0x01 ∷ 0x29 ∷ 0x00 ∷ 0x02 ∷ 0x00 ∷ 0x01 ∷ 0x01 ∷ 0x2B ∷ 0x00 ∷ 0x02 ∷ 0x00 ∷ 0x04 ∷ 0x00 ∷ 0x00 ∷ 0x04 ∷ 0x00 ∷ 0x00 ∷ 0x04 ∷ 0x07 ∷ 0x00 ∷ 0x09 ∷ 0x04 ∷ 0x09 ∷ 0x04 ∷ [])
    -- bay 0 makes thread 4: bay 1 goes first. Slip: a new thread goes at once
    ∷ run_row (file_of edition_1 (thread_many_many ∷ own_name ∷ identities 2 ∷ [])) 100 (Idle 4 45) (2 ∷ 3 ∷ 4 ∷ 3 ∷ []) (0x05 ∷ 0x00 ∷ 0x02 ∷ 0x00 ∷ 0x20 ∷ 0x00 ∷ 0x03 ∷ 0x00 ∷ 0x02 ∷ 0x01 ∷ 0x23 ∷ 0x00 ∷ 0x03 ∷ 0x00 ∷ 0x01 ∷ 0x00 ∷ 0x26 ∷ 0x00 ∷ 0x02 ∷ 0x00 ∷ 0x01 ∷ 0x01 ∷ 0x28 ∷ 0x00 ∷ 0x03 ∷ 0x00 ∷ 0x01 ∷ 0x00 ∷ 0x2B ∷ 0x00 ∷ 0x02 ∷ 0x00 ∷ 0x04 ∷ 0x00 ∷ 0x00 ∷ 0x04 ∷ 0x00 ∷ 0x00 ∷ 0x09 ∷ 0x04 ∷ 0x04 ∷ 0x07 ∷ 0x00 ∷ 0x09 ∷ 0x04 ∷ [])
    -- rules 3 and 1 follow each other for ever: all the turns
    ∷ run_row (file_of edition_1 (calling ∷ (0x02 ∷ 0x02 ∷ 0x07 ∷ 0x05 ∷ 0x01 ∷ 0x04 ∷ 0x01 ∷ 0x03 ∷ 0x02 ∷ 0x00 ∷ 0x01 ∷ 0x00 ∷ 0x00 ∷ 0x03 ∷ []) ∷ [])) 9 (Turns 9 39) (1 ∷ 2 ∷ 1 ∷ 1 ∷ 1 ∷ 1 ∷ 1 ∷ 1 ∷ 1 ∷ []) (0x03 ∷ 0x00 ∷ 0x02 ∷ 0x00 ∷ 0x14 ∷ 0x00 ∷ 0x03 ∷ 0x00 ∷ 0x01 ∷ 0x00 ∷ 0x17 ∷ 0x00 ∷ 0x09 ∷ 0x00 ∷ 0x01 ∷ 0x00 ∷ 0x20 ∷ 0x00 ∷ 0x07 ∷ 0x00 ∷ 0x04 ∷ 0x00 ∷ 0x00 ∷ 0x02 ∷ 0x01 ∷ 0x03 ∷ 0x02 ∷ 0x09 ∷ 0x02 ∷ 0x00 ∷ 0x00 ∷ 0x03 ∷ 0x01 ∷ 0x03 ∷ 0x02 ∷ 0x09 ∷ 0x02 ∷ 0x00 ∷ 0x00 ∷ [])
    ∷ []

-- who waits. Slips told here: it stops at the first that waits; a thread that waited once is passed over for ever; room lacks where one only waits
abbrev waitings : List HouseRun
waitings =
    -- a thread that waits for ever is not done, and does not go: idle
    run_row (file_of edition_1 (awaiting ∷ waits_for_ever ∷ [])) 100 (Idle 3 43) (1 ∷ 1 ∷ 1 ∷ []) (0x04 ∷ 0x00 ∷ 0x02 ∷ 0x00 ∷ 0x1A ∷ 0x00 ∷ 0x03 ∷ 0x00 ∷ 0x01 ∷ 0x00 ∷ 0x1D ∷ 0x00 ∷ 0x0E ∷ 0x00 ∷ 0x05 ∷ 0x00 ∷ 0x2B ∷ 0x00 ∷ 0x00 ∷ 0x00 ∷ 0x03 ∷ 0x02 ∷ 0x2B ∷ 0x00 ∷ 0x00 ∷ 0x00 ∷ 0x04 ∷ 0x00 ∷ 0x00 ∷ 0x02 ∷ 0x01 ∷ 0x08 ∷ 0x02 ∷ 0x09 ∷ 0x03 ∷ 0x01 ∷ 0x03 ∷ 0x00 ∷ 0x00 ∷ 0x02 ∷ 0x09 ∷ 0x02 ∷ 0x03 ∷ [])
    -- bay 1 goes on meanwhile
    ∷ run_row (file_of edition_1 (awaiting ∷ waits_for_ever ∷ repeated 5 (0x02 ∷ 0x01 ∷ 0x03 ∷ 0x00 ∷ 0x00 ∷ []) (0x03 ∷ []) ∷ [])) 100 (Idle 8 59) (2 ∷ 3 ∷ 2 ∷ 3 ∷ 2 ∷ 3 ∷ 3 ∷ 3 ∷ []) (0x06 ∷ 0x00 ∷ 0x02 ∷ 0x00 ∷ 0x26 ∷ 0x00 ∷ 0x03 ∷ 0x00 ∷ 0x02 ∷ 0x01 ∷ 0x29 ∷ 0x00 ∷ 0x03 ∷ 0x00 ∷ 0x01 ∷ 0x00 ∷ 0x2C ∷ 0x00 ∷ 0x0E ∷ 0x00 ∷ 0x01 ∷ 0x01 ∷ 0x3A ∷ 0x00 ∷ 0x01 ∷ 0x00 ∷ 0x05 ∷ 0x00 ∷ 0x3B ∷ 0x00 ∷ 0x00 ∷ 0x00 ∷ 0x03 ∷ 0x04 ∷ 0x3B ∷ 0x00 ∷ 0x00 ∷ 0x00 ∷ 0x04 ∷ 0x00 ∷ 0x00 ∷ 0x04 ∷ 0x00 ∷ 0x00 ∷ 0x02 ∷ 0x01 ∷ 0x08 ∷ 0x02 ∷ 0x09 ∷ 0x05 ∷ 0x01 ∷ 0x03 ∷ 0x00 ∷ 0x00 ∷ 0x02 ∷ 0x09 ∷ 0x04 ∷ 0x03 ∷ 0x03 ∷ [])
    -- thread 4 waits for future 2, and goes when bay 0 has bound it: rules 4, 1, 1, 2; 4's rule 1; 1, 1, 1, 5; 4's rules 3 and 1
    ∷ run_row (file_of edition_1 (awaiting ∷ waits_until_bound ∷ [])) 100 (Idle 11 41) (1 ∷ 1 ∷ 1 ∷ 1 ∷ 4 ∷ 1 ∷ 1 ∷ 1 ∷ 1 ∷ 4 ∷ 4 ∷ []) (0x05 ∷ 0x00 ∷ 0x02 ∷ 0x00 ∷ 0x20 ∷ 0x00 ∷ 0x03 ∷ 0x00 ∷ 0x01 ∷ 0x00 ∷ 0x23 ∷ 0x00 ∷ 0x01 ∷ 0x00 ∷ 0x01 ∷ 0x00 ∷ 0x24 ∷ 0x00 ∷ 0x04 ∷ 0x00 ∷ 0x04 ∷ 0x00 ∷ 0x28 ∷ 0x00 ∷ 0x00 ∷ 0x00 ∷ 0x01 ∷ 0x00 ∷ 0x28 ∷ 0x00 ∷ 0x01 ∷ 0x00 ∷ 0x04 ∷ 0x00 ∷ 0x00 ∷ 0x03 ∷ 0x01 ∷ 0x03 ∷ 0x00 ∷ 0x00 ∷ 0x03 ∷ [])
    ∷ []

-- who lacks room: rule 1 would put 92 nodes into 46 places, which makes an expression of 4,279 nodes. Slips told here: it stops at the first that lacks room; idle where room
-- lacked; only the first, or only the last one looked at tells; it says room where all the turns were taken; who lacked room once is passed over for ever
abbrev rooms : List HouseRun
rooms =
    -- bay 0 lacks room, and bay 1 goes until it is done
    run_row (file_of edition_1 (copying ∷ copies 46 30 ∷ identities 2 ∷ [])) 100 (Room 2 333) (3 ∷ 3 ∷ []) ((0x04 ∷ 0x00 ∷ 0x02 ∷ 0x00 ∷ 0x1A ∷ 0x00 ∷ 0x03 ∷ 0x00 ∷ 0x02 ∷ 0x01 ∷ 0x1D ∷ 0x00 ∷ 0x03 ∷ 0x00 ∷ 0x01 ∷ 0x00 ∷ 0x20 ∷ 0x00 ∷ 0x2A ∷ 0x01 ∷ 0x01 ∷ 0x01 ∷ 0x4A ∷ 0x01 ∷ 0x03 ∷ 0x00 ∷ 0x04 ∷ 0x00 ∷ 0x00 ∷ 0x04 ∷ 0x00 ∷ 0x00 ∷ []) ++ copies 46 30 ++ (0x04 ∷ 0x07 ∷ 0x00 ∷ []))
    -- as many turns as that: it looks no further
    ∷ run_row (file_of edition_1 (copying ∷ copies 46 30 ∷ identities 2 ∷ [])) 2 (Turns 2 333) (3 ∷ 3 ∷ []) ((0x04 ∷ 0x00 ∷ 0x02 ∷ 0x00 ∷ 0x1A ∷ 0x00 ∷ 0x03 ∷ 0x00 ∷ 0x02 ∷ 0x01 ∷ 0x1D ∷ 0x00 ∷ 0x03 ∷ 0x00 ∷ 0x01 ∷ 0x00 ∷ 0x20 ∷ 0x00 ∷ 0x2A ∷ 0x01 ∷ 0x01 ∷ 0x01 ∷ 0x4A ∷ 0x01 ∷ 0x03 ∷ 0x00 ∷ 0x04 ∷ 0x00 ∷ 0x00 ∷ 0x04 ∷ 0x00 ∷ 0x00 ∷ []) ++ copies 46 30 ++ (0x04 ∷ 0x07 ∷ 0x00 ∷ []))
    ∷ run_row (file_of edition_1 (copying ∷ copies 46 30 ∷ identities 2 ∷ [])) 1 (Turns 1 338) (3 ∷ []) ((0x04 ∷ 0x00 ∷ 0x02 ∷ 0x00 ∷ 0x1A ∷ 0x00 ∷ 0x03 ∷ 0x00 ∷ 0x02 ∷ 0x01 ∷ 0x1D ∷ 0x00 ∷ 0x03 ∷ 0x00 ∷ 0x01 ∷ 0x00 ∷ 0x20 ∷ 0x00 ∷ 0x2A ∷ 0x01 ∷ 0x01 ∷ 0x01 ∷ 0x4A ∷ 0x01 ∷ 0x08 ∷ 0x00 ∷ 0x04 ∷ 0x00 ∷ 0x00 ∷ 0x04 ∷ 0x00 ∷ 0x00 ∷ []) ++ copies 46 30 ++ identities 1)
    -- no turn: it does not look
    ∷ run_row (file_of edition_1 (copying ∷ copies 46 30 ∷ identities 2 ∷ [])) 0 (Turns 0 343) [] ((0x04 ∷ 0x00 ∷ 0x02 ∷ 0x00 ∷ 0x1A ∷ 0x00 ∷ 0x03 ∷ 0x00 ∷ 0x02 ∷ 0x01 ∷ 0x1D ∷ 0x00 ∷ 0x03 ∷ 0x00 ∷ 0x01 ∷ 0x00 ∷ 0x20 ∷ 0x00 ∷ 0x2A ∷ 0x01 ∷ 0x01 ∷ 0x01 ∷ 0x4A ∷ 0x01 ∷ 0x0D ∷ 0x00 ∷ 0x04 ∷ 0x00 ∷ 0x00 ∷ 0x04 ∷ 0x00 ∷ 0x00 ∷ []) ++ copies 46 30 ++ identities 2)
    -- bay 1 lacks room, and bay 0 is done
    ∷ run_row (file_of edition_1 (copying ∷ identities 2 ∷ copies 46 30 ∷ [])) 100 (Room 2 333) (2 ∷ 2 ∷ []) ((0x04 ∷ 0x00 ∷ 0x02 ∷ 0x00 ∷ 0x1A ∷ 0x00 ∷ 0x03 ∷ 0x00 ∷ 0x02 ∷ 0x01 ∷ 0x1D ∷ 0x00 ∷ 0x03 ∷ 0x00 ∷ 0x01 ∷ 0x00 ∷ 0x20 ∷ 0x00 ∷ 0x03 ∷ 0x00 ∷ 0x01 ∷ 0x01 ∷ 0x23 ∷ 0x00 ∷ 0x2A ∷ 0x01 ∷ 0x04 ∷ 0x00 ∷ 0x00 ∷ 0x04 ∷ 0x00 ∷ 0x00 ∷ []) ++ (0x04 ∷ 0x07 ∷ 0x00 ∷ []) ++ copies 46 30)
    -- nobody else: no turn is taken
    ∷ run_row (file_of edition_1 (copying ∷ copies 46 30 ∷ [])) 1 (Room 0 315) [] ((0x02 ∷ 0x00 ∷ 0x02 ∷ 0x00 ∷ 0x0E ∷ 0x00 ∷ 0x03 ∷ 0x00 ∷ 0x01 ∷ 0x00 ∷ 0x11 ∷ 0x00 ∷ 0x2A ∷ 0x01 ∷ 0x04 ∷ 0x00 ∷ 0x00 ∷ []) ++ copies 46 30)
    -- 86 nodes into 47 places would make 4,099 nodes in all; when bay 1 has 3 nodes less, they are 4,096, and bay 0 goes
    ∷ run_row (file_of edition_1 (copying ∷ copies 47 28 ∷ identities 2 ∷ [])) 3 (Turns 3 6853) (3 ∷ 2 ∷ 3 ∷ []) ((0x04 ∷ 0x00 ∷ 0x02 ∷ 0x00 ∷ 0x1A ∷ 0x00 ∷ 0x03 ∷ 0x00 ∷ 0x02 ∷ 0x01 ∷ 0x1D ∷ 0x00 ∷ 0x03 ∷ 0x00 ∷ 0x01 ∷ 0x00 ∷ 0x20 ∷ 0x00 ∷ 0xA2 ∷ 0x1A ∷ 0x01 ∷ 0x01 ∷ 0xC2 ∷ 0x1A ∷ 0x03 ∷ 0x00 ∷ 0x04 ∷ 0x00 ∷ 0x00 ∷ 0x04 ∷ 0x00 ∷ 0x00 ∷ []) ++ copied 47 28 ++ (0x04 ∷ 0x07 ∷ 0x00 ∷ []))
    ∷ []

-- a recipe of edition 2, run to its end. Slip told here: edition 1 alone
abbrev editions : List HouseRun
editions =
    -- a pair: rules 8 and 7
    run_row reading_with_hour.file 100 (Idle 2 20) (1 ∷ 1 ∷ []) (get_or reading_with_hour.images 1 [])
    -- a list that ends in its own future: the new thread 2 goes before bay 0 would wait for it
    ∷ run_row own_rest.file 100 (Idle 4 33) (1 ∷ 2 ∷ 1 ∷ 1 ∷ []) (get_or own_rest.images 4 [])
    ∷ []

-- refusals. Slips told here: 12 for the first buffer alone, for the second alone, for both alone, only where there are turns; 10 before 12; 13,825 bytes serve; for no turns
-- nothing is checked
abbrev refusals : List HouseRun
refusals =
    -- D, for no turns and for some: the number of the check
    refused_run row_D.file 0 13826 13826 10
    ∷ refused_run row_D.file 9 13826 13826 10
    -- no byte: 1
    ∷ refused_run [] 0 13826 13826 1
    -- an accepted recipe: the first buffer too short, the second, both; for no turns and for one
    ∷ refused_run row_B.file 0 13825 13826 12
    ∷ refused_run row_B.file 1 13825 13826 12
    ∷ refused_run row_B.file 0 13826 13825 12
    ∷ refused_run row_B.file 1 13826 13825 12
    ∷ refused_run row_B.file 0 13825 13825 12
    ∷ refused_run row_B.file 1 13825 13825 12
    -- D: 12 before 10: the first buffer too short, the second, both; for no turns and for one
    ∷ refused_run row_D.file 0 13825 13826 12
    ∷ refused_run row_D.file 1 13825 13826 12
    ∷ refused_run row_D.file 0 13826 13825 12
    ∷ refused_run row_D.file 1 13826 13825 12
    ∷ refused_run row_D.file 0 13825 13825 12
    ∷ refused_run row_D.file 1 13825 13825 12
    -- 12 before 1
    ∷ refused_run [] 1 0 0 12
    -- longer buffers serve as well
    ∷ record { file = row_B.file; turns = 1; first = 13827; second = 65536; answer = Turns 1 20; threads = 1 ∷ []; last = get_or row_B.images 0 [] }
    ∷ []

-- the table
abbrev runs : List HouseRun
runs = cases_run ++ rounds ++ waitings ++ rooms ++ editions ++ refusals

-- what is proved of them
pub record RunsProved : Type 0 where
  -- what is claimed is what is computed
  table : map computed_run runs ≡ runs
  -- "The load goes to the first buffer and steps alternate": whether the last image of case C is in the first, for k = 0 to 4 and for more
  buffers : map (λ (k : ℕ). ends_in_first (course_of row_C.file k)) (0 ∷ 1 ∷ 2 ∷ 3 ∷ 4 ∷ 100 ∷ []) ≡ true ∷ false ∷ true ∷ false ∷ true ∷ true ∷ []

pub house_runs : RunsProved
unfolding computed_run computed_by unless_refused ran run_refusal ending_by ends_in_first course_of take_turns turning one_after search_from look_along looking_on going_round upward look look_of repeated identities verdict_of refusal bay_type_numbers bay_type_number number_in bay_terms bay_term cause_5 cause_6 cause_4 table_of type_table file_of joined pairs_of two_bytes word bays parts offset_of length_of part table_bytes term_bytes outside cause_1 opens edition_of cause_2 pairs_test table_length_test cause_3 cause_19 starting_nums starting_num starting_bytes exp_of leaf_exp leaf_forms two_exp two_forms nesting one_term of_edition forms_below read read_term form_of forms value_of tabulate each_below sum_below uses nodes test_entry entry_test entry_stands entries_test same_entry new_to distinct_test entry_is table_test on_function on_once_function on_cell is_many scoped_const scoped annotated_const annotated const_number on_number result_number applied_number lambda_number both_number case_number with_components type_number outside_many linear_variable linear every verdict starting_image step_reply config_of decode components image_of encode terms_stand image_stands kind_test companion_test length_test head_agrees head_stands stand_from heads_stand names kind_at companion_at offset_in length_at expression_at encoded_at encoded_all head heads expressions image_bytes bytes const_bytes op_tag both_tag case_tag little_endian loaded bay_types with_type reply_of sum_in sum_all expression_test is_settled is_awaited handle_for component_test each_test limits_test image_test beside within place when_done step_call step_exchange step_meeting step_place step_redex step_case step_subject step_of substitute plug term_of type_at read_deep read_at read_entry one_part two_parts owners_of owner_at owners_after encode_all first_owners
house_runs = record { table = refl; buffers = refl }
