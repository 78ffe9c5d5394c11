-- Document 02, T-06, "A repeatable test load", as rows that are computed: the draws of an input; the text of an input, byte for byte; the input's front.
use Rattle.std.specs.Prelude.{◌≡◌, refl, cond, List, [], ◌∷◌, ◌++◌, map, ℕ, ◌/◌, ◌%◌, eqb, drop, replicate}
use Rattle.calculus.specs.Syntax.{unit, num, const, name, app, holds, thread_of, sum_in, sum_all}
use Rattle.calculus.specs.Lists.{tabulate, each_below, sum_below}
use Rattle.calculus.specs.Bytes.{two_byte_values, two_bytes, word}
use Rattle.calculus.specs.Names.{uses}
use Rattle.calculus.specs.Image.{nodes, expression_test, is_settled, is_awaited, handle_for, component_test, each_test, limits_test, image_test}
use Rattle.calculus.specs.Table.{test_entry, entry_test, entry_stands, entries_test, same_entry, new_to, distinct_test, entry_is, table_test, one_part, two_parts, read_entry, read_at, read_deep, type_at, is_many}
use Rattle.calculus.specs.Verdict.{on_function, on_once_function, on_cell, scoped_const, scoped, annotated_const, annotated, const_number, on_number, result_number, applied_number, lambda_number, both_number, case_number, with_components, type_number, outside_many, linear_variable, linear, every, verdict}
use Rattle.text.specs.Ascii.{decimal, verdict_line}
use Rattle.term.specs.Numbers.{value_of, little_endian}
use Rattle.term.specs.Forms.{form_of, forms}
use Rattle.term.specs.Reader.{one_term, read, read_term, of_edition}
use Rattle.term.specs.Tree.{forms_below}
use Rattle.term.specs.Expressions.{exp_of, leaf_exp, leaf_forms, nesting, bytes, const_bytes, op_tag, both_tag, case_tag, term_of, two_exp, two_forms}
use Rattle.recipe_file.specs.Editions.{edition_1}
use Rattle.recipe_file.specs.File.{edition_of, bays, parts, offset_of, length_of, part, table_bytes, term_bytes, outside, cause_1, opens, cause_2, pairs_test, table_length_test, cause_3}
use Rattle.recipe_file.specs.Starting.{cause_19, starting_bytes, starting_num, starting_nums}
use Rattle.recipe_file.specs.Whole.{file_of, joined, pairs_of}
use Rattle.recipe_table.specs.Entries.{cause_4, table_of, type_table}
use Rattle.check_spec.specs.Bays.{bay_term, bay_terms, cause_5, cause_6}
use Rattle.check_spec.specs.Verdict.{bay_type_number, bay_type_numbers, number_in as type_number_in, refusal, verdict_of}
use Rattle.calculus.specs.Reduction.{substitute, plug}
use Rattle.calculus.specs.Step.{beside, within, place, when_done, step_call, step_exchange, step_meeting, step_place, step_redex, step_case, step_subject, step_of}
use Rattle.calculus.specs.Reply.{reply_of}
use Rattle.calculus.specs.Recipe.{loaded, bay_types, with_type}
use Rattle.calculus.specs.Owners.{first_owners, owners_after}
use Rattle.image_layout.specs.Encoded.{head, heads, expressions, image_bytes}
use Rattle.image_layout.specs.Slice.{names, kind_at, companion_at, offset_at as offset_in, length_at, expression_at, encoded_at, encoded_all, owner_at}
use Rattle.image_layout.specs.Layout.{kind_test, companion_test, length_test, head_agrees, head_stands, stand_from, heads_stand}
use Rattle.image.specs.Configuration.{encode, image_of, components, decode, config_of, owners_of, encode_all}
use Rattle.image.specs.Stands.{terms_stand, image_stands}
use Rattle.load_spec.specs.Starting.{starting_image}
use Rattle.step_spec.specs.declared.Outcome.{Outcome}
use Rattle.step_spec.specs.declared.Outcome.TheVariants.{Rule, Done, Refused, Waiting}
use Rattle.step_spec.specs.Stepping.{outcome_of_reply, step_reply}
use Rattle.draw_spec.specs.State.{drawn}
use Rattle.draw_spec.specs.Draws.{Draw, draws, image_after, has_thread_kind, outcome, picked, thread, threads_below}
use Rattle.draw_spec.specs.Lines.{draw_refusal, draws_in, line, lines, number_in, number_of, outcome_text, seed_in, text_of, word_of}
use Rattle.bay_cases.specs.Cases.{T5, num_to_num, thread_many_many, identities, row_A, row_B, row_C, row_D}
use Rattle.bay_cases.specs.Pairs.{reading_with_hour, own_rest}
use Rattle.bay_cases.specs.HouseRuns.{awaiting, copies, copying, own_name, repeated, waits_for_ever, waits_until_bound}

-- "the seed in four bytes and the number of draws in two, little-endian, then the recipe"
unfoldable pub input : ℕ → ℕ → List ℕ → List ℕ
input seed number recipe = two_bytes (seed % two_byte_values) ++ two_bytes (seed / two_byte_values) ++ two_bytes number ++ recipe

-- a draw as it is claimed: the state drawn, the thread picked, and what its step answers
pub record Told : Type 0 where
  pub state : ℕ
  pub picks : ℕ
  pub answer : Outcome

abbrev pub told : ℕ → ℕ → Outcome → Told
told state picks answer = record { state = state; picks = picks; answer = answer }

abbrev telling : List Draw → List Told
telling = map (λ (d : Draw). told d.state (thread d) (outcome d))

abbrev images : List Draw → List (List ℕ)
images = map (λ (d : Draw). d.image)

-- a row: a seed, a number of draws and a recipe; its draws, none where it is refused
pub record LoadRow : Type 0 where
  pub seed : ℕ
  pub number : ℕ
  pub recipe : List ℕ
  pub drawn_so : List Told

-- the row with what is computed in place of what is claimed
unfoldable pub computed_load : LoadRow → LoadRow
computed_load r =
    let i = input r.seed r.number r.recipe in
    record { seed = r.seed; number = r.number; recipe = r.recipe; drawn_so = cond (eqb (draw_refusal i) 0) (telling (draws_in i)) [] }

abbrev pub load_row : ℕ → ℕ → List ℕ → List Told → LoadRow
load_row seed number recipe claimed = record { seed = seed; number = number; recipe = recipe; drawn_so = claimed }

-- a bay that puts a num into a setting
abbrev sets : ℕ → ℕ → List ℕ
sets setting n = (0x02 ∷ 0x02 ∷ 0x06 ∷ 0x04 ∷ 0x09 ∷ setting ∷ 0x04 ∷ []) ++ two_bytes n

-- nine bays, each with its setting
abbrev nine_bays : List ℕ
nine_bays = file_of edition_1 (T5 ∷ sets 0 100 ∷ sets 1 200 ∷ sets 2 300 ∷ sets 3 400 ∷ sets 4 500 ∷ sets 5 600 ∷ sets 6 700 ∷ sets 7 800 ∷ sets 8 900 ∷ [])

-- document 01's cases A to C, with each of three seeds. Slips told here: the first draw is the seed; the draws end where no thread goes; who is done is not drawn
abbrev cases_drawn : List LoadRow
cases_drawn =
    -- A: one thread, done from the start
    load_row 1 5 row_A.file (told 270369 1 Done ∷ told 67634689 1 Done ∷ told 2647435461 1 Done ∷ told 307599695 1 Done ∷ told 2398689233 1 Done ∷ [])
    ∷ load_row 7 5 row_A.file (told 1892583 1 Done ∷ told 470389255 1 Done ∷ told 3882205507 1 Done ∷ told 3069989445 1 Done ∷ told 2854842367 1 Done ∷ [])
    ∷ load_row 4294967295 5 row_A.file (told 253983 1 Done ∷ told 4228382207 1 Done ∷ told 1958451267 1 Done ∷ told 4056713434 1 Done ∷ told 2049502865 1 Done ∷ [])
    -- B: "One step, rule 7"; then it is done
    ∷ load_row 1 5 row_B.file (told 270369 1 (Rule 7 20) ∷ told 67634689 1 Done ∷ told 2647435461 1 Done ∷ told 307599695 1 Done ∷ told 2398689233 1 Done ∷ [])
    ∷ load_row 7 5 row_B.file (told 1892583 1 (Rule 7 20) ∷ told 470389255 1 Done ∷ told 3882205507 1 Done ∷ told 3069989445 1 Done ∷ told 2854842367 1 Done ∷ [])
    ∷ load_row 4294967295 5 row_B.file (told 253983 1 (Rule 7 20) ∷ told 4228382207 1 Done ∷ told 1958451267 1 Done ∷ told 4056713434 1 Done ∷ told 2049502865 1 Done ∷ [])
    -- C: one thread, until rule 5 has made future 2 a thread
    ∷ load_row 1 5 row_C.file (told 270369 1 (Rule 4 44) ∷ told 67634689 1 (Rule 1 39) ∷ told 2647435461 1 (Rule 1 34) ∷ told 307599695 1 (Rule 5 32) ∷ told 2398689233 2 Done ∷ [])
    ∷ load_row 7 5 row_C.file (told 1892583 1 (Rule 4 44) ∷ told 470389255 1 (Rule 1 39) ∷ told 3882205507 1 (Rule 1 34) ∷ told 3069989445 1 (Rule 5 32) ∷ told 2854842367 2 Done ∷ [])
    ∷ load_row 4294967295 5 row_C.file (told 253983 1 (Rule 4 44) ∷ told 4228382207 1 (Rule 1 39) ∷ told 1958451267 1 (Rule 1 34) ∷ told 4056713434 1 (Rule 5 32) ∷ told 2049502865 2 Done ∷ [])
    ∷ []

-- "Each draw modulo the present number of threads picks a thread, counted in ascending number from 0". Slips told here: counted from 1; every name
-- counted; in descending number; as many as at the start; without those that are done; by the state before the draw
abbrev picks : List LoadRow
picks =
    -- two bays, whose threads are 2 and 3; drawn on after they are done
    load_row 1 8 (file_of edition_1 (num_to_num ∷ identities 2 ∷ identities 2 ∷ [])) (told 270369 3 (Rule 1 53) ∷ told 67634689 3 (Rule 1 48) ∷ told 2647435461 3 Done ∷ told 307599695 3 Done ∷ told 2398689233 3 Done ∷ told 745495504 2 (Rule 1 43) ∷ told 632435482 2 (Rule 1 38) ∷ told 435756210 2 Done ∷ [])
    ∷ load_row 9 7 (file_of edition_1 (num_to_num ∷ identities 2 ∷ identities 2 ∷ [])) (told 2433321 3 (Rule 1 53) ∷ told 604648969 3 (Rule 1 48) ∷ told 1001376492 2 (Rule 1 43) ∷ told 2629261621 3 Done ∷ told 2242485597 3 Done ∷ told 1984867804 2 (Rule 1 38) ∷ told 3713726694 2 Done ∷ [])
    -- three bays, whose threads are 3, 4 and 5
    ∷ load_row 1 10 (file_of edition_1 (num_to_num ∷ identities 2 ∷ identities 1 ∷ identities 3 ∷ [])) (told 270369 3 (Rule 1 81) ∷ told 67634689 4 (Rule 1 76) ∷ told 2647435461 3 (Rule 1 71) ∷ told 307599695 5 (Rule 1 66) ∷ told 2398689233 5 (Rule 1 61) ∷ told 745495504 4 Done ∷ told 632435482 4 Done ∷ told 435756210 3 Done ∷ told 2005365029 5 (Rule 1 56) ∷ told 2916098932 4 Done ∷ [])
    ∷ load_row 4294967295 8 (file_of edition_1 (num_to_num ∷ identities 2 ∷ identities 1 ∷ identities 3 ∷ [])) (told 253983 3 (Rule 1 81) ∷ told 4228382207 5 (Rule 1 76) ∷ told 1958451267 3 (Rule 1 71) ∷ told 4056713434 4 (Rule 1 66) ∷ told 2049502865 5 (Rule 1 61) ∷ told 2560970988 3 Done ∷ told 1705115568 3 Done ∷ told 279806459 5 (Rule 1 56) ∷ [])
    -- bay 1 makes thread 4: two threads, then three
    ∷ load_row 1 9 (file_of edition_1 (thread_many_many ∷ identities 2 ∷ own_name ∷ [])) (told 270369 3 (Rule 2 60) ∷ told 67634689 3 Done ∷ told 2647435461 2 (Rule 1 55) ∷ told 307599695 4 (Rule 1 50) ∷ told 2398689233 4 Done ∷ told 745495504 3 Done ∷ told 632435482 3 Done ∷ told 435756210 2 (Rule 1 45) ∷ told 2005365029 4 Done ∷ [])
    ∷ load_row 4294967295 5 (file_of edition_1 (thread_many_many ∷ identities 2 ∷ own_name ∷ [])) (told 253983 3 (Rule 2 60) ∷ told 4228382207 4 (Rule 1 55) ∷ told 1958451267 2 (Rule 1 50) ∷ told 4056713434 3 Done ∷ told 2049502865 4 Done ∷ [])
    -- bay 0 makes it
    ∷ load_row 2 6 (file_of edition_1 (thread_many_many ∷ own_name ∷ identities 2 ∷ [])) (told 540738 2 (Rule 2 60) ∷ told 134253570 2 Done ∷ told 697882754 4 (Rule 1 55) ∷ told 1670953222 3 (Rule 1 50) ∷ told 3819972634 3 (Rule 1 45) ∷ told 818967331 3 Done ∷ [])
    -- nine bays, whose threads are 9 to 17: nine threads all along
    ∷ load_row 1 12 nine_bays (told 270369 9 (Rule 7 212) ∷ told 67634689 13 (Rule 7 206) ∷ told 2647435461 15 (Rule 7 200) ∷ told 307599695 17 (Rule 7 194) ∷ told 2398689233 17 Done ∷ told 745495504 16 (Rule 7 188) ∷ told 632435482 10 (Rule 7 182) ∷ told 435756210 15 Done ∷ told 2005365029 14 (Rule 7 176) ∷ told 2916098932 13 Done ∷ told 2657092299 15 Done ∷ told 1495045943 17 Done ∷ [])
    ∷ []

-- "A refused or idle draw keeps the image": who waits is drawn again, and so is who is refused. Slips told here: only threads that go are drawn; a future counted; a bound future
-- after later threads; who was refused once is refused for ever
abbrev keeps : List LoadRow
keeps =
    -- a thread that waits for ever
    load_row 1 6 (file_of edition_1 (awaiting ∷ waits_for_ever ∷ [])) (told 270369 1 (Rule 4 53) ∷ told 67634689 1 (Rule 1 48) ∷ told 2647435461 1 (Rule 1 43) ∷ told 307599695 1 (Waiting 2) ∷ told 2398689233 1 (Waiting 2) ∷ told 745495504 1 (Waiting 2) ∷ [])
    -- future 2 and handle 3 are no threads; when bay 0 has bound future 2, it is one, and comes before thread 4
    ∷ load_row 1 16 (file_of edition_1 (awaiting ∷ waits_until_bound ∷ [])) (told 270369 1 (Rule 4 67) ∷ told 67634689 1 (Rule 1 62) ∷ told 2647435461 1 (Rule 1 57) ∷ told 307599695 1 (Rule 2 65) ∷ told 2398689233 4 (Rule 1 60) ∷ told 745495504 1 (Rule 1 55) ∷ told 632435482 1 (Rule 1 50) ∷ told 435756210 1 (Rule 1 46) ∷ told 2005365029 4 (Waiting 2) ∷ told 2916098932 1 (Rule 5 44) ∷ told 2657092299 1 Done ∷ told 1495045943 4 (Rule 3 46) ∷ told 3031976842 2 Done ∷ told 82049198 4 (Rule 1 41) ∷ told 87470069 4 Done ∷ told 3385103793 1 Done ∷ [])
    ∷ load_row 21 19 (file_of edition_1 (awaiting ∷ waits_until_bound ∷ [])) (told 5677716 1 (Rule 4 67) ∷ told 1418549846 1 (Rule 1 62) ∷ told 121328405 1 (Rule 1 57) ∷ told 3328275097 1 (Rule 2 65) ∷ told 4000773760 1 (Rule 1 60) ∷ told 612054195 4 (Rule 1 55) ∷ told 524537189 4 (Waiting 2) ∷ told 3137641554 1 (Rule 1 50) ∷ told 962054837 4 (Waiting 2) ∷ told 3223346197 4 (Waiting 2) ∷ told 3220283716 1 (Rule 1 46) ∷ told 4042650024 1 (Rule 5 44) ∷ told 2530873288 2 Done ∷ told 860876665 2 Done ∷ told 448113929 4 (Rule 3 46) ∷ told 1301252835 1 Done ∷ told 648357322 2 Done ∷ told 3248012356 2 Done ∷ told 337297100 4 (Rule 1 41) ∷ [])
    -- a pair, and a list that ends in its own future, in edition 2
    ∷ load_row 1 3 reading_with_hour.file (told 270369 1 (Rule 8 26) ∷ told 67634689 1 (Rule 7 20) ∷ told 2647435461 1 Done ∷ [])
    ∷ load_row 31 8 own_rest.file (told 8381406 1 (Rule 2 40) ∷ told 2089805404 1 (Waiting 2) ∷ told 2294344126 1 (Waiting 2) ∷ told 723192805 2 (Rule 1 35) ∷ told 110515222 1 (Rule 3 40) ∷ told 1317712284 1 (Rule 9 33) ∷ told 262047168 1 Done ∷ told 1006346291 2 Done ∷ [])
    -- bay 0 lacks room, twice; when bay 1 has 3 nodes less, there are 4,096 nodes, and it goes
    ∷ load_row 8 4 (file_of edition_1 (copying ∷ copies 47 28 ∷ identities 2 ∷ [])) (told 2162952 2 (Refused 15) ∷ told 537014280 2 (Refused 15) ∷ told 2791531049 3 (Rule 1 331) ∷ told 2397225082 2 (Rule 1 6858) ∷ [])
    ∷ []

-- bay 0 alone, which lacks room
abbrev crowded : List ℕ
crowded = file_of edition_1 (copying ∷ copies 46 30 ∷ [])

-- its image
abbrev crowded_image : List ℕ
crowded_image = (0x02 ∷ 0x00 ∷ 0x02 ∷ 0x00 ∷ 0x0E ∷ 0x00 ∷ 0x03 ∷ 0x00 ∷ 0x01 ∷ 0x00 ∷ 0x11 ∷ 0x00 ∷ 0x2A ∷ 0x01 ∷ 0x04 ∷ 0x00 ∷ 0x00 ∷ []) ++ copies 46 30

-- the image in which a thread waits for ever
abbrev waiting_image : List ℕ
waiting_image = 0x04 ∷ 0x00 ∷ 0x02 ∷ 0x00 ∷ 0x1A ∷ 0x00 ∷ 0x03 ∷ 0x00 ∷ 0x01 ∷ 0x00 ∷ 0x1D ∷ 0x00 ∷ 0x0E ∷ 0x00 ∷ 0x05 ∷ 0x00 ∷ 0x2B ∷ 0x00 ∷ 0x00 ∷ 0x00 ∷ 0x03 ∷ 0x02 ∷ 0x2B ∷ 0x00 ∷ 0x00 ∷ 0x00 ∷ 0x04 ∷ 0x00 ∷ 0x00 ∷ 0x02 ∷ 0x01 ∷ 0x08 ∷ 0x02 ∷ 0x09 ∷ 0x03 ∷ 0x01 ∷ 0x03 ∷ 0x00 ∷ 0x00 ∷ 0x02 ∷ 0x09 ∷ 0x02 ∷ 0x03 ∷ []

-- an image of 112 names: cells 0 to 99, then threads, which wait for the last of them; all are bay 0's
unfoldable wide : List ℕ
wide = image_of (record { owners = replicate 112 0; config = replicate 100 (holds (const (num 0))) ++ replicate 12 (thread_of (app (name 111) (const unit))) })

-- "1 step 4", "1 step 1", "1 step 1", "1 step 5", "2 done 0"
abbrev text_C : List ℕ
text_C = 0x31 ∷ 0x20 ∷ 0x73 ∷ 0x74 ∷ 0x65 ∷ 0x70 ∷ 0x20 ∷ 0x34 ∷ 0x0A ∷ 0x31 ∷ 0x20 ∷ 0x73 ∷ 0x74 ∷ 0x65 ∷ 0x70 ∷ 0x20 ∷ 0x31 ∷ 0x0A ∷ 0x31 ∷ 0x20 ∷ 0x73 ∷ 0x74 ∷ 0x65 ∷ 0x70 ∷ 0x20 ∷ 0x31 ∷ 0x0A ∷ 0x31 ∷ 0x20 ∷ 0x73 ∷ 0x74 ∷ 0x65 ∷ 0x70 ∷ 0x20 ∷ 0x35 ∷ 0x0A ∷ 0x32 ∷ 0x20 ∷ 0x64 ∷ 0x6F ∷ 0x6E ∷ 0x65 ∷ 0x20 ∷ 0x30 ∷ 0x0A ∷ []

-- "9 step 7", "13 step 7", "15 step 7", "17 step 7", "17 done 0"
abbrev text_nine : List ℕ
text_nine = 0x39 ∷ 0x20 ∷ 0x73 ∷ 0x74 ∷ 0x65 ∷ 0x70 ∷ 0x20 ∷ 0x37 ∷ 0x0A ∷ 0x31 ∷ 0x33 ∷ 0x20 ∷ 0x73 ∷ 0x74 ∷ 0x65 ∷ 0x70 ∷ 0x20 ∷ 0x37 ∷ 0x0A ∷ 0x31 ∷ 0x35 ∷ 0x20 ∷ 0x73 ∷ 0x74 ∷ 0x65 ∷ 0x70 ∷ 0x20 ∷ 0x37 ∷ 0x0A ∷ 0x31 ∷ 0x37 ∷ 0x20 ∷ 0x73 ∷ 0x74 ∷ 0x65 ∷ 0x70 ∷ 0x20 ∷ 0x37 ∷ 0x0A ∷ 0x31 ∷ 0x37 ∷ 0x20 ∷ 0x64 ∷ 0x6F ∷ 0x6E ∷ 0x65 ∷ 0x20 ∷ 0x30 ∷ 0x0A ∷ []

-- "1 step 4", "1 step 1", "1 step 1", "1 waiting 2"
abbrev text_waiting : List ℕ
text_waiting = 0x31 ∷ 0x20 ∷ 0x73 ∷ 0x74 ∷ 0x65 ∷ 0x70 ∷ 0x20 ∷ 0x34 ∷ 0x0A ∷ 0x31 ∷ 0x20 ∷ 0x73 ∷ 0x74 ∷ 0x65 ∷ 0x70 ∷ 0x20 ∷ 0x31 ∷ 0x0A ∷ 0x31 ∷ 0x20 ∷ 0x73 ∷ 0x74 ∷ 0x65 ∷ 0x70 ∷ 0x20 ∷ 0x31 ∷ 0x0A ∷ 0x31 ∷ 0x20 ∷ 0x77 ∷ 0x61 ∷ 0x69 ∷ 0x74 ∷ 0x69 ∷ 0x6E ∷ 0x67 ∷ 0x20 ∷ 0x32 ∷ 0x0A ∷ []

-- "1 refused 15", "1 refused 15"
abbrev text_refused : List ℕ
text_refused = 0x31 ∷ 0x20 ∷ 0x72 ∷ 0x65 ∷ 0x66 ∷ 0x75 ∷ 0x73 ∷ 0x65 ∷ 0x64 ∷ 0x20 ∷ 0x31 ∷ 0x35 ∷ 0x0A ∷ 0x31 ∷ 0x20 ∷ 0x72 ∷ 0x65 ∷ 0x66 ∷ 0x75 ∷ 0x73 ∷ 0x65 ∷ 0x64 ∷ 0x20 ∷ 0x31 ∷ 0x35 ∷ 0x0A ∷ []

-- "109 waiting 111", "101 waiting 111"
abbrev text_wide : List ℕ
text_wide = 0x31 ∷ 0x30 ∷ 0x39 ∷ 0x20 ∷ 0x77 ∷ 0x61 ∷ 0x69 ∷ 0x74 ∷ 0x69 ∷ 0x6E ∷ 0x67 ∷ 0x20 ∷ 0x31 ∷ 0x31 ∷ 0x31 ∷ 0x0A ∷ 0x31 ∷ 0x30 ∷ 0x31 ∷ 0x20 ∷ 0x77 ∷ 0x61 ∷ 0x69 ∷ 0x74 ∷ 0x69 ∷ 0x6E ∷ 0x67 ∷ 0x20 ∷ 0x31 ∷ 0x31 ∷ 0x31 ∷ 0x0A ∷ []

-- "verdict 1"
abbrev verdict_1 : List ℕ
verdict_1 = 0x76 ∷ 0x65 ∷ 0x72 ∷ 0x64 ∷ 0x69 ∷ 0x63 ∷ 0x74 ∷ 0x20 ∷ 0x31 ∷ 0x0A ∷ []

-- "verdict 10"
abbrev verdict_10 : List ℕ
verdict_10 = 0x76 ∷ 0x65 ∷ 0x72 ∷ 0x64 ∷ 0x69 ∷ 0x63 ∷ 0x74 ∷ 0x20 ∷ 0x31 ∷ 0x30 ∷ 0x0A ∷ []

-- "verdict 18"
abbrev verdict_18 : List ℕ
verdict_18 = 0x76 ∷ 0x65 ∷ 0x72 ∷ 0x64 ∷ 0x69 ∷ 0x63 ∷ 0x74 ∷ 0x20 ∷ 0x31 ∷ 0x38 ∷ 0x0A ∷ []

-- a row of texts: what standard input gives, and what is printed
pub record Text : Type 0 where
  pub given : List ℕ
  pub prints : List ℕ

abbrev pub prints_so : List ℕ → List ℕ → Text
prints_so given prints = record { given = given; prints = prints }

-- the texts. Slips told here: a verdict line where it is accepted; 18 before 10, or only where there are draws; half the seed tried; no end of the last line
abbrev texts : List Text
texts =
    -- all draws in one text, each line with its end
    prints_so (input 1 5 row_C.file) text_C
    ∷ prints_so (input 1 5 nine_bays) text_nine
    ∷ prints_so (input 1 4 (file_of edition_1 (awaiting ∷ waits_for_ever ∷ []))) text_waiting
    ∷ prints_so (input 1 2 crowded) text_refused
    -- an accepted recipe and no draw: no byte
    ∷ prints_so (input 1 0 row_B.file) []
    -- a seed of one bit, in each of its bytes: not zero
    ∷ prints_so (input 0x0100 0 row_B.file) []
    ∷ prints_so (input 0x010000 0 row_B.file) []
    ∷ prints_so (input 0x01000000 0 row_B.file) []
    -- "It refuses a seed of zero with 18", also for no draw
    ∷ prints_so (input 0 5 row_B.file) verdict_18
    ∷ prints_so (input 0 0 row_B.file) verdict_18
    -- "tried after the recipe is accepted": D's 10 with a seed and without, also for no draw
    ∷ prints_so (input 0 5 row_D.file) verdict_10
    ∷ prints_so (input 1 5 row_D.file) verdict_10
    ∷ prints_so (input 1 0 row_D.file) verdict_10
    -- no byte; five bytes; six bytes and no recipe, also of zeros: 1
    ∷ prints_so [] verdict_1
    ∷ prints_so (0x01 ∷ 0x00 ∷ 0x00 ∷ 0x00 ∷ 0x05 ∷ []) verdict_1
    ∷ prints_so (input 1 5 []) verdict_1
    ∷ prints_so (input 0 0 []) verdict_1
    ∷ []

-- what is proved of draws
pub record DrawsProved : Type 0 where
  -- what is claimed is what is computed
  cases_table : map computed_load cases_drawn ≡ cases_drawn
  picks_table : map computed_load picks ≡ picks
  keeps_table : map computed_load keeps ≡ keeps
  -- the image before each draw: document 01's images of case C
  images_of_C : images (draws_in (input 1 6 row_C.file)) ≡ row_C.starting ∷ row_C.images
  -- "A refused or idle draw keeps the image"
  images_waiting : drop 3 (images (draws_in (input 1 6 (file_of edition_1 (awaiting ∷ waits_for_ever ∷ []))))) ≡ waiting_image ∷ waiting_image ∷ waiting_image ∷ []
  images_refused : images (draws_in (input 1 3 crowded)) ≡ crowded_image ∷ crowded_image ∷ crowded_image ∷ []
  -- twelve threads, from 100 on
  wide_draws : telling (draws 2 1 wide) ≡ told 270369 109 (Waiting 111) ∷ told 67634689 101 (Waiting 111) ∷ []

pub test_draws : DrawsProved
unfolding wide computed_load input draw_refusal seed_in number_in draws image_after picked threads_below has_thread_kind drawn outcome_of_reply type_number_in repeated identities verdict_of refusal bay_type_numbers bay_type_number bay_terms bay_term cause_5 cause_6 cause_4 table_of type_table file_of joined pairs_of two_bytes word bays parts offset_of length_of part table_bytes term_bytes outside cause_1 opens edition_of cause_2 pairs_test table_length_test cause_3 cause_19 starting_nums starting_num starting_bytes exp_of leaf_exp leaf_forms two_exp two_forms nesting one_term of_edition forms_below read read_term form_of forms value_of tabulate each_below sum_below uses nodes test_entry entry_test entry_stands entries_test same_entry new_to distinct_test entry_is table_test on_function on_once_function on_cell is_many scoped_const scoped annotated_const annotated const_number on_number result_number applied_number lambda_number both_number case_number with_components type_number outside_many linear_variable linear every verdict starting_image step_reply config_of decode components image_of encode terms_stand image_stands kind_test companion_test length_test head_agrees head_stands stand_from heads_stand names kind_at companion_at offset_in length_at expression_at encoded_at encoded_all head heads expressions image_bytes bytes const_bytes op_tag both_tag case_tag little_endian loaded bay_types with_type reply_of sum_in sum_all expression_test is_settled is_awaited handle_for component_test each_test limits_test image_test beside within place when_done step_call step_exchange step_meeting step_place step_redex step_case step_subject step_of substitute plug term_of type_at read_deep read_at read_entry one_part two_parts owners_of owner_at owners_after encode_all first_owners
test_draws = record { cases_table = refl; picks_table = refl; keeps_table = refl; images_of_C = refl; images_waiting = refl; images_refused = refl; wide_draws = refl }

-- what is proved of texts
pub record TextsProved : Type 0 where
  -- "one line for each draw and no other"; "A refusal prints only its verdict line"
  texts_table : map (λ (t : Text). text_of t.given) texts ≡ map (λ (t : Text). t.prints) texts
  -- names of three digits
  wide_text : lines (draws 2 1 wide) ≡ text_wide

pub test_texts : TextsProved
unfolding text_of lines line outcome_text number_of word_of decimal verdict_line wide input draw_refusal seed_in number_in draws image_after picked threads_below has_thread_kind drawn outcome_of_reply type_number_in repeated identities verdict_of refusal bay_type_numbers bay_type_number bay_terms bay_term cause_5 cause_6 cause_4 table_of type_table file_of joined pairs_of two_bytes word bays parts offset_of length_of part table_bytes term_bytes outside cause_1 opens edition_of cause_2 pairs_test table_length_test cause_3 cause_19 starting_nums starting_num starting_bytes exp_of leaf_exp leaf_forms two_exp two_forms nesting one_term of_edition forms_below read read_term form_of forms value_of tabulate each_below sum_below uses nodes test_entry entry_test entry_stands entries_test same_entry new_to distinct_test entry_is table_test on_function on_once_function on_cell is_many scoped_const scoped annotated_const annotated const_number on_number result_number applied_number lambda_number both_number case_number with_components type_number outside_many linear_variable linear every verdict starting_image step_reply config_of decode components image_of encode terms_stand image_stands kind_test companion_test length_test head_agrees head_stands stand_from heads_stand names kind_at companion_at offset_in length_at expression_at encoded_at encoded_all head heads expressions image_bytes bytes const_bytes op_tag both_tag case_tag little_endian loaded bay_types with_type reply_of sum_in sum_all expression_test is_settled is_awaited handle_for component_test each_test limits_test image_test beside within place when_done step_call step_exchange step_meeting step_place step_redex step_case step_subject step_of substitute plug term_of type_at read_deep read_at read_entry one_part two_parts owners_of owner_at owners_after encode_all first_owners
test_texts = record { texts_table = refl; wide_text = refl }

-- what is proved of states and of the input's front
pub record FrontsProved : Type 0 where
  -- "itself xor its left shift by 13, then xor its right shift by 17, then xor its left shift by 5, bits beyond 32 dropped; from 1 the first draw is 270,369"
  states : map drawn (1 ∷ 270369 ∷ 7 ∷ 4294967295 ∷ 0x80000000 ∷ 0x10000 ∷ 0x12345678 ∷ 0 ∷ []) ≡ 270369 ∷ 67634689 ∷ 1892583 ∷ 253983 ∷ 2148024320 ∷ 539168768 ∷ 2274908837 ∷ 0 ∷ []
  -- "the seed in four bytes and the number of draws in two, little-endian, then the recipe"
  written : input 0x04030201 0x0605 (0x4C ∷ []) ≡ 0x01 ∷ 0x02 ∷ 0x03 ∷ 0x04 ∷ 0x05 ∷ 0x06 ∷ 0x4C ∷ []
  -- "absent bytes of these six count as 0"; later bytes are no part of the seed
  seeds : map seed_in ((0x01 ∷ 0x02 ∷ 0x03 ∷ 0x04 ∷ 0x05 ∷ 0x06 ∷ 0x4C ∷ []) ∷ (0x01 ∷ 0x02 ∷ 0x03 ∷ 0x04 ∷ []) ∷ (0x01 ∷ 0x02 ∷ 0x03 ∷ []) ∷ (0x01 ∷ 0x02 ∷ []) ∷ (0x01 ∷ []) ∷ [] ∷ (0xFF ∷ 0xFF ∷ 0xFF ∷ 0xFF ∷ []) ∷ []) ≡ 0x04030201 ∷ 0x04030201 ∷ 0x030201 ∷ 0x0201 ∷ 0x01 ∷ 0 ∷ 4294967295 ∷ []
  numbers : map number_in ((0x01 ∷ 0x02 ∷ 0x03 ∷ 0x04 ∷ 0x05 ∷ 0x06 ∷ 0x4C ∷ []) ∷ (0x01 ∷ 0x02 ∷ 0x03 ∷ 0x04 ∷ 0x05 ∷ []) ∷ (0x01 ∷ 0x02 ∷ 0x03 ∷ 0x04 ∷ []) ∷ [] ∷ []) ≡ 0x0605 ∷ 0x05 ∷ 0 ∷ 0 ∷ []
  -- "a number above 10,000 as 10,000": 9,999, 10,000, 10,001 and 65,535
  most : map number_in ((0x01 ∷ 0x00 ∷ 0x00 ∷ 0x00 ∷ 0x0F ∷ 0x27 ∷ []) ∷ (0x01 ∷ 0x00 ∷ 0x00 ∷ 0x00 ∷ 0x10 ∷ 0x27 ∷ []) ∷ (0x01 ∷ 0x00 ∷ 0x00 ∷ 0x00 ∷ 0x11 ∷ 0x27 ∷ []) ∷ (0x01 ∷ 0x00 ∷ 0x00 ∷ 0x00 ∷ 0xFF ∷ 0xFF ∷ []) ∷ []) ≡ 9999 ∷ 10000 ∷ 10000 ∷ 10000 ∷ []

pub test_fronts : FrontsProved
unfolding drawn input seed_in number_in two_bytes word
test_fronts = record { states = refl; written = refl; seeds = refl; numbers = refl; most = refl }
