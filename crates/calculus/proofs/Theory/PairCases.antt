-- Pairs and lists (document 02, T-03), computed: recipes that are accepted and refused, what steps answer, a derivation by Fig. 10.
use Rattle.std.specs.Prelude.{◌≡◌, refl, false, true, List, [], ◌++◌, ◌∷◌, map, ◌+◌, replicate}
use Rattle.std.proofs.Math.Option.{some}
use Rattle.calculus.specs.Types.{unit_type, num_type, ref}
use Rattle.calculus.specs.Syntax.{sum_in, sum_all, unit, num, op, cell, exch, thread, handle, pair, list, Exp, var, name, const, lam, app, both, case_of, thread_of, holds, open_for, used, awaited}
use Rattle.calculus.specs.Typing.{of_num, of_op, fig8_handle, fig10_pair, no_once_nil, no_once_gone, no_once_many, NoOnce, split_nil, split_gone, split_both, split_left, only_here, only_past_many, Derivation, d_const, d_var, d_many, d_app, d_both, d_case}
use Rattle.calculus.specs.Reduction.{substitute, plug, FUTURE_DEREF, CASE}
use Rattle.calculus.specs.Names.{uses}
use Rattle.calculus.specs.Step.{beside, within, place, rule, waiting, done, wrong_kind, when_done, step_call, step_exchange, step_meeting, step_subject, step_case, step_redex, step_place, step_of}
use Rattle.calculus.specs.NewTypes.{function_at, result_type, future_and_handle, coming, new_types}
use Rattle.calculus.specs.Reply.{reply_of}
use Rattle.calculus.proofs.Theory.ConfigRuns.{config_reply, state_left, config_steps}
use Rattle.calculus.specs.Recipe.{loaded, with_type, bay_types}
use Rattle.calculus.specs.Image.{nodes, const_size, size, image_length, expression_test, is_settled, is_awaited, handle_for, component_test, each_test, limits_test, image_test}
use Rattle.calculus.specs.Table.{entry, Table, one_part, two_parts, read_entry, read_at, read_deep, type_at, test_entry, is_many, entry_test, entry_stands, entries_test, same_entry, new_to, distinct_test, entry_is, table_test}
use Rattle.calculus.specs.Verdict.{on_function, on_once_function, on_cell, with_components, scoped_const, scoped, annotated_const, annotated, const_number, on_number, result_number, applied_number, lambda_number, both_number, case_number, type_number, outside_many, linear_variable, linear, every, verdict}
use Rattle.calculus.proofs.Theory.Cases.{T7, Row, end, computed, refused_row}

-- unit, num, cell of num; 3 num many to num, 4 the type of exch at num; 5 a many pair of nums, a reading and its hour; 6 a many list of nums;
-- 7 list many to list, 8 the type of thread at list
abbrev T9 : Table
T9 = entry 0 0 0 ∷ entry 1 0 0 ∷ entry 2 1 0 ∷ entry 4 1 1 ∷ entry 4 2 3 ∷ entry 6 1 1 ∷ entry 8 1 0 ∷ entry 4 6 6 ∷ entry 4 7 6 ∷ []

-- T7 (case C's: 3 num once to unit, 6 the type of handle at num) and 7 a once pair of a handle and a num, 8 num many to unit, 9 a once pair of
-- nums, 10 it many to num
abbrev T11 : Table
T11 = T7 ++ (entry 5 3 1 ∷ entry 4 1 0 ∷ entry 5 1 1 ∷ entry 4 9 1 ∷ [])

-- the reading 250 of hour 7
abbrev reading : Exp
reading = both pair 5 (const (num 250)) (const (num 7))

-- case (250, 7) of (x, y) ⇒ exch setting x
abbrev sets_reading : Exp
sets_reading = case_of pair reading (app (app (const (op exch 4)) (name 0)) (var 1))

-- case thread (λ s. 5 :: s) of x :: y ⇒ x: the list 5 :: 5 :: .. ends in its own future
abbrev takes_front : Exp
takes_front = case_of list (app (const (op thread 8)) (lam 7 (both list 6 (const (num 5)) (var 0)))) (var 1)

-- handle (λ s. λ h. case (h, 5) of (x, y) ⇒ x y): a handle goes by way of a pair
abbrev by_pair : Exp → Exp
by_pair e = app (const (op handle 6)) (lam 5 (lam 4 (case_of pair (both pair 7 (var 0) (const (num 5))) e)))

-- the port of the paper's section 5, with nums for messages. 3 the stream, a many list of nums; 4 its handle; 5 the cell that holds the handle, 6 and 8 the
-- types of cell and exch at it; 9 the operation put, 10 the port, a many pair of stream and put; 13 and 16 the types of handle in put and in newPort
abbrev T19 : Table
T19 =
    entry 0 0 0 ∷ entry 1 0 0 ∷ entry 2 1 0 ∷ entry 8 1 0 ∷ entry 3 3 0 ∷ entry 2 4 0 ∷ entry 4 4 5 ∷ entry 4 4 4 ∷ entry 4 5 7 ∷ entry 4 1 0 ∷ entry 6 3 9 ∷
    entry 4 4 0 ∷ entry 4 3 11 ∷ entry 4 12 0 ∷ entry 4 4 10 ∷ entry 4 3 14 ∷ entry 4 15 10 ∷ entry 4 5 10 ∷ entry 4 0 1 ∷ []

-- λ x. handle (λ s. λ bind. (exch putr bind) (x :: s)), where putr is var 0
abbrev put : Exp
put = lam 9 (app (const (op handle 13)) (lam 12 (lam 11 (app (app (app (const (op exch 8)) (var 3)) (var 0)) (both list 3 (var 2) (var 1))))))

-- handle (λ s. λ bind. (λ putr. (s, put)) (cell bind))
abbrev new_port : Exp
new_port = app (const (op handle 16)) (lam 15 (lam 14 (app (lam 17 (both pair 10 (var 2) put)) (app (const (op cell 6)) (var 0)))))

-- case newPort of (s, put) ⇒ (λ u. case s of x :: y ⇒ x) (put 5)
abbrev sends : Exp
sends = case_of pair new_port (app (lam 18 (case_of list (var 2) (var 1))) (app (var 0) (const (num 5))))

abbrev pub rows : List Row
rows =
    -- rule 8 takes the reading apart, rule 7 sets it
    record {
      table = T9;
      terms = sets_reading ∷ [];
      verdict_is = 0;
      type_numbers = some 1 ∷ [];
      threads = 1 ∷ 1 ∷ [];
      rules = 8 ∷ 7 ∷ [];
      last = holds (const (num 250)) ∷ thread_of (const (num 0)) ∷ [];
    } ∷
    -- index 0 is the second component
    record {
      table = T9;
      terms = case_of pair reading (var 0) ∷ [];
      verdict_is = 0;
      type_numbers = some 1 ∷ [];
      threads = 1 ∷ [];
      rules = 8 ∷ [];
      last = holds (const (num 0)) ∷ thread_of (const (num 7)) ∷ [];
    } ∷
    -- rule 2; waiting for thread 2; its rule 1; then rule 3 puts its value in, and rule 9 takes that apart
    record {
      table = T9;
      terms = takes_front ∷ [];
      verdict_is = 0;
      type_numbers = some 1 ∷ [];
      threads = 1 ∷ 1 ∷ 2 ∷ 1 ∷ 1 ∷ [];
      rules = 2 ∷ 0 ∷ 1 ∷ 3 ∷ 9 ∷ [];
      last = holds (const (num 0)) ∷ thread_of (const (num 5)) ∷ thread_of (both list 6 (const (num 5)) (name 2)) ∷ [];
    } ∷
    -- rule 8, and rule 5 applies the handle that was in the pair
    record {
      table = T11;
      terms = by_pair (app (var 1) (var 0)) ∷ [];
      verdict_is = 0;
      type_numbers = some 0 ∷ [];
      threads = 1 ∷ 1 ∷ 1 ∷ 1 ∷ 1 ∷ [];
      rules = 4 ∷ 1 ∷ 1 ∷ 8 ∷ 5 ∷ [];
      last = holds (const (num 0)) ∷ thread_of (const unit) ∷ thread_of (const (num 5)) ∷ used ∷ [];
    } ∷
    -- a once-variable from outside may stand in a case's body: handle (λ s. λ h. case (5, 6) of (x, y) ⇒ h x); a case is no lambda
    record {
      table = T7 ++ (entry 6 1 1 ∷ []);
      terms = app (const (op handle 6)) (lam 5 (lam 4 (case_of pair (both pair 7 (const (num 5)) (const (num 6))) (app (var 2) (var 1))))) ∷ [];
      verdict_is = 0;
      type_numbers = some 0 ∷ [];
      threads = 1 ∷ 1 ∷ 1 ∷ 1 ∷ 1 ∷ [];
      rules = 4 ∷ 1 ∷ 1 ∷ 8 ∷ 5 ∷ [];
      last = holds (const (num 0)) ∷ thread_of (const unit) ∷ thread_of (const (num 5)) ∷ used ∷ [];
    } ∷
    -- the port: the stream 2 is bound to 5 :: 5, its end 5 has handle 6 in the cell 4
    record {
      table = T19;
      terms = sends ∷ [];
      verdict_is = 0;
      type_numbers = some 1 ∷ [];
      threads = replicate 15 1;
      rules = 4 ∷ 1 ∷ 1 ∷ 6 ∷ 1 ∷ 8 ∷ 1 ∷ 4 ∷ 1 ∷ 1 ∷ 7 ∷ 5 ∷ 1 ∷ 3 ∷ 9 ∷ [];
      last = holds (const (num 0)) ∷ thread_of (const (num 5)) ∷ thread_of (both list 3 (const (num 5)) (name 5)) ∷ used ∷ holds (name 6) ∷ awaited ∷ open_for 5 ∷ [];
    } ∷
    -- a once pair of nums: its components may be left out
    record {
      table = T11;
      terms = lam 10 (case_of pair (var 0) (var 0)) ∷ [];
      verdict_is = 0;
      type_numbers = some 10 ∷ [];
      threads = [];
      rules = [];
      last = holds (const (num 0)) ∷ thread_of (lam 10 (case_of pair (var 0) (var 0))) ∷ [];
    } ∷
    -- 7: an index beyond the two, a subject in the body's scope, a type number not below t
    refused_row T9 (case_of pair reading (var 2)) 7 ∷
    refused_row T9 (case_of pair (var 0) (var 0)) 7 ∷
    refused_row T9 (both pair 9 (const (num 1)) (const (num 1))) 7 ∷
    -- 8: node 10 with a list's type, node 11 with a pair's
    refused_row T9 (both pair 6 (const (num 1)) (const (num 1))) 8 ∷
    refused_row T9 (both list 5 (const (num 1)) (const (num 1))) 8 ∷
    -- 9: a component of another type; a front's second component of the element's type; a subject that is no pair, no list
    refused_row T9 (both pair 5 (const unit) (const (num 1))) 9 ∷
    refused_row T9 (both pair 5 (const (num 1)) (const unit)) 9 ∷
    refused_row T9 (both list 6 (const (num 1)) (const (num 1))) 9 ∷
    refused_row T9 (case_of pair (const unit) (const unit)) 9 ∷
    refused_row T9 (case_of list reading (const unit)) 9 ∷
    -- 10: a once pair used twice, and not at all; a once component not used, and free under a many-lambda
    refused_row T11 (lam 10 (case_of pair (var 0) (case_of pair (var 2) (var 0)))) 10 ∷
    refused_row T11 (lam 10 (const (num 0))) 10 ∷
    refused_row T11 (by_pair (const unit)) 10 ∷
    refused_row T11 (by_pair (app (lam 8 (app (var 2) (var 0))) (var 0))) 10 ∷
    []

pub cases : map computed rows ≡ rows
unfolding computed end verdict every scoped scoped_const annotated annotated_const on_function on_once_function on_cell with_components is_many test_entry type_number const_number on_number result_number applied_number lambda_number both_number case_number outside_many linear_variable linear uses loaded with_type bay_types config_steps state_left config_reply reply_of image_test limits_test each_test component_test expression_test is_settled is_awaited handle_for nodes sum_in sum_all step_of step_place step_redex step_case step_subject step_meeting step_call step_exchange when_done place within beside substitute plug function_at result_type future_and_handle coming new_types type_at read_deep read_at read_entry one_part two_parts
cases = refl

-- cause 4: "A many pair or list has only many contents", of which 3 is not; a once pair may have any.
tables :
    map (table_test 9) (T9 ∷ T11 ∷ T19 ∷ (T7 ++ (entry 6 3 1 ∷ [])) ∷ (T7 ++ (entry 6 1 3 ∷ [])) ∷ (T7 ++ (entry 8 3 0 ∷ [])) ∷ (T7 ++ (entry 5 3 3 ∷ entry 6 7 1 ∷ [])) ∷
    (T7 ++ (entry 7 3 0 ∷ entry 5 7 4 ∷ [])) ∷ (T7 ++ (entry 8 1 1 ∷ [])) ∷ (T7 ++ (entry 6 7 1 ∷ [])) ∷ []) ≡
    true ∷ true ∷ true ∷ false ∷ false ∷ false ∷ false ∷ true ∷ false ∷ false ∷ []
unfolding table_test entries_test entry_stands entry_test is_many distinct_test new_to same_entry entry_is test_entry
tables = refl

-- an edition with the first five kinds has none of these
first_kinds : map (table_test 5) (T7 ∷ T9 ∷ T11 ∷ (T7 ++ (entry 5 1 1 ∷ [])) ∷ []) ≡ true ∷ false ∷ false ∷ false ∷ []
unfolding table_test entries_test entry_stands entry_test is_many distinct_test new_to same_entry entry_is test_entry
first_kinds = refl

-- what a step answers where name 1 is a case's subject, by 1's component: "needs its subject's value as an exch does". A used handle is 17 here.
by_component :
    map (λ c. step_of (thread_of (case_of pair (name 1) (app (var 0) (var 0))) ∷ c ∷ []) 0)
    (holds (const unit) ∷ open_for 0 ∷ used ∷ awaited ∷ thread_of (app (name 1) (const unit)) ∷ thread_of reading ∷ thread_of (const unit) ∷ []) ≡
    wrong_kind ∷ wrong_kind ∷ wrong_kind ∷ waiting 1 ∷ waiting 1 ∷
    rule FUTURE_DEREF (thread_of (case_of pair reading (app (var 0) (var 0))) ∷ thread_of reading ∷ []) ∷
    rule FUTURE_DEREF (thread_of (case_of pair (const unit) (app (var 0) (var 0))) ∷ thread_of (const unit) ∷ []) ∷ []
unfolding step_of step_place step_redex step_case step_subject when_done place within beside plug
by_component = refl

-- and where another value is: 17, also a pair for node 13 and a list front for node 12
by_value :
    map (λ e. step_of (thread_of e ∷ []) 0) (
    case_of list reading (var 0) ∷ case_of pair (both list 6 (const unit) (const unit)) (var 0) ∷ case_of pair (const unit) (var 0) ∷ case_of list (lam 0 (var 0)) (var 0) ∷
    case_of pair (app (const (op exch 4)) (name 0)) (var 0) ∷ app reading (const unit) ∷ app (app (const (op exch 4)) reading) (const unit) ∷ []
    ) ≡ wrong_kind ∷ wrong_kind ∷ wrong_kind ∷ wrong_kind ∷ wrong_kind ∷ wrong_kind ∷ wrong_kind ∷ []
unfolding step_of step_place step_redex step_case step_subject step_meeting when_done place within beside plug
by_value = refl

-- a pair's names are not followed, taken apart or not; the left component goes first; exch applied to a pair is a value
answers :
    (step_of (thread_of (both pair 5 (name 1) (name 1)) ∷ thread_of (const unit) ∷ []) 0 ≡ done) ×
    (step_of (thread_of (case_of pair (both pair 5 (name 1) (const unit)) (var 1)) ∷ thread_of (const unit) ∷ []) 0 ≡
    rule (CASE pair) (thread_of (name 1) ∷ thread_of (const unit) ∷ [])) ×
    (step_of (thread_of (both list 6 (app (name 1) (const unit)) (app (name 2) (const unit))) ∷ awaited ∷ awaited ∷ []) 0 ≡ waiting 1) ×
    (step_of (thread_of (both list 6 (name 1) (app (name 2) (const unit))) ∷ awaited ∷ awaited ∷ []) 0 ≡ waiting 2) ×
    (step_of (thread_of (app (const (op exch 4)) reading) ∷ []) 0 ≡ done)
unfolding step_of step_place step_redex step_case step_subject step_meeting step_call when_done place within beside substitute plug
answers = (refl, refl, refl, refl, refl)

-- the handle that goes by way of a pair, by Figs. 8, 9 and 10: it goes to the subject's side of the split, and comes back as x
by_pair_typed : Derivation (type_at T11) (ref num_type ∷ []) [] (by_pair (app (var 1) (var 0))) unit_type
unfolding type_at read_deep read_at read_entry one_part two_parts
by_pair_typed = d_app split_nil (d_const no_once_nil (of_op refl (fig8_handle refl))) (d_many refl no_once_nil (d_many refl future
    (d_case (fig10_pair (λ m. refl) (λ m. refl)) (split_left refl (split_both refl split_nil))
    (d_both refl (fig10_pair (λ m. refl) (λ m. refl)) (split_left refl (split_both refl split_nil)) (d_var (only_here future)) (d_const (no_once_gone future) of_num))
    (d_app (split_both refl (split_left refl (split_gone (split_both refl split_nil)))) (d_var (only_past_many refl (only_here (no_once_gone future))))
    (d_var (only_here (no_once_gone (no_once_gone future))))))))
  where
    future : NoOnce (some num_type ∷ [])
    future = no_once_many refl no_once_nil

-- nodes 10 and 11 have a byte after the tag, 12 and 13 none: 17 bytes, 9 nodes
sizes : (image_length (thread_of sets_reading ∷ []) ≡ 2 + 6 + 17) × (nodes sets_reading ≡ 9)
unfolding nodes size const_size sum_all sum_in
sizes = (refl, refl)
