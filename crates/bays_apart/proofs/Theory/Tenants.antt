-- Two recipes that have one bay in common, with other type numbers, another neighbour and other step orders: the claim's premises hold of them, and what it says is computed.
use Rattle.std.proofs.Common.{◌∙◌, subst, sym, arith}
use Rattle.std.specs.Prelude.{◌≡◌, refl, true, List, [], ◌++◌, ◌∷◌, map, ◌<◌, ◌≤◌, suc, zero, ℕ, length, replicate}
use Rattle.std.proofs.Math.Option.{Option, some}
use Rattle.calculus.specs.Bytes.{two_byte_values}
use Rattle.calculus.specs.Syntax.{unit, num, op, exch, thread, pair, list, Exp, var, name, const, lam, app, both, case_of, Component, holds, at, Each, each_var, each_name, each_const, each_lam, each_app, each_both, each_case, sum_in, sum_all}
use Rattle.calculus.specs.Typing.{TypeNumbers}
use Rattle.calculus.specs.Limits.{max_image_length}
use Rattle.calculus.specs.Names.{uses}
use Rattle.calculus.specs.Lists.{tabulate, each_below}
use Rattle.calculus.specs.Reduction.{substitute, plug}
use Rattle.calculus.specs.Step.{beside, within, place, when_done, step_call, step_exchange, step_meeting, step_subject, step_case, step_redex, step_place, step_of}
use Rattle.calculus.specs.Image.{nodes, expression_test, is_settled, is_awaited, handle_for, component_test, each_test, limits_test, image_test, Writable}
use Rattle.calculus.specs.Table.{entry, Table, one_part, two_parts, read_entry, read_at, read_deep, type_at, test_entry, is_many, entry_test, entry_stands, entries_test, same_entry, new_to, distinct_test, entry_is, table_test}
use Rattle.calculus.specs.Verdict.{on_function, on_once_function, on_cell, with_components, scoped_const, scoped, annotated_const, annotated, const_number, on_number, result_number, applied_number, lambda_number, both_number, case_number, type_number, outside_many, linear_variable, linear, every, verdict}
use Rattle.calculus.specs.Owners.{first_owners, owners_after}
use Rattle.calculus.specs.Shares.{of_bay, bays_in, share_test, shares_test}
use Rattle.calculus.specs.Profile.{separate, names_only, own_settings_test, Suits}
use Rattle.calculus.specs.Recipe.{loaded, with_type, bay_types, start, Admitted}
use Rattle.calculus.specs.Reply.{Reply, moved, waits, finished, refuses, reply_of}
use Rattle.calculus.proofs.Theory.ConfigRuns.{ConfigCall, config_reply, state_left, state_after, ConfigStep, config_steps, config_replied}
use Rattle.calculus.proofs.Theory.Tests.{clash}
use Rattle.calculus.proofs.Theory.TableTest.{table_test_iff}
use Rattle.calculus.proofs.Theory.Shares.{shares_test_iff, own_settings_iff}
use Rattle.calculus.proofs.Theory.Cases.{call, answer_number}
use Rattle.bays_apart.specs.Same.{same_num, same_op, same_var, same_name, same_const, same_lam, same_app, same_both, same_case, rank, Alike, SameBay}
use Rattle.bays_apart.specs.Turns.{is_bay, is_thread, is_turn, threads_below, whose_turn, passing}
use Rattle.bays_apart.proofs.Theory.ConfigTurns.{turn_by, history, Long, SameTurn}
use Rattle.bays_apart.proofs.Theory.Claim.{apart}

-- unit, num, cell of num; 3 num many to num, 4 the type of exch at num; 5 a many pair of nums; 6 a many list of nums, 7 it many to itself, 8 the type of thread at it; 9 that of
-- thread at num
abbrev T10 : Table
T10 = entry 0 0 0 ∷ entry 1 0 0 ∷ entry 2 1 0 ∷ entry 4 1 1 ∷ entry 4 2 3 ∷ entry 6 1 1 ∷ entry 8 1 0 ∷ entry 4 6 6 ∷ entry 4 7 6 ∷ entry 4 3 1 ∷ []

-- the same types with other numbers, and 3 unit many to unit
abbrev T11 : Table
T11 = entry 0 0 0 ∷ entry 1 0 0 ∷ entry 2 1 0 ∷ entry 4 0 0 ∷ entry 4 1 1 ∷ entry 4 2 4 ∷ entry 8 1 0 ∷ entry 6 1 1 ∷ entry 4 6 6 ∷ entry 4 8 6 ∷ entry 4 4 1 ∷ []

-- case thread (λ s. 9 :: s) of x :: y ⇒ case (x, x) of (v, w) ⇒ exch setting (thread (λ n. w)), by the numbers of its types
abbrev tenant : ℕ → ℕ → ℕ → ℕ → ℕ → ℕ → ℕ → ℕ → Exp
tenant bay function exchange readings stream streams starts_stream starts_num =
    case_of list (app (const (op thread starts_stream)) (lam streams (both list stream (const (num 9)) (var 0))))
    (case_of pair (both pair readings (var 1) (var 1)) (app (app (const (op exch exchange)) (name bay)) (app (const (op thread starts_num)) (lam function (var 1)))))

abbrev tenant_10 : ℕ → Exp
tenant_10 bay = tenant bay 3 4 5 6 7 8 9

abbrev tenant_11 : ℕ → Exp
tenant_11 bay = tenant bay 4 5 7 6 8 9 10

-- bay 1 is common: beside a neighbour that has nothing to do, and beside one that does the same for its own setting
abbrev calm : List Exp
calm = const unit ∷ tenant_10 1 ∷ []

abbrev busy : List Exp
busy = tenant_11 0 ∷ tenant_11 1 ∷ []

-- ---- both are accepted and suit the second profile

two_byte_two : (m n : ℕ) → m < two_byte_values → n < two_byte_values → (bay v : ℕ) → at (m ∷ n ∷ []) bay ≡ some v → v < two_byte_values
two_byte_two m n p q zero v h = let e : m ≡ v = cc in omega arith
two_byte_two m n p q (suc zero) v h = let e : n ≡ v = cc in omega arith
two_byte_two m n p q (suc (suc bay)) v h = absurd (clash (cc))

written_two : (e f : Exp) → Each Writable e → Each Writable f → (i : ℕ) (g : Exp) → at (e ∷ f ∷ []) i ≡ some g → Each Writable g
written_two e f p q zero g h = let z : e ≡ g = cc in subst (λ (u : Exp). Each Writable u) z p
written_two e f p q (suc zero) g h = let z : f ≡ g = cc in subst (λ (u : Exp). Each Writable u) z q
written_two e f p q (suc (suc i)) g h = absurd (clash (cc))

tenant_written : (bay a b c d e f g : ℕ) → a < 256 → b < 256 → c < 256 → d < 256 → e < 256 → f < 256 → g < 256 → Each Writable (tenant bay a b c d e f g)
tenant_written bay a b c d e f g ha hb hc hd he hf hg = each_case
    (each_app (each_const hf) (each_lam he (each_both hd (each_const {c = num 9} (omega arith)) (each_var {i = 0} (omega arith)))))
    (each_case (each_both hc (each_var {i = 1} (omega arith)) (each_var {i = 1} (omega arith)))
    (each_app (each_app (each_const hb) each_name) (each_app (each_const hg) (each_lam ha (each_var {i = 1} (omega arith))))))

written_10 : (bay : ℕ) → Each Writable (tenant_10 bay)
written_10 bay = tenant_written bay 3 4 5 6 7 8 9 (omega arith) (omega arith) (omega arith) (omega arith) (omega arith) (omega arith) (omega arith)

written_11 : (bay : ℕ) → Each Writable (tenant_11 bay)
written_11 bay = tenant_written bay 4 5 7 6 8 9 10 (omega arith) (omega arith) (omega arith) (omega arith) (omega arith) (omega arith) (omega arith)

tables : (table_test 9 T10 ≡ true) × (table_test 9 T11 ≡ true)
unfolding table_test entries_test entry_stands entry_test distinct_test new_to same_entry entry_is test_entry is_many
tables = (refl, refl)

verdicts : (verdict T10 calm ≡ 0) × (verdict T11 busy ≡ 0)
unfolding verdict every scoped scoped_const annotated annotated_const on_function on_once_function on_cell is_many test_entry type_number const_number on_number result_number applied_number lambda_number both_number case_number with_components outside_many linear_variable linear uses
verdicts = (refl, refl)

calm_admitted : Admitted T10 (0 ∷ 5 ∷ []) calm
unfolding nodes sum_in sum_all
calm_admitted = record {
  table = ((table_test_iff 9 T10).0 tables.0).1;
  written = written_two (const unit) (tenant_10 1) (each_const tt) (written_10 1);
  starts = record { one_each = refl; two_byte = two_byte_two 0 5 (omega arith) (omega arith) };
  bays = omega arith;
  size = omega arith;
  accepted = verdicts.0;
}

busy_admitted : Admitted T11 (700 ∷ 5 ∷ []) busy
unfolding nodes sum_in sum_all
busy_admitted = record {
  table = ((table_test_iff 9 T11).0 tables.1).1;
  written = written_two (tenant_11 0) (tenant_11 1) (written_11 0) (written_11 1);
  starts = record { one_each = refl; two_byte = two_byte_two 700 5 (omega arith) (omega arith) };
  bays = omega arith;
  size = omega arith;
  accepted = verdicts.1;
}

suits_by : (T : Table) (ns : List ℕ) (es : List Exp) → own_settings_test 0 es ≡ true → shares_test (length es) (start T ns es).owned ≡ true → Suits separate es (start T ns es).owned
suits_by T ns es p q = ((own_settings_iff es).0 p, (shares_test_iff (length es) (start T ns es).owned).0 q)

calm_suits : Suits separate calm (start T10 (0 ∷ 5 ∷ []) calm).owned
unfolding own_settings_test names_only loaded first_owners tabulate shares_test share_test of_bay each_below nodes sum_in sum_all
calm_suits = suits_by T10 (0 ∷ 5 ∷ []) calm refl refl

busy_suits : Suits separate busy (start T11 (700 ∷ 5 ∷ []) busy).owned
unfolding own_settings_test names_only loaded first_owners tabulate shares_test share_test of_bay each_below nodes sum_in sum_all
busy_suits = suits_by T11 (700 ∷ 5 ∷ []) busy refl refl

same_bay : SameBay 1 T10 T11 (0 ∷ 5 ∷ []) (700 ∷ 5 ∷ []) calm busy
unfolding type_at read_deep read_at read_entry one_part two_parts
same_bay = record {
  value = 5;
  value_left = refl;
  value_right = refl;
  term_left = tenant_10 1;
  term_right = tenant_11 1;
  there_left = refl;
  there_right = refl;
  same_term = same_case (same_app (same_const (same_op refl)) (same_lam refl (same_both refl (same_const same_num) same_var)))
      (same_case (same_both refl same_var same_var)
      (same_app (same_app (same_const (same_op refl)) (same_name refl)) (same_app (same_const (same_op refl)) (same_lam refl same_var))));
}

-- ---- two step orders

-- thread 3 is bay 1's; its stream is name 4 and its num name 5
abbrev calm_threads : List ℕ
calm_threads = 3 ∷ 3 ∷ 2 ∷ 4 ∷ 3 ∷ 3 ∷ 3 ∷ 3 ∷ 5 ∷ 3 ∷ 9 ∷ 3 ∷ 5 ∷ 4 ∷ []

-- the neighbour's stream and num are names 4 and 6, so that bay 1's are 5 and 7
abbrev busy_threads : List ℕ
busy_threads = 2 ∷ 3 ∷ 3 ∷ 2 ∷ 4 ∷ 5 ∷ 3 ∷ 2 ∷ 3 ∷ 2 ∷ 2 ∷ 2 ∷ 3 ∷ 3 ∷ 6 ∷ 7 ∷ 2 ∷ 3 ∷ 1 ∷ 3 ∷ 7 ∷ 5 ∷ []

abbrev calm_history : List ConfigStep
calm_history = history 1 (type_at T10) (start T10 (0 ∷ 5 ∷ []) calm) (map call calm_threads)

abbrev busy_history : List ConfigStep
busy_history = history 1 (type_at T11) (start T11 (700 ∷ 5 ∷ []) busy) (map call busy_threads)

long_all : (xs : List ℕ) → Long (map call xs)
long_all [] i a h = absurd (clash (cc))
long_all (x ∷ xs) zero a h = let e : call x ≡ a = cc in subst (λ (u : ConfigCall). max_image_length ≤ u.buffer) e (omega arith)
long_all (x ∷ xs) (suc i) a h = long_all xs i a h

-- the same turns, by the bay's first thread, its stream and its num
turns : (map (turn_by 1) calm_history ≡ 0 ∷ 0 ∷ 1 ∷ 0 ∷ 0 ∷ 0 ∷ 0 ∷ 2 ∷ 0 ∷ 0 ∷ 2 ∷ 1 ∷ []) × (map (turn_by 1) busy_history ≡ 0 ∷ 0 ∷ 1 ∷ 0 ∷ 0 ∷ 0 ∷ 0 ∷ 2 ∷ 0 ∷ 0 ∷ 2 ∷ 1 ∷ [])
unfolding config_steps is_bay is_thread is_turn passing threads_below whose_turn rank loaded with_type bay_types first_owners tabulate state_left config_reply reply_of shares_test share_test of_bay bays_in each_below owners_after image_test limits_test each_test component_test expression_test is_settled is_awaited handle_for nodes sum_in sum_all step_of step_place step_redex step_case step_subject step_meeting step_call step_exchange when_done place within beside substitute plug
turns = (refl, refl)

-- the claim, of these two
alike : Alike (SameTurn 1 (type_at T10) (type_at T11)) calm_history busy_history
alike = apart calm_admitted busy_admitted calm_suits busy_suits refl 1 same_bay (map call calm_threads) (map call busy_threads) (record {
  long_left = long_all calm_threads;
  long_right = long_all busy_threads;
  same_turns = turns.0 ∙ sym turns.1;
})

-- and what it says: rules 2, 1, 3, 9, 8, 2, 1 and 7, one wait and three times done
answers :
    (map (λ n. answer_number (config_replied separate n)) calm_history ≡ 2 ∷ 0 ∷ 1 ∷ 3 ∷ 9 ∷ 8 ∷ 2 ∷ 1 ∷ 7 ∷ 0 ∷ 0 ∷ 0 ∷ []) ×
    (map (λ n. answer_number (config_replied separate n)) busy_history ≡ 2 ∷ 0 ∷ 1 ∷ 3 ∷ 9 ∷ 8 ∷ 2 ∷ 1 ∷ 7 ∷ 0 ∷ 0 ∷ 0 ∷ [])
unfolding config_steps is_bay is_thread is_turn passing loaded with_type bay_types first_owners tabulate state_left config_reply reply_of shares_test share_test of_bay bays_in each_below owners_after image_test limits_test each_test component_test expression_test is_settled is_awaited handle_for nodes sum_in sum_all step_of step_place step_redex step_case step_subject step_meeting step_call step_exchange when_done place within beside substitute plug
answers = (refl, refl)

-- the name that is awaited: the stream
abbrev awaits : Reply → ℕ
awaits (waits y) = y
awaits (moved r I') = 0
awaits finished = 0
awaits (refuses k) = 0

-- the setting after each turn: at last the num that bay 1's third thread gives, name 5 on one side and 7 on the other
abbrev settings : TypeNumbers → List ConfigStep → List (Option Component)
settings τ = map (λ n. at (state_after separate τ n.before n.call).owned.config 1)

numbers_of_names :
    (map (λ n. awaits (config_replied separate n)) calm_history ≡ 0 ∷ 4 ∷ replicate 10 0) ×
    (map (λ n. awaits (config_replied separate n)) busy_history ≡ 0 ∷ 5 ∷ replicate 10 0) ×
    (settings (type_at T10) calm_history ≡ replicate 8 (some (holds (const (num 5)))) ++ replicate 4 (some (holds (name 5)))) ×
    (settings (type_at T11) busy_history ≡ replicate 8 (some (holds (const (num 5)))) ++ replicate 4 (some (holds (name 7))))
unfolding config_steps is_bay is_thread is_turn passing loaded with_type bay_types first_owners tabulate state_left config_reply reply_of shares_test share_test of_bay bays_in each_below owners_after image_test limits_test each_test component_test expression_test is_settled is_awaited handle_for nodes sum_in sum_all step_of step_place step_redex step_case step_subject step_meeting step_call step_exchange when_done place within beside substitute plug
numbers_of_names = (refl, refl, refl, refl)
