-- Document 01's bay cases as rows of one table, computed; and more about case C.
use Rattle.std.specs.Prelude.{◌≡◌, refl, cond, true, List, [], ◌∷◌, map, ◌<◌, suc, zero, ℕ, eqb, length, replicate}
use Rattle.std.proofs.Common.{subst, arith}
use Rattle.std.proofs.Math.Option.{Option, some}
use Rattle.calculus.specs.Bytes.{two_byte_values}
use Rattle.calculus.specs.Types.{once, many, unit_type, num_type, ref, fun}
use Rattle.calculus.specs.Syntax.{unit, num, op, exch, thread, handle, Exp, var, name, const, lam, app, thread_of, holds, used, Config, at, Each, each_var, each_const, each_lam, each_app, sum_in, sum_all}
use Rattle.calculus.specs.Typing.{TypeNumbers}
use Rattle.calculus.specs.Reduction.{substitute, plug}
use Rattle.calculus.specs.Names.{uses}
use Rattle.calculus.specs.Step.{beside, place, when_done, step_call, step_exchange, step_meeting, step_place, step_of, within, step_subject, step_case, step_redex}
use Rattle.calculus.specs.NewTypes.{function_at, result_type, future_and_handle, coming, new_types}
use Rattle.calculus.specs.Limits.{max_image_length}
use Rattle.calculus.specs.State.{State}
use Rattle.calculus.specs.Profile.{common}
use Rattle.calculus.specs.Reply.{Reply, moved, waits, finished, refuses, reply_of}
use Rattle.calculus.proofs.Theory.ConfigRuns.{ConfigCall, config_reply, state_left, state_after, ConfigStep, config_steps, config_replied, ConfigBinds, ConfigDemand}
use Rattle.calculus.specs.Recipe.{loaded, with_type, bay_types, start, Admitted}
use Rattle.calculus.specs.Image.{nodes, const_size, size, image_length, expression_test, is_settled, is_awaited, handle_for, component_test, each_test, limits_test, image_test, Writable}
use Rattle.calculus.specs.Table.{entry, Table, read_entry, read_at, read_deep, type_at, test_entry, entry_test, entry_stands, entries_test, same_entry, new_to, distinct_test, entry_is, table_test, is_many, one_part, two_parts}
use Rattle.calculus.specs.Verdict.{on_function, on_once_function, on_cell, scoped_const, scoped, annotated_const, annotated, const_number, on_number, result_number, applied_number, lambda_number, type_number, outside_many, linear, every, verdict, with_components, both_number, case_number, linear_variable}
use Rattle.calculus.specs.Syntax.{sum_in, sum_all}
use Rattle.calculus.proofs.Theory.Tests.{clash}
use Rattle.calculus.proofs.Theory.TableTest.{table_test_iff}
use Rattle.calculus.proofs.Theory.Claim.{demand}

abbrev pub T3 : Table
T3 = entry 0 0 0 ∷ entry 1 0 0 ∷ entry 2 1 0 ∷ []

abbrev pub T5 : Table
T5 = entry 0 0 0 ∷ entry 1 0 0 ∷ entry 2 1 0 ∷ entry 4 1 1 ∷ entry 4 2 3 ∷ []

abbrev pub T7 : Table
T7 = entry 0 0 0 ∷ entry 1 0 0 ∷ entry 2 1 0 ∷ entry 3 1 0 ∷ entry 4 3 0 ∷ entry 4 1 4 ∷ entry 4 5 0 ∷ []

-- the tables keep the rules, with five kinds
pub tables : (table_test 5 T3 ≡ true) × (table_test 5 T5 ≡ true) × (table_test 5 T7 ≡ true)
unfolding table_test entries_test entry_stands entry_test distinct_test new_to same_entry entry_is test_entry
tables = (refl, refl, refl)

-- type 6 of T7 is the handle's
handle_type : type_at T7 6 ≡ some (fun many (fun many num_type (fun many (fun once num_type unit_type) unit_type)) unit_type)
unfolding type_at read_deep read_at read_entry one_part two_parts
handle_type = refl

-- exch setting 250
abbrev pub term_B : Exp
term_B = app (app (const (op exch 4)) (name 0)) (const (num 250))

-- handle (λ future. λ handle. handle future)
abbrev pub term_C : Exp
term_C = app (const (op handle 6)) (lam 5 (lam 4 (app (var 0) (var 1))))

-- a bay case: its table and terms; the verdict; if accepted, the bays' type numbers; the threads that make steps, each with an out buffer that is long
-- enough; the rules that they answer, and the last configuration
pub record Row : Type 0 where
  pub table : Table
  pub terms : List Exp
  pub verdict_is : ℕ
  pub type_numbers : List (Option ℕ)
  pub threads : List ℕ
  pub rules : List ℕ
  pub last : Config

-- a step of thread x
abbrev pub call : ℕ → ConfigCall
call x = record { thread = x; buffer = max_image_length }

-- a rule's number, or a cause's; 0 for done and waiting
abbrev pub answer_number : Reply → ℕ
answer_number (moved r I') = r
answer_number (waits y) = 0
answer_number finished = 0
answer_number (refuses k) = k

abbrev pub answered : ConfigStep → ℕ
answered n = answer_number (config_replied common n)

-- what a run leaves
unfoldable pub end : TypeNumbers → State → List ConfigCall → State
end τ s [] = s
end τ s (a ∷ rest) = end τ (state_after common τ s a) rest

-- a refused recipe is not loaded
abbrev pub if_accepted : {A : Type 0} → ℕ → List A → List A
if_accepted v l = cond (eqb v 0) l []

-- every setting starts at 0
abbrev zeros : List Exp → List ℕ
zeros es = replicate (length es) 0

-- the row with what is computed in place of what is claimed
unfoldable pub computed : Row → Row
computed r = record {
  table = r.table;
  terms = r.terms;
  verdict_is = verdict r.table r.terms;
  type_numbers = if_accepted (verdict r.table r.terms) (map (λ e. type_number r.table [] e) r.terms);
  threads = r.threads;
  rules = map answered (config_steps common (type_at r.table) (start r.table (zeros r.terms) r.terms) (map call r.threads));
  last = if_accepted (verdict r.table r.terms) (end (type_at r.table) (start r.table (zeros r.terms) r.terms) (map call r.threads)).owned.config;
}

abbrev pub refused_row : Table → Exp → ℕ → Row
refused_row T e k = record { table = T; terms = e ∷ []; verdict_is = k; type_numbers = []; threads = []; rules = []; last = [] }

-- document 01's ● cases, A to I, the last with both halves, as document 02's T-01 has it. B: "One step, rule 7: the setting is 250, the thread is num 0".
-- C: "Rules 4, 1, 1, 5; then the thread is unit, name 2 is a thread holding name 2, handle 3 is used".
abbrev pub rows : List Row
rows =
    record { table = T3; terms = const unit ∷ []; verdict_is = 0; type_numbers = some 0 ∷ []; threads = []; rules = []; last = holds (const (num 0)) ∷ thread_of (const unit) ∷ [] } ∷
    record { table = T5; terms = term_B ∷ []; verdict_is = 0; type_numbers = some 1 ∷ []; threads = 1 ∷ []; rules = 7 ∷ []; last = holds (const (num 250)) ∷ thread_of (const (num 0)) ∷ [] } ∷
    record {
      table = T7;
      terms = term_C ∷ [];
      verdict_is = 0;
      type_numbers = some 0 ∷ [];
      threads = 1 ∷ 1 ∷ 1 ∷ 1 ∷ [];
      rules = 4 ∷ 1 ∷ 1 ∷ 5 ∷ [];
      last = holds (const (num 0)) ∷ thread_of (const unit) ∷ thread_of (name 2) ∷ used ∷ [];
    } ∷
    refused_row T7 (lam 4 (const unit)) 10 ∷
    refused_row T7 (lam 3 (const unit)) 11 ∷
    refused_row T7 (const (op thread 3)) 8 ∷
    refused_row T3 (app (const unit) (const unit)) 9 ∷
    refused_row T3 (var 0) 7 ∷
    record { table = T3; terms = const (num 1000) ∷ []; verdict_is = 0; type_numbers = some 1 ∷ []; threads = []; rules = []; last = holds (const (num 0)) ∷ thread_of (const (num 1000)) ∷ [] } ∷
    record { table = T3; terms = const (num 1001) ∷ []; verdict_is = 0; type_numbers = some 1 ∷ []; threads = []; rules = []; last = holds (const (num 0)) ∷ thread_of (const (num 1001)) ∷ [] } ∷
    []

cases : map computed rows ≡ rows
unfolding computed end verdict every scoped scoped_const annotated annotated_const on_function on_once_function on_cell is_many test_entry type_number const_number on_number result_number applied_number lambda_number both_number case_number with_components outside_many linear_variable linear uses loaded with_type bay_types config_steps state_left config_reply reply_of image_test limits_test each_test component_test expression_test is_settled is_awaited handle_for sum_all nodes sum_in step_of step_place step_redex step_case step_subject step_meeting step_call step_exchange when_done place within beside substitute plug function_at result_type future_and_handle coming new_types type_at read_deep read_at read_entry one_part two_parts
cases = refl

-- case A's image has 18 bytes, as document 01 shows it
case_A_length : image_length (start T3 (0 ∷ []) (const unit ∷ [])).owned.config ≡ 18
unfolding loaded sum_all sum_in size const_size
case_A_length = refl

-- "The lowest number that fits wins, each cause tried over the whole file": the second bay's cause is one below the first bay's
lowest :
    (verdict T7 (const (op thread 3) ∷ name 2 ∷ []) ≡ 7) ×
    (verdict T7 (app (const unit) (const unit) ∷ const (op thread 3) ∷ []) ≡ 8) ×
    (verdict T7 (lam 4 (const unit) ∷ app (const unit) (const unit) ∷ []) ≡ 9) ×
    (verdict T7 (lam 3 (const unit) ∷ lam 4 (const unit) ∷ []) ≡ 10)
unfolding verdict every scoped scoped_const annotated annotated_const on_function on_once_function on_cell is_many test_entry type_number const_number on_number result_number applied_number lambda_number both_number case_number with_components outside_many linear_variable linear uses
lowest = (refl, refl, refl, refl)

-- case C among steps that answer something else: done, 14, 12
case_C_answers : map answered (config_steps common (type_at T7) (start T7 (0 ∷ []) (term_C ∷ [])) (call 1 ∷ call 0 ∷ call 1 ∷ record { thread = 1; buffer = 13825 } ∷ call 1 ∷ call 3 ∷ call 1 ∷ call 1 ∷ [])) ≡
    4 ∷ 14 ∷ 1 ∷ 12 ∷ 1 ∷ 14 ∷ 5 ∷ 0 ∷ []
unfolding type_number const_number applied_number lambda_number both_number case_number with_components on_function test_entry result_number on_number loaded with_type bay_types config_steps state_left config_reply reply_of image_test limits_test each_test component_test expression_test is_settled is_awaited handle_for sum_all nodes sum_in step_of step_place step_redex step_case step_subject step_meeting step_call step_exchange when_done place within beside substitute plug function_at result_type future_and_handle coming new_types type_at read_deep read_at read_entry one_part two_parts
case_C_answers = refl

-- the types of its names
case_C_names : (end (type_at T7) (start T7 (0 ∷ []) (term_C ∷ [])) (replicate 4 (call 1))).names ≡ ref num_type ∷ unit_type ∷ num_type ∷ fun once num_type unit_type ∷ []
unfolding end type_number const_number applied_number lambda_number both_number case_number with_components on_function test_entry result_number on_number loaded with_type bay_types config_steps state_left config_reply reply_of image_test limits_test each_test component_test expression_test is_settled is_awaited handle_for sum_all nodes sum_in step_of step_place step_redex step_case step_subject step_meeting step_call step_exchange when_done place within beside substitute plug function_at result_type future_and_handle coming new_types type_at read_deep read_at read_entry one_part two_parts
case_C_names = refl

-- the last of the four applies handle 3 and binds future 2
case_C_binds : (n : ConfigStep) × (at (config_steps common (type_at T7) (start T7 (0 ∷ []) (term_C ∷ [])) (replicate 4 (call 1))) 3 ≡ some n) × ConfigBinds common n 2
unfolding type_number const_number applied_number lambda_number both_number case_number with_components on_function test_entry result_number on_number loaded with_type bay_types config_steps state_left config_reply reply_of image_test limits_test each_test component_test expression_test is_settled is_awaited handle_for sum_all nodes sum_in step_of step_place step_redex step_case step_subject step_meeting step_call step_exchange when_done place within beside substitute plug function_at result_type future_and_handle coming new_types type_at read_deep read_at read_entry one_part two_parts
case_C_binds = (_, refl, (3, (_, refl, refl), refl))

-- the third demand, of every run of it
case_C_admitted : Admitted T7 (0 ∷ []) (term_C ∷ [])
unfolding nodes sum_in sum_all verdict every scoped scoped_const annotated annotated_const on_function on_once_function on_cell is_many test_entry type_number const_number on_number result_number applied_number lambda_number both_number case_number with_components outside_many linear_variable linear uses
case_C_admitted = record {
  table = ((table_test_iff 5 T7).0 tables.2).1;
  written = written;
  starts = record { one_each = refl; two_byte = two_byte };
  bays = omega arith;
  size = omega arith;
  accepted = refl;
}
  where
    two_byte : (k n : ℕ) → at (0 ∷ []) k ≡ some n → n < two_byte_values
    two_byte zero n h = let q : 0 ≡ n = cc in omega arith
    two_byte (suc k) n h = absurd (clash (cc))

    written : (i : ℕ) (e : Exp) → at (term_C ∷ []) i ≡ some e → Each Writable e
    written zero e h = let q : term_C ≡ e = cc in subst (λ (u : Exp). Each Writable u) q
        (each_app (each_const (omega arith)) (each_lam (omega arith) (each_lam (omega arith) (each_app (each_var (omega arith)) (each_var (omega arith))))))
    written (suc i) e h = absurd (clash (cc))

case_C_demand : (run : List ConfigCall) → ConfigDemand common (type_at T7) (start T7 (0 ∷ []) (term_C ∷ [])) run
case_C_demand = demand case_C_admitted common
