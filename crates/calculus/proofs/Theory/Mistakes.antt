-- Document 01's three plausible mistakes: for each an example that tells right from wrong.
use Rattle.std.specs.Prelude.{◌≡◌, refl, [], ◌∷◌, map, replicate}
use Rattle.calculus.specs.Types.{unit_type}
use Rattle.calculus.specs.Syntax.{unit, num, op, handle, Exp, var, name, const, lam, app, thread_of, sum_in, sum_all}
use Rattle.calculus.specs.Typing.{TypeNumbers}
use Rattle.calculus.specs.Reduction.{substitute, plug, BETA, FUTURE_DEREF}
use Rattle.calculus.specs.Names.{uses}
use Rattle.calculus.specs.Step.{beside, place, rule, when_done, step_call, step_exchange, step_meeting, step_place, step_of, within, step_subject, step_case, step_redex}
use Rattle.calculus.specs.NewTypes.{function_at, result_type, future_and_handle, coming, new_types}
use Rattle.calculus.specs.Profile.{common}
use Rattle.calculus.specs.Reply.{reply_of}
use Rattle.calculus.proofs.Theory.ConfigRuns.{config_reply, state_left, config_steps}
use Rattle.calculus.specs.Recipe.{loaded}
use Rattle.calculus.specs.Image.{nodes, expression_test, is_settled, is_awaited, handle_for, component_test, each_test, limits_test, image_test}
use Rattle.calculus.specs.Table.{entry, Table, test_entry, is_many}
use Rattle.calculus.specs.Verdict.{on_function, on_once_function, on_cell, scoped_const, scoped, annotated_const, annotated, const_number, on_number, result_number, applied_number, lambda_number, type_number, outside_many, linear, every, verdict, with_components, both_number, case_number, linear_variable}
use Rattle.calculus.specs.Syntax.{sum_in, sum_all}
use Rattle.calculus.proofs.Theory.Cases.{call, answered}

-- first plausible mistake, "letting a many-lambda close over it": x stands once, under the many-lambda of type 7, and is refused;
-- under the once-lambda of type 3 it is accepted
abbrev T10 : Table
T10 = entry 0 0 0 ∷ entry 1 0 0 ∷ entry 2 1 0 ∷ entry 3 1 0 ∷ entry 4 3 0 ∷ entry 4 1 4 ∷ entry 4 5 0 ∷ entry 4 1 0 ∷ entry 4 3 7 ∷ entry 4 3 3 ∷ []

mistake_1 :
    (verdict T10 (lam 8 (lam 7 (app (var 1) (var 0))) ∷ []) ≡ 10) ×
    (verdict T10 (lam 9 (lam 3 (app (var 1) (var 0))) ∷ []) ≡ 0)
unfolding verdict every scoped scoped_const annotated annotated_const on_function on_once_function on_cell is_many test_entry type_number const_number on_number result_number applied_number lambda_number both_number case_number with_components outside_many linear_variable linear uses
mistake_1 = (refl, refl)

-- what comes of it: "the lambda runs twice". handle (λ x. λ h. (λ g. (λ _. g unit) (g unit)) (λ _. h 0)) and, with a once-lambda but h used twice,
-- handle (λ x. λ h. (λ _. h 0) (h 0)) are refused; if they ran, they would apply a used handle
abbrev T10' : Table
T10' = entry 0 0 0 ∷ entry 1 0 0 ∷ entry 2 1 0 ∷ entry 3 1 0 ∷ entry 4 3 0 ∷ entry 4 1 4 ∷ entry 4 5 0 ∷ entry 4 0 0 ∷ entry 4 7 0 ∷ entry 3 0 0 ∷ []

abbrev runs_twice : Exp
runs_twice = app (const (op handle 6)) (lam 5 (lam 4
    (app (lam 8 (app (lam 7 (app (var 1) (const unit))) (app (var 0) (const unit)))) (lam 7 (app (var 1) (const (num 0)))))))

abbrev used_twice : Exp
used_twice = app (const (op handle 6)) (lam 5 (lam 4 (app (lam 9 (app (var 1) (const (num 0)))) (app (var 0) (const (num 0))))))

both_refused : (verdict T10' (runs_twice ∷ []) ≡ 10) × (verdict T10' (used_twice ∷ []) ≡ 10)
unfolding verdict every scoped scoped_const annotated annotated_const on_function on_once_function on_cell is_many test_entry type_number const_number on_number result_number applied_number lambda_number both_number case_number with_components outside_many linear_variable linear uses
both_refused = (refl, refl)

both_go_wrong : (τ : TypeNumbers) →
    (map answered (config_steps common τ (loaded (0 ∷ []) (runs_twice ∷ []) (unit_type ∷ [])) (replicate 9 (call 1))) ≡ 4 ∷ 1 ∷ 1 ∷ 1 ∷ 1 ∷ 5 ∷ 1 ∷ 1 ∷ 16 ∷ []) ×
    (map answered (config_steps common τ (loaded (0 ∷ []) (used_twice ∷ []) (unit_type ∷ [])) (replicate 6 (call 1))) ≡ 4 ∷ 1 ∷ 1 ∷ 5 ∷ 1 ∷ 16 ∷ [])
unfolding loaded config_steps state_left config_reply reply_of image_test limits_test each_test component_test expression_test is_settled is_awaited handle_for sum_all nodes sum_in step_of step_place step_redex step_case step_subject step_meeting step_call step_exchange when_done place within beside substitute plug function_at result_type future_and_handle coming new_types
both_go_wrong τ = (refl, refl)

-- second, following a future "even in argument place": here rule 1 goes, with the name
mistake_2 : step_of (thread_of (app (lam 0 (var 0)) (name 1)) ∷ thread_of (const unit) ∷ []) 0 ≡ rule BETA (thread_of (name 1) ∷ thread_of (const unit) ∷ [])
unfolding step_of step_place step_redex step_case step_subject step_meeting place within beside substitute plug
mistake_2 = refl

-- third, a name bound to itself: "a step that needs it applies rule 3 for ever"
mistake_3 : step_of (thread_of (app (name 1) (const unit)) ∷ thread_of (name 1) ∷ []) 0 ≡ rule FUTURE_DEREF (thread_of (app (name 1) (const unit)) ∷ thread_of (name 1) ∷ [])
unfolding step_of step_place step_redex step_case step_subject step_meeting step_call when_done place within beside plug
mistake_3 = refl
