-- What steps answer at the limits (case K), on handles and cells (case L), and on images that break a rule, computed.
use Rattle.std.specs.Prelude.{◌≡◌, refl, false, [], ◌∷◌, map, suc, zero, ℕ, length, replicate}
use Rattle.calculus.specs.Syntax.{unit, op, cell, exch, thread, handle, Exp, var, name, const, lam, app, thread_of, holds, open_for, used, awaited, Config, sum_in, sum_all}
use Rattle.calculus.specs.Owners.{Owned}
use Rattle.calculus.specs.Reduction.{substitute, plug, THREAD_NEW, FUTURE_DEREF, CELL_NEW}
use Rattle.calculus.specs.Step.{beside, place, rule, waiting, done, no_thread, when_done, step_call, step_exchange, step_meeting, step_place, step_of, within, step_subject, step_case, step_redex}
use Rattle.calculus.specs.NewTypes.{function_at, result_type, future_and_handle, coming, new_types}
use Rattle.calculus.specs.Profile.{common}
use Rattle.calculus.specs.Reply.{refuses, reply_of}
use Rattle.calculus.proofs.Theory.ConfigRuns.{config_reply, state_left, config_steps}
use Rattle.calculus.specs.Image.{nodes, nodes_all, expression_test, is_settled, is_awaited, handle_for, component_test, each_test, limits_test, image_test}
use Rattle.calculus.specs.Syntax.{sum_in, sum_all}
use Rattle.calculus.proofs.Theory.Cases.{call, answer_number}

-- the names are all bay 0's
abbrev of_bay_0 : Config → Owned
of_bay_0 C = record { owners = replicate (length C) 0; config = C }

-- case K: rule 4 at 254 names goes, at 255 gives 15; rule 2 adds one node, at 4,095 it goes, at 4,096 gives 15; 12 and 14 come first
unfoldable deep : ℕ → Exp
deep zero = const unit
deep (suc k) = lam 0 (deep k)

abbrev with_handle : Exp
with_handle = app (const (op handle 0)) (name 0)

abbrev with_thread : Exp
with_thread = app (const (op thread 0)) (name 0)

case_K :
    (answer_number (config_reply common (of_bay_0 (thread_of with_handle ∷ replicate 253 used)) (call 0)) ≡ 4) ×
    (answer_number (config_reply common (of_bay_0 (thread_of with_handle ∷ replicate 254 used)) (call 0)) ≡ 15) ×
    (nodes_all (thread_of with_thread ∷ holds (deep 4091) ∷ []) ≡ 4095) ×
    (answer_number (config_reply common (of_bay_0 (thread_of with_thread ∷ holds (deep 4091) ∷ [])) (call 0)) ≡ 2) ×
    (answer_number (config_reply common (of_bay_0 (thread_of with_thread ∷ holds (deep 4092) ∷ [])) (call 0)) ≡ 15) ×
    (answer_number (config_reply common (of_bay_0 (thread_of with_thread ∷ holds (deep 4092) ∷ [])) (record { thread = 7; buffer = 13825 })) ≡ 12) ×
    (answer_number (config_reply common (of_bay_0 (thread_of with_thread ∷ holds (deep 4092) ∷ [])) (call 1)) ≡ 14) ×
    (answer_number (config_reply common (of_bay_0 (thread_of with_thread ∷ holds (deep 4093) ∷ [])) (call 1)) ≡ 13)
unfolding deep config_steps state_left config_reply reply_of image_test limits_test each_test component_test expression_test is_settled is_awaited handle_for sum_all nodes sum_in step_of step_place step_redex step_case step_subject step_meeting step_call step_exchange when_done place within beside substitute plug function_at result_type future_and_handle coming new_types
case_K = (refl, refl, refl, refl, refl, refl, refl, refl)

-- case L: a used handle, and a cell, applied to unit
case_L :
    (config_reply common (of_bay_0 (thread_of (app (name 1) (const unit)) ∷ used ∷ [])) (call 0) ≡ refuses 16) ×
    (config_reply common (of_bay_0 (thread_of (app (name 1) (const unit)) ∷ holds (const unit) ∷ [])) (call 0) ≡ refuses 17)
unfolding config_steps state_left config_reply reply_of image_test limits_test each_test component_test expression_test is_settled is_awaited handle_for sum_all nodes sum_in step_of step_place step_redex step_case step_subject step_meeting step_call step_exchange when_done place within beside substitute plug function_at result_type future_and_handle coming new_types
case_L = (refl, refl)

-- each rule and each other answer, where no case above has it
answers :
    (step_of (thread_of (app (const (op thread 0)) (const unit)) ∷ []) 0 ≡ rule THREAD_NEW (thread_of (name 1) ∷ thread_of (app (const unit) (name 1)) ∷ [])) ×
    (step_of (thread_of (app (app (const (op exch 0)) (name 1)) (const unit)) ∷ thread_of (name 2) ∷ []) 0 ≡
    rule FUTURE_DEREF (thread_of (app (app (const (op exch 0)) (name 2)) (const unit)) ∷ thread_of (name 2) ∷ [])) ×
    (step_of (thread_of (app (const (op cell 0)) (const unit)) ∷ []) 0 ≡ rule CELL_NEW (thread_of (name 1) ∷ holds (const unit) ∷ [])) ×
    (step_of (thread_of (app (name 1) (const unit)) ∷ awaited ∷ []) 0 ≡ waiting 1) ×
    (step_of (thread_of (app (name 0) (const unit)) ∷ []) 0 ≡ waiting 0) ×
    (step_of (thread_of (app (const (op exch 0)) (name 7)) ∷ []) 0 ≡ done) ×
    (step_of (awaited ∷ []) 0 ≡ no_thread) ×
    (step_of [] 0 ≡ no_thread)
unfolding step_of step_place step_redex step_case step_subject step_meeting step_call step_exchange when_done place within beside plug
answers = (refl, refl, refl, refl, refl, refl, refl, refl)

-- images that break a rule: a variable not bound, a name not below m, a cell with no value, a handle whose companion is no
-- future, a future with no handle, one with two, and 257 names
broken_images :
    map image_test (
    (thread_of (var 0) ∷ []) ∷ (thread_of (name 1) ∷ []) ∷ (holds (app (const unit) (const unit)) ∷ []) ∷ (open_for 0 ∷ []) ∷ (awaited ∷ []) ∷
    (awaited ∷ open_for 0 ∷ open_for 0 ∷ []) ∷ replicate 257 used ∷ []
    ) ≡ replicate 7 false
unfolding config_steps state_left config_reply reply_of image_test limits_test each_test component_test expression_test is_settled is_awaited handle_for sum_all nodes sum_in step_of step_place step_redex step_case step_subject step_meeting step_call step_exchange when_done place within beside substitute plug function_at result_type future_and_handle coming new_types
broken_images = refl

-- 13 comes before 14, and 12 before 13
broken_replies : (config_reply common (of_bay_0 (awaited ∷ [])) (call 0) ≡ refuses 13) × (config_reply common (of_bay_0 (awaited ∷ [])) (record { thread = 0; buffer = 0 }) ≡ refuses 12)
unfolding config_steps state_left config_reply reply_of image_test limits_test each_test component_test expression_test is_settled is_awaited handle_for sum_all nodes sum_in step_of step_place step_redex step_case step_subject step_meeting step_call step_exchange when_done place within beside substitute plug function_at result_type future_and_handle coming new_types
broken_replies = (refl, refl)
