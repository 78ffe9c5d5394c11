-- What the second profile asks of recipes, and what steps answer under it at the shares, computed.
use Rattle.std.specs.Prelude.{◌≡◌, refl, false, true, List, [], ◌++◌, ◌∷◌, suc, zero, ℕ, length, replicate}
use Rattle.calculus.specs.Syntax.{unit, op, exch, handle, pair, list, Exp, var, name, const, lam, app, both, case_of, Component, thread_of, holds, open_for, used, awaited, Config, sum_in, sum_all}
use Rattle.calculus.specs.Reduction.{substitute, plug}
use Rattle.calculus.specs.Lists.{tabulate, each_below}
use Rattle.calculus.specs.Step.{beside, within, place, when_done, step_call, step_exchange, step_meeting, step_subject, step_case, step_redex, step_place, step_of}
use Rattle.calculus.specs.Image.{nodes, expression_test, is_settled, is_awaited, handle_for, component_test, each_test, limits_test, image_test}
use Rattle.calculus.specs.Owners.{Owners, Owned, first_owners, owners_after}
use Rattle.calculus.specs.Shares.{of_bay, bays_in, share_test, shares_test}
use Rattle.calculus.specs.Profile.{separate, names_only, own_settings_test}
use Rattle.calculus.specs.Recipe.{loaded}
use Rattle.calculus.specs.Reply.{Reply, waits, finished, refuses, reply_of}
use Rattle.calculus.proofs.Theory.ConfigRuns.{config_reply}
use Rattle.calculus.proofs.Theory.Cases.{call, answer_number}

-- so many lambdas around unit
unfoldable deep : ℕ → Exp
deep zero = const unit
deep (suc k) = lam 0 (deep k)

-- "bay k's terms name only setting k": also under lambdas, in arguments, in pairs and in cases, reached or not
own_settings :
    (own_settings_test 0 (name 0 ∷ name 1 ∷ []) ≡ true) ×
    (own_settings_test 0 (name 1 ∷ name 1 ∷ []) ≡ false) ×
    (own_settings_test 0 (name 0 ∷ name 0 ∷ []) ≡ false) ×
    (own_settings_test 0 (lam 0 (lam 0 (name 1)) ∷ const unit ∷ []) ≡ false) ×
    (own_settings_test 0 (app (lam 0 (const unit)) (name 1) ∷ const unit ∷ []) ≡ false) ×
    (own_settings_test 0 (both pair 0 (name 0) (name 1) ∷ const unit ∷ []) ≡ false) ×
    (own_settings_test 0 (both list 0 (name 1) (name 0) ∷ const unit ∷ []) ≡ false) ×
    (own_settings_test 0 (case_of pair (name 1) (name 0) ∷ const unit ∷ []) ≡ false) ×
    (own_settings_test 0 (case_of list (name 0) (name 1) ∷ const unit ∷ []) ≡ false)
unfolding own_settings_test names_only
own_settings = (refl, refl, refl, refl, refl, refl, refl, refl, refl)

-- "a bay that starts above its share": with 16 bays a share is 256 nodes, and a setting is one of them
abbrev starts : List Exp → Owned
starts es = (loaded (replicate (length es) 0) es []).owned

starting_shares :
    (shares_test 16 (starts (deep 254 ∷ replicate 15 (const unit))) ≡ true) ×
    (shares_test 16 (starts (deep 255 ∷ replicate 15 (const unit))) ≡ false) ×
    (shares_test 16 (starts (replicate 15 (const unit) ++ (deep 255 ∷ []))) ≡ false)
unfolding loaded first_owners tabulate shares_test share_test of_bay each_below nodes sum_in sum_all deep
starting_shares = (refl, refl, refl)

-- ---- steps

abbrev image : Owners → Config → Owned
image O C = record { owners = O; config = C }

-- what a step of thread x answers, with a buffer long enough
abbrev reply : Owned → ℕ → Reply
reply I x = config_reply separate I (call x)

-- (λ. 0) unit: rule 1, three nodes less
abbrev goes : Component
goes = thread_of (app (lam 0 (var 0)) (const unit))

-- handle unit: rule 4, two names
abbrev makes : Component
makes = thread_of (app (const (op handle 0)) (const unit))

-- a bay above its share that the rule does not touch: 15; done, waiting, 16, 17, 14, 13 and 12 are answered as ever
others_count :
    (answer_number (reply (image (0 ∷ replicate 128 1) (goes ∷ replicate 128 used)) 0) ≡ 1) ×
    (reply (image (0 ∷ replicate 129 1) (goes ∷ replicate 129 used)) 0 ≡ refuses 15) ×
    (reply (image (0 ∷ replicate 129 1) (thread_of (const unit) ∷ replicate 129 used)) 0 ≡ finished) ×
    (reply (image (0 ∷ replicate 129 1) (thread_of (app (name 0) (const unit)) ∷ replicate 129 used)) 0 ≡ waits 0) ×
    (reply (image (0 ∷ replicate 129 1) (thread_of (app (name 1) (const unit)) ∷ replicate 129 used)) 0 ≡ refuses 16) ×
    (reply (image (0 ∷ replicate 129 1) (thread_of (app (const unit) (const unit)) ∷ replicate 129 used)) 0 ≡ refuses 17) ×
    (reply (image (0 ∷ replicate 129 1) (goes ∷ replicate 129 used)) 1 ≡ refuses 14) ×
    (reply (image (0 ∷ 1 ∷ []) (goes ∷ awaited ∷ [])) 0 ≡ refuses 13) ×
    (config_reply separate (image (0 ∷ 1 ∷ []) (goes ∷ awaited ∷ [])) (record { thread = 0; buffer = 13825 }) ≡ refuses 12)
unfolding config_reply reply_of shares_test share_test of_bay bays_in each_below owners_after image_test limits_test each_test component_test expression_test is_settled is_awaited handle_for nodes sum_in sum_all step_of step_place step_redex step_case step_subject step_meeting step_call step_exchange when_done place within beside substitute plug
others_count = (refl, refl, refl, refl, refl, refl, refl, refl, refl)

-- b is one more than the highest owner, not the number of bays that own something: of four bays each has 64 names
highest_owner :
    (bays_in (0 ∷ 3 ∷ 1 ∷ []) ≡ 4) ×
    (answer_number (reply (image (replicate 64 0 ++ (3 ∷ [])) (goes ∷ replicate 64 used)) 0) ≡ 1) ×
    (reply (image (replicate 65 0 ++ (3 ∷ [])) (goes ∷ replicate 65 used)) 0 ≡ refuses 15)
unfolding config_reply reply_of shares_test share_test of_bay bays_in each_below owners_after image_test limits_test each_test component_test expression_test is_settled is_awaited handle_for nodes sum_in sum_all step_of step_place step_redex step_case step_subject step_meeting step_call step_exchange when_done place within beside substitute plug
highest_owner = (refl, refl, refl)

-- both sides of a share: of two bays each has 128 names and 2,048 nodes, of three 85 and 1,365
both_sides :
    (answer_number (reply (image (replicate 126 0 ++ (1 ∷ [])) (makes ∷ replicate 126 used)) 0) ≡ 4) ×
    (reply (image (replicate 127 0 ++ (1 ∷ [])) (makes ∷ replicate 127 used)) 0 ≡ refuses 15) ×
    (answer_number (reply (image (replicate 85 0 ++ replicate 45 1 ++ (2 ∷ [])) (goes ∷ replicate 130 used)) 0) ≡ 1) ×
    (reply (image (replicate 86 0 ++ replicate 44 1 ++ (2 ∷ [])) (goes ∷ replicate 130 used)) 0 ≡ refuses 15) ×
    (answer_number (reply (image (0 ∷ 1 ∷ []) (goes ∷ holds (deep 2047) ∷ [])) 0) ≡ 1) ×
    (reply (image (0 ∷ 1 ∷ []) (goes ∷ holds (deep 2048) ∷ [])) 0 ≡ refuses 15) ×
    (answer_number (reply (image (0 ∷ 1 ∷ 2 ∷ []) (goes ∷ holds (deep 1364) ∷ used ∷ [])) 0) ≡ 1) ×
    (reply (image (0 ∷ 1 ∷ 2 ∷ []) (goes ∷ holds (deep 1365) ∷ used ∷ [])) 0 ≡ refuses 15)
unfolding deep config_reply reply_of shares_test share_test of_bay bays_in each_below owners_after image_test limits_test each_test component_test expression_test is_settled is_awaited handle_for nodes sum_in sum_all step_of step_place step_redex step_case step_subject step_meeting step_call step_exchange when_done place within beside substitute plug
both_sides = (refl, refl, refl, refl, refl, refl, refl, refl)

-- the outcome counts, not the image handed in: a rule that brings its bay back to its share goes
brought_back :
    (shares_test 2 (image (0 ∷ 0 ∷ 1 ∷ []) (goes ∷ holds (deep 2046) ∷ used ∷ [])) ≡ false) ×
    (answer_number (reply (image (0 ∷ 0 ∷ 1 ∷ []) (goes ∷ holds (deep 2046) ∷ used ∷ [])) 0) ≡ 1) ×
    (reply (image (0 ∷ 0 ∷ 1 ∷ []) (goes ∷ holds (deep 2047) ∷ used ∷ [])) 0 ≡ refuses 15)
unfolding deep config_reply reply_of shares_test share_test of_bay bays_in each_below owners_after image_test limits_test each_test component_test expression_test is_settled is_awaited handle_for nodes sum_in sum_all step_of step_place step_redex step_case step_subject step_meeting step_call step_exchange when_done place within beside substitute plug
brought_back = (refl, refl, refl)

-- ---- images from outside: a rule may move nodes from bay to bay, and the outcome of all bays counts

-- rule 7 puts a value into bay 1's cell
abbrev puts : ℕ → Owned
puts n = image (0 ∷ 1 ∷ []) (thread_of (app (app (const (op exch 0)) (name 1)) (deep n)) ∷ holds (const unit) ∷ [])

-- rule 7 takes one out of it
abbrev takes : ℕ → Owned
takes n = image (0 ∷ 1 ∷ []) (thread_of (app (app (const (op exch 0)) (name 1)) (const unit)) ∷ holds (deep n) ∷ [])

-- rule 5 of bay 0 binds bay 1's future; of bay 1, bay 0's
abbrev binds : ℕ → Owned
binds n = image (0 ∷ 1 ∷ 1 ∷ []) (thread_of (app (name 2) (deep n)) ∷ awaited ∷ open_for 1 ∷ [])

abbrev binds_back : ℕ → Owned
binds_back n = image (0 ∷ 0 ∷ 1 ∷ []) (awaited ∷ open_for 0 ∷ thread_of (app (name 1) (deep n)) ∷ [])

-- rule 3 copies the value of bay 1's thread
abbrev copies : ℕ → Owned
copies n = image (0 ∷ 1 ∷ []) (thread_of (app (name 1) (const unit)) ∷ thread_of (deep n) ∷ [])

moved_nodes :
    (answer_number (reply (puts 2047) 0) ≡ 7) ×
    (reply (puts 2048) 0 ≡ refuses 15) ×
    (answer_number (reply (takes 2047) 0) ≡ 7) ×
    (reply (takes 2048) 0 ≡ refuses 15) ×
    (answer_number (reply (binds 2047) 0) ≡ 5) ×
    (reply (binds 2048) 0 ≡ refuses 15) ×
    (answer_number (reply (binds_back 2047) 2) ≡ 5) ×
    (reply (binds_back 2048) 2 ≡ refuses 15) ×
    (answer_number (reply (copies 2045) 0) ≡ 3) ×
    (reply (copies 2046) 0 ≡ refuses 15)
unfolding deep config_reply reply_of shares_test share_test of_bay bays_in each_below owners_after image_test limits_test each_test component_test expression_test is_settled is_awaited handle_for nodes sum_in sum_all step_of step_place step_redex step_case step_subject step_meeting step_call step_exchange when_done place within beside substitute plug
moved_nodes = (refl, refl, refl, refl, refl, refl, refl, refl, refl, refl)
