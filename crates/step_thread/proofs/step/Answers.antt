-- `step_thread::step` meets its contract.
use Rattle.std.specs.Prelude.{◌≡◌, IfSome}
use Rattle.std.proofs.Common.{arith, subst}
use Rattle.image_check.proofs.Theory.Answers.{none_refused}
use Rattle.step_look.proofs.Theory.Answers.{broken, checked, too_short}
use Rattle.step_thread.proofs.step.Goals as goal

pub returns-then-out-lt-MAX_LENGTH : goal.returns-then-out-lt-MAX_LENGTH
returns-then-out-lt-MAX_LENGTH g c =
    let a = c.args in
    let (value, out_after) = too_short g.P.Profile.profile a.image.now a.thread a.out.now c.if-out-lt-MAX_LENGTH.true in
    record { value = value; out_after = out_after }

pub returns-in_default : goal.returns-in_default
returns-in_default g c =
    let a = c.args in
    let (value, out_after) = broken g.P.Profile.profile a.image.now a.thread a.out.now (omega (arith, c.if-out-lt-MAX_LENGTH.false)) (none_refused _ _ c.in_default.is c.check_image.ensures.answer) in
    record { value = value; out_after = out_after }

pub returns : goal.returns
returns g c =
    let a = c.args in
    let same : c.in-Some.image.bytes.now ≡ a.image.now = subst (λ r. IfSome r (λ s. s.bytes.now ≡ a.image.now)) c.in-Some.is c.check_image.ensures.same in
    let w = c.step_checked-answer.ensures in
    let (value, out_after) = checked g.P.Profile.profile c.in-Some.image.bytes.now a.thread a.out.now (omega (arith, c.if-out-lt-MAX_LENGTH.false)) c.in-Some.image.stands (w.outcome_value, w.out_after) in
    record { value = rw (← same) value; out_after = rw (← same) out_after }
