use mathlib.Core.Path.{refl}
use Rattle.calculus.proofs.Theory.Tests.{eqb_complete, eqb_differ}
use Rattle.run_turn.specs.Turning.{sight_of_refusal}
use Rattle.run_turn.proofs.sight_of_refusal.Goals as goal

pub returns-then-number : goal.returns-then-number
unfolding sight_of_refusal
returns-then-number c = rw (eqb_complete _ _ c.if-number.true) refl

pub returns-then-number-2 : goal.returns-then-number-2
unfolding sight_of_refusal
returns-then-number-2 c = rw (eqb_differ _ _ c.if-number.false, eqb_complete _ _ c.if-number-2.true) refl

pub returns : goal.returns
unfolding sight_of_refusal
returns c = rw (eqb_differ _ _ c.if-number.false, eqb_differ _ _ c.if-number-2.false) refl
