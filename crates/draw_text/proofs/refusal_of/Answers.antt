-- `draw_text::refusal_of` meets its contract: the recipe's refusal first.
use mathlib.Core.Path.{refl}
use native.Mathlib.Omega.{arith}
use Rattle.calculus.proofs.Theory.Tests.{eqb_complete, eqb_differ}
use Rattle.draw_text.specs.Lines.{refusal_of}
use Rattle.draw_text.proofs.refusal_of.Goals as goal

pub returns-then-recipe-ne0 : goal.returns-then-recipe-ne0
unfolding refusal_of
returns-then-recipe-ne0 c = rw (eqb_differ c.args.recipe 0 (omega (arith, c.if-recipe-ne0.true))) refl

pub returns-then-seed-eq0 : goal.returns-then-seed-eq0
unfolding refusal_of
returns-then-seed-eq0 c = let a = c.args in rw (eqb_complete a.recipe 0 (omega (arith, c.if-recipe-ne0.false)), eqb_complete a.seed 0 (omega (arith, c.if-seed-eq0.true))) refl

pub returns : goal.returns
unfolding refusal_of
returns c = let a = c.args in rw (eqb_complete a.recipe 0 (omega (arith, c.if-recipe-ne0.false)), eqb_differ a.seed 0 (omega (arith, c.if-seed-eq0.false))) refl
