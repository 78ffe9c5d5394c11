-- `step_shares::for_bay` meets its contract.
use borrow.Author.Tests.{eq-eqb, ne_eqb}
use Rattle.step_shares.proofs.for_bay.Goals as goal

pub returns-then-owner-k : goal.returns-then-owner-k
returns-then-owner-k c = simp (eq-eqb _ _ c.if-owner-k.true)

pub returns : goal.returns
returns c = simp (ne_eqb _ _ c.if-owner-k.false)
