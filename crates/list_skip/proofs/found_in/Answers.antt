-- `list_skip::found_in` meets its contract.
use mathlib.Core.Path.{refl}
use native.Mathlib.Omega.{arith}
use borrow.Author.Rules.{rules}
use Rattle.calculus.proofs.Theory.Tests.{eqb_differ}
use Rattle.list_skip.specs.Jumps.{found_in}
use Rattle.list_skip.proofs.found_in.Goals as goal

pub returns-then-number-eq0 : goal.returns-then-number-eq0
unfolding found_in
returns-then-number-eq0 c = (rw c.if-number-eq0.true refl, omega arith)

pub returns : goal.returns
unfolding found_in
returns c = (rw (eqb_differ _ _ c.if-number-eq0.false) refl, search rules)
