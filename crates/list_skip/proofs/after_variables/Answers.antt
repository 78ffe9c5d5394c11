-- `list_skip::after_variables` meets its contract.
use mathlib.Core.Path.{refl}
use Rattle.calculus.proofs.Theory.Tests.{leb_complete}
use Rattle.list_place.proofs.Asking.{leb_not}
use Rattle.list_skip.specs.Jumps.{variables_end}
use Rattle.list_skip.proofs.after_variables.Goals as goal

pub returns-then-left-pending : goal.returns-then-left-pending
unfolding variables_end
returns-then-left-pending c = rw (leb_complete _ _ c.if-left-pending.true) refl

pub returns : goal.returns
unfolding variables_end
returns c = rw (leb_not _ _ c.if-left-pending.false) refl
