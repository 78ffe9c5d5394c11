-- `check_walk::with_uses` meets its contract, case by case.
use mathlib.Core.Path.{ap, sym}
use Rattle.std.proofs.Common.{Option}
use Rattle.check_types.specs.declared.Typed.{Typed}
use Rattle.check_walk.specs.Walk.{with_uses}
use Rattle.check_walk.proofs.with_uses.Goals as goal

pub returns-in_err-typed : goal.returns-in_err-typed
unfolding with_uses
returns-in_err-typed c = rw c.from_residual.ensures (sym (ap (λ (x : Option Typed). with_uses x c.args.kept) c.in_err-typed.was))

pub returns : goal.returns
unfolding with_uses
returns c = sym (ap (λ (x : Option Typed). with_uses x c.args.kept) c.in_ok-typed.was)
