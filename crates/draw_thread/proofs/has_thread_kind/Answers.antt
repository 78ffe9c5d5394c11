-- `draw_thread::has_thread_kind` meets its contract.
use mathlib.Core.Path.{ap}
use Prim.Native.Nat.{ℕ}
use lib.Dec.{eqb}
use Rattle.calculus.specs.Kinds.{thread_kind}
use Rattle.draw_spec.specs.Draws.{has_thread_kind}
use Rattle.draw_thread.proofs.has_thread_kind.Goals as goal

pub returns : goal.returns
unfolding has_thread_kind
returns c = ap (λ (k : ℕ). eqb k thread_kind) c.kind_at.ensures
