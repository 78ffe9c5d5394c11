-- `term_walk::Frames::top` meets its contract.
use mathlib.Core.Path.{ap, ◌∙◌}
use native.Mathlib.Omega.{arith}
use lib.ListN.{length}
use Rattle.term_walk.specs.Frames.{top_of}
use Rattle.term_walk.proofs.Stack.{length_stack, top}
use Rattle.term_walk.proofs.Frames.top.Goals as goal

pub overflow_sub-result : goal.overflow_sub-result
overflow_sub-result g c = omega (arith, c.requires, ap length c.self.view_is, length_stack c.self.inside.waits c.self.inside.frames)

pub bounds-self-inside-self-inside : goal.bounds-self-inside-self-inside
bounds-self-inside-self-inside g c =
    omega (arith, c.requires, ap length c.self.view_is, length_stack c.self.inside.waits c.self.inside.frames, c.self.invariant)

pub returns : goal.returns
returns g c =
    let q = c.self.inside in
    top q.waits q.frames (omega (arith, c.requires, ap length c.self.view_is, length_stack q.waits q.frames)) ∙ ap top_of c.self.view_is
