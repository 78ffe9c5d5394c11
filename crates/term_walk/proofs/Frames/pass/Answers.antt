-- `term_walk::Frames::pass` meets its contract: what `pass` stores.
use mathlib.Core.Path.{ap, ◌∙◌, sym}
use native.Mathlib.Omega.{arith}
use lib.ListN.{length}
use Rattle.term_walk.specs.Frames.{below, opened}
use Rattle.term_walk.proofs.Stack.{below_stack, length_stack}
use Rattle.term_walk.proofs.Frames.pass.Goals as goal

pub pass-self-inside-requires : goal.pass-self-inside-requires
pass-self-inside-requires g c =
    let q = c.self.inside in
    let e = length_stack q.waits q.frames in
    let l = ap length c.self.view_is in
    (omega (arith, c.requires.0, l, e), (omega (arith, c.requires.1.0, l, e), c.requires.1.1))

pub invariant_of-self : goal.invariant_of-self
invariant_of-self g c =
    omega (arith, c.pass-self-inside.ensures.left, c.requires.0, c.requires.1.0, c.requires.1.1, ap length c.self.view_is, length_stack c.self.inside.waits c.self.inside.frames)

pub returns : goal.returns
returns g c =
    let q = c.self.inside in
    let inside = sym (below_stack q.waits q.frames) ∙ ap below c.self.view_is in
    c.pass-self-inside.ensures.frames ∙ ap (opened c.args.subterms c.args.first c.args.last) inside
