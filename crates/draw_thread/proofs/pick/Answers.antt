-- `draw_thread::pick` meets its contract.
use mathlib.Core.Path.{◌∙◌, ap}
use Prim.Native.Nat.{ℕ, ◌%◌, ◌<◌}
use native.Mathlib.Nat.{mod-lt}
use native.Mathlib.Omega.{arith}
use lib.ListN.{get_or}
use Rattle.draw_spec.specs.Draws.{picked, threads}
use Rattle.draw_thread.proofs.pick.Goals as goal

pub nonzero_rem-state : goal.nonzero_rem-state
nonzero_rem-state c =
    let some-thread : 0 < c.count_threads-count.result = omega (arith, c.count_threads-count.ensures, c.requires.1) in
    omega (arith, some-thread)

pub thread_at-requires : goal.thread_at-requires
thread_at-requires c =
    let some-thread : 0 < c.count_threads-count.result = omega (arith, c.count_threads-count.ensures, c.requires.1) in
    let a = c.args in
    (c.requires.0, omega (arith, mod-lt a.state some-thread, c.count_threads-count.ensures))

pub returns : goal.returns
unfolding picked
returns c =
    let a = c.args in
    c.thread_at.ensures ∙ ap (λ (n : ℕ). get_or (threads a.image.now) (a.state % n) 0) c.count_threads-count.ensures
