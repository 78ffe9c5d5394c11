-- The proof of the cycle of calls {push_arguments}: what falls is the number of open applications (proofs/Pushing.antt).
use native.Mathlib.Omega.{arith}
use Prim.Native.Nat.{◌<◌}
use borrow.Author.Rules.{rules}
use mathlib.Core.Path.{◌≡◌, ◌∙◌}
use lib.ListN.{length}
use Rattle.list_place.proofs.Pushing.{pushed_more, pushed_none}
use Rattle.list_place.proofs.+push_arguments.Goals as goal

pub returns-then-spine-eq0 : goal.returns-then-spine-eq0
returns-then-spine-eq0 t c = pushed_none _ _ _ _ _ _ _ c.if-spine-eq0.true

pub overflow_sub-spine : goal.overflow_sub-spine
overflow_sub-spine t c = omega (arith, c.if-spine-eq0.false)

pub push_arguments-top-requires : goal.push_arguments-top-requires
push_arguments-top-requires t c = (omega (arith, c.if-spine-eq0.false), (omega (arith, c.requires.0), c.requires.1))

pub offset_bounds-wants-top : goal.offset_bounds-wants-top
offset_bounds-wants-top t c =
    let top_below : c.push_arguments-top.result < 6 = omega (arith, c.push_arguments-top.ensures.long, c.if-spine-eq0.false, c.requires.0) in
    omega (arith, top_below)

pub bounds-wants-top : goal.bounds-wants-top
bounds-wants-top t c = omega (arith, c.push_arguments-top.ensures.long, c.if-spine-eq0.false, c.requires.0)

pub bounds-depths-top : goal.bounds-depths-top
bounds-depths-top t c = omega (arith, c.push_arguments-top.ensures.long, c.if-spine-eq0.false, c.requires.0)

pub overflow_add-result : goal.overflow_add-result
overflow_add-result t c = omega (arith, c.push_arguments-top.ensures.long, c.if-spine-eq0.false, c.requires.0)

pub returns : goal.returns
returns t c =
    let p = c.push_arguments-top in
    let top_below : p.result < 6 = omega (arith, p.ensures.long, c.if-spine-eq0.false, c.requires.0) in
    let room : length p.new.wants ≡ 6 = p.ensures.wide ∙ c.requires.1.0 in
    let space : length p.new.depths ≡ 6 = p.ensures.broad ∙ c.requires.1.1 in
    pushed_more _ _ _ _ _ _ _ _ _ _ _ (omega (arith, c.if-spine-eq0.false)) c.entry_at-entry.ensures (search rules) p.ensures (omega (arith, top_below, room)) (omega (arith, top_below, space))
