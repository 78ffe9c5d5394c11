-- `image_layout::put_heads` meets its contract. The loop's invariant: k heads are written.
use mathlib.Core.Path.{refl}
use native.Mathlib.Omega.{arith}
use Rattle.image_layout.proofs.Theory.Turns.{heads_start, heads_turn, heads_all, room_head, room_names}
use Rattle.image_layout.proofs.put_heads.Goals as goal

pub overflow_mul-next : goal.overflow_mul-next
overflow_mul-next g c = omega (arith, room_names _ g.component c.requires.1.1.1.0)

pub overflow_add-next : goal.overflow_add-next
overflow_add-next g c = omega (arith, room_names _ g.component c.requires.1.1.1.0)

pub loop-k-init : goal.loop-k-init
loop-k-init g c = heads_start _ _ c.requires.1.1.1.1 refl refl

pub put_head-next-requires : goal.put_head-next-requires
put_head-next-requires g c =
    let below = c.loop-k-test.true in
    room_head _ _ c.loop-k.invariant below (c.requires.1.1.0 _ _ below c.head_of.ensures) c.requires.1.1.1.0

pub loop-k-preserved : goal.loop-k-preserved
loop-k-preserved g c =
    let below = c.loop-k-test.true in
    heads_turn _ _ c.loop-k.invariant below (c.requires.1.1.0 _ _ below c.head_of.ensures) c.put_head-next.ensures.wrote c.put_head-next.ensures.expression_value

pub returns : goal.returns
returns g c = heads_all _ _ c.loop-k.invariant c.loop-k-test.false refl
