-- `image_layout::put_expressions` meets its contract. The loop's invariant: the expressions of k names are written.
use mathlib.Core.Path.{ap, refl}
use Rattle.calculus.specs.Lists.{tabulate}
use Rattle.calculus.proofs.Theory.Tabulate.{tabulate_all}
use Rattle.buffer.proofs.Theory.Writes.{still, known_as}
use Rattle.image_layout.specs.Encoded.{expressions}
use Rattle.image_layout.proofs.Theory.Turns.{expression_turn, room_turn}
use Rattle.image_layout.proofs.put_expressions.Goals as goal

pub loop-k-init : goal.loop-k-init
unfolding expressions tabulate
loop-k-init g c = still

pub put-next-requires : goal.put-next-requires
put-next-requires g c =
    let below = c.loop-k-test.true in
    c.requires.1.0 _ _ _ below (room_turn _ _ c.requires.1.1.1 below c.loop-k.invariant)

pub loop-k-preserved : goal.loop-k-preserved
loop-k-preserved g c = expression_turn c.args.names g.component c.loop-k.invariant (c.requires.1.1.0 _ _ _ _ _ c.loop-k-test.true c.put-next.ensures)

pub returns : goal.returns
returns g c = known_as c.loop-k.invariant (ap expressions (tabulate_all _ _ _ _ c.loop-k.auto.k-end c.loop-k-test.false refl))
