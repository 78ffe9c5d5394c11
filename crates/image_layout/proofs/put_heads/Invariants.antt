-- `image_layout::put_heads` meets its contract. The loop's invariant: k heads are written.
use Rattle.image_layout.proofs.Theory.Turns.{HeadsTo}
use Rattle.image_layout.proofs.put_heads.Given as goal

abbrev pub invariant-loop-k : goal.invariant-loop-k
invariant-loop-k g l = HeadsTo l.names g.component l.initial.out l.at l.k l.out l.next
