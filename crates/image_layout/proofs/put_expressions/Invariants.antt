-- `image_layout::put_expressions` meets its contract. The loop's invariant: the expressions of k names are written.
use Rattle.calculus.specs.Lists.{tabulate}
use Rattle.buffer.specs.Written.{Wrote}
use Rattle.image_layout.specs.Encoded.{expressions}
use Rattle.image_layout.proofs.put_expressions.Given as goal

abbrev pub invariant-loop-k : goal.invariant-loop-k
invariant-loop-k g l = Wrote l.initial.out l.at (expressions (tabulate l.k g.component)) l.out l.next
