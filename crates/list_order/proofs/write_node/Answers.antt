-- `list_order::write_node` meets its contract (proofs/Writing.antt).
use Rattle.std.proofs.Common.{◌∙◌, arith}
use Rattle.list_order.proofs.Writing.{written_1, written_more}
use Rattle.list_order.proofs.write_node.Goals as goal

pub returns-then-length-eq1 : goal.returns-then-length-eq1
returns-then-length-eq1 c = written_1 c.args.out c.args.len c.args.code (omega arith) c.requires.1.1 (omega arith) (omega (arith, c.length_of-length.ensures))

pub returns : goal.returns
returns c = written_more c.args.out c.args.len c.args.code (omega arith) c.requires.1.1 (omega arith) (λ e. c.if-length-eq1.false (c.length_of-length.ensures ∙ e))
