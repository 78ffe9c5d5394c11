-- `list_order::pass_byte` meets its contract (proofs/Passing.antt).
use Rattle.std.proofs.Common.{arith}
use Rattle.list_order.proofs.Passing.{byte_free, byte_lower, byte_other, byte_past}
use Rattle.list_order.proofs.pass_byte.Goals as goal

pub returns-then-free : goal.returns-then-free
returns-then-free c = rw c.if-free.true (byte_free c.args.after.now c.args.at c.args.byte)

pub returns-then-after-at : goal.returns-then-after-at
returns-then-after-at c = rw c.if-free.false (byte_past c.args.after.now c.args.at c.args.byte (omega arith))

pub returns-then-byte-given : goal.returns-then-byte-given
returns-then-byte-given c = rw c.if-free.false (byte_lower c.args.after.now c.args.at c.args.byte (omega arith) (omega arith))

pub returns : goal.returns
returns c = rw c.if-free.false (byte_other c.args.after.now c.args.at c.args.byte (omega arith) (omega arith))
