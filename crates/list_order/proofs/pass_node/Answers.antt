-- `list_order::pass_node` meets its contract (proofs/Passing.antt).
use Rattle.std.proofs.Common.{◌∙◌, arith}
use Rattle.list_order.proofs.Passing.{node_1, node_2, node_3, node_lower, node_lower_2}
use Rattle.list_order.proofs.pass_node.Goals as goal

pub returns-in_err-first : goal.returns-in_err-first
returns-in_err-first c = rw c.from_residual.ensures (node_lower _ _ _ _ _ c.pass_byte.ensures c.in_err-first.was)

pub returns-then-length-eq1 : goal.returns-then-length-eq1
returns-then-length-eq1 c = node_1 _ _ _ _ _ c.pass_byte.ensures _ c.in_ok-first.was (omega (arith, c.length_of-length.ensures))

pub returns-in_err-second : goal.returns-in_err-second
returns-in_err-second c =
    rw c.from_residual-in_err-second.ensures (node_lower_2 _ _ _ _ _ c.pass_byte.ensures _ c.in_ok-first.was _ c.pass_byte-2.ensures (λ e. c.if-length-eq1.false (c.length_of-length.ensures ∙ e)) c.in_err-second.was)

pub returns-then-length-eq2 : goal.returns-then-length-eq2
returns-then-length-eq2 c =
    node_2 _ _ _ _ _ c.pass_byte.ensures _ c.in_ok-first.was _ c.pass_byte-2.ensures _ c.in_ok-second.was (omega (arith, c.length_of-length.ensures))

pub returns : goal.returns
returns c =
    node_3 _ _ _ _ _ c.pass_byte.ensures _ c.in_ok-first.was _ c.pass_byte-2.ensures _ c.in_ok-second.was
    (λ e. c.if-length-eq1.false (c.length_of-length.ensures ∙ e)) (λ e. c.if-length-eq2.false (c.length_of-length.ensures ∙ e)) _ c.pass_byte-3.ensures
