-- `list_place::is_met` meets its contract: one application after the other (proofs/Meeting.antt).
use Rattle.std.proofs.Common.{arith, rules, sym, ◌∙◌}
use Rattle.list_place.proofs.Meeting.{asked_any, asked_first, asked_is, asked_next, asked_none}
use Rattle.list_place.proofs.is_met.Goals as goal

pub loop-k-init : goal.loop-k-init
loop-k-init c = asked_first _ _ _ _ (search rules) _ (omega arith)

pub overflow_cast-t : goal.overflow_cast-t
overflow_cast-t c = omega (arith, c.loop-k.invariant.byte)

pub entry_at-entry-requires : goal.entry_at-entry-requires
entry_at-entry-requires c = c.loop-k.invariant.byte

pub returns-then-not-is_function : goal.returns-then-not-is_function
returns-then-not-is_function c = asked_none _ _ _ _ _ _ c.loop-k.invariant _ (omega arith) c.entry_at-entry.ensures (sym c.is_function.ensures ∙ c.if-not-is_function.true)

pub loop-k-preserved : goal.loop-k-preserved
loop-k-preserved c = asked_next _ _ _ _ _ _ c.loop-k.invariant _ (omega arith) c.entry_at-entry.ensures (sym c.is_function.ensures ∙ c.if-not-is_function.false) (search rules) _ (omega arith)

pub overflow_cast-t-then-want-eq-ANY : goal.overflow_cast-t-then-want-eq-ANY
overflow_cast-t-then-want-eq-ANY c = omega (arith, c.loop-k.invariant.byte)

pub many_at-requires : goal.many_at-requires
many_at-requires c = c.loop-k.invariant.byte

pub returns-then-want-eq-ANY : goal.returns-then-want-eq-ANY
returns-then-want-eq-ANY c = c.many_at.ensures ∙ asked_any _ _ _ _ _ _ c.loop-k.invariant (omega arith) c.if-want-eq-ANY.true

pub overflow_cast-result : goal.overflow_cast-result
overflow_cast-result c = omega (arith, c.loop-k.invariant.byte)

pub returns : goal.returns
returns c = asked_is _ _ _ _ _ _ c.loop-k.invariant (omega arith) c.if-want-eq-ANY.false
