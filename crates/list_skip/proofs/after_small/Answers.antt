-- `list_skip::after_small` meets its contract (proofs/Codes.antt).
use Rattle.list_skip.proofs.Codes.{not_lower, one_code, past_small, past_variables}
use Rattle.list_skip.proofs.after_small.Goals as goal

pub returns-then-arg-bound_of : goal.returns-then-arg-bound_of
returns-then-arg-bound_of c = one_code _ _ _ _ c.requires.0

pub returns-then-tag-eq-VARIABLE : goal.returns-then-tag-eq-VARIABLE
returns-then-tag-eq-VARIABLE c = rw c.after_variables.ensures (past_variables _ _ _ _ c.if-tag-eq-VARIABLE.true (rw (← c.bound_of.ensures) c.if-arg-bound_of.false))

pub returns : goal.returns
returns c =
    let p = c.requires in
    past_small _ _ _ _ p.0 (not_lower _ c.if-tag-eq-VARIABLE.false p.1.0 p.1.1) (rw (← c.bound_of.ensures) c.if-arg-bound_of.false)
