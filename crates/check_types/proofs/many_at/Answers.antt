-- `check_types::many_at` meets its contract: where the entry is there, its kind decides.
use Rattle.std.proofs.Common.{ap, not, rules, ◌∙◌}
use Rattle.calculus.specs.Table as calculus
use Rattle.check_types.proofs.Entries.{bytes_many, bytes_none}
use Rattle.check_types.proofs.many_at.Goals as goal

pub returns-then-t-table : goal.returns-then-t-table
returns-then-t-table c =
    c.is_many.ensures
    ∙ ap (λ (x : calculus.Entry). not (calculus.is_once_kind x.kind)) c.entry_at.ensures
    ∙ bytes_many _ _ c.if-t-table.true

pub returns-else-t-table : goal.returns-else-t-table
returns-else-t-table c = rw (← bytes_none _ _ c.if-t-table.false) (search rules)
