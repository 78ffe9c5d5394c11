-- `check_bays::types_of` meets its contract. The loop's invariant: the bays passed have types, and their numbers stand in the array.
use mathlib.Core.Path.{◌∙◌, ap, refl}
use mathlib.Core.List.{List}
use Prim.Native.Nat.{ℕ}
use native.Mathlib.Omega.{arith}
use Rattle.calculus.specs.Table.{is_many}
use Rattle.recipe_table.specs.Entries.{table_of, type_table}
use Rattle.check_bays.proofs.Typing.{typing_all, typing_next, typing_none, typing_not}
use Rattle.check_bays.proofs.types_of.Goals as goal

pub loop-bay-init : goal.loop-bay-init
loop-bay-init c = typing_none _

pub walk_bay-requires : goal.walk_bay-requires
walk_bay-requires c = (c.requires, omega arith)

pub returns-in_err-walked : goal.returns-in_err-walked
returns-in_err-walked c = rw c.from_residual.ensures (typing_not _ c.loop-bay.bay (omega arith) c.walk_bay.ensures c.in_err-walked.was)

pub bounds-numbers-bay : goal.bounds-numbers-bay
bounds-numbers-bay c = omega (arith, c.requires.terms.laid.has_parts.high)

pub loop-bay-preserved : goal.loop-bay-preserved
unfolding type_table
loop-bay-preserved c =
    typing_next _ c.loop-bay.bay (omega arith) c.walk_bay.ensures _ _ _ _ _ _ c.loop-bay.invariant c.in_ok-walked.was
    (c.many_at-many.ensures ∙ ap (λ (t : List ℕ). is_many (table_of t) c.in_ok-walked.walked.number) c.table-table.ensures) refl refl

pub returns : goal.returns
returns c = typing_all c.loop-bay.invariant (omega arith)
