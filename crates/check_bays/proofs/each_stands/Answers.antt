-- `check_bays::each_stands` meets its contract. The loop's invariant: the parts passed stand, and `total` is the sum of their nodes.
use mathlib.Core.Path.{◌∙◌, ap, sym}
use mathlib.Core.List.{List}
use Prim.Native.Nat.{ℕ}
use native.Mathlib.Omega.{arith}
use lib.ListN.{length}
use Rattle.recipe_table.specs.Entries.{table_of, type_table}
use Rattle.recipe_table.proofs.Tables.{count_between}
use Rattle.recipe_file.proofs.LaidOut.{laid_where}
use Rattle.check_bays.proofs.Standing.{stood_all, stood_next, stood_none, stood_not}
use Rattle.check_bays.proofs.each_stands.Goals as goal

pub loop-bay-init : goal.loop-bay-init
loop-bay-init c = stood_none _

pub glance-requires : goal.glance-requires
unfolding type_table
glance-requires c = omega (arith, ap (λ (t : List ℕ). length (table_of t)) c.table-table.ensures, (count_between (laid_where c.args.recipe.bytes.now c.args.recipe.laid)).high)

pub returns-in_default : goal.returns-in_default
returns-in_default c =
    stood_not (laid_where _ c.args.recipe.laid) (omega (arith, c.bays-bays.ensures)) c.term-term.ensures c.table-table.ensures c.bays-bays.ensures c.args.recipe.said
    (sym c.in_default.is ∙ c.glance.ensures)

pub overflow_add-total : goal.overflow_add-total
overflow_add-total c =
    let next = stood_next (laid_where _ c.args.recipe.laid) (omega (arith, c.bays-bays.ensures)) c.term-term.ensures c.table-table.ensures c.bays-bays.ensures c.args.recipe.said
    _ c.loop-bay.invariant (sym c.in-Some.is ∙ c.glance.ensures) in
    omega (arith, next.counted.bound, (laid_where c.args.recipe.bytes.now c.args.recipe.laid).has_parts.high)

pub loop-bay-preserved : goal.loop-bay-preserved
loop-bay-preserved c =
    stood_next (laid_where _ c.args.recipe.laid) (omega (arith, c.bays-bays.ensures)) c.term-term.ensures c.table-table.ensures c.bays-bays.ensures c.args.recipe.said
    _ c.loop-bay.invariant (sym c.in-Some.is ∙ c.glance.ensures)

pub returns : goal.returns
returns c = stood_all c.loop-bay.invariant (omega (arith, c.bays-bays.ensures))
