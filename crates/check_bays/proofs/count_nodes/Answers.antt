-- `check_bays::count_nodes` meets its contract. The loop's invariant: the parts passed are terms, and `total` is the sum of their nodes.
use mathlib.Core.Path.{◌∙◌, sym}
use native.Mathlib.Omega.{arith}
use Rattle.recipe_file.proofs.LaidOut.{laid_where}
use Rattle.check_bays.proofs.Counting.{counted_all, counted_next, counted_none, counted_not}
use Rattle.check_bays.proofs.count_nodes.Goals as goal

pub loop-bay-init : goal.loop-bay-init
loop-bay-init c = counted_none _

pub returns-in_err-nodes : goal.returns-in_err-nodes
returns-in_err-nodes c =
    rw c.from_residual.ensures (counted_not (laid_where _ c.args.recipe.laid) (omega arith) c.term-term.ensures c.args.recipe.said (sym c.in_err-nodes.was ∙ c.scan_part.ensures))

pub overflow_add-total : goal.overflow_add-total
overflow_add-total c =
    let next = counted_next (laid_where _ c.args.recipe.laid) (omega arith) c.term-term.ensures c.args.recipe.said _ c.loop-bay.invariant (sym c.in_ok-nodes.was ∙ c.scan_part.ensures) in
    omega (arith, next.bound, (laid_where c.args.recipe.bytes.now c.args.recipe.laid).has_parts.high)

pub loop-bay-preserved : goal.loop-bay-preserved
loop-bay-preserved c =
    counted_next (laid_where _ c.args.recipe.laid) (omega arith) c.term-term.ensures c.args.recipe.said _ c.loop-bay.invariant (sym c.in_ok-nodes.was ∙ c.scan_part.ensures)

pub returns : goal.returns
returns c = counted_all c.loop-bay.invariant (omega arith)
