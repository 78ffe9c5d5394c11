-- `recipe_table::read_table` meets its contract. The loop's invariant: the entries passed are in the table, and the rest of it is unused.
use mathlib.Core.Path.{◌∙◌, ap, refl}
use mathlib.Core.List.{List}
use Prim.Native.Nat.{◌*◌, ◌+◌}
use native.Mathlib.Omega.{arith}
use lib.ListN.{get_or, set}
use Rattle.calculus.specs.Table.{entry}
use Rattle.recipe_table.specs.declared.Entry.{Entry}
use Rattle.recipe_table.specs.Entries.{table_of}
use Rattle.recipe_table.specs.Filled.{by_value}
use Rattle.recipe_table.proofs.Arrays.{length_table_of, table_of_at, filled_none, filled_more, filled_all}
use Rattle.recipe_table.proofs.read_table.Goals as goal

pub loop-i-init : goal.loop-i-init
loop-i-init c = filled_none _

pub loop-i-preserved : goal.loop-i-preserved
loop-i-preserved c =
    let s = c.args.bytes.now in
    let i = c.loop-i.i in
    let n = length_table_of s in
    ap (λ (x : List Entry). set x i (by_value (entry (get_or s (3 * i) 0) (get_or s (3 * i + 1) 0) (get_or s (3 * i + 2) 0)))) c.loop-i.invariant
    ∙ filled_more (table_of s) i _ (omega arith) (omega arith) (ap by_value (table_of_at s i _ refl (omega arith)))

pub returns : goal.returns
returns c =
    let n = length_table_of c.args.bytes.now in
    c.loop-i.invariant ∙ filled_all _ _ (omega arith)
