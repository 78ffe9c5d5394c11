-- `recipe_table::table_stands` meets its contract.
use mathlib.Core.Path.{◌∙◌}
use Prim.Native.Nat.{◌≤◌}
use native.Mathlib.Omega.{arith}
use lib.ListN.{length}
use Rattle.recipe_table.proofs.Rules.{entry_broken, table_kept}
use Rattle.recipe_table.proofs.table_stands.Goals as goal

pub returns-then-not-entries_stand : goal.returns-then-not-entries_stand
returns-then-not-entries_stand c =
    let inside : c.args.count ≤ length c.args.table = omega (arith, c.requires.high, c.well_formed.0.1) in
    entry_broken _ _ _ inside c.requires.low _ c.entries_stand.ensures c.if-not-entries_stand.true

pub returns : goal.returns
returns c =
    let inside : c.args.count ≤ length c.args.table = omega (arith, c.requires.high, c.well_formed.0.1) in
    c.first_stand.ensures ∙ table_kept _ _ _ inside c.requires.low _ c.entries_stand.ensures c.if-not-entries_stand.false
