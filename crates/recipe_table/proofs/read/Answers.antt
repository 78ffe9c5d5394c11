-- `recipe_table::read` meets its contract.
use mathlib.Core.Path.{◌∙◌, ap}
use Rattle.numbers.proofs.Refusals.{handed_on}
use Rattle.recipe_file.proofs.LaidOut.{laid_where}
use Rattle.recipe_table.specs.Entries.{table_refusal}
use Rattle.recipe_table.proofs.Tables.{count_between, layout_first, table_broken, table_sound}
use Rattle.recipe_table.proofs.read.Goals as goal

pub returns-in_err-recipe-clause-refusal : goal.returns-in_err-recipe-clause-refusal
returns-in_err-recipe-clause-refusal c = handed_on _ _ c.from_residual.ensures.1 ∙ layout_first _ _ c.in_err-recipe.ensures.refusal

pub table_stands-requires : goal.table_stands-requires
table_stands-requires c = let f = c.in_ok-recipe.recipe in rw c.entry_count.ensures (count_between (laid_where f.bytes.now f.laid))

pub returns-then-not-table_stands-clause-refusal : goal.returns-then-not-table_stands-clause-refusal
returns-then-not-table_stands-clause-refusal c =
    let f = c.in_ok-recipe.recipe in
    table_broken _ _ f.said f.laid _ c.table_in.ensures _ c.entry_count.ensures _ c.table_stands.ensures c.if-not-table_stands.true
    ∙ ap table_refusal c.in_ok-recipe.ensures.file

pub returns-clause-refusal : goal.returns-clause-refusal
returns-clause-refusal c =
    let f = c.in_ok-recipe.recipe in
    table_sound _ _ f.said f.laid _ c.table_in.ensures _ c.entry_count.ensures _ c.table_stands.ensures c.if-not-table_stands.false
    ∙ ap table_refusal c.in_ok-recipe.ensures.file
