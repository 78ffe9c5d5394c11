-- `recipe_file::layout_breaks` meets its contract.
use mathlib.Core.Path.{◌∙◌, ap}
use mathlib.Core.Bool.{not}
use native.Mathlib.Omega.{arith}
use Rattle.recipe_file.proofs.Causes.{cut, pairs_broken, pairs_kept}
use Rattle.recipe_file.proofs.layout_breaks.Goals as goal

pub returns-then-recipe-pair_offset : goal.returns-then-recipe-pair_offset
returns-then-recipe-pair_offset c = cut _ _ c.wide-n.ensures.0 (omega arith)

pub returns-then-not-pairs_stand : goal.returns-then-not-pairs_stand
returns-then-not-pairs_stand c = pairs_broken _ _ c.wide-n.ensures.0 _ c.pairs_stand.ensures c.if-not-pairs_stand.true

pub returns : goal.returns
returns c =
    ap not c.table_length_stands.ensures
    ∙ pairs_kept _ _ c.wide-n.ensures.0 _ c.pairs_stand.ensures c.if-not-pairs_stand.false _ c.length_of.ensures.0
