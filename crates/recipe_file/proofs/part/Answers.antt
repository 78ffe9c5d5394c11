-- `recipe_file::part` meets its contract.
use native.Mathlib.Nat.{add-sub_cancel_left}
use native.Mathlib.Omega.{arith}
use Rattle.recipe_file.specs.File.{part}
use Rattle.recipe_file.proofs.Inside.{few_parts, pairs_inside, part_inside}
use Rattle.recipe_file.proofs.part.Goals as goal

pub offset_of-start-requires : goal.offset_of-start-requires
offset_of-start-requires c = let h = c.requires in omega (arith, pairs_inside h.laid, few_parts h.laid, h.below)

pub length_of-size-requires : goal.length_of-size-requires
length_of-size-requires c = let h = c.requires in omega (arith, pairs_inside h.laid, few_parts h.laid, h.below)

pub slice_bounds-result-end : goal.slice_bounds-result-end
slice_bounds-result-end c = omega (arith, part_inside c.requires)

pub returns : goal.returns
unfolding part
returns c = simp (add-sub_cancel_left, c.offset_of-start.ensures.0, c.length_of-size.ensures.0)
