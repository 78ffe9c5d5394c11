-- The marks as the pass of cause 10 numbers them.
use Rattle.std.specs.Prelude.{List, map, ℕ}
use Rattle.check_linearity.specs.Spend.{due_mark, many_mark, spent_mark}
use Rattle.check_walk.specs.declared.Mark.{Mark}
use Rattle.check_walk.specs.declared.Mark.TheVariants.{Due, Many, Spent}

abbrev pub number_of : Mark → ℕ
number_of Many = many_mark
number_of Due = due_mark
number_of Spent = spent_mark

abbrev pub numbers : List Mark → List ℕ
numbers marks = map number_of marks
