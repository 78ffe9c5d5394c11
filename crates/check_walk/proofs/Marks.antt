-- The marks by their numbers.
use Rattle.std.proofs.Common.{◌≡◌, ap, List, ℕ, get_or, ◌∙◌}
use Rattle.std.proofs.Math.ListN.{get_or-map}
use Rattle.check_walk.specs.declared.Mark.{Mark}
use Rattle.check_walk.specs.declared.Mark.TheVariants.{Many}
use Rattle.check_walk.specs.Marks.{number_of, numbers}

pub at_level : (marks : List Mark) (level : ℕ) {m : Mark} → get_or marks level Many ≡ m → get_or (numbers marks) level 0 ≡ number_of m
at_level marks level e = get_or-map number_of marks level Many ∙ ap number_of e
