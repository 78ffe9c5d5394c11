-- Document 01, cause 5, "a part is not exactly one term", with the nodes of all terms.
use Rattle.std.specs.Prelude.{Bool, cond, List, ℕ, Option, None, Some}
use Rattle.calculus.specs.Lists.{each_below, sum_below}
use Rattle.calculus.specs.Image.{nodes}
use Rattle.term.specs.Reader.{one_term}
use Rattle.recipe_file.specs.File.{bays}
use Rattle.check_spec.specs.Bays.{bay_reading, bay_term}

-- the part of a bay is one term
unfoldable pub bay_single : List ℕ → ℕ → Bool
bay_single s bay = one_term (bay_reading s bay)

-- the nodes of a bay's term
unfoldable pub bay_nodes : List ℕ → ℕ → ℕ
bay_nodes s bay = nodes (bay_term s bay)

-- the nodes of all terms, or that a part is no term
unfoldable pub nodes_in : List ℕ → Option ℕ
nodes_in s = cond (each_below (bays s) (bay_single s)) (Some (sum_below (bays s) (bay_nodes s))) None
