-- What the causes already passed give, where a later one is tried.
use Rattle.std.specs.Prelude.{◌≡◌, true, List, ◌≤◌, ℕ}
use Rattle.calculus.specs.Lists.{each_below, sum_below}
use Rattle.calculus.specs.Limits.{max_recipe_nodes}
use Rattle.calculus.specs.Table.{TableRule}
use Rattle.recipe_file.specs.File.{bays}
use Rattle.recipe_file.specs.FileRule.{FileRule}
use Rattle.recipe_table.specs.Entries.{type_table}
use Rattle.check_bays.specs.Terms.{bay_single, bay_nodes}
use Rattle.check_bays.specs.Tests.{all_scoped, all_shallow}

-- no cause up to 5 fits, and the nodes are not above the limit
pub record Terms (s : List ℕ) : Type 0 where
  pub laid : FileRule s
  pub rule : TableRule (type_table s)
  pub single : each_below (bays s) (bay_single s) ≡ true
  pub few : sum_below (bays s) (bay_nodes s) ≤ max_recipe_nodes

-- no cause up to 7 fits
pub record ScopedTerms (s : List ℕ) : Type 0 where
  pub terms : Terms s
  pub shallow : all_shallow s ≡ true
  pub scope : all_scoped s ≡ true
