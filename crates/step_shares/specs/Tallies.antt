-- What each bay owns, and what a step changes of it, in numbers.
use Rattle.std.specs.Prelude.{◌≡◌, cond, ◌+◌, ◌<◌, ◌≤◌, ℕ, eqb, get_or, length}
use Rattle.calculus.specs.Limits.{max_bays, max_names, max_nodes}
use Rattle.calculus.specs.Owners.{Owned}
use Rattle.calculus.specs.Image.{nodes_all}
use Rattle.calculus.specs.Shares.{bay_components}
use Rattle.step_shares.specs.declared.Flow.{Flow}
use Rattle.step_shares.specs.declared.Tally.{Tally}

-- the names and nodes of each bay that an image may have
pub record Tallied (I : Owned) (tally : Tally) : Type 0 where
  pub names_long : length tally.names ≡ max_bays
  pub nodes_long : length tally.nodes ≡ max_bays
  pub names_are : (k : ℕ) → k < max_bays → get_or tally.names k 0 ≡ length (bay_components k I)
  pub nodes_are : (k : ℕ) → k < max_bays → get_or tally.nodes k 0 ≡ nodes_all (bay_components k I)
  pub few_names : (k : ℕ) → k < max_bays → get_or tally.names k 0 ≤ max_names
  pub few_nodes : (k : ℕ) → k < max_bays → get_or tally.nodes k 0 ≤ max_nodes

-- what comes to bay k, and what goes from it
unfoldable pub names_to : Flow → ℕ → ℕ
names_to c k = cond (eqb c.own k) c.new 0

unfoldable pub nodes_to : Flow → ℕ → ℕ
nodes_to c k = cond (eqb c.own k) c.come 0 + cond (eqb c.other k) c.gained 0

unfoldable pub nodes_from : Flow → ℕ → ℕ
nodes_from c k = cond (eqb c.own k) c.gone 0 + cond (eqb c.other k) c.lost 0

-- that is how I becomes I'
pub record Changed (I I' : Owned) (c : Flow) : Type 0 where
  pub names : (k : ℕ) → length (bay_components k I') ≡ length (bay_components k I) + names_to c k
  pub nodes : (k : ℕ) → nodes_all (bay_components k I') + nodes_from c k ≡ nodes_all (bay_components k I) + nodes_to c k

-- numbers that can be added up
pub record Few (c : Flow) : Type 0 where
  pub new : c.new ≤ max_names
  pub come : c.come ≤ max_nodes + max_nodes
  pub gone : c.gone ≤ max_nodes + max_nodes
  pub gained : c.gained ≤ max_nodes
  pub lost : c.lost ≤ max_nodes
