-- Document 02, T-09, "Each bay has its own limit: 4,096 divided by b nodes and 256 divided by b names, rounded down, counted over what it owns".
use Rattle.std.specs.Prelude.{Bool, ◌&&◌, cond, List, [], ◌∷◌, ◌/◌, ◌<◌, ◌≤◌, max, suc, ℕ, eqb, leb, length}
use Rattle.calculus.specs.Syntax.{Config}
use Rattle.calculus.specs.Limits.{max_names, max_nodes}
use Rattle.calculus.specs.Lists.{each_below}
use Rattle.calculus.specs.Image.{nodes_all}
use Rattle.calculus.specs.Owners.{Owners, Owned}

-- what stands at the places that bay k owns, in ascending order
unfoldable pub of_bay : {A : Type 0} → ℕ → Owners → List A → List A
of_bay k [] l = []
of_bay k (o ∷ O) [] = []
of_bay k (o ∷ O) (a ∷ l) = cond (eqb o k) (a ∷ of_bay k O l) (of_bay k O l)

-- "what it owns": the components of bay k's names
abbrev pub bay_components : ℕ → Owned → Config
bay_components k I = of_bay k I.owners I.config

-- "The stepper takes b as one more than the highest owner in the image"
unfoldable pub bays_in : Owners → ℕ
bays_in [] = 0
bays_in (o ∷ O) = max (suc o) (bays_in O)

-- "4,096 divided by b nodes and 256 divided by b names, rounded down"
abbrev pub names_share : ℕ → ℕ
names_share b = max_names / b

abbrev pub nodes_share : ℕ → ℕ
nodes_share b = max_nodes / b

-- bay k is not above its share, there being b bays
pub record Share (b : ℕ) (I : Owned) (k : ℕ) : Type 0 where
  pub few_names : length (bay_components k I) ≤ names_share b
  pub few_nodes : nodes_all (bay_components k I) ≤ nodes_share b

-- no bay is
abbrev pub WithinShares : ℕ → Owned → Type 0
WithinShares b I = (k : ℕ) → k < b → Share b I k

-- the same as a test that computes (Theory.Shares, `shares_test_iff`)
unfoldable pub share_test : ℕ → Owned → ℕ → Bool
share_test b I k = leb (length (bay_components k I)) (names_share b) && leb (nodes_all (bay_components k I)) (nodes_share b)

unfoldable pub shares_test : ℕ → Owned → Bool
shares_test b I = each_below b (share_test b I)
