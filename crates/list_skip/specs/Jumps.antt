-- From one node that is tried to the next: what is passed over cannot stand.
use Rattle.std.specs.Prelude.{◌≡◌, ◌&&◌, cond, false, List, ◌*◌, ◌-◌, ◌<◌, ◌≤◌, ℕ, eqb, leb, length}
use Rattle.calculus.specs.Limits.{byte_values, max_term_nodes}
use Rattle.calculus.specs.Table.{Table}
use Rattle.term.specs.Forms.{cell_tag, lambda_tag, unit_tag}
use Rattle.list_spec.specs.Goals.{meets}
use Rattle.list_index.specs.Index.{bands, Chains, in_band}
use Rattle.list_place.specs.Places.{want_of}
use Rattle.list_place.specs.Candidates.{codes, leaf_room, MayStand}

-- from a number of a band to a higher one, at most to the end of the band
pub record NumberJump (T : Table) (spine want band number found : ℕ) : Type 0 where
  pub up : number < found
  pub within : found ≤ byte_values
  pub passed : (i : ℕ) → number < i → i < found → (meets T spine (want_of want) i && in_band T band i) ≡ false

-- what a chain says: 0 is none, and then all of the band is passed
unfoldable pub found_in : ℕ → ℕ
found_in n = cond (eqb n 0) byte_values n

-- a number of a band, with the chains of its table
pub record NumberAsked (T : Table) (chains : List ℕ) (band number : ℕ) : Type 0 where
  pub known : Chains T chains
  pub band_below : band < bands
  pub byte : number < byte_values

-- from a code to a higher one, at most to the end, whatever the types of the variables are
pub record Jump (T : Table) (depth spine want pending left code found : ℕ) : Type 0 where
  pub up : code < found
  pub within : found ≤ codes
  pub dead : (env : List ℕ) (i : ℕ) → code < i → i < found → MayStand T env depth spine want pending left i false

-- what is asked of a goal
pub record GoalAsked (T : Table) (depth pending left : ℕ) : Type 0 where
  pub few : depth ≤ max_term_nodes
  pub few_types : length T ≤ byte_values
  pub some_pending : 0 < pending
  pub enough : pending ≤ left

-- the same of a node with a type number, whatever the goal is
pub record JumpAt (T : Table) (spine want code found : ℕ) : Type 0 where
  pub at_goal : (depth pending left : ℕ) → GoalAsked T depth pending left → Jump T depth spine want pending left code found

-- where the codes of nodes without a type number end: of variables, and of applications
abbrev pub first_lambda : ℕ
first_lambda = lambda_tag * byte_values

abbrev pub first_unit : ℕ
first_unit = unit_tag * byte_values

abbrev pub first_constant : ℕ
first_constant = cell_tag * byte_values

unfoldable pub variables_end : ℕ → ℕ → ℕ
variables_end pending left = cond (leb left pending) first_unit first_lambda

unfoldable pub applications_end : ℕ → ℕ → ℕ
applications_end pending left = cond (leaf_room (left - 1) (pending - 1)) first_unit codes

-- from the code of a variable, of unit or of a num
pub record SmallJump (depth pending left code found : ℕ) : Type 0 where
  pub at_goal : (T : Table) (spine want : ℕ) → GoalAsked T depth pending left → Jump T depth spine want pending left code found
