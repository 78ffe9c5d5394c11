-- The nodes that are tried at a place, one number for each, in ascending order of their bytes.
use Rattle.std.specs.Prelude.{◌≡◌, Bool, ◌&&◌, ◌||◌, cond, false, true, List, ◌%◌, ◌*◌, ◌+◌, ◌-◌, ◌/◌, ◌<◌, ◌≤◌, suc, ℕ, eqb, leb, ltb, get_or, length}
use Rattle.std.proofs.Math.Option.{Option, none, some}
use Rattle.calculus.specs.Limits.{byte_values, max_term_nodes}
use Rattle.calculus.specs.Options.{on_some}
use Rattle.calculus.specs.Table.{Table}
use Rattle.calculus.specs.Verdict.{annotated, is_function_kind}
use Rattle.term.specs.Forms.{name_tag, num_tag, unit_tag, variable_tag}
use Rattle.term.specs.Tree.{HasForm}
use Rattle.term.specs.Expressions.{leaf_exp}
use Rattle.check_types.specs.Entries.{entry_of}
use Rattle.check_types.specs.Walk.{environment}
use Rattle.list_spec.specs.Listed.{small_nums}
use Rattle.list_spec.specs.Goals.{bounds, enter, Goal, goal, head, Head, may_use, meets, room, State, useful}
use Rattle.list_index.specs.Index.{Constants}
use Rattle.list_place.specs.declared.Place.{Place}
use Rattle.list_place.specs.Places.{goals_of, state_of, want_of}

-- a node in one number: its tag, and behind it the number after the tag
abbrev pub tag_in : ℕ → ℕ
tag_in code = code / byte_values

abbrev pub arg_in : ℕ → ℕ
arg_in code = code % byte_values

-- behind the last of them, name
abbrev pub codes : ℕ
codes = (name_tag + 1) * byte_values

-- what is to come behind a node with r nodes left, if it may stand at the first goal g
unfoldable pub behind : Table → ℕ → ℕ → Goal → List Goal → Head → Option State
behind T r k g goals h = on_some (enter T k g goals h) λ s. cond (room r s && useful T r k goals h) (some s) none

-- the same of a code, if its node is one of those that are tried
unfoldable pub candidate : Table → ℕ → ℕ → Goal → List Goal → ℕ → Option State
candidate T r k g goals code = cond (ltb (arg_in code) (get_or (bounds (length g.env) (length T)) (tag_in code) 0)) (behind T r k g goals (head (tag_in code) (arg_in code))) none

-- there is one
abbrev pub has : {A : Type 0} → Option A → Bool
has none = false
has (some x) = true

-- the constant of a tag and a number is one of them; what is no constant is asked nothing
pub record Annotated (constants : List Bool) (tag arg : ℕ) (r : Bool) : Type 0 where
  pub answers : (T : Table) → Constants T constants → tag ≤ name_tag → r ≡ annotated T (leaf_exp tag arg)

-- how many numbers are tried after the tag of a leaf; of a constant, all that a byte says
unfoldable pub leaf_bound : ℕ → ℕ → ℕ
leaf_bound tag depth = cond (eqb tag variable_tag) depth (cond (eqb tag num_tag) small_nums (cond (eqb tag unit_tag) 1 (cond (eqb tag name_tag) 1 byte_values)))

-- each of n terms to come has one of r nodes, and where none is to come no node is left
abbrev pub leaf_room : ℕ → ℕ → Bool
leaf_room r n = leb n r && (eqb r 0 || ltb 0 n)

-- a leaf's code
pub record LeafAsked (T : Table) (constants : List Bool) (depth code : ℕ) : Type 0 where
  pub few : depth ≤ max_term_nodes
  pub few_types : length T ≤ byte_values
  pub known : Constants T constants
  pub form : HasForm (tag_in code) 0
  pub first_forms : tag_in code ≤ name_tag

-- it may stand at a goal, where there is room for it, whatever the other goals are
pub record LeafStands (T : Table) (env : List ℕ) (depth spine want code : ℕ) (r : Bool) : Type 0 where
  pub answers : (nodes : ℕ) (rest : List Goal) → leaf_room nodes (spine + length rest) ≡ true
      → r ≡ has (candidate T nodes spine (goal (want_of want) (environment depth env)) rest code)

-- a lambda's type is a function, and what is wanted, and its parameter may be used in a body of so many nodes
unfoldable pub lambda_stands : Table → ℕ → ℕ → ℕ → ℕ → Bool
lambda_stands T spine want t nodes = is_function_kind (entry_of T t).kind && (meets T spine (want_of want) t && may_use T (entry_of T t).p (entry_of T t).q nodes)

-- any code, with `pending` terms to come and `left` nodes left
pub record Asked (T : Table) (constants : List Bool) (depth pending left code : ℕ) : Type 0 where
  pub few : depth ≤ max_term_nodes
  pub few_types : length T ≤ byte_values
  pub known : Constants T constants
  pub below : code < codes
  pub some_pending : 0 < pending
  pub enough : pending ≤ left
  pub few_nodes : left ≤ max_term_nodes

-- it may stand at a goal, whatever the other goals are
pub record MayStand (T : Table) (env : List ℕ) (depth spine want pending left code : ℕ) (r : Bool) : Type 0 where
  pub answers : (rest : List Goal) → spine + suc (length rest) ≡ pending
      → r ≡ has (candidate T (left - 1) spine (goal (want_of want) (environment depth env)) rest code)

-- what a place that can be gone on from keeps: each term to come has a node, arrays have room, and a term has no fewer variables in scope than those behind it
pub record Fits (x : Place) (left : ℕ) : Type 0 where
  pub wide : length x.wants ≡ max_term_nodes
  pub broad : length x.depths ≡ max_term_nodes
  pub long : length x.env ≡ max_term_nodes
  pub few : left ≤ max_term_nodes
  pub enough : x.spine + x.goals ≤ left
  pub some_goal : 0 < left → 0 < x.goals
  pub shallow : (i : ℕ) → i < x.goals → get_or x.depths i 0 + left ≤ max_term_nodes
  pub sorted : (i j : ℕ) → i ≤ j → j < x.goals → get_or x.depths i 0 ≤ get_or x.depths j 0

-- the goal at which the next node stands, and those behind it
abbrev pub first_goal : Place → Goal
first_goal x = goal (want_of (get_or x.wants (x.goals - 1) 0)) (environment (get_or x.depths (x.goals - 1) 0) x.env)

abbrev pub other_goals : Place → List Goal
other_goals x = goals_of x.wants x.depths x.env (x.goals - 1)

-- the node of a code at a place, with `left` nodes left
abbrev pub next_at : Table → ℕ → Place → ℕ → Option State
next_at T left x code = candidate T (left - 1) x.spine (first_goal x) (other_goals x) code

-- the node of a code may stand at a place
pub record Enters (T : Table) (x : Place) (code : ℕ) : Type 0 where
  pub below : code < codes
  pub left : ℕ
  pub some_left : 0 < left
  pub fits : Fits x left
  pub few_types : length T ≤ byte_values
  pub may : has (next_at T left x code) ≡ true

-- an application is opened: nothing else changes
pub record SpineSmall (x : Place) : Type 0 where
  pub small : x.spine < max_term_nodes

pub record Opens (x y : Place) : Type 0 where
  pub same_wants : y.wants ≡ x.wants
  pub same_depths : y.depths ≡ x.depths
  pub same_env : y.env ≡ x.env
  pub same_goals : y.goals ≡ x.goals
  pub more : y.spine ≡ suc x.spine

-- the place behind it
pub record Entered (T : Table) (x : Place) (code : ℕ) (y : Place) : Type 0 where
  pub behind : (left : ℕ) → 0 < left → Fits x left → has (next_at T left x code) ≡ true → (next_at T left x code ≡ some (state_of y)) × Fits y (left - 1)
