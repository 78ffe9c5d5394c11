-- The terms that are still to come, from the arrays of a place.
use Rattle.std.specs.Prelude.{◌≡◌, cond, true, List, [], ◌∷◌, ◌+◌, ◌<◌, ◌≤◌, suc, zero, ℕ, eqb, get_or, length}
use Rattle.std.proofs.Math.Option.{Option, none, some}
use Rattle.calculus.specs.Limits.{byte_values}
use Rattle.calculus.specs.Table.{Table}
use Rattle.check_types.specs.Walk.{environment}
use Rattle.list_spec.specs.Goals.{arguments, Goal, goal, meets, State, state}
use Rattle.list_place.specs.declared.Place.{Place}

-- in place of a type's number: any type of multiplicity many
abbrev pub any_type : ℕ
any_type = byte_values

unfoldable pub want_of : ℕ → Option ℕ
want_of w = cond (eqb w any_type) none (some w)

-- the first n terms to come of the arrays, the last of them in front
unfoldable pub goals_of : List ℕ → List ℕ → List ℕ → ℕ → List Goal
goals_of wants depths env zero = []
goals_of wants depths env (suc n) = goal (want_of (get_or wants n 0)) (environment (get_or depths n 0) env) ∷ goals_of wants depths env n

-- what a place says is to come
unfoldable pub state_of : Place → State
state_of x = state x.spine (goals_of x.wants x.depths x.env x.goals)

-- `spine` arguments of a function of type t are put behind the first `goals` terms to come, whatever the types of the variables are
pub record Pushed (T : Table) (wants depths : List ℕ) (goals spine t depth : ℕ) (wants' depths' : List ℕ) (top : ℕ) : Type 0 where
  pub long : top ≡ goals + spine
  pub wide : length wants' ≡ length wants
  pub broad : length depths' ≡ length depths
  pub below : (i : ℕ) → i < goals → get_or depths' i 0 ≡ get_or depths i 0
  pub above : (i : ℕ) → goals ≤ i → i < top → get_or depths' i 0 ≡ depth
  pub arguments : (want : Option ℕ) → meets T spine want t ≡ true → (env : List ℕ) → goals_of wants' depths' env top ≡ arguments T spine t (environment depth env) (goals_of wants depths env goals)
