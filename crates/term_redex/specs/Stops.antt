-- Fig. 3, "evaluated left to right": what a search of a term comes to. Where the term is a value, what stands to its right decides.
use Rattle.std.specs.Prelude.{◌≡◌, Bool, false, true, List, ◌≤◌, ℕ, Some, Option, None}
use Rattle.calculus.specs.Step.{on_place, place}
use Rattle.calculus.specs.Step as step
use Rattle.calculus.specs.Image.{Closed, is_settled}
use Rattle.term.specs.declared.Node.{Node}
use Rattle.term.specs.Reader.{end_at, GoodAt, node_at}
use Rattle.term.specs.Expressions.{term_at}
use Rattle.term_redex.specs.declared.Meeting.{Meeting}
use Rattle.term_redex.specs.declared.Stop.{Stop}
use Rattle.term_redex.specs.declared.Stop.TheVariants.{At, Past}
use Rattle.term_redex.specs.Shapes.{is_stop}
use Rattle.term_redex.specs.Places.{meeting_of, place_of}

-- what comes of a place: the meeting; where a variable is in the way, `stuck`; of a value, what stands to its right decides
unfoldable pub first_of : {A : Type 0} → (Meeting → A) → A → ℕ → step.Place → A → A
first_of meets stuck base p rest = on_place p rest stuck λ F r d. meets (meeting_of base F d)

-- a term at a position whose root has this tag
pub record TaggedAt (l : List ℕ) (at tag : ℕ) : Type 0 where
  pub good : GoodAt l at
  pub node : Node
  pub is : node_at l at ≡ Some node
  pub tagged : node.tag ≡ tag

-- where a search of a term stops: its place is that of the term there, which is no value
pub record StopsAt (l : List ℕ) (at here : ℕ) : Type 0 where
  pub good : GoodAt l here
  pub onward : at ≤ here
  pub stop : is_stop (term_at l here) ≡ true
  pub same : (rest : Option Meeting) → first_of Some None at (place (term_at l at)) rest ≡ place_of here (place (term_at l here))
  pub no_value : is_settled (place (term_at l at)) ≡ false
  pub closed : Closed 0 (term_at l at) → Closed 0 (term_at l here)

-- what such a search answers: of a value, where it ends
pub data Stopped (l : List ℕ) (at : ℕ) : Stop → Type 0 where
  passed : is_settled (place (term_at l at)) ≡ true → Stopped l at (Past (end_at l at))
  stopped : {here : ℕ} → StopsAt l at here → Stopped l at (At here)

-- what it answers of a stop's second subterm, by whether the stop is a case
pub data StoppedBeside (l : List ℕ) (second : ℕ) : Bool → Stop → Type 0 where
  body : StoppedBeside l second true (Past (end_at l second))
  argument : {r : Stop} → Stopped l second r → StoppedBeside l second false r
