-- A step by a rule on an image in bytes: what a writer of the image after it needs, and that the calculus has this step.
use Rattle.std.specs.Prelude.{◌≡◌, cond, List, ℕ, ◌+◌, ◌≤◌, ◌<◌, eqb, length}
use Rattle.calculus.specs.Syntax.{Config}
use Rattle.calculus.specs.Owners.{grown, owner}
use Rattle.calculus.specs.Shares.{bay_components}
use Rattle.calculus.specs.Step.{rule, step_of}
use Rattle.calculus.specs.Image.{Closed, nodes, nodes_all}
use Rattle.calculus.specs.Limits.{max_nodes}
use Rattle.term.specs.Reader.{end_at, GoodAt}
use Rattle.term.specs.Expressions.{term_at}
use Rattle.term_redex.specs.declared.Meeting.{Meeting}
use Rattle.image_layout.specs.Slice.{names, offset_at, length_at}
use Rattle.image.specs.Configuration.{config_of, image_of, owned_of, owners_of}
use Rattle.step_rules.specs.declared.Move.{Move}
use Rattle.step_rules.specs.declared.Move.TheVariants.{Beta, ThreadNew, FutureDeref, HandleNew, HandleBind, CellNew, CellExch, CasePair, CaseList}
use Rattle.step_rules.specs.declared.Step.{Step}
use Rattle.step_rules.specs.Positions.{to_body, to_component}
use Rattle.step_rules.specs.Effects.{rule_of}
use Rattle.step_rules.specs.Moves.{carried, image_after, names_after, nodes_after}

-- a term that is counted: it is whole, and no larger than an image may be
pub record Counted (s : List ℕ) (at : ℕ) : Type 0 where
  pub good : GoodAt s at
  pub few : nodes (term_at s at) ≤ max_nodes

-- a value that is copied stands inside the image
pub record Copied (s : List ℕ) (from to : ℕ) : Type 0 where
  pub onward : from ≤ to
  pub inside : to ≤ length s

-- the components of what a case takes apart: the first ends where the second begins, at `rest`, and the second where the body begins
pub record Components (s : List ℕ) (m : Meeting) (rest : ℕ) : Type 0 where
  pub first : Counted s (m.at + to_component)
  pub first_ends : rest ≡ end_at s (m.at + to_component)
  pub first_closed : Closed 0 (term_at s (m.at + to_component))
  pub second : Counted s rest
  pub second_ends : m.second ≡ end_at s rest

-- the body of a lambda that is applied, which ends where the argument begins
pub record Body (s : List ℕ) (m : Meeting) : Type 0 where
  pub body : Counted s (m.at + to_body)
  pub body_ends : m.second ≡ end_at s (m.at + to_body)
  pub body_closed : Closed 1 (term_at s (m.at + to_body))

-- what a move has besides the place: the body of the lambda, the value that is copied, the components
abbrev pub Has : List ℕ → Meeting → Move → Type 0
Has s m Beta = Body s m
Has s m ThreadNew = Unit {0}
Has s m (FutureDeref from to) = Counted s from × Copied s from to
Has s m HandleNew = Unit {0}
Has s m (HandleBind handle future) = Unit {0}
Has s m CellNew = Unit {0}
Has s m (CellExch cell from to) = Counted s from × Copied s from to
Has s m (CasePair rest) = Components s m rest
Has s m (CaseList rest) = Components s m rest

-- what is inside the image, where: the thread's expression has the application or case from `at` to `end`, with its second subterm at the end of it
pub record Movable (s : List ℕ) (step : Step) : Type 0 where
  pub thread_below : step.thread < names s
  pub begins : offset_at s step.thread ≤ step.meeting.at
  pub second : step.meeting.at + 2 ≤ step.meeting.second
  pub third : step.meeting.second ≤ step.meeting.end
  pub ends : step.meeting.end ≤ offset_at s step.thread + length_at s step.thread
  pub inside : offset_at s step.thread + length_at s step.thread ≤ length s
  pub last : Counted s step.meeting.second
  pub last_ends : step.meeting.end ≡ end_at s step.meeting.second
  pub has : Has s step.meeting step.by

-- T-09: what of n nodes counts for bay k, where name y has them
abbrev pub owned_nodes : List ℕ → ℕ → ℕ → ℕ → ℕ
owned_nodes s k y n = cond (eqb (owner (owners_of s) y) k) n 0

-- how a step of thread x that leaves C' changes the nodes of each bay: all that come and go are its own bay's, but for what is carried into another name
pub record Carries (s : List ℕ) (x : ℕ) (step : Step) (C' : Config) : Type 0 where
  pub goer : step.thread ≡ x
  pub there : (carried s step).name < names s
  pub bays : (k : ℕ) →
      nodes_all (bay_components k (grown (owned_of s) x C')) + (owned_nodes s k x (nodes_all (config_of s) + (carried s step).gained) + owned_nodes s k (carried s step).name (carried s step).lost)
      ≡ nodes_all (bay_components k (owned_of s)) + (owned_nodes s k x (nodes_all C' + (carried s step).lost) + owned_nodes s k (carried s step).name (carried s step).gained)

-- thread x of the image s goes by this step: the calculus's is by that rule, and what it makes of the configuration is what the step makes of the image
pub record Stepped (s : List ℕ) (x : ℕ) (step : Step) : Type 0 where
  pub outcome : Config
  pub steps : step_of (config_of s) x ≡ rule (rule_of step.by) outcome
  pub written : image_after s step ≡ image_of (grown (owned_of s) x outcome)
  pub counted : nodes_all outcome ≡ nodes_after (nodes_all (config_of s)) s step
  pub named : length outcome ≡ names_after s step
  pub carries : Carries s x step outcome
  pub movable : Movable s step
