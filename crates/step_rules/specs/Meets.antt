-- The meeting of values in a thread of an image, and the steps that begin with it.
use Rattle.std.specs.Prelude.{◌≡◌, true, List, ℕ, ◌+◌, Some}
use Rattle.std.proofs.Math.Option.{some}
use Rattle.calculus.specs.Bytes.{Bytes}
use Rattle.calculus.specs.Syntax.{Exp, Shape, pair, list, at, thread_of}
use Rattle.calculus.specs.Reduction.{Context, plug}
use Rattle.calculus.specs.Step.{Redex, step_of, step_redex, place}
use Rattle.calculus.specs.Image.{size}
use Rattle.term.specs.Expressions.{term_at}
use Rattle.image_layout.specs.Slice.{offset_at, length_at}
use Rattle.image.specs.Configuration.{config_of}
use Rattle.image.specs.Stands.{image_stands}
use Rattle.term_redex.specs.declared.Meeting.{Meeting}
use Rattle.term_redex.specs.Places.{place_of}
use Rattle.term_redex.proofs.Meetings.{MeetingAt}
use Rattle.step_rules.specs.declared.Move.{Move}
use Rattle.step_rules.specs.declared.Move.TheVariants.{FutureDeref, CellExch, CasePair, CaseList}
use Rattle.step_rules.specs.declared.Step.{Step}

-- the step of thread x by a move at a meeting
abbrev pub step_at : ℕ → Meeting → Move → Step
step_at x m by = record { thread = x; meeting = m; by = by }

-- the moves that copy the value of thread y, and of cell y
abbrev pub dereferenced : List ℕ → ℕ → Move
dereferenced s y = FutureDeref (offset_at s y) (offset_at s y + length_at s y)

abbrev pub exchanged : List ℕ → ℕ → Move
exchanged s y = CellExch y (offset_at s y) (offset_at s y + length_at s y)

-- the move that takes a pair or list front apart whose second component stands at `rest`
abbrev pub taking : Shape → ℕ → Move
taking pair rest = CasePair rest
taking list rest = CaseList rest

-- what is asked before a step is decided: 13 and 14 do not fit, and the search has answered this meeting
pub record Deciding (s : List ℕ) (x : ℕ) (m : Meeting) : Type 0 where
  pub stands : image_stands s ≡ true
  pub expression : Exp
  pub thread : at (config_of s) x ≡ some (thread_of expression)
  pub found : place_of (offset_at s x) (place (term_at s (offset_at s x))) ≡ Some m

-- in thread x of the image s values meet in r, in the context F, at the meeting m
pub record MeetsAt (s : List ℕ) (x : ℕ) (m : Meeting) (F : Context) {r : Exp} (d : Redex r) : Type 0 where
  pub in_bytes : Bytes s
  pub stands : image_stands s ≡ true
  pub thread : at (config_of s) x ≡ some (thread_of (plug F r))
  pub steps : step_of (config_of s) x ≡ step_redex (config_of s) x F d
  pub placed : MeetingAt s (offset_at s x) (plug F r) m F d
  pub long : length_at s x ≡ size (plug F r)
