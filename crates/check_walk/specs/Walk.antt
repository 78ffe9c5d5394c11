-- The walk over a term at a position, what it asks and what it answers: document 01's causes 9 and 10.
use Rattle.std.specs.Prelude.{None, Option, Some, ◌≡◌, Bool, ◌&&◌, not, true, List, [], ◌*◌, ◌+◌, ◌<◌, ◌≤◌, suc, zero, ℕ, eqb, get_or, length}
use Rattle.std.proofs.Math.Option.{some}
use Rattle.calculus.specs.Limits.{max_entries, max_nesting, max_variables}
use Rattle.calculus.specs.Table.{Entry, Table}
use Rattle.calculus.specs.Verdict as calculus
use Rattle.term.specs.Forms.{variable_tag}
use Rattle.term.specs.Reader.{GoodAt}
use Rattle.term.specs.Expressions.{leaf_exp, nesting, term_at}
use Rattle.check_linearity.specs.Spend.{due_mark, new_mark}
use Rattle.check_linearity.specs.Levels.{LinearWalk}
use Rattle.check_types.specs.declared.Typed.{Typed}
use Rattle.check_types.specs.Two.{opened, two_number}
use Rattle.check_types.specs.Walk.{environment, has, typed, typed_at}
use Rattle.check_walk.specs.declared.Walked.{Walked}

-- a term stands at a position, with `above` variables in scope whose marks are there; causes 6 and 7 do not fit it
pub record WalkReady (s : List ℕ) (at above floor : ℕ) (env marks : List ℕ) : Type 0 where
  pub good : GoodAt s at
  pub shallow : above + 2 * nesting (term_at s at) ≤ max_variables
  pub types : ℕ
  pub few : types ≤ max_entries
  pub names : ℕ
  pub scope : calculus.scoped types names above (term_at s at) ≡ true
  pub low : floor ≤ above
  pub wide : length env ≡ max_variables
  pub long : length marks ≡ max_variables

-- the same of a part that is one term
pub record Whole (s : List ℕ) : Type 0 where
  pub good : GoodAt s 0
  pub shallow : nesting (term_at s 0) ≤ max_nesting
  pub types : ℕ
  pub few : types ≤ max_entries
  pub names : ℕ
  pub scope : calculus.scoped types names 0 (term_at s 0) ≡ true

-- a node with no subterm: a variable is one of the `above`
pub record InScope (tag arg above : ℕ) (marks : List ℕ) : Type 0 where
  pub bound : tag ≡ variable_tag → arg < above
  pub room : above ≤ max_variables
  pub long : length marks ≡ max_variables

-- what it makes of the marks, with any table and any types of the variables
pub record LeafSpent (tag arg above floor : ℕ) (marks marks' : List ℕ) (keeps : Bool) : Type 0 where
  pub walked : (T : Table) (Δ : List ℕ) → LinearWalk T Δ floor above marks (leaf_exp tag arg) keeps marks'
  pub same : length marks' ≡ length marks

-- the walk answers a type, where the term ends, and whether cause 10 does not fit; or nothing, where the term has no type
abbrev pub Answer : Type 0
Answer = Option Walked

abbrev pub walked : ℕ → ℕ → Bool → Answer
walked n end kept = Some (record { number = n; end = end; kept = kept })

-- the type that the walk answers
unfoldable pub types_in : Answer → Option Typed
types_in (Some x) = has x.number x.end
types_in None = None

-- a type, with whether cause 10 does not fit
unfoldable pub with_uses : Option Typed → Bool → Answer
with_uses (Some x) kept = walked x.number x.end kept
with_uses None kept = None

-- a lambda whose type is t, with entry x: from what is answered of its body, which leaves its variable this mark
unfoldable pub lambda_answer : Entry → ℕ → Answer → ℕ → Answer
lambda_answer x t (Some b) mark = with_uses (typed (calculus.lambda_number t (some x) (λ p. some b.number)) b.end) (b.kept && not (eqb mark due_mark))
lambda_answer x t None mark = None

-- the arrays have room for the variables that the second subterm has more, at the levels `above` and the next
pub record Room (binders above : ℕ) (env marks : List ℕ) : Type 0 where
  pub few : binders ≤ 2
  pub room : above + 2 ≤ max_variables
  pub wide : length env ≡ max_variables
  pub long : length marks ≡ max_variables

-- T-03, "two more variables": types and marks of a case's two variables, whose types have numbers p and q, and how many are in scope then
pub record Opened (T : Table) (binders p q above : ℕ) (env env' marks marks' : List ℕ) (inside : ℕ) : Type 0 where
  pub types : env' ≡ opened binders env above p q
  pub due : marks' ≡ opened binders marks above (new_mark T p) (new_mark T q)
  pub level : inside ≡ above + binders

-- cause 10: neither of a case's two variables is still due
unfoldable pub all_used : ℕ → List ℕ → ℕ → Bool
all_used zero marks above = true
all_used (suc binders) marks above = not (eqb (get_or marks above 0) due_mark) && not (eqb (get_or marks (above + 1) 0) due_mark)

-- a node with two subterms, where t has entry x, which decides, and the first has type `first` and its uses: from what is answered of the second
unfoldable pub two_answer : ℕ → Entry → ℕ → ℕ → Bool → Answer → Answer
two_answer tag x t first kept (Some b) = with_uses (typed (two_number tag x t first b.number) b.end) (kept && b.kept)
two_answer tag x t first kept None = None

-- what the walk leaves of the lent arrays where it answers a type
pub record Left (T : Table) (s : List ℕ) (at above floor : ℕ) (env env' marks marks' : List ℕ) (kept : Bool) : Type 0 where
  pub spent : LinearWalk T (environment above env) floor above marks (term_at s at) kept marks'
  pub same : length marks' ≡ length marks
  pub around : environment above env' ≡ environment above env
  pub wide : length env' ≡ length env

-- what the walk answers of the term at a position: its type, and whether cause 10 does not fit
pub record WalkedAt (T : Table) (s : List ℕ) (at above floor : ℕ) (env env' marks marks' : List ℕ) (r : Answer) : Type 0 where
  pub types : types_in r ≡ typed_at T (environment above env) s at
  pub left : (n end : ℕ) (kept : Bool) → r ≡ walked n end kept → Left T s at above floor env env' marks marks' kept

-- the same of the term that a part is
pub record Decides (T : Table) (s : List ℕ) (r : Answer) : Type 0 where
  pub types : types_in r ≡ typed_at T [] s 0
  pub uses : (n end : ℕ) (kept : Bool) → r ≡ walked n end kept → kept ≡ calculus.linear T [] (term_at s 0)
