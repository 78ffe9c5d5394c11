-- What each function that decides is asked.
use Rattle.std.specs.Prelude.{◌≡◌, false, true, List, ℕ}
use Rattle.calculus.specs.Syntax.{Exp, Shape, Value, is_name, is_exch, is_both}
use Rattle.calculus.specs.Reduction.{Context}
use Rattle.calculus.specs.Step.{application, subject, waiting, step_of, place}
use Rattle.calculus.specs.Image.{is_settled}
use Rattle.term.specs.Reader.{GoodAt}
use Rattle.term.specs.Expressions.{term_at}
use Rattle.image_layout.specs.Slice.{offset_at}
use Rattle.image_layout.specs.Readable.{HasHead}
use Rattle.image.specs.Configuration.{config_of}
use Rattle.term_redex.specs.declared.Meeting.{Meeting}
use Rattle.step_rules.specs.Meets.{MeetsAt, step_at, dereferenced}
use Rattle.step_rules.specs.Stepped.{Stepped}

-- an application of two values
pub record Applies (s : List ℕ) (x : ℕ) (m : Meeting) : Type 0 where
  pub context : Context
  pub function : Exp
  pub function_value : Value function
  pub argument : Exp
  pub argument_value : Value argument
  pub meets : MeetsAt s x m context (application function_value argument_value)

-- name y is the function
pub record Calls (s : List ℕ) (x : ℕ) (m : Meeting) (y : ℕ) : Type 0 where
  pub context : Context
  pub argument : Exp
  pub argument_value : Value argument
  pub meets : MeetsAt s x m context (application (is_name {k = y}) argument_value)

-- exch applied to a value is
pub record Exchanges (s : List ℕ) (x : ℕ) (m : Meeting) : Type 0 where
  pub context : Context
  pub constant : ℕ
  pub first : Exp
  pub first_value : Value first
  pub argument : Exp
  pub argument_value : Value argument
  pub meets : MeetsAt s x m context (application (is_exch {t = constant} first_value) argument_value)

-- and that value is name y
pub record ExchangesName (s : List ℕ) (x : ℕ) (m : Meeting) (y : ℕ) : Type 0 where
  pub context : Context
  pub constant : ℕ
  pub argument : Exp
  pub argument_value : Value argument
  pub meets : MeetsAt s x m context (application (is_exch {t = constant} (is_name {k = y})) argument_value)

-- a case whose subject is a value
pub record TakesApart (s : List ℕ) (x : ℕ) (m : Meeting) : Type 0 where
  pub context : Context
  pub shape : Shape
  pub taken : Exp
  pub taken_value : Value taken
  pub body : Exp
  pub meets : MeetsAt s x m context (subject {s = shape} {e = body} taken_value)

-- name y is the subject
pub record TakesName (s : List ℕ) (x : ℕ) (m : Meeting) (y : ℕ) : Type 0 where
  pub context : Context
  pub shape : Shape
  pub body : Exp
  pub meets : MeetsAt s x m context (subject {s = shape} {e = body} (is_name {k = y}))

-- a pair or list front of two values is
pub record TakesBoth (s : List ℕ) (x : ℕ) (m : Meeting) : Type 0 where
  pub context : Context
  pub shape : Shape
  pub subject_shape : Shape
  pub annotation : ℕ
  pub first : Exp
  pub first_value : Value first
  pub second : Exp
  pub second_value : Value second
  pub body : Exp
  pub meets : MeetsAt s x m context (subject {s = shape} {e = body} (is_both {s = subject_shape} {t = annotation} first_value second_value))

-- the value of thread y is needed, at the function of an application, at the first argument of a full exch or at the subject of a case
pub record Follows (s : List ℕ) (x : ℕ) (m : Meeting) (y : ℕ) : Type 0 where
  pub head : HasHead s y
  pub good : GoodAt s (offset_at s y)
  pub not_done : is_settled (place (term_at s (offset_at s y))) ≡ false → step_of (config_of s) x ≡ waiting y
  pub done : is_settled (place (term_at s (offset_at s y))) ≡ true → Stepped s x (step_at x m (dereferenced s y))
