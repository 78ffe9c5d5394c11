-- The marks as a walk has them: in an array, that of the outermost variable first, beside the number of variables in scope, `above`. Variable i has the
-- level above - 1 - i there.
use Rattle.std.specs.Prelude.{◌≡◌, Bool, cond, false, true, List, [], ◌∷◌, ◌-◌, suc, zero, ℕ, eqb, get_or}
use Rattle.std.proofs.Math.Option.{Option, none, some}
use Rattle.calculus.specs.Kinds.{once_type_kind}
use Rattle.calculus.specs.Syntax.{Exp}
use Rattle.calculus.specs.Table.{Table}
use Rattle.check_linearity.specs.Spend.{Marks, many_mark, spend}

-- the marks of the variables in scope, innermost first: the first `above` elements, the last of them first
unfoldable pub marks_of : ℕ → List ℕ → Marks
marks_of zero a = []
marks_of (suc above) a = get_or a above many_mark ∷ marks_of above a

-- the lowest level in reach, `floor`, is that of the innermost many-lambda: what it is in the body of a lambda of this kind that has level `above`
unfoldable pub floor_under : ℕ → ℕ → ℕ → ℕ
floor_under kind floor above = cond (eqb kind once_type_kind) floor above

-- what a walk answers: whether the term keeps the rule, and if so the marks that it leaves
unfoldable pub marks_left : Bool → Marks → Option Marks
marks_left false M = none
marks_left true M = some M

-- a walk over e, from the array a to the array a', where Δ has the numbers of the variables' types
pub record LinearWalk (T : Table) (Δ : List ℕ) (floor above : ℕ) (a : List ℕ) (e : Exp) (keeps : Bool) (a' : List ℕ) : Type 0 where
  pub holds : spend T Δ (above - floor) (marks_of above a) e ≡ marks_left keeps (marks_of above a')
