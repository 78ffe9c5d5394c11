-- What a search of an expression asks of a node: is it exch, does the search stop at it, is it a case.
use Rattle.std.specs.Prelude.{Bool, false, not, true}
use Rattle.calculus.specs.Syntax.{Const, unit, num, op, Exp, var, name, const, lam, app, both, case_of, Op, cell, exch, thread, handle}

-- the constant exch, step by step
unfoldable pub op_is_exch : Op → Bool
op_is_exch exch = true
op_is_exch cell = false
op_is_exch thread = false
op_is_exch handle = false

unfoldable pub const_is_exch : Const → Bool
const_is_exch (op o t) = op_is_exch o
const_is_exch unit = false
const_is_exch (num n) = false

-- the constant exch
unfoldable pub exp_is_exch : Exp → Bool
exp_is_exch (const c) = const_is_exch c
exp_is_exch (var i) = false
exp_is_exch (name k) = false
exp_is_exch (lam t e) = false
exp_is_exch (app f a) = false
exp_is_exch (both s t e₁ e₂) = false
exp_is_exch (case_of s e₁ e₂) = false

-- what is never a value, whatever its subterms are: an application but that of exch (document 01, "exch applied to a value"), a case, a variable
unfoldable pub is_stop : Exp → Bool
is_stop (app f a) = not (exp_is_exch f)
is_stop (case_of s e₁ e₂) = true
is_stop (var i) = true
is_stop (name k) = false
is_stop (const c) = false
is_stop (lam t e) = false
is_stop (both s t e₁ e₂) = false

-- a case, whose body is not evaluated
unfoldable pub is_case : Exp → Bool
is_case (case_of s e₁ e₂) = true
is_case (app f a) = false
is_case (var i) = false
is_case (name k) = false
is_case (const c) = false
is_case (lam t e) = false
is_case (both s t e₁ e₂) = false
