-- Document 01, cause 10, "a once-variable not used exactly once, or free under a many-lambda", in one pass: each variable in scope has a mark, and a
-- term leaves marks or fails. It passes the terms that `linear` passes, and no others (Theory.Linear, `spends_linear`).
use Rattle.std.specs.Prelude.{Bool, ◌&&◌, cond, false, true, List, [], ◌∷◌, suc, ℕ, eqb, ltb, get_or, set}
use Rattle.std.proofs.Math.Option.{Option, none, some}
use Rattle.calculus.specs.Options.{on_some}
use Rattle.calculus.specs.Kinds.{once_type_kind}
use Rattle.calculus.specs.Syntax.{Shape, Exp, var, name, const, lam, app, both, case_of, at}
use Rattle.calculus.specs.Table.{Entry, Table, is_many}
use Rattle.calculus.specs.Verdict.{is_function_kind, with_components, type_number}

-- the marks of the variables in scope, innermost first
abbrev pub Marks : Type 0
Marks = List ℕ

-- a many-variable
abbrev pub many_mark : ℕ
many_mark = 0

-- a once-variable still to be used
abbrev pub due_mark : ℕ
due_mark = 1

-- a once-variable that was used
abbrev pub spent_mark : ℕ
spent_mark = 2

-- the mark of a new variable whose type has number p
unfoldable pub new_mark : Table → ℕ → ℕ
new_mark T p = cond (is_many T p) many_mark due_mark

-- Document 01, "free under a many-lambda": a once-variable may be used if it is one of the `reach` innermost ones. Under a many-lambda that is the
-- lambda's own variable, under a once-lambda also those that were in reach.
unfoldable pub reach_under : ℕ → ℕ → ℕ
reach_under kind reach = cond (eqb kind once_type_kind) (suc reach) 1

-- variable i has this mark and is used
unfoldable pub spend_variable : ℕ → Marks → ℕ → ℕ → Option Marks
spend_variable reach M i mark = cond (eqb mark many_mark) (some M) (cond (eqb mark due_mark && ltb i reach) (some (set M i spent_mark)) none)

-- of two subterms the second meets the marks that the first leaves
unfoldable pub spend_next : Option Marks → (Marks → Option Marks) → Option Marks
spend_next none next = none
spend_next (some M) next = next M

-- the innermost variable goes; a once-variable must have been used
unfoldable pub leave : Option Marks → Option Marks
leave none = none
leave (some []) = none
leave (some (mark ∷ M)) = cond (eqb mark due_mark) none (some M)

-- a lambda with this entry, by what its body leaves, where its parameter's type has a number
unfoldable pub spend_lambda : Table → ℕ → Marks → Option Entry → (ℕ → ℕ → Marks → Option Marks) → Option Marks
spend_lambda T reach M none body = none
spend_lambda T reach M (some x) body =
    cond (is_function_kind x.kind) (leave (body x.p (reach_under x.kind reach) (new_mark T x.p ∷ M))) none

-- T-03, "the body having two more variables, index 0 the second component": a case whose subject's type has this number, by what its body leaves
unfoldable pub spend_case : Shape → Table → Marks → Option ℕ → (ℕ → ℕ → Marks → Option Marks) → Option Marks
spend_case s T M subject body = on_some subject λ n. with_components none s n (at T n) λ p q. leave (leave (body p q (new_mark T q ∷ new_mark T p ∷ M)))

-- cause 10: what e leaves of the marks M, where Δ has the numbers of the variables' types; none where it breaks the rule. A case hides no variable.
unfoldable pub spend : Table → List ℕ → ℕ → Marks → Exp → Option Marks
spend T Δ reach M (var i) = spend_variable reach M i (get_or M i many_mark)
spend T Δ reach M (name k) = some M
spend T Δ reach M (const c) = some M
spend T Δ reach M (lam t e) = spend_lambda T reach M (at T t) (λ p reach M. spend T (p ∷ Δ) reach M e)
spend T Δ reach M (app f a) = spend_next (spend T Δ reach M f) (λ M. spend T Δ reach M a)
spend T Δ reach M (both s t e₁ e₂) = spend_next (spend T Δ reach M e₁) (λ M. spend T Δ reach M e₂)
spend T Δ reach M (case_of s e₁ e₂) =
    spend_next (spend T Δ reach M e₁) λ M. spend_case s T M (type_number T Δ e₁) λ p q M. spend T (q ∷ p ∷ Δ) (suc (suc reach)) M e₂

-- a term left marks
unfoldable pub left_over : Option Marks → Bool
left_over none = false
left_over (some M) = true

-- cause 10 does not fit a whole term
unfoldable pub spends : Table → Exp → Bool
spends T e = left_over (spend T [] 0 [] e)
