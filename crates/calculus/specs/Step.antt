-- Document 01, "A step": the place where two values meet, and what a step of one thread answers.
use Rattle.std.specs.Prelude.{◌≡◌, [], ◌++◌, ◌∷◌, ◌+◌, ℕ, length, set}
use Rattle.std.proofs.Math.Option.{Option, none, some}
use Rattle.calculus.specs.Syntax.{unit, num, op, cell, exch, thread, handle, Shape, pair, list, Exp, var, name, const, lam, app, both, case_of, Value, is_name, is_const, is_lam, is_exch, is_both, Component, thread_of, holds, open_for, used, awaited, Config, at, on_thread}
use Rattle.calculus.specs.Reduction.{substitute, substitute_both, Context, hole, in_function, in_argument, in_first, in_second, in_subject, Has, put, Rule, BETA, THREAD_NEW, FUTURE_DEREF, HANDLE_NEW, HANDLE_BIND, CELL_NEW, CELL_EXCH, CASE}

-- Fig. 3, document 01 "one place where two values meet": what stands there. Two values side by side; or a case whose subject is a value.
pub data Redex : Exp → Type 0 where
  application : {f v : Exp} → Value f → Value v → Redex (app f v)
  subject : {s : Shape} {v e : Exp} → Value v → Redex (case_of s v e)

-- what an expression is: the value v; or F[r], where values meet in r and r is no value; or, only if it is not closed, a variable is in the way
pub data Place : Type 0 where
  settled : (v : Exp) → Value v → Place
  meet : Context → (r : Exp) → Redex r → Place
  loose : Place

-- two values side by side: exch applied to a value is a value (Fig. 1), the first line; else they meet, all others
unfoldable pub beside : (f v : Exp) → Value f → Value v → Place
beside f v (is_const {c = op exch t}) w = settled (app (const (op exch t)) v) (is_exch w)
beside f v (is_const {c = unit}) w = meet hole (app f v) (application is_const w)
beside f v (is_const {c = num n}) w = meet hole (app f v) (application is_const w)
beside f v (is_const {c = op cell t}) w = meet hole (app f v) (application is_const w)
beside f v (is_const {c = op thread t}) w = meet hole (app f v) (application is_const w)
beside f v (is_const {c = op handle t}) w = meet hole (app f v) (application is_const w)
beside f v is_name w = meet hole (app f v) (application is_name w)
beside f v is_lam w = meet hole (app f v) (application is_lam w)
beside f v (is_exch u) w = meet hole (app f v) (application (is_exch u) w)
beside f v (is_both u u') w = meet hole (app f v) (application (is_both u u') w)

-- a part of an expression, by its place, `frame` being the context around the part's: if it is a value, what is to its right decides
unfoldable pub within : (Context → Context) → Place → ((v : Exp) → Value v → Place) → Place
within frame (settled v w) right = right v w
within frame (meet F r d) right = meet (frame F) r d
within frame loose right = loose

-- the place of an expression: F e before v F, (F, e) before (v, F), F :: e before v :: F (Fig. 3)
unfoldable pub place : Exp → Place
place (var i) = loose
place (name k) = settled (name k) is_name
place (const c) = settled (const c) is_const
place (lam t e) = settled (lam t e) is_lam
place (app f a) = within (λ F. in_function F a) (place f) λ v w. within (in_argument v w) (place a) λ v' w'. beside v v' w w'
place (both s t e₁ e₂) = within (λ F. in_first s t F e₂) (place e₁) λ v w. within (in_second s t v w) (place e₂) λ v' w'. settled (both s t v v') (is_both w w')
place (case_of s e₁ e₂) = within (λ F. in_subject s F e₂) (place e₁) λ v w. meet hole (case_of s v e₂) (subject w)

-- what is made of a place: one thing of a value, another of a variable in the way, and of F[r] what `meeting` says
abbrev pub on_place : {A : Type 0} → Place → A → A → (Context → (r : Exp) → Redex r → A) → A
on_place (settled v w) value stuck meeting = value
on_place loose value stuck meeting = stuck
on_place (meet F r d) value stuck meeting = meeting F r d

-- document 01, "A step": a rule with its outcome, waiting with the name needed, done; and causes 14 (no-thread), 16 (used-handle)
-- and 17 (wrong-kind). Causes 12, 13 and 15 are about bytes and limits, and not the calculus's.
pub data Answer : Type 0 where
  rule : Rule → Config → Answer
  waiting : ℕ → Answer
  done no_thread used_handle wrong_kind : Answer

-- document 01: "a thread that needs the value of a thread not done .. answers waiting with that name"
unfoldable pub when_done : ℕ → Place → Answer → Answer
when_done y p answer = on_place p answer (waiting y) λ F r d. waiting y

-- F[y v] by y's component: FUTURE.DEREF, waiting, HANDLE.BIND, cause 16, else cause 17
unfoldable pub step_call : Config → ℕ → Context → ℕ → Exp → Option Component → Answer
step_call C x F y v (some (thread_of w)) = when_done y (place w) (rule FUTURE_DEREF (put C x F (app w v)))
step_call C x F y v (some awaited) = waiting y
step_call C x F z v (some (open_for y)) = rule HANDLE_BIND (set (set (put C x F (const unit)) y (thread_of v)) z used)
step_call C x F z v (some used) = used_handle
step_call C x F y v (some (holds w)) = wrong_kind
step_call C x F y v none = wrong_kind

-- F[exch y v] by y's component: FUTURE.DEREF, waiting, CELL.EXCH, else cause 17
unfoldable pub step_exchange : Config → ℕ → Context → ℕ → ℕ → Exp → Option Component → Answer
step_exchange C x F t y v (some (thread_of w)) = when_done y (place w) (rule FUTURE_DEREF (put C x F (app (app (const (op exch t)) w) v)))
step_exchange C x F t y v (some awaited) = waiting y
step_exchange C x F t y v (some (holds w)) = rule CELL_EXCH (set (put C x F w) y (holds v))
step_exchange C x F t y v (some (open_for z)) = wrong_kind
step_exchange C x F t y v (some used) = wrong_kind
step_exchange C x F t y v none = wrong_kind

-- F[f v] by what value f is: BETA, THREAD.NEW, HANDLE.NEW, CELL.NEW, the two above, else cause 17
unfoldable pub step_meeting : Config → ℕ → Context → {f : Exp} → Value f → Exp → Answer
step_meeting C x F (is_lam {t = t} {e = e}) v = rule BETA (put C x F (substitute 0 v e))
step_meeting C x F (is_const {c = op thread t}) v = rule THREAD_NEW (put C x F (name (length C)) ++ (thread_of (app v (name (length C))) ∷ []))
step_meeting C x F (is_name {k = y}) v = step_call C x F y v (at C y)
step_meeting C x F (is_exch {t = t} (is_name {k = y})) v = step_exchange C x F t y v (at C y)
step_meeting C x F (is_const {c = op handle t}) v = rule HANDLE_NEW (put C x F (app (app v (name (length C))) (name (length C + 1))) ++ (awaited ∷ open_for (length C) ∷ []))
step_meeting C x F (is_const {c = op cell t}) v = rule CELL_NEW (put C x F (name (length C)) ++ (holds v ∷ []))
step_meeting C x F (is_const {c = unit}) v = wrong_kind
step_meeting C x F (is_const {c = num n}) v = wrong_kind
step_meeting C x F (is_const {c = op exch t}) v = wrong_kind
step_meeting C x F (is_exch is_const) v = wrong_kind
step_meeting C x F (is_exch is_lam) v = wrong_kind
step_meeting C x F (is_exch (is_exch w)) v = wrong_kind
step_meeting C x F (is_exch (is_both w w')) v = wrong_kind
step_meeting C x F (is_both w w') v = wrong_kind

-- F[case y of .. ⇒ e] by y's component: FUTURE.DEREF, waiting, else cause 17, also for a used handle. Only the name is replaced: the case stays.
unfoldable pub step_subject : Config → ℕ → Context → Shape → ℕ → Exp → Option Component → Answer
step_subject C x F s y e (some (thread_of w)) = when_done y (place w) (rule FUTURE_DEREF (put C x F (case_of s w e)))
step_subject C x F s y e (some awaited) = waiting y
step_subject C x F s y e (some (holds w)) = wrong_kind
step_subject C x F s y e (some (open_for z)) = wrong_kind
step_subject C x F s y e (some used) = wrong_kind
step_subject C x F s y e none = wrong_kind

-- F[case v of .. ⇒ e] by what value v is: rule 8 for a pair, 9 for a list front, the above for a name, else cause 17
unfoldable pub step_case : Config → ℕ → Context → Shape → {v : Exp} → Value v → Exp → Answer
step_case C x F pair (is_both {s = pair} {v = v₁} {w = v₂} w w') e = rule (CASE pair) (put C x F (substitute_both v₁ v₂ e))
step_case C x F list (is_both {s = list} {v = v₁} {w = v₂} w w') e = rule (CASE list) (put C x F (substitute_both v₁ v₂ e))
step_case C x F s (is_name {k = y}) e = step_subject C x F s y e (at C y)
step_case C x F pair (is_both {s = list} w w') e = wrong_kind
step_case C x F list (is_both {s = pair} w w') e = wrong_kind
step_case C x F s is_const e = wrong_kind
step_case C x F s is_lam e = wrong_kind
step_case C x F s (is_exch w) e = wrong_kind

-- F[r] by what values meet in r
unfoldable pub step_redex : Config → ℕ → Context → {r : Exp} → Redex r → Answer
step_redex C x F (application {v = v} wf wv) = step_meeting C x F wf v
step_redex C x F (subject {s = s} {e = e} w) = step_case C x F s w e

-- document 01: "a thread whose expression is a value .. answers done"
unfoldable pub step_place : Config → ℕ → Place → Answer
step_place C x p = on_place p done wrong_kind λ F r d. step_redex C x F d

-- what a step of thread x of C answers. It is meant for what an image may hold (Image, `ImageRule`): cause 13 is tried before. Elsewhere HANDLE.BIND does
-- not look at the future, `substitute` shifts nothing, and a variable in the way answers 17. Cause 14: "number is no thread".
unfoldable pub step_of : Config → ℕ → Answer
step_of C x = on_thread (at C x) no_thread λ e. step_place C x (place e)

-- Fig. 3, Ef: the place of thread x needs y's value, F[y v], F[exch y v] or F[case y of .. ⇒ e]
pub data Needs (C : Config) (x y : ℕ) : Type 0 where
  to_call : (F : Context) (v : Exp) → Value v → Has C x F (app (name y) v) → Needs C x y
  to_exchange : (F : Context) (t : ℕ) (v : Exp) → Value v → Has C x F (app (app (const (op exch t)) (name y)) v) → Needs C x y
  to_case : (F : Context) (s : Shape) (e : Exp) → Has C x F (case_of s (name y) e) → Needs C x y

-- document 01: y is "a thread not done, or a future not bound"
pub data Unready (C : Config) (y : ℕ) : Type 0 where
  not_done : (e : Exp) → ¬ Value e → at C y ≡ some (thread_of e) → Unready C y
  not_bound : at C y ≡ some awaited → Unready C y

-- document 01, cause 16, and the paper's handle error: the place of thread x applies a used handle z
abbrev pub AppliesUsed : Config → ℕ → Type 0
AppliesUsed C x = (F : Context) × (z : ℕ) × (v : Exp) × Value v × (Has C x F (app (name z) v)) × (at C z ≡ some used)

-- document 01, cause 17: "two values meet" at the place of thread x, or a value is the subject of a case there
abbrev pub Meets : Config → ℕ → Type 0
Meets C x = (F : Context) × (r : Exp) × Redex r × (¬ Value r) × (Has C x F r)
