-- The outcome of a substitution in bytes, of one value or of two.
use Rattle.std.specs.Prelude.{cond, List, ◌++◌, ◌∷◌, suc, ℕ, eqb}
use Rattle.calculus.specs.Syntax.{Exp, var, name, const, lam, app, both, case_of}
use Rattle.term.specs.Forms.{lambda_tag, application_tag}
use Rattle.term.specs.Expressions.{both_tag, bytes, case_tag}

-- Figs. 5 and 10, e[v₁/x][v₂/y] in bytes: `inner` for y, which has number `depth` around e, `outer` for x, the next; the rest as it stands
unfoldable pub replaced : ℕ → List ℕ → List ℕ → Exp → List ℕ
replaced depth inner outer (var i) = cond (eqb i depth) inner (cond (eqb i (suc depth)) outer (bytes (var i)))
replaced depth inner outer (name k) = bytes (name k)
replaced depth inner outer (const c) = bytes (const c)
replaced depth inner outer (lam t e) = lambda_tag ∷ t ∷ replaced (suc depth) inner outer e
replaced depth inner outer (app f a) = application_tag ∷ (replaced depth inner outer f ++ replaced depth inner outer a)
replaced depth inner outer (both s t e₁ e₂) = both_tag s ∷ t ∷ (replaced depth inner outer e₁ ++ replaced depth inner outer e₂)
replaced depth inner outer (case_of s e₁ e₂) = case_tag s ∷ (replaced depth inner outer e₁ ++ replaced (suc (suc depth)) inner outer e₂)
