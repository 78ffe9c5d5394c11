-- How often names and bound variables stand in an expression, and document 01's "has a value of its type".
use Rattle.std.specs.Prelude.{◌≡◌, cond, [], ◌+◌, ◌≤◌, suc, ℕ, eqb}
use Rattle.std.proofs.Math.Option.{some}
use Rattle.calculus.specs.Types.{once, LinType, fun, multiplicity}
use Rattle.calculus.specs.Syntax.{Const, Shape, Exp, var, name, const, lam, app, both, case_of, Value, at}
use Rattle.calculus.specs.Typing.{TypeNumbers, NameTypes, Derivation}

-- how often name k stands in e
unfoldable pub count : ℕ → Exp → ℕ
count k (var i) = 0
count k (name j) = cond (eqb j k) 1 0
count k (const c) = 0
count k (lam t e) = count k e
count k (app e₁ e₂) = count k e₁ + count k e₂
count k (both s t e₁ e₂) = count k e₁ + count k e₂
count k (case_of s e₁ e₂) = count k e₁ + count k e₂

-- how often the variable with number `depth` around e stands in e
unfoldable pub uses : ℕ → Exp → ℕ
uses depth (var i) = cond (eqb i depth) 1 0
uses depth (name j) = 0
uses depth (const c) = 0
uses depth (lam t e) = uses (suc depth) e
uses depth (app e₁ e₂) = uses depth e₁ + uses depth e₂
uses depth (both s t e₁ e₂) = uses depth e₁ + uses depth e₂
uses depth (case_of s e₁ e₂) = uses depth e₁ + uses (suc (suc depth)) e₂

-- name k has a once type
abbrev pub OnceName : NameTypes → ℕ → Type 0
OnceName Σ k = (α : LinType) × (at Σ k ≡ some α) × (multiplicity α ≡ once)

-- name k stands under no many-lambda of e. A case is no lambda.
pub data Outside (τ : TypeNumbers) (k : ℕ) : Exp → Type 0 where
  out_var : {i : ℕ} → Outside τ k (var i)
  out_name : {j : ℕ} → Outside τ k (name j)
  out_const : {c : Const} → Outside τ k (const c)
  out_once : {t : ℕ} {e : Exp} {α β : LinType} → τ t ≡ some (fun once α β) → Outside τ k e → Outside τ k (lam t e)
  out_none : {t : ℕ} {e : Exp} → count k e ≡ 0 → Outside τ k (lam t e)
  out_app : {e₁ e₂ : Exp} → Outside τ k e₁ → Outside τ k e₂ → Outside τ k (app e₁ e₂)
  out_both : {s : Shape} {t : ℕ} {e₁ e₂ : Exp} → Outside τ k e₁ → Outside τ k e₂ → Outside τ k (both s t e₁ e₂)
  out_case : {s : Shape} {e₁ e₂ : Exp} → Outside τ k e₁ → Outside τ k e₂ → Outside τ k (case_of s e₁ e₂)

-- document 01: "a name of a once type stands in it at most once and under no many-lambda"
pub record OnceNamesOnce (τ : TypeNumbers) (Σ : NameTypes) (e : Exp) : Type 0 where
  pub at_most_once : (k : ℕ) → OnceName Σ k → count k e ≤ 1
  pub outside : (k : ℕ) → OnceName Σ k → Outside τ k e

-- document 01: v is "a value of its type", here α: "a derivation by the recipe's rules, names so typed and type bytes read in the recipe's table, gives
-- that value the type". The recipe's rules are Figs. 8, 9 and 10.
pub record HasType (τ : TypeNumbers) (Σ : NameTypes) (v : Exp) (α : LinType) : Type 0 where
  pub value : Value v
  pub derivation : Derivation τ Σ [] v α
  pub names : OnceNamesOnce τ Σ v
