-- T-09: the same expression in two images or two recipes, "type numbers read as types", "numbers of names may differ".
use Rattle.std.specs.Prelude.{◌≡◌, cond, List, [], ◌∷◌, suc, zero, ℕ, eqb}
use Rattle.std.proofs.Math.Option.{some}
use Rattle.calculus.specs.Syntax.{Op, Const, unit, num, op, Shape, Exp, var, name, const, lam, app, both, case_of, Component, thread_of, holds, open_for, used, awaited, at}
use Rattle.calculus.specs.Typing.{TypeNumbers}
use Rattle.calculus.specs.Table.{Table, type_at}
use Rattle.calculus.specs.Owners.{Owners}

-- which names count as the same
abbrev pub Names : Type 1
Names = ℕ → ℕ → Type 0

-- "type numbers read as types": by τ on one side, by σ on the other
pub data SameConst (τ σ : TypeNumbers) : Const → Const → Type 0 where
  same_unit : SameConst τ σ unit unit
  same_num : {n : ℕ} → SameConst τ σ (num n) (num n)
  same_op : {o : Op} {t u : ℕ} → τ t ≡ σ u → SameConst τ σ (op o t) (op o u)

pub data Same (N : Names) (τ σ : TypeNumbers) : Exp → Exp → Type 0 where
  same_var : {i : ℕ} → Same N τ σ (var i) (var i)
  same_name : {n m : ℕ} → N n m → Same N τ σ (name n) (name m)
  same_const : {c d : Const} → SameConst τ σ c d → Same N τ σ (const c) (const d)
  same_lam : {t u : ℕ} {e f : Exp} → τ t ≡ σ u → Same N τ σ e f → Same N τ σ (lam t e) (lam u f)
  same_app : {f g a b : Exp} → Same N τ σ f g → Same N τ σ a b → Same N τ σ (app f a) (app g b)
  same_both : {s : Shape} {t u : ℕ} {e f a b : Exp} → τ t ≡ σ u → Same N τ σ e f → Same N τ σ a b → Same N τ σ (both s t e a) (both s u f b)
  same_case : {s : Shape} {e f a b : Exp} → Same N τ σ e f → Same N τ σ a b → Same N τ σ (case_of s e a) (case_of s f b)

pub data SameComponent (N : Names) (τ σ : TypeNumbers) : Component → Component → Type 0 where
  same_thread : {e f : Exp} → Same N τ σ e f → SameComponent N τ σ (thread_of e) (thread_of f)
  same_holds : {e f : Exp} → Same N τ σ e f → SameComponent N τ σ (holds e) (holds f)
  same_open : {y z : ℕ} → N y z → SameComponent N τ σ (open_for y) (open_for z)
  same_used : SameComponent N τ σ used used
  same_awaited : SameComponent N τ σ awaited awaited

-- the place of name n among those that bay k owns: how many of them are lower
unfoldable pub rank : ℕ → Owners → ℕ → ℕ
rank k [] n = 0
rank k (o ∷ O) zero = 0
rank k (o ∷ O) (suc n) = cond (eqb o k) (suc (rank k O n)) (rank k O n)

-- "numbers of names may differ": n and m are names of bay k, with the same place among its names
pub record SamePlace (k : ℕ) (O P : Owners) (n m : ℕ) : Type 0 where
  pub owned_left : at O n ≡ some k
  pub owned_right : at P m ≡ some k
  pub same_rank : rank k O n ≡ rank k P m

-- two lists, one as long as the other, and the same in each place
pub data Alike {A B : Type 0} (R : A → B → Type 0) : List A → List B → Type 0 where
  alike_nil : Alike R [] []
  alike_cons : {a : A} {b : B} {l : List A} {m : List B} → R a b → Alike R l m → Alike R (a ∷ l) (b ∷ m)

-- "in one bay, the same starting value and the same term, type numbers read as types", of recipes with tables T and T', starting nums ns and ns', terms es and es'
pub record SameBay (k : ℕ) (T T' : Table) (ns ns' : List ℕ) (es es' : List Exp) : Type 0 where
  pub value : ℕ
  pub value_left : at ns k ≡ some value
  pub value_right : at ns' k ≡ some value
  pub term_left : Exp
  pub term_right : Exp
  pub there_left : at es k ≡ some term_left
  pub there_right : at es' k ≡ some term_right
  pub same_term : Same ◌≡◌ (type_at T) (type_at T') term_left term_right
