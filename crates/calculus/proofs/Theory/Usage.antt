-- The environment in which an expression is derived follows from how often it uses each variable.
use Rattle.std.specs.Prelude.{◌≡◌, refl, List, [], ◌∷◌, ◌+◌, ◌≤◌, suc, zero, ℕ}
use Rattle.std.proofs.Math.Option.{Option, none-ne-some, some-injective, none, some}
use Rattle.std.proofs.Common.{arith}
use Rattle.calculus.specs.Types.{Multiplicity, once, many, LinType, multiplicity}
use Rattle.calculus.specs.Syntax.{Exp, at}
use Rattle.calculus.specs.Typing.{Env, NoOnce, no_once_nil, no_once_gone, no_once_many, Split, split_nil, split_gone, split_both, split_left, split_right, ◌∋◌∶◌, only_here, only_past_gone, only_past_many}
use Rattle.calculus.specs.Names.{uses}
use Rattle.calculus.proofs.Theory.Tests.{once_not_many}
use Rattle.calculus.proofs.Theory.Environments.{Due, due_once, due_many, due_is_none, due_is_one, AllDue, due_cons, due_tail, due_head, Covers, covers_nil, covers_some, covers_gone}

-- The environment in which e is derived, where Δ has the types of all variables in scope: a many-variable is always there, a once-variable
-- where e uses it. `times` says how often each variable is used.
abbrev pub present : Multiplicity → ℕ → LinType → Option LinType
present many n α = some α
present once zero α = none
present once (suc n) α = some α

abbrev pub environment_by : List LinType → (ℕ → ℕ) → Env
environment_by [] times = []
environment_by (α ∷ Δ) times = present (multiplicity α) (times 0) α ∷ environment_by Δ (λ i. times (suc i))

abbrev pub environment_of : List LinType → Exp → Env
environment_of Δ e = environment_by Δ (λ i. uses i e)

-- what holds of the once-variables of Δ
abbrev pub EachOnce : List LinType → (ℕ → Type 0) → Type 0
EachOnce Δ P = (i : ℕ) (δ : LinType) → at Δ i ≡ some δ → multiplicity δ ≡ once → P i

-- what it takes that this environment has no once-variable, splits, or is that of one variable
pub no_once_environment : (Δ : List LinType) (u : ℕ → ℕ) → EachOnce Δ (λ i. u i ≡ 0) → NoOnce (environment_by Δ u)
no_once_environment [] u h = no_once_nil
no_once_environment (α ∷ Δ) u h = step (multiplicity α) (u 0) refl (h 0 α refl) (no_once_environment Δ (λ i. u (suc i)) (λ i. h (suc i)))
  where
    step : (κ : Multiplicity) (n : ℕ) → multiplicity α ≡ κ → (κ ≡ once → n ≡ 0) → {Γ : Env} → NoOnce Γ → NoOnce (present κ n α ∷ Γ)
    step many n e h w = no_once_many e w
    step once zero e h w = no_once_gone w
    step once (suc n) e h w = let z : suc n ≡ 0 = h refl in absurd (omega arith)

-- the environment of an application splits
pub split_environment : (Δ : List LinType) (u v w : ℕ → ℕ) → ((i : ℕ) → w i ≡ u i + v i) → EachOnce Δ (λ i. w i ≤ 1) →
    Split (environment_by Δ w) (environment_by Δ u) (environment_by Δ v)
split_environment [] u v w e h = split_nil
split_environment (α ∷ Δ) u v w e h =
    step (multiplicity α) (u 0) (v 0) (w 0) refl (e 0) (h 0 α refl)
    (split_environment Δ (λ i. u (suc i)) (λ i. v (suc i)) (λ i. w (suc i)) (λ i. e (suc i)) (λ i. h (suc i)))
  where
    step : (κ : Multiplicity) (m n k : ℕ) → multiplicity α ≡ κ → k ≡ m + n → (κ ≡ once → k ≤ 1) → {Γ Γ₁ Γ₂ : Env} → Split Γ Γ₁ Γ₂ →
        Split (present κ k α ∷ Γ) (present κ m α ∷ Γ₁) (present κ n α ∷ Γ₂)
    step many m n k p e h s = split_both p s
    step once zero zero zero p e h s = split_gone s
    step once zero zero (suc k) p e h s = let z : suc k ≤ 1 = h refl in absurd (omega arith)
    step once zero (suc n) zero p e h s = absurd (omega arith)
    step once zero (suc n) (suc k) p e h s = split_right p s
    step once (suc m) zero zero p e h s = absurd (omega arith)
    step once (suc m) zero (suc k) p e h s = split_left p s
    step once (suc m) (suc n) zero p e h s = absurd (omega arith)
    step once (suc m) (suc n) (suc k) p e h s = let z : suc k ≤ 1 = h refl in absurd (omega arith)

pub only_environment : (Δ : List LinType) (i : ℕ) (u : ℕ → ℕ) {α : LinType} → at Δ i ≡ some α → u i ≡ 1 → ((j : ℕ) → ¬ (j ≡ i) → u j ≡ 0) →
    (environment_by Δ u) ∋ i ∶ α
only_environment [] i u {α} p e h = absurd (none-ne-some α p)
only_environment (δ ∷ Δ) zero u {α} p e h =
    step (multiplicity δ) (u 0) e (some-injective δ α p) (no_once_environment Δ (λ i. u (suc i)) (λ i γ q m. h (suc i) (λ z. omega arith)))
  where
    step : (κ : Multiplicity) (n : ℕ) → n ≡ 1 → δ ≡ α → {Γ : Env} → NoOnce Γ → (present κ n δ ∷ Γ) ∋ zero ∶ α
    step many n e p w = rw p (only_here w)
    step once zero e p w = absurd (omega arith)
    step once (suc n) e p w = rw p (only_here w)
only_environment (δ ∷ Δ) (suc i) u {α} p e h =
    step (multiplicity δ) (u 0) refl (h 0 (λ z. omega arith)) (only_environment Δ i (λ j. u (suc j)) p e (λ j n. h (suc j) (λ z. n (omega arith))))
  where
    step : (κ : Multiplicity) (n : ℕ) → multiplicity δ ≡ κ → n ≡ 0 → {Γ : Env} → Γ ∋ i ∶ α → (present κ n δ ∷ Γ) ∋ (suc i) ∶ α
    step many n m e w = only_past_many m w
    step once zero m e w = only_past_gone w
    step once (suc n) m e w = absurd (omega arith)

-- the environment of a derivation is this one: its once-variables are used once, the others not
cons_path : {x y : Option LinType} {Γ Γ' : Env} → x ≡ y → Γ ≡ Γ' → ◌≡◌ {A = Env} (x ∷ Γ) (y ∷ Γ')
cons_path p q = cc

due_present : {α : LinType} {n : ℕ} → Due (some α) n → present (multiplicity α) n α ≡ some α
due_present (due_once m) = rw m
due_present (due_many m) = rw m

pub covered_environment : {Δ : List LinType} {Γ : Env} {u : ℕ → ℕ} → Covers Δ Γ → AllDue u Γ → environment_by Δ u ≡ Γ
covered_environment covers_nil a = refl
covered_environment (covers_some c) (due_cons x a) = cons_path (due_present x) (covered_environment c a)
covered_environment (covers_gone m c) (due_cons x a) = cons_path (rw (m, due_is_none x)) (covered_environment c a)

pub covered_unused : {Δ : List LinType} {Γ : Env} {u : ℕ → ℕ} → Covers Δ Γ → NoOnce Γ → AllDue u Γ → EachOnce Δ (λ i. u i ≡ 0)
covered_unused covers_nil n a i δ q m = absurd (none-ne-some δ q)
covered_unused (covers_some c) (no_once_many m' n) a zero δ q m = absurd (once_not_many m (cc))
covered_unused (covers_some c) (no_once_many m' n) a (suc i) δ q m = covered_unused c n (due_tail a) i δ q m
covered_unused (covers_gone m' c) (no_once_gone n) a zero δ q m = due_is_none (due_head a)
covered_unused (covers_gone m' c) (no_once_gone n) a (suc i) δ q m = covered_unused c n (due_tail a) i δ q m

pub covered_at_most_once : {Δ : List LinType} {Γ : Env} {u : ℕ → ℕ} → Covers Δ Γ → AllDue u Γ → EachOnce Δ (λ i. u i ≤ 1)
covered_at_most_once covers_nil a i δ q m = absurd (none-ne-some δ q)
covered_at_most_once (covers_some {α = α} c) a zero δ q m = let o : multiplicity α ≡ once = cc in omega (arith, due_is_one o (due_head a))
covered_at_most_once (covers_some c) a (suc i) δ q m = covered_at_most_once c (due_tail a) i δ q m
covered_at_most_once (covers_gone m' c) a zero δ q m = omega (arith, due_is_none (due_head a))
covered_at_most_once (covers_gone m' c) a (suc i) δ q m = covered_at_most_once c (due_tail a) i δ q m

pub covers_environment : (Δ : List LinType) (u : ℕ → ℕ) → Covers Δ (environment_by Δ u)
covers_environment [] u = covers_nil
covers_environment (α ∷ Δ) u = step (multiplicity α) (u 0) refl (covers_environment Δ (λ i. u (suc i)))
  where
    step : (κ : Multiplicity) (n : ℕ) → multiplicity α ≡ κ → {Γ : Env} → Covers Δ Γ → Covers (α ∷ Δ) (present κ n α ∷ Γ)
    step many n m c = covers_some c
    step once zero m c = covers_gone m c
    step once (suc n) m c = covers_some c
