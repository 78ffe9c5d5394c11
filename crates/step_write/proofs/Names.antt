-- What a step makes of a name, by the move and by what the code's tests find.
use mathlib.Core.Path.{◌≡◌, ap, refl, subst, sym}
use mathlib.Core.Bool.{Bool, cond, true, false}
use mathlib.Core.List.{List, []}
use Prim.Native.Nat.{ℕ, ◌+◌, ◌<◌, ◌≤◌}
use native.Mathlib.Omega.{arith}
use borrow.Author.Tests.{eq-eqb, eqb-false, le-ltb, lt-ltb, ne_eqb}
use lib.Dec.{eqb}
use lib.ListN.{length}
use Rattle.calculus.specs.Kinds.{thread_kind, cell_kind, used_handle_kind, future_kind}
use Rattle.image_layout.specs.Encoded.{Encoded}
use Rattle.image_layout.specs.Slice.{names, owner_at, encoded_at}
use Rattle.step_rules.specs.declared.Move.{Move}
use Rattle.step_rules.specs.declared.Move.TheVariants.{ThreadNew, HandleNew, HandleBind, CellNew, CellExch}
use Rattle.step_rules.specs.declared.Step.{Step}
use Rattle.step_rules.specs.Effects.{Effect, effect_of}
use Rattle.step_rules.specs.Moves.{look_up, from_name, owner_after, other_after, component_after, names_after}
use Rattle.step_reduct.specs.CanWrite.{CanWrite}
use Rattle.step_reduct.proofs.Redexes.{names_by}
use Rattle.step_write.specs.declared.Change.{Change}
use Rattle.step_write.specs.declared.Change.TheVariants.{Kept, Goes, Starts, Holds, Opens, Bare}
use Rattle.step_write.specs.Changes.{Becomes, Sure, changed}

module _ (s : List ℕ) (step : Step) (k : ℕ) where
  abbrev Result : Change → Type 0
  Result r = Becomes s step k r (component_after s step k)

  pub it_goes : k ≡ step.thread → Result Goes
  unfolding component_after changed
  it_goes e = rw (eq-eqb k step.thread e) (record { is = refl; sure = tt })

  -- T-08: an old name keeps its owner, a new one has that of the thread that goes
  pub old_owner : k < names s → owner_after s step.thread k ≡ owner_at s k
  unfolding owner_after
  old_owner l = rw (lt-ltb k (names s) l) refl

  pub new_owner : names s ≤ k → owner_after s step.thread k ≡ owner_at s step.thread
  unfolding owner_after
  new_owner l = rw (le-ltb k (names s) l) refl

  it_stays : k < names s → Becomes s step k Kept (encoded_at s k)
  unfolding changed
  it_stays l = record { is = refl; sure = l }

  -- a test of the code, and the same in the definition
  chosen : (j : ℕ) (x : Change) {r y : Change} {Y : Encoded} → r ≡ cond (eqb k j) x y → Sure s k x → (¬ (k ≡ j) → Becomes s step k y Y)
      → Becomes s step k r (cond (eqb k j) (changed s step k x) Y)
  chosen j x {r} {y} {Y} e p q = go (eqb k j) refl e
    where
      go : (b : Bool) → eqb k j ≡ b → r ≡ cond b x y → Becomes s step k r (cond b (changed s step k x) Y)
      go true t e = rw e (record { is = refl; sure = p })
      go false t e = rw e (q (eqb-false k j t))

  -- what an effect makes of the name, unless it is the thread that goes
  abbrev others : Effect → Encoded
  others effect = look_up effect.changed k (owner_after s step.thread k) (look_up (from_name (names s) effect.new) k (owner_after s step.thread k) (encoded_at s k))

  module _ (w : CanWrite s step) (l : k < names_after s step) (other : ¬ (k ≡ step.thread)) where
    module _ {by : Move} (e : step.by ≡ by) where
      below : k < names s + length (effect_of s step.meeting by).new
      unfolding names_after
      below = subst (λ (m : Move). k < names s + length (effect_of s step.meeting m).new) e l

      becomes : {r : Change}
          → Becomes s step k r (others (effect_of s step.meeting by))
          → Result r
      unfolding component_after other_after
      becomes {r} h =
          rw (ne_eqb k step.thread other)
          (subst (λ (m : Move). Becomes s step k r (others (effect_of s step.meeting m))) (sym e) h)

    -- rules 1, 3, 8 and 9: every other name stays
    pub by_none : {by : Move} → step.by ≡ by → (effect_of s step.meeting by).new ≡ [] → (effect_of s step.meeting by).changed ≡ [] → Result Kept
    unfolding look_up from_name
    by_none e none same = becomes e (rw (same, none) (it_stays (omega (arith, below e, ap length none))))

    pub by_bind : (handle future : ℕ) {r r₂ : Change} → step.by ≡ HandleBind handle future
        → r₂ ≡ cond (eqb k future) (Holds thread_kind) Kept → r ≡ cond (eqb k handle) (Bare used_handle_kind) r₂ → Result r
    unfolding effect_of look_up from_name changed
    by_bind handle future e p q =
        becomes e (chosen handle (Bare used_handle_kind) q tt λ _. chosen future (Holds thread_kind) p tt λ _. it_stays (omega (arith, below e)))

    pub by_exchange : (cell : ℕ) {from to : ℕ} {r : Change} → step.by ≡ CellExch cell from to → r ≡ cond (eqb k cell) (Holds cell_kind) Kept → Result r
    unfolding effect_of look_up from_name changed
    by_exchange cell e q = becomes e (chosen cell (Holds cell_kind) q tt λ _. it_stays (omega (arith, below e)))

    -- new names, where there are m
    module _ {m : ℕ} (m_is : m ≡ names s) where
      pub by_thread : {r : Change} → step.by ≡ ThreadNew → r ≡ cond (eqb k m) Starts Kept → Result r
      unfolding effect_of look_up from_name changed
      by_thread e q = becomes e (chosen (names s) Starts (rw m_is at q) (omega (arith, names_by w e)) λ n. it_stays (omega (arith, below e, n)))

      pub by_handle : {r r₂ : Change} → step.by ≡ HandleNew → r₂ ≡ cond (eqb k (m + 1)) (Opens m) Kept → r ≡ cond (eqb k m) (Bare future_kind) r₂ → Result r
      unfolding effect_of look_up from_name changed
      by_handle e p q =
          becomes e (chosen (names s) (Bare future_kind) (rw m_is at q) tt λ n.
          chosen (names s + 1) (Opens (names s)) (rw m_is at p) tt λ o. it_stays (omega (arith, below e, n, o)))

      pub by_cell : {r : Change} → step.by ≡ CellNew → r ≡ cond (eqb k m) (Holds cell_kind) Kept → Result r
      unfolding effect_of look_up from_name changed
      by_cell e q = becomes e (chosen (names s) (Holds cell_kind) (rw m_is at q) tt λ n. it_stays (omega (arith, below e, n)))
