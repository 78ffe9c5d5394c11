-- Each answer of the code, from what it has read.
use mathlib.Core.Path.{◌∙◌, ◌≡◌, ap, ap₂, sym}
use mathlib.Core.Bool.{Bool, false, true}
use mathlib.Core.List.{List}
use Prim.Native.Nat.{ℕ, ◌+◌}
use Rattle.calculus.specs.Step.{place}
use Rattle.calculus.specs.Image.{is_settled}
use Rattle.numbers.specs.declared.Cause.TheVariants.{UsedHandle, WrongKind}
use Rattle.calculus.specs.Kinds.{thread_kind, cell_kind, open_handle_kind, used_handle_kind, future_kind}
use Rattle.term.specs.Reader.{GoodAt}
use Rattle.term.specs.Expressions.{term_at}
use Rattle.image_layout.specs.Slice.{kind_at, companion_at, offset_at, length_at}
use Rattle.term_redex.specs.declared.Meeting.{Meeting}
use Rattle.step_rules.specs.declared.Move.{Move}
use Rattle.step_rules.specs.declared.Move.TheVariants.{FutureDeref, HandleBind, CellExch}
use Rattle.step_rules.specs.Meets.{step_at}
use Rattle.step_rules.specs.Stepped.{Stepped}
use Rattle.step_decide.specs.declared.Decision.{Decision}
use Rattle.step_decide.specs.declared.Decision.TheVariants.{Goes, Waits, Refuses}
use Rattle.step_decide.specs.Decided.{Decided, goes, waits, refuses_used, refuses_wrong}
use Rattle.step_decide.specs.Asked.{Calls, ExchangesName, Follows, TakesName}
use Rattle.step_decide.proofs.Needed.{call_thread, call_future, call_open, call_used, call_cell, exchange_thread, exchange_future, exchange_cell, exchange_handle, take_thread, take_future, take_other}

-- a thread goes by a move that was made
pub goes_by : {s : List ℕ} {x : ℕ} {m : Meeting} {by made : Move} {d : Decision} → d ≡ Goes (step_at x m made) → made ≡ by → Stepped s x (step_at x m by) → Decided s x d
goes_by e made h = rw (e, made) (goes h)

module _ {s : List ℕ} {x : ℕ} {m : Meeting} {y from : ℕ} (d : Follows s x m y) (from_is : from ≡ offset_at s y) where
  pub follow_good : GoodAt s from
  follow_good = rw from_is d.good

  module _ {value : Bool} (value_is : value ≡ is_settled (place (term_at s from))) where
    settled : value ≡ is_settled (place (term_at s (offset_at s y)))
    settled = value_is ∙ ap (λ k. is_settled (place (term_at s k))) from_is

    pub follow_waits : value ≡ false → Decided s x (Waits y)
    follow_waits v = waits (d.not_done (sym settled ∙ v))

    pub follow_goes : {size : ℕ} {r : Decision} → value ≡ true → size ≡ length_at s y → r ≡ Goes (step_at x m (FutureDeref from (from + size))) → Decided s x r
    follow_goes v size_is e = goes_by e (ap₂ (λ (i j : ℕ). FutureDeref i (i + j)) from_is size_is) (d.done (sym settled ∙ v))

module _ {s : List ℕ} {x : ℕ} {m : Meeting} {y kind : ℕ} (c : Calls s x m y) (kind_is : kind ≡ kind_at s y) where
  pub call_follows : kind ≡ thread_kind → Follows s x m y
  call_follows k = call_thread c (sym kind_is ∙ k)

  pub call_waits : kind ≡ future_kind → Decided s x (Waits y)
  call_waits k = waits (call_future c (sym kind_is ∙ k))

  pub call_goes : {future : ℕ} {r : Decision} → kind ≡ open_handle_kind → future ≡ companion_at s y → r ≡ Goes (step_at x m (HandleBind y future)) → Decided s x r
  call_goes k future_is e = goes_by e (ap (HandleBind y) future_is) (call_open c (sym kind_is ∙ k))

  pub call_refuses_used : kind ≡ used_handle_kind → Decided s x (Refuses UsedHandle)
  call_refuses_used k = refuses_used (call_used c (sym kind_is ∙ k))

  pub call_refuses : ¬ (kind ≡ thread_kind) → ¬ (kind ≡ future_kind) → ¬ (kind ≡ open_handle_kind) → ¬ (kind ≡ used_handle_kind) → Decided s x (Refuses WrongKind)
  call_refuses n₁ n₅ n₃ n₄ = refuses_wrong (call_cell c (λ k. n₁ (kind_is ∙ k)) (λ k. n₅ (kind_is ∙ k)) (λ k. n₃ (kind_is ∙ k)) (λ k. n₄ (kind_is ∙ k)))

module _ {s : List ℕ} {x : ℕ} {m : Meeting} {y kind : ℕ} (c : ExchangesName s x m y) (kind_is : kind ≡ kind_at s y) where
  pub exchange_follows : kind ≡ thread_kind → Follows s x m y
  exchange_follows k = exchange_thread c (sym kind_is ∙ k)

  pub exchange_waits : kind ≡ future_kind → Decided s x (Waits y)
  exchange_waits k = waits (exchange_future c (sym kind_is ∙ k))

  pub exchange_goes : {from size : ℕ} {r : Decision} → kind ≡ cell_kind → from ≡ offset_at s y → size ≡ length_at s y → r ≡ Goes (step_at x m (CellExch y from (from + size))) → Decided s x r
  exchange_goes k from_is size_is e = goes_by e (ap₂ (λ (i j : ℕ). CellExch y i (i + j)) from_is size_is) (exchange_cell c (sym kind_is ∙ k))

  pub exchange_refuses : ¬ (kind ≡ thread_kind) → ¬ (kind ≡ future_kind) → ¬ (kind ≡ cell_kind) → Decided s x (Refuses WrongKind)
  exchange_refuses n₁ n₅ n₂ = refuses_wrong (exchange_handle c (λ k. n₁ (kind_is ∙ k)) (λ k. n₅ (kind_is ∙ k)) (λ k. n₂ (kind_is ∙ k)))

module _ {s : List ℕ} {x : ℕ} {m : Meeting} {y kind : ℕ} (c : TakesName s x m y) (kind_is : kind ≡ kind_at s y) where
  pub take_follows : kind ≡ thread_kind → Follows s x m y
  take_follows k = take_thread c (sym kind_is ∙ k)

  pub take_waits : kind ≡ future_kind → Decided s x (Waits y)
  take_waits k = waits (take_future c (sym kind_is ∙ k))

  pub take_refuses : ¬ (kind ≡ thread_kind) → ¬ (kind ≡ future_kind) → Decided s x (Refuses WrongKind)
  take_refuses n₁ n₅ = refuses_wrong (take_other c (λ k. n₁ (kind_is ∙ k)) (λ k. n₅ (kind_is ∙ k)))
