-- A name that is applied, first argument of a full exch or subject of a case, by its kind.
use mathlib.Core.Path.{◌∙◌, ◌≡◌, ap, refl, sym}
use mathlib.Core.Bool.{false, false≢true}
use mathlib.Core.Option.{Option, some}
use mathlib.Core.List.{List}
use Prim.Native.Nat.{ℕ, ◌≤◌}
use native.Mathlib.Decide.{dec_lt}
use native.Mathlib.Omega.{arith}
use Rattle.calculus.specs.Syntax.{Const, Exp, name, const, app, case_of, op, exch, Shape, Value, is_name, is_exch, Component, thread_of, at}
use Rattle.calculus.specs.Reduction.{Context}
use Rattle.calculus.specs.Names.{count}
use Rattle.calculus.specs.Step.{Answer, application, Place, Redex, settled, meet, loose, subject, waiting, used_handle, wrong_kind, when_done, step_of, step_redex, step_meeting, step_call, step_case, step_exchange, step_subject, place}
use Rattle.calculus.specs.Image.{is_settled}
use Rattle.calculus.proofs.Theory.Tests.{eqb_complete}
use Rattle.calculus.specs.Kinds.{thread_kind, cell_kind, open_handle_kind, used_handle_kind, future_kind}
use Rattle.term.proofs.Expressions.{found_at}
use Rattle.image_layout.specs.Slice.{kind_at, companion_at}
use Rattle.image_layout.specs.Readable.{HasHead}
use Rattle.image.specs.Configuration.{config_of}
use Rattle.term_redex.specs.declared.Meeting.{Meeting}
use Rattle.calculus.proofs.Theory.ImageTest.{settled_value}
use Rattle.step_rules.specs.Meets.{MeetsAt, step_at, dereferenced, exchanged}
use Rattle.step_rules.specs.declared.Move.TheVariants.{HandleBind}
use Rattle.step_rules.specs.Stepped.{Stepped}
use Rattle.step_rules.proofs.Theory.Reading.{below, thread_stands}
use Rattle.step_rules.proofs.Theory.Rules.{deref_moves, deref_case_moves, deref_exch_moves, bind_moves, exchange_moves}
use Rattle.step_rules.proofs.Theory.Found.{name_there}
use Rattle.step_decide.specs.Asked.{Calls, ExchangesName, Follows, TakesName}
use Rattle.step_decide.proofs.Names.{Kind, head_there, kind_there, as_thread, as_cell, as_open, as_used, as_future, few_kinds}

-- a thread that is not done
not_settled : (y : ℕ) (p : Place) (answer : Answer) → is_settled p ≡ false → when_done y p answer ≡ waiting y
unfolding is_settled when_done
not_settled y (settled v w) answer h = absurd (false≢true (sym h))
not_settled y (meet F r d) answer h = refl
not_settled y loose answer h = refl

-- the value of a thread is needed
follows : {s : List ℕ} {x : ℕ} {m : Meeting} {F : Context} {r : Exp} {d : Redex r} → MeetsAt s x m F d → (y : ℕ) (e : Exp) (answer : Answer)
    → at (config_of s) y ≡ some (thread_of e) → step_of (config_of s) x ≡ when_done y (place e) answer
    → (Value e → Stepped s x (step_at x m (dereferenced s y))) → Follows s x m y
follows {s} M y e answer h step done =
    let q = found_at (thread_stands s M.in_bytes M.stands y e h).term in
    let p = ap (λ g. is_settled (place g)) q.term in
    record {
      head = head_there s M.in_bytes M.stands y (below s M.in_bytes M.stands y h);
      good = q.good;
      not_done = λ n. step ∙ not_settled y (place e) answer (sym p ∙ n);
      done = λ d. done (settled_value e (sym p ∙ d));
    }

-- a name that stands there is a name of the image
module _ {s : List ℕ} {x : ℕ} {m : Meeting} {F : Context} {r : Exp} {d : Redex r} (M : MeetsAt s x m F d) (y : ℕ) (there : 1 ≤ count y r) where
  needed_head : HasHead s y
  needed_head = head_there s M.in_bytes M.stands y (name_there M y there)

  needed_kind : Kind s y (kind_at s y)
  needed_kind = kind_there s M.in_bytes M.stands y (name_there M y there)

one_name : (y : ℕ) → 1 ≤ count y (name y)
unfolding count
one_name y = rw (eqb_complete y y refl) (omega arith)

one_called : (y : ℕ) (v : Exp) → 1 ≤ count y (app (name y) v)
unfolding count
one_called y v = omega (arith, one_name y)

one_exchanged : (y : ℕ) (c : Const) (v : Exp) → 1 ≤ count y (app (app (const c) (name y)) v)
unfolding count
one_exchanged y c v = omega (arith, one_name y)

one_taken : (y : ℕ) (s : Shape) (e : Exp) → 1 ≤ count y (case_of s (name y) e)
unfolding count
one_taken y s e = omega (arith, one_name y)

-- name y is applied
module _ {s : List ℕ} {x : ℕ} {m : Meeting} {y : ℕ} (c : Calls s x m y) where
  abbrev called : MeetsAt s x m c.context (application (is_name {k = y}) c.argument_value)
  called = c.meets

  pub call_head : HasHead s y
  call_head = needed_head called y (one_called y c.argument)

  call_kind : Kind s y (kind_at s y)
  call_kind = needed_kind called y (one_called y c.argument)

  call_steps : {o : Option Component} → at (config_of s) y ≡ o → step_of (config_of s) x ≡ step_call (config_of s) x c.context y c.argument o
  unfolding step_redex step_meeting
  call_steps h = called.steps ∙ ap (step_call (config_of s) x c.context y c.argument) h

  pub call_thread : kind_at s y ≡ thread_kind → Follows s x m y
  unfolding step_call
  call_thread k = let (e, h) = as_thread call_kind k in follows called y e _ h (call_steps h) (deref_moves called e h)

  pub call_future : kind_at s y ≡ future_kind → step_of (config_of s) x ≡ waiting y
  unfolding step_call
  call_future k = call_steps (as_future call_kind k)

  pub call_open : kind_at s y ≡ open_handle_kind → Stepped s x (step_at x m (HandleBind y (companion_at s y)))
  call_open k = bind_moves called (companion_at s y) (as_open call_kind k)

  pub call_used : kind_at s y ≡ used_handle_kind → step_of (config_of s) x ≡ used_handle
  unfolding step_call
  call_used k = call_steps (as_used call_kind k)

  pub call_cell : ¬ (kind_at s y ≡ thread_kind) → ¬ (kind_at s y ≡ future_kind) → ¬ (kind_at s y ≡ open_handle_kind) → ¬ (kind_at s y ≡ used_handle_kind) → step_of (config_of s) x ≡ wrong_kind
  unfolding step_call
  call_cell n₁ n₅ n₃ n₄ = let (e, h) = as_cell call_kind (omega (arith, few_kinds call_kind)) in call_steps h

-- name y is the first argument of a full exch
module _ {s : List ℕ} {x : ℕ} {m : Meeting} {y : ℕ} (c : ExchangesName s x m y) where
  abbrev exchanging : MeetsAt s x m c.context (application (is_exch {t = c.constant} (is_name {k = y})) c.argument_value)
  exchanging = c.meets

  pub exchange_head : HasHead s y
  exchange_head = needed_head exchanging y (one_exchanged y (op exch c.constant) c.argument)

  exchange_kind : Kind s y (kind_at s y)
  exchange_kind = needed_kind exchanging y (one_exchanged y (op exch c.constant) c.argument)

  exchange_steps : {o : Option Component} → at (config_of s) y ≡ o
      → step_of (config_of s) x ≡ step_exchange (config_of s) x c.context c.constant y c.argument o
  unfolding step_redex step_meeting
  exchange_steps h = exchanging.steps ∙ ap (step_exchange (config_of s) x c.context c.constant y c.argument) h

  pub exchange_thread : kind_at s y ≡ thread_kind → Follows s x m y
  unfolding step_exchange
  exchange_thread k = let (e, h) = as_thread exchange_kind k in follows exchanging y e _ h (exchange_steps h) (deref_exch_moves exchanging e h)

  pub exchange_future : kind_at s y ≡ future_kind → step_of (config_of s) x ≡ waiting y
  unfolding step_exchange
  exchange_future k = exchange_steps (as_future exchange_kind k)

  pub exchange_cell : kind_at s y ≡ cell_kind → Stepped s x (step_at x m (exchanged s y))
  exchange_cell k = let (e, h) = as_cell exchange_kind k in exchange_moves exchanging e h

  pub exchange_handle : ¬ (kind_at s y ≡ thread_kind) → ¬ (kind_at s y ≡ future_kind) → ¬ (kind_at s y ≡ cell_kind) → step_of (config_of s) x ≡ wrong_kind
  unfolding step_exchange
  exchange_handle n₁ n₅ n₂ = elim (dec_lt (kind_at s y) used_handle_kind) [
    | yes k ↦ exchange_steps (as_open exchange_kind (omega (arith, few_kinds exchange_kind)))
    | no k ↦ exchange_steps (as_used exchange_kind (omega (arith, few_kinds exchange_kind)))
  ]

-- name y is the subject of a case
module _ {s : List ℕ} {x : ℕ} {m : Meeting} {y : ℕ} (c : TakesName s x m y) where
  abbrev taking : MeetsAt s x m c.context (subject {s = c.shape} {e = c.body} (is_name {k = y}))
  taking = c.meets

  pub take_head : HasHead s y
  take_head = needed_head taking y (one_taken y c.shape c.body)

  take_kind : Kind s y (kind_at s y)
  take_kind = needed_kind taking y (one_taken y c.shape c.body)

  take_steps : {o : Option Component} → at (config_of s) y ≡ o → step_of (config_of s) x ≡ step_subject (config_of s) x c.context c.shape y c.body o
  unfolding step_redex step_case
  take_steps h = taking.steps ∙ ap (step_subject (config_of s) x c.context c.shape y c.body) h

  pub take_thread : kind_at s y ≡ thread_kind → Follows s x m y
  unfolding step_subject
  take_thread k = let (e, h) = as_thread take_kind k in follows taking y e _ h (take_steps h) (deref_case_moves taking e h)

  pub take_future : kind_at s y ≡ future_kind → step_of (config_of s) x ≡ waiting y
  unfolding step_subject
  take_future k = take_steps (as_future take_kind k)

  -- a cell, an open handle, a used one
  pub take_other : ¬ (kind_at s y ≡ thread_kind) → ¬ (kind_at s y ≡ future_kind) → step_of (config_of s) x ≡ wrong_kind
  unfolding step_subject
  take_other n₁ n₅ = elim (dec_lt (kind_at s y) open_handle_kind) [
    | yes k ↦ let (e, h) = as_cell take_kind (omega (arith, few_kinds take_kind)) in take_steps h
    | no k ↦ elim (dec_lt (kind_at s y) used_handle_kind) [
      | yes j ↦ take_steps (as_open take_kind (omega (arith, few_kinds take_kind)))
      | no j ↦ take_steps (as_used take_kind (omega (arith, few_kinds take_kind)))
    ]
  ]
