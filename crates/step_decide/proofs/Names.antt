-- The component of a name of an image that stands, by its kind.
use mathlib.Core.Path.{◌∙◌, ◌≡◌, ap, sym}
use mathlib.Core.Bool.{true}
use mathlib.Core.Option.{some}
use mathlib.Core.List.{List}
use Prim.Native.Nat.{ℕ, ◌≤◌, ◌<◌}
use native.Mathlib.Omega.{arith}
use Rattle.image.proofs.Theory.Exactly.{companion_is, kind_is, length_config}
use Rattle.calculus.specs.Bytes.{Bytes}
use Rattle.calculus.specs.Syntax.{Exp, Component, thread_of, holds, open_for, used, awaited, at}
use Rattle.calculus.proofs.Theory.Lists.{at_below}
use Rattle.calculus.specs.Kinds.{thread_kind, cell_kind, open_handle_kind, used_handle_kind, future_kind}
use Rattle.image_layout.specs.Slice.{names, kind_at, companion_at, owner_at}
use Rattle.image_layout.specs.Readable.{HasHead}
use Rattle.image_layout.proofs.Theory.Reading.{has_head}
use Rattle.image.specs.Configuration.{encode, config_of}
use Rattle.image.specs.Stands.{image_stands}
use Rattle.step_rules.proofs.Theory.Reading.{heads_do}

-- what a name's head says, and its component
pub data Kind (s : List ℕ) (y : ℕ) : ℕ → Type 0 where
  a_thread : (e : Exp) → at (config_of s) y ≡ some (thread_of e) → Kind s y thread_kind
  a_cell : (e : Exp) → at (config_of s) y ≡ some (holds e) → Kind s y cell_kind
  an_open_handle : at (config_of s) y ≡ some (open_for (companion_at s y)) → Kind s y open_handle_kind
  a_used_handle : at (config_of s) y ≡ some used → Kind s y used_handle_kind
  a_future : at (config_of s) y ≡ some awaited → Kind s y future_kind

module _ (s : List ℕ) (b : Bytes s) (stands : image_stands s ≡ true) (y : ℕ) (below : y < names s) where
  pub head_there : HasHead s y
  head_there = has_head s (heads_do s b stands) y below

  kind_of : (c : Component) → at (config_of s) y ≡ some c → kind_at s y ≡ (encode c (owner_at s y)).kind → companion_at s y ≡ (encode c (owner_at s y)).companion → Kind s y (kind_at s y)
  unfolding encode
  kind_of (thread_of e) h k n = rw k (a_thread e h)
  kind_of (holds e) h k n = rw k (a_cell e h)
  kind_of (open_for z) h k n = rw k (an_open_handle (h ∙ ap (λ j. some (open_for j)) (sym n)))
  kind_of used h k n = rw k (a_used_handle h)
  kind_of awaited h k n = rw k (a_future h)

  pub kind_there : Kind s y (kind_at s y)
  kind_there =
      let (c, h) = at_below (config_of s) y (omega (arith, length_config s)) in
      kind_of c h (kind_is s b stands y h) (companion_is s b stands y h)

-- by the number of its kind
module _ {s : List ℕ} {y : ℕ} where
  pub as_thread : {k : ℕ} → Kind s y k → k ≡ thread_kind → (e : Exp) × (at (config_of s) y ≡ some (thread_of e))
  as_thread (a_thread e h) p = (e, h)
  as_thread (a_cell e h) p = absurd (omega arith)
  as_thread (an_open_handle h) p = absurd (omega arith)
  as_thread (a_used_handle h) p = absurd (omega arith)
  as_thread (a_future h) p = absurd (omega arith)

  pub as_cell : {k : ℕ} → Kind s y k → k ≡ cell_kind → (e : Exp) × (at (config_of s) y ≡ some (holds e))
  as_cell (a_thread e h) p = absurd (omega arith)
  as_cell (a_cell e h) p = (e, h)
  as_cell (an_open_handle h) p = absurd (omega arith)
  as_cell (a_used_handle h) p = absurd (omega arith)
  as_cell (a_future h) p = absurd (omega arith)

  pub as_open : {k : ℕ} → Kind s y k → k ≡ open_handle_kind → at (config_of s) y ≡ some (open_for (companion_at s y))
  as_open (a_thread e h) p = absurd (omega arith)
  as_open (a_cell e h) p = absurd (omega arith)
  as_open (an_open_handle h) p = h
  as_open (a_used_handle h) p = absurd (omega arith)
  as_open (a_future h) p = absurd (omega arith)

  pub as_used : {k : ℕ} → Kind s y k → k ≡ used_handle_kind → at (config_of s) y ≡ some used
  as_used (a_thread e h) p = absurd (omega arith)
  as_used (a_cell e h) p = absurd (omega arith)
  as_used (an_open_handle h) p = absurd (omega arith)
  as_used (a_used_handle h) p = h
  as_used (a_future h) p = absurd (omega arith)

  pub as_future : {k : ℕ} → Kind s y k → k ≡ future_kind → at (config_of s) y ≡ some awaited
  as_future (a_thread e h) p = absurd (omega arith)
  as_future (a_cell e h) p = absurd (omega arith)
  as_future (an_open_handle h) p = absurd (omega arith)
  as_future (a_used_handle h) p = absurd (omega arith)
  as_future (a_future h) p = h

  -- a number of a kind
  pub few_kinds : {k : ℕ} → Kind s y k → (thread_kind ≤ k) × (k ≤ future_kind)
  few_kinds (a_thread e h) = (omega arith, omega arith)
  few_kinds (a_cell e h) = (omega arith, omega arith)
  few_kinds (an_open_handle h) = (omega arith, omega arith)
  few_kinds (a_used_handle h) = (omega arith, omega arith)
  few_kinds (a_future h) = (omega arith, omega arith)
