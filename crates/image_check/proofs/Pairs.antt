-- Handles and futures in pairs: one law for each return of `pair_stands`.
use mathlib.Core.Path.{◌∙◌, ◌≡◌, ap, refl, sym}
use mathlib.Core.Bool.{false, true}
use mathlib.Core.Option.{some}
use mathlib.Core.List.{List}
use Prim.Native.Nat.{◌<◌, ◌≤◌, suc, zero, ℕ}
use native.Mathlib.Omega.{arith}
use borrow.Author.Tests.{ne_eqb}
use lib.Dec.{eqb}
use Rattle.calculus.specs.Syntax.{at}
use Rattle.calculus.specs.Image.{is_awaited}
use Rattle.calculus.specs.Kinds.{open_handle_kind, future_kind}
use Rattle.image_layout.specs.Slice.{kind_at, companion_at}
use Rattle.image_layout.specs.Readable.{HasHead}
use Rattle.image_layout.proofs.Theory.Reading.{has_head}
use Rattle.image.specs.Configuration.{components, config_of}
use Rattle.image_check.specs.Parts.{component_of, HandlesCounted, pair_stands, pair_keeps}
use Rattle.image_check.proofs.Theory.Names.{component_kind, config_at, config_past, future_component, open_component}

-- a name is a future by its kind
awaited_kind : (s : List ℕ) (y kind : ℕ) → kind_at s y ≡ kind → eqb kind future_kind ≡ is_awaited (some (component_of s y))
unfolding is_awaited components
awaited_kind s y zero e = rw (component_kind s y zero e) refl
awaited_kind s y (suc zero) e = rw (component_kind s y (suc zero) e) refl
awaited_kind s y (suc (suc zero)) e = rw (component_kind s y (suc (suc zero)) e) refl
awaited_kind s y (suc (suc (suc zero))) e = rw (component_kind s y (suc (suc (suc zero))) e) refl
awaited_kind s y (suc (suc (suc (suc zero)))) e = rw (component_kind s y (suc (suc (suc (suc zero)))) e) refl
awaited_kind s y (suc (suc (suc (suc (suc zero))))) e = rw (component_kind s y (suc (suc (suc (suc (suc zero))))) e) refl
awaited_kind s y (suc (suc (suc (suc (suc (suc n)))))) e = rw (component_kind s y (suc (suc (suc (suc (suc (suc n)))))) e, ne_eqb (suc (suc (suc (suc (suc (suc n)))))) future_kind (λ q. omega arith)) refl

-- what has no pair
no_pair : (s : List ℕ) (k kind : ℕ) → kind_at s k ≡ kind → (kind ≡ future_kind → ⊥) → (kind ≡ open_handle_kind → ⊥) → true ≡ pair_stands s k
unfolding pair_stands pair_keeps components
no_pair s k zero e f h = rw (component_kind s k zero e) refl
no_pair s k (suc zero) e f h = rw (component_kind s k (suc zero) e) refl
no_pair s k (suc (suc zero)) e f h = rw (component_kind s k (suc (suc zero)) e) refl
no_pair s k (suc (suc (suc zero))) e f h = absurd (h refl)
no_pair s k (suc (suc (suc (suc zero)))) e f h = rw (component_kind s k (suc (suc (suc (suc zero)))) e) refl
no_pair s k (suc (suc (suc (suc (suc zero))))) e f h = absurd (f refl)
no_pair s k (suc (suc (suc (suc (suc (suc n)))))) e f h = rw (component_kind s k (suc (suc (suc (suc (suc (suc n)))))) e) refl

module _ {s : List ℕ} {m k count : ℕ} (p : HandlesCounted s m k count) {kind : ℕ} (is : kind ≡ kind_at s k) where
  pub future_pair : kind ≡ future_kind → eqb count 1 ≡ pair_stands s k
  unfolding pair_stands pair_keeps
  future_pair e = rw (future_component s k (sym is ∙ e), p.handles) refl

  pub other_pair : (kind ≡ future_kind → ⊥) → (kind ≡ open_handle_kind → ⊥) → true ≡ pair_stands s k
  other_pair f h = no_pair s k (kind_at s k) refl (λ q. f (is ∙ q)) (λ q. h (is ∙ q))

  module _ (e : kind ≡ open_handle_kind) {companion : ℕ} (c : companion ≡ companion_at s k) where
    open_pair : is_awaited (at (config_of s) companion) ≡ pair_stands s k
    unfolding pair_stands pair_keeps
    open_pair = rw (open_component s k (sym is ∙ e), c) refl

    pub outside_pair : m ≤ companion → false ≡ pair_stands s k
    unfolding is_awaited
    outside_pair h = sym (ap is_awaited (config_past s companion (omega (arith, p.all)))) ∙ open_pair

    module _ (below : companion < m) where
      pub companion_head : HasHead s companion
      companion_head = has_head s p.named.heads companion (omega (arith, p.all))

      pub companion_pair : {other : ℕ} → other ≡ kind_at s companion → eqb other future_kind ≡ pair_stands s k
      companion_pair {other} o =
          ap (λ (x : ℕ). eqb x future_kind) o
          ∙ awaited_kind s companion (kind_at s companion) refl
          ∙ ap is_awaited (sym (config_at s companion (omega (arith, p.all))))
          ∙ open_pair
