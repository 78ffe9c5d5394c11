-- The loop that counts the open handles of each companion. One law for each way through it.
use mathlib.Core.Path.{◌∙◌, ◌≡◌, ap, refl, sym}
use mathlib.Core.Bool.{Bool, cond, false, true}
use mathlib.Core.List.{List}
use Prim.Native.Nat.{◌+◌, ◌<◌, ◌≤◌, suc, zero, ℕ}
use native.Mathlib.Omega.{arith}
use borrow.Author.Tests.{eqb-true, eqb-false}
use lib.Dec.{eqb}
use lib.ListN.{get_or, get_or-replicate, length, length-replicate, length-set, replicate, set}
use lib.Seq.{get_or-set_same, get_or-set_other}
use Rattle.calculus.specs.Syntax.{Component, thread_of, holds, open_for, used, awaited}
use Rattle.calculus.specs.Lists.{sum_below}
use Rattle.calculus.specs.Limits.{max_names}
use Rattle.calculus.specs.Image.{handle_for}
use Rattle.calculus.specs.Kinds.{open_handle_kind}
use Rattle.image_layout.specs.Slice.{names, kind_at, companion_at}
use Rattle.image_layout.specs.Layout.{heads_stand}
use Rattle.image.specs.Configuration.{components}
use Rattle.image_check.specs.Parts.{component_of, handles_below, Named, Tally}
use Rattle.image_check.proofs.Theory.Names.{component_kind, config_handles, open_component, sum_below_next}

-- k of m names have been counted
pub record Tallied (s : List ℕ) (m k : ℕ) (counts : List ℕ) : Type 0 where
  pub few : k ≤ m
  pub all : m ≡ names s
  pub heads : heads_stand s ≡ true
  pub long : length counts ≡ max_names
  pub each : (y : ℕ) → y < max_names → get_or counts y 0 ≡ handles_below s k y

-- a component counts once at most
one_handle : (y : ℕ) (c : Component) → handle_for y c ≤ 1
unfolding handle_for
one_handle y (thread_of e) = omega arith
one_handle y (holds v) = omega arith
one_handle y used = omega arith
one_handle y awaited = omega arith
one_handle y (open_for z) = go (eqb z y)
  where
    go : (b : Bool) → cond b 1 0 ≤ 1
    go true = omega arith
    go false = omega arith

pub few_handles : (s : List ℕ) (k y : ℕ) → handles_below s k y ≤ k
unfolding handles_below sum_below
few_handles s zero y = omega arith
few_handles s (suc k) y = omega (arith, few_handles s k y, one_handle y (component_of s k))

handles_next : (s : List ℕ) (k y : ℕ) → handles_below s (k + 1) y ≡ handles_below s k y + handle_for y (component_of s k)
unfolding handles_below
handles_next s k y = sum_below_next (λ i. handle_for y (component_of s i)) k

-- a name by its kind
module _ (s : List ℕ) (k y : ℕ) where
  no_handle : (kind : ℕ) → kind_at s k ≡ kind → (kind ≡ open_handle_kind → ⊥) → handle_for y (component_of s k) ≡ 0
  unfolding handle_for components
  no_handle zero e h = rw (component_kind s k zero e) refl
  no_handle (suc zero) e h = rw (component_kind s k (suc zero) e) refl
  no_handle (suc (suc zero)) e h = rw (component_kind s k (suc (suc zero)) e) refl
  no_handle (suc (suc (suc zero))) e h = absurd (h refl)
  no_handle (suc (suc (suc (suc zero)))) e h = rw (component_kind s k (suc (suc (suc (suc zero)))) e) refl
  no_handle (suc (suc (suc (suc (suc zero))))) e h = rw (component_kind s k (suc (suc (suc (suc (suc zero))))) e) refl
  no_handle (suc (suc (suc (suc (suc (suc n)))))) e h = rw (component_kind s k (suc (suc (suc (suc (suc (suc n)))))) e) refl

  a_handle : kind_at s k ≡ open_handle_kind → handle_for y (component_of s k) ≡ cond (eqb (companion_at s k) y) 1 0
  unfolding handle_for
  a_handle e = rw (open_component s k e) refl

-- before the first
pub tallied_none : (s : List ℕ) (m : ℕ) → m ≡ names s → heads_stand s ≡ true → Tallied s m 0 (replicate max_names 0)
unfolding handles_below sum_below
tallied_none s m e h = record {
  few = omega arith;
  all = e;
  heads = h;
  long = length-replicate {A = ℕ} max_names 0;
  each = λ y l. get_or-replicate {A = ℕ} max_names y 0 0 l;
}

module _ {s : List ℕ} {m k : ℕ} {counts : List ℕ} (p : Tallied s m k counts) where
  -- after the last
  pub tallied_all : m ≤ k → Tally s counts
  tallied_all h =
      let e : k ≡ names s = omega (arith, p.few, p.all) in
      record { long = p.long; each = λ y l. p.each y l ∙ ap (λ (x : ℕ). handles_below s x y) e ∙ sym (config_handles s y) }

  -- no count is above the number of names
  pub small : (y : ℕ) → y < max_names → get_or counts y 0 ≤ k
  small y l = omega (arith, p.each y l, few_handles s k y)

  module _ (more : k < m) where
    pub next_named : Named s k
    next_named = record { heads = p.heads; below = omega (arith, p.all) }

    -- no open handle
    pub tallied_skip : {kind : ℕ} → kind ≡ kind_at s k → (kind ≡ open_handle_kind → ⊥) → Tallied s m (k + 1) counts
    tallied_skip {kind} e h = record {
      few = omega arith;
      all = p.all;
      heads = p.heads;
      long = p.long;
      each = λ y l. omega (arith, p.each y l, handles_next s k y, no_handle s k y (kind_at s k) refl (λ q. h (e ∙ q)));
    }

    -- an open handle
    pub tallied_one : {kind companion : ℕ} → kind ≡ kind_at s k → kind ≡ open_handle_kind → companion ≡ companion_at s k → companion < max_names →
        Tallied s m (k + 1) (set counts companion (get_or counts companion 0 + 1))
    tallied_one {kind} {companion} e h c l = record {
      few = omega arith;
      all = p.all;
      heads = p.heads;
      long = length-set counts companion (get_or counts companion 0 + 1) ∙ p.long;
      each = λ y b. go y b (eqb companion y) refl;
    }
      where
        handle : (y : ℕ) → handle_for y (component_of s k) ≡ cond (eqb companion y) 1 0
        handle y = a_handle s k y (sym e ∙ h) ∙ ap (λ (x : ℕ). cond (eqb x y) 1 0) (sym c)

        go : (y : ℕ) → y < max_names → (t : Bool) → eqb companion y ≡ t → get_or (set counts companion (get_or counts companion 0 + 1)) y 0 ≡ handles_below s (k + 1) y
        go y b true q =
            let same : companion ≡ y = eqb-true companion y q in
            let one : handle_for y (component_of s k) ≡ 1 = handle y ∙ ap (λ (t : Bool). cond t 1 0) q in
            ap (λ (x : ℕ). get_or (set counts companion (get_or counts companion 0 + 1)) x 0) (sym same)
            ∙ get_or-set_same counts companion (get_or counts companion 0 + 1) 0 (omega (arith, p.long))
            ∙ ap (λ (x : ℕ). get_or counts x 0 + 1) same
            ∙ omega (arith, p.each y b, handles_next s k y, one)
        go y b false q =
            let none : handle_for y (component_of s k) ≡ 0 = handle y ∙ ap (λ (t : Bool). cond t 1 0) q in
            get_or-set_other counts companion y (get_or counts companion 0 + 1) 0 (λ r. eqb-false companion y q (sym r))
            ∙ omega (arith, p.each y b, handles_next s k y, none)
