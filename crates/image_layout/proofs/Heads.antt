-- What the tests of one head answer, one law for each return of `head_agrees` and `head_stands`.
use mathlib.Core.Path.{◌≡◌, refl, sym}
use mathlib.Core.Bool.{Bool, true, false, and-true}
use mathlib.Core.List.{List}
use Prim.Native.Nat.{ℕ, ◌+◌, ◌-◌, ◌≤◌, ◌<◌}
use native.Mathlib.Omega.{arith}
use lib.Dec.{eqb, leb, ltb}
use lib.ListN.{length}
use borrow.Author.Tests.{leb-true, leb-false, lt-ltb, le-ltb, le-leb, lt-leb, eq-eqb, ne_eqb}
use Rattle.calculus.specs.Kinds.{thread_kind, open_handle_kind, future_kind}
use Rattle.calculus.specs.Limits.{max_bays}
use Rattle.image_layout.specs.Slice.{kind_at, companion_at, offset_at, length_at}
use Rattle.image_layout.specs.Layout.{kind_test, companion_test, length_test, head_agrees, head_stands}

module _ (kind companion size : ℕ) where
  pub kind_below : kind < thread_kind → false ≡ head_agrees kind companion size
  unfolding head_agrees kind_test
  kind_below h = rw (lt-leb thread_kind kind h)

  module _ (low : thread_kind ≤ kind) where
    pub kind_above : future_kind < kind → false ≡ head_agrees kind companion size
    unfolding head_agrees kind_test
    kind_above h = rw (le-leb thread_kind kind low, lt-leb kind future_kind h)

    module _ (high : kind ≤ future_kind) where
      pub with_expression : kind < open_handle_kind → ltb companion max_bays ≡ head_agrees kind companion size
      unfolding head_agrees kind_test companion_test length_test
      with_expression h =
          let other : (kind ≡ open_handle_kind) → ⊥ = λ e. omega arith in
          rw (le-leb thread_kind kind low, le-leb kind future_kind high, ne_eqb kind open_handle_kind other, lt-ltb kind open_handle_kind h, and-true)

      pub with_companion : kind ≡ open_handle_kind → eqb size 0 ≡ head_agrees kind companion size
      unfolding head_agrees kind_test companion_test length_test
      with_companion e =
          rw (le-leb thread_kind kind low, le-leb kind future_kind high, eq-eqb kind open_handle_kind e, le-ltb kind open_handle_kind (omega arith))

      module _ (from : open_handle_kind ≤ kind) (other : (kind ≡ open_handle_kind) → ⊥) where
        pub companion_over : max_bays ≤ companion → false ≡ head_agrees kind companion size
        unfolding head_agrees kind_test companion_test length_test
        companion_over h =
            rw (le-leb thread_kind kind low, le-leb kind future_kind high, ne_eqb kind open_handle_kind other, le-ltb companion max_bays h)

        pub with_neither : companion < max_bays → eqb size 0 ≡ head_agrees kind companion size
        unfolding head_agrees kind_test companion_test length_test
        with_neither e =
            rw
            (le-leb thread_kind kind low, le-leb kind future_kind high, ne_eqb kind open_handle_kind other, lt-ltb companion max_bays e, le-ltb kind open_handle_kind from)

-- a sum against a bound, tested by what is left
left_test : (size end n : ℕ) → end ≤ n → leb size (n - end) ≡ leb (end + size) n
left_test size end n h = go (leb size (n - end)) refl
  where
    go : (b : Bool) → leb size (n - end) ≡ b → b ≡ leb (end + size) n
    go true e = sym (le-leb (end + size) n (omega (arith, leb-true size (n - end) e)))
    go false e = sym (lt-leb (end + size) n (omega (arith, leb-false size (n - end) e)))

module _ (s : List ℕ) (k end : ℕ) {kind companion size : ℕ} (is_kind : kind ≡ kind_at s k) (is_companion : companion ≡ companion_at s k) (is_size : size ≡ length_at s k) where
  pub head_fault : head_agrees kind companion size ≡ false → false ≡ head_stands s k end
  unfolding head_stands
  head_fault f = rw (← is_kind, ← is_companion, ← is_size, f)

  module _ (agrees : head_agrees kind companion size ≡ true) {offset : ℕ} (is_offset : offset ≡ offset_at s k) where
    pub offset_fault : ((offset ≡ end) → ⊥) → false ≡ head_stands s k end
    unfolding head_stands
    offset_fault n = rw (← is_kind, ← is_companion, ← is_size, ← is_offset, agrees, ne_eqb offset end n)

    pub head_inside : offset ≡ end → end ≤ length s → leb size (length s - end) ≡ head_stands s k end
    unfolding head_stands
    head_inside e h = rw (← is_kind, ← is_companion, ← is_size, ← is_offset, agrees, eq-eqb offset end e) (left_test size end (length s) h)
