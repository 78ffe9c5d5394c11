-- The pass of `heads_stand` over a slice that nobody has checked: one law for each way through its loop.
use mathlib.Core.Path.{◌≡◌, sym, ap, ap₂, ◌∙◌}
use mathlib.Core.Bool.{Bool, true, false, ◌&&◌}
use mathlib.Core.List.{List}
use Prim.Native.Nat.{ℕ, suc, ◌+◌, ◌-◌, ◌≤◌, ◌<◌}
use native.Mathlib.Nat.{sub-zero}
use native.Mathlib.Numerals.{add-one}
use native.Mathlib.Omega.{arith}
use lib.Dec.{eqb}
use lib.ListN.{length}
use borrow.Author.Tests.{le-leb, lt-leb}
use Rattle.image_layout.specs.Encoded.{head_offset}
use Rattle.image_layout.specs.Slice.{names, length_at}
use Rattle.image_layout.specs.Layout.{head_stands, stand_from, heads_stand}
use Rattle.image_layout.specs.Readable.{HasHead}
use Rattle.image_layout.proofs.Theory.Test.{head_stands_iff}

-- the heads are not inside the slice
pub no_room : (s : List ℕ) → length s < head_offset (names s) → false ≡ heads_stand s
unfolding heads_stand
no_room s h = rw (lt-leb (head_offset (names s)) (length s) h)

-- k names of m have stood, and the next expression is due at `end`
pub record Passed (s : List ℕ) (m k end : ℕ) : Type 0 where
  pub few : k ≤ m
  pub heads_inside : head_offset m ≤ length s
  pub inside : end ≤ length s
  pub same : heads_stand s ≡ stand_from s (m - k) k end

-- before the first
pub passed_none : (s : List ℕ) (m : ℕ) → m ≡ names s → head_offset m ≤ length s → Passed s m 0 (head_offset m)
unfolding heads_stand
passed_none s m e h = record {
  few = omega arith;
  heads_inside = h;
  inside = h;
  same = rw (← e, le-leb (head_offset m) (length s) h, sub-zero m);
}

module _ {s : List ℕ} {m k end : ℕ} (p : Passed s m k end) where
  -- after the last
  pub passed_all : m ≤ k → eqb end (length s) ≡ heads_stand s
  unfolding stand_from
  passed_all h =
      let none : m - k ≡ 0 = omega (arith, p.few) in
      sym (p.same ∙ ap (λ (x : ℕ). stand_from s x k end) none)

  module _ (more : k < m) where
    pub next_head : HasHead s k
    next_head = record { head_inside = omega (arith, p.heads_inside) }

    step : heads_stand s ≡ head_stands s k end && stand_from s (m - (k + 1)) (k + 1) (end + length_at s k)
    unfolding stand_from
    step =
        let left : m - k ≡ suc (m - (k + 1)) = omega arith in
        p.same
        ∙ ap (λ (x : ℕ). stand_from s x k end) left
        ∙ ap (λ (x : ℕ). head_stands s k end && stand_from s (m - (k + 1)) x (end + length_at s k)) (sym (add-one k))

    -- a fault
    pub passed_fault : head_stands s k end ≡ false → false ≡ heads_stand s
    passed_fault f = sym (step ∙ ap (λ (b : Bool). b && stand_from s (m - (k + 1)) (k + 1) (end + length_at s k)) f)

    -- one more
    pub passed_one : {size : ℕ} → head_stands s k end ≡ true → size ≡ length_at s k → Passed s m (k + 1) (end + size)
    passed_one {size} t e = record {
      few = omega arith;
      heads_inside = p.heads_inside;
      inside = omega (arith, ((head_stands_iff s k end).0 t).inside);
      same = step
          ∙ ap₂ (λ (b : Bool) (x : ℕ). b && stand_from s (m - (k + 1)) (k + 1) (end + x)) t (sym e);
    }
