-- Threads counted, name after name: what the loops keep.
use mathlib.Core.Path.{◌∙◌, ◌≡◌, ap, refl, sym}
use mathlib.Core.Bool.{Bool, cond, false, true}
use mathlib.Core.List.{List, [], ◌∷◌, ◌++◌}
use Prim.Native.Nat.{ℕ, zero, suc, ◌+◌, ◌<◌, ◌≤◌}
use native.Mathlib.Omega.{arith}
use lib.ListN.{get_or, length, length-append}
use Rattle.image_layout.specs.Slice.{names}
use Rattle.image_layout.specs.Layout.{heads_stand}
use Rattle.image_layout.specs.Readable.{HasHead}
use Rattle.image_layout.proofs.Theory.Reading.{has_head}
use Rattle.draw_spec.specs.Draws.{has_thread_kind, threads, threads_below}
use Rattle.draw_spec.proofs.Theory.Threads.{counted, none_more, one_more}

-- so many threads are among the first x names
pub record Counted (image : List ℕ) (x count : ℕ) : Type 0 where
  pub below : x ≤ names image
  pub is : count ≡ length (threads_below image x)

-- no more threads than names
few : (image : List ℕ) (n : ℕ) → length (threads_below image n) ≤ n
unfolding threads_below
few image zero = omega arith
few image (suc n) = go (has_thread_kind image n) (few image n)
  where
    go : (t : Bool) → length (threads_below image n) ≤ n → length (threads_below image n ++ cond t (n ∷ []) []) ≤ suc n
    go true l = rw length-append (omega arith)
    go false l = rw length-append (omega arith)

module _ {image : List ℕ} where
  pub counted_none : Counted image 0 0
  unfolding threads_below
  counted_none = record { below = omega arith; is = refl }

  module _ {x count : ℕ} (c : Counted image x count) where
    pub counted_few : count ≤ x
    counted_few = omega (arith, c.is, few image x)

    pub next_head : heads_stand image ≡ true → x < names image → HasHead image x
    next_head stands l = has_head image stands x l

    -- a thread is one more, another name is none
    pub counted_one : x < names image → has_thread_kind image x ≡ true → Counted image (x + 1) (count + 1)
    counted_one l t = record { below = omega arith; is = rw (one_more image x t, length-append) (omega (arith, c.is)) }

    pub counted_skip : x < names image → has_thread_kind image x ≡ false → Counted image (x + 1) count
    counted_skip l t = record { below = omega arith; is = rw (none_more image x t) c.is }

    -- it is the thread that is looked for, where so many are before it
    pub counted_found : {index : ℕ} → count ≡ index → x < names image → has_thread_kind image x ≡ true → x ≡ get_or (threads image) index 0
    counted_found {index} e l t = sym (ap (λ (i : ℕ). get_or (threads image) i 0) (sym e ∙ c.is) ∙ (counted image (names image) x l t).0)
