-- From a number of a band to the next one that may come to what is wanted.
use mathlib.Core.Path.{◌≡◌, refl, sym, ◌∙◌}
use mathlib.Core.Bool.{Bool, ◌&&◌, cond, false, false≢true, true}
use Prim.Native.Nat.{◌+◌, ◌<◌, ◌≤◌, ℕ}
use native.Mathlib.Omega.{arith}
use lib.Dec.{eqb}
use Rattle.calculus.specs.Limits.{byte_values}
use Rattle.calculus.specs.Table.{Table}
use Rattle.calculus.proofs.Theory.Tests.{eqb_complete, eqb_differ, eqb_sound}
use Rattle.list_spec.specs.Goals.{meets}
use Rattle.list_index.specs.Index.{comes_to, in_band, Skips}
use Rattle.list_place.specs.Places.{want_of}
use Rattle.list_place.proofs.Pushing.{want_some}
use Rattle.list_skip.specs.Jumps.{found_in, NumberJump}

module _ (T : Table) (spine want band number : ℕ) (b : number < byte_values) where
  -- one number further passes nothing over
  pub one_further : NumberJump T spine want band number (number + 1)
  one_further = record { up = omega arith; within = omega arith; passed = λ i h k. absurd (omega arith) }

  -- no application stands open: only the number that is wanted
  module _ (w : want < byte_values) (s : spine ≡ 0) where
    other : (i : ℕ) → ¬ (i ≡ want) → (meets T spine (want_of want) i && in_band T band i) ≡ false
    unfolding meets
    other i n = rw (s, want_some want w, eqb_differ i want n) refl

    pub to_wanted : number < want → NumberJump T spine want band number want
    to_wanted h = record { up = h; within = omega arith; passed = λ i l k. other i (λ e. omega arith) }

    pub past_wanted : want ≤ number → NumberJump T spine want band number byte_values
    past_wanted h = record { up = b; within = omega arith; passed = λ i l k. other i (λ e. omega arith) }

  -- what a chain says
  pub by_chain : want < byte_values → (n : ℕ) → Skips T spine band want number n → (r : ℕ) → r ≡ found_in n → r ≤ byte_values → NumberJump T spine want band number r
  unfolding found_in
  by_chain w n s r e l = go (eqb n 0) refl e
    where
      same : (i : ℕ) → comes_to T spine band want i ≡ false → (meets T spine (want_of want) i && in_band T band i) ≡ false
      same i q = rw (want_some want w) q

      go : (c : Bool) → eqb n 0 ≡ c → r ≡ cond c byte_values n → NumberJump T spine want band number r
      go true q x =
          let y : n ≡ 0 = eqb_sound n 0 q in
          rw x (record { up = b; within = omega arith; passed = λ i h k. same i (s.none_left i h (omega arith) y) })
      go false q x =
          let y : ¬ (n ≡ 0) = λ d. false≢true (sym q ∙ eqb_complete n 0 d) in
          let k : n ≤ byte_values = rw x at l in
          rw x (record { up = s.up y; within = k; passed = λ i h m. same i (s.passed i h (omega arith) y m) })
