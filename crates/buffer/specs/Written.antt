-- What a run of stores leaves of a buffer, and the record that every writer promises. A store past the end does nothing, as `set` has it.
use Rattle.std.specs.Prelude.{◌≡◌, List, ℕ, ◌+◌, ◌-◌, ◌≤◌, length, take}
use Rattle.std.proofs.lemmas.List.Edits.{sets}

-- `old` with the bytes `new` stored one by one from index `at`
unfoldable pub written : List ℕ → ℕ → List ℕ → List ℕ
written old at new = sets old at new

-- a writer took the buffer from `old` to `out`: it wrote `new` at `at`, and says that the next place is `next`
pub record Wrote (old : List ℕ) (at : ℕ) (new : List ℕ) (out : List ℕ) (next : ℕ) : Type 0 where
  pub holds : out ≡ written old at new
  pub ends : next ≡ at + length new

-- a writer has copied the first bytes of `src`, as many as there are from `at` to `next`
pub record CopiedTo (src old : List ℕ) (at : ℕ) (out : List ℕ) (next : ℕ) : Type 0 where
  pub onward : at ≤ next
  pub within : next - at ≤ length src
  pub wrote : Wrote old at (take (next - at) src) out next
