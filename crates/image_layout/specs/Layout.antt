-- Document 01's layout of an image, of any slice: as a proposition with a field for each sentence, as a test in one pass (Theory.Test,
-- `heads_stand_iff`), and what a list of components needs for its image to keep it (Theory.Exactly).
use Rattle.std.specs.Prelude.{◌≡◌, Bool, ◌&&◌, ◌||◌, List, ℕ, zero, suc, ◌+◌, ◌≤◌, ◌<◌, eqb, leb, ltb, length}
use Rattle.std.proofs.Math.Option.{some}
use Rattle.calculus.specs.Syntax.{at}
use Rattle.calculus.specs.Kinds.{thread_kind, open_handle_kind, future_kind}
use Rattle.calculus.specs.Limits.{max_bays}
use Rattle.image_layout.specs.Encoded.{Encoded, head_offset}
use Rattle.image_layout.specs.Slice.{names, kind_at, companion_at, offset_at, length_at}

-- document 01, "the end of the expressions of lower names (2 + 6m before any)"
unfoldable pub end_below : List ℕ → ℕ → ℕ
end_below s zero = head_offset (names s)
end_below s (suc k) = end_below s k + length_at s k

-- what a head says by itself
pub record HeadRule (kind companion size : ℕ) : Type 0 where
  -- "Kinds: 1 thread .. 5 future not yet bound"
  pub kinds : (thread_kind ≤ kind) × (kind ≤ future_kind)
  -- T-08, "An image with an owner not below 16 breaks the layout"
  pub companions : ¬ (kind ≡ open_handle_kind) → companion < max_bays
  -- "Kinds 3, 4, 5 have length 0"
  pub lengths : open_handle_kind ≤ kind → size ≡ 0

-- the slice keeps the layout
pub record LayoutRule (s : List ℕ) : Type 0 where
  -- "Then come m heads of six bytes"
  pub heads_inside : head_offset (names s) ≤ length s
  -- the three sentences of `HeadRule`
  pub heads : (k : ℕ) → k < names s → HeadRule (kind_at s k) (companion_at s k) (length_at s k)
  -- "The first expression's offset is 2 + 6m, each next begins where the former ends"; kinds 3, 4, 5 have, "as offset, the end of the expressions of lower names"
  pub offsets : (k : ℕ) → k < names s → offset_at s k ≡ end_below s k
  -- "the last ends with the slice; with none, the slice has 2 + 6m bytes"
  pub ends : end_below s (names s) ≡ length s

-- components that keep `HeadRule`
abbrev pub EachHead : List Encoded → Type 0
EachHead E = (k : ℕ) (e : Encoded) → at E k ≡ some e → HeadRule e.kind e.companion (length e.expression)

-- the same as a test.
-- "Kinds: 1 thread .. 5 future not yet bound"
unfoldable pub kind_test : ℕ → Bool
kind_test kind = leb thread_kind kind && leb kind future_kind

-- T-08, "An image with an owner not below 16 breaks the layout"
unfoldable pub companion_test : ℕ → ℕ → Bool
companion_test kind companion = eqb kind open_handle_kind || ltb companion max_bays

-- "Kinds 3, 4, 5 have length 0"
unfoldable pub length_test : ℕ → ℕ → Bool
length_test kind size = ltb kind open_handle_kind || eqb size 0

unfoldable pub head_agrees : ℕ → ℕ → ℕ → Bool
head_agrees kind companion size = kind_test kind && (companion_test kind companion && length_test kind size)

-- the head of name k stands, its expression being due at `end`, and the expression lies inside the slice
unfoldable pub head_stands : List ℕ → ℕ → ℕ → Bool
head_stands s k end = head_agrees (kind_at s k) (companion_at s k) (length_at s k) && (eqb (offset_at s k) end && leb (end + length_at s k) (length s))

-- the heads of `left` names from k on stand, and the last expression ends with the slice
unfoldable pub stand_from : List ℕ → ℕ → ℕ → ℕ → Bool
stand_from s zero k end = eqb end (length s)
stand_from s (suc left) k end = head_stands s k end && stand_from s left (suc k) (end + length_at s k)

unfoldable pub heads_stand : List ℕ → Bool
heads_stand s = leb (head_offset (names s)) (length s) && stand_from s (names s) 0 (head_offset (names s))
