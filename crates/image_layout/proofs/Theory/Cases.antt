-- Cases, computed: the image of document 01's case A, and slices that break one sentence each.
use Rattle.std.specs.Prelude.{◌≡◌, refl, Bool, true, false, List, [], ◌∷◌, ℕ}
use Rattle.calculus.specs.Bytes.{two_bytes, word}
use Rattle.calculus.specs.Kinds.{thread_kind, cell_kind}
use Rattle.image_layout.specs.Encoded.{head, heads, expressions, image_bytes}
use Rattle.image_layout.specs.Slice.{names, kind_at, companion_at, offset_at, length_at}
use Rattle.image_layout.specs.Layout.{kind_test, companion_test, length_test, head_agrees, head_stands, stand_from, heads_stand}

-- document 01, "image 020002000E00030001001100010004000003": a setting of 0, a thread holding unit
abbrev case_A : List ℕ
case_A = 0x02 ∷ 0x00 ∷ 0x02 ∷ 0x00 ∷ 0x0E ∷ 0x00 ∷ 0x03 ∷ 0x00 ∷ 0x01 ∷ 0x00 ∷ 0x11 ∷ 0x00 ∷ 0x01 ∷ 0x00 ∷ 0x04 ∷ 0x00 ∷ 0x00 ∷ 0x03 ∷ []

pub case_A_written : image_bytes (record { kind = cell_kind; companion = 0; expression = 4 ∷ 0 ∷ 0 ∷ [] } ∷ record { kind = thread_kind; companion = 0; expression = 3 ∷ [] } ∷ []) ≡ case_A
unfolding image_bytes heads head expressions two_bytes
case_A_written = refl

-- a slice, and whether it keeps the layout
record Row : Type 0 where
  slice : List ℕ
  keeps : Bool

abbrev rows : List Row
rows =
    record { slice = case_A; keeps = true }
    -- no names
    ∷ record { slice = 0 ∷ 0 ∷ []; keeps = true }
    ∷ record { slice = 0 ∷ 0 ∷ 0 ∷ []; keeps = false }
    -- no two bytes for m; m heads not there
    ∷ record { slice = []; keeps = false }
    ∷ record { slice = 0 ∷ []; keeps = false }
    ∷ record { slice = 1 ∷ 0 ∷ 5 ∷ 0 ∷ 8 ∷ 0 ∷ 0 ∷ []; keeps = false }
    -- a future and its handle; T-08: owner 15, and 16, of a thread, a cell, a used handle and a future; an open handle's companion is no owner
    ∷ record { slice = 2 ∷ 0 ∷ 5 ∷ 0 ∷ 14 ∷ 0 ∷ 0 ∷ 0 ∷ 3 ∷ 1 ∷ 14 ∷ 0 ∷ 0 ∷ 0 ∷ []; keeps = true }
    ∷ record { slice = 1 ∷ 0 ∷ 1 ∷ 15 ∷ 8 ∷ 0 ∷ 1 ∷ 0 ∷ 3 ∷ []; keeps = true }
    ∷ record { slice = 1 ∷ 0 ∷ 1 ∷ 16 ∷ 8 ∷ 0 ∷ 1 ∷ 0 ∷ 3 ∷ []; keeps = false }
    ∷ record { slice = 1 ∷ 0 ∷ 2 ∷ 15 ∷ 8 ∷ 0 ∷ 1 ∷ 0 ∷ 3 ∷ []; keeps = true }
    ∷ record { slice = 1 ∷ 0 ∷ 2 ∷ 16 ∷ 8 ∷ 0 ∷ 1 ∷ 0 ∷ 3 ∷ []; keeps = false }
    ∷ record { slice = 1 ∷ 0 ∷ 4 ∷ 15 ∷ 8 ∷ 0 ∷ 0 ∷ 0 ∷ []; keeps = true }
    ∷ record { slice = 1 ∷ 0 ∷ 4 ∷ 16 ∷ 8 ∷ 0 ∷ 0 ∷ 0 ∷ []; keeps = false }
    ∷ record { slice = 1 ∷ 0 ∷ 5 ∷ 15 ∷ 8 ∷ 0 ∷ 0 ∷ 0 ∷ []; keeps = true }
    ∷ record { slice = 1 ∷ 0 ∷ 5 ∷ 16 ∷ 8 ∷ 0 ∷ 0 ∷ 0 ∷ []; keeps = false }
    ∷ record { slice = 1 ∷ 0 ∷ 3 ∷ 200 ∷ 8 ∷ 0 ∷ 0 ∷ 0 ∷ []; keeps = true }
    -- kinds 0 and 6
    ∷ record { slice = 1 ∷ 0 ∷ 0 ∷ 0 ∷ 8 ∷ 0 ∷ 0 ∷ 0 ∷ []; keeps = false }
    ∷ record { slice = 1 ∷ 0 ∷ 6 ∷ 0 ∷ 8 ∷ 0 ∷ 0 ∷ 0 ∷ []; keeps = false }
    -- a used handle with an expression; a thread's offset 0; a byte over; a cut
    ∷ record { slice = 1 ∷ 0 ∷ 4 ∷ 0 ∷ 8 ∷ 0 ∷ 1 ∷ 0 ∷ 3 ∷ []; keeps = false }
    ∷ record { slice = 1 ∷ 0 ∷ 1 ∷ 0 ∷ 0 ∷ 0 ∷ 1 ∷ 0 ∷ 3 ∷ []; keeps = false }
    ∷ record { slice = 1 ∷ 0 ∷ 1 ∷ 0 ∷ 8 ∷ 0 ∷ 1 ∷ 0 ∷ 3 ∷ 3 ∷ []; keeps = false }
    ∷ record { slice = 1 ∷ 0 ∷ 1 ∷ 0 ∷ 8 ∷ 0 ∷ 2 ∷ 0 ∷ 3 ∷ []; keeps = false }
    ∷ []

abbrev AllHold : List Row → Type 0
AllHold [] = Unit {0}
AllHold (r ∷ rs) = (heads_stand r.slice ≡ r.keeps) × AllHold rs

pub cases : AllHold rows
unfolding heads_stand stand_from head_stands head_agrees kind_test companion_test length_test names kind_at companion_at offset_at length_at word
cases = (refl, (refl, (refl, (refl, (refl, (refl, (refl, (refl, (refl, (refl, (refl, (refl, (refl, (refl, (refl, (refl, (refl, (refl, (refl, (refl, (refl, (refl, tt))))))))))))))))))))))
