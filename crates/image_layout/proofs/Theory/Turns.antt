-- Loops over names that write an image of m names, name i having the component f i: what a turn adds, and that there is room for it.
use Rattle.std.specs.Prelude.{◌≡◌, refl, List, ℕ, ◌+◌, ◌≤◌, ◌<◌, length}
use Rattle.std.proofs.Common.{ap, sym, ◌∙◌, arith}
use Rattle.calculus.specs.Bytes.{two_byte_values, two_bytes}
use Rattle.calculus.specs.Limits.{first_head, head_length}
use Rattle.buffer.specs.Written.{Wrote}
use Rattle.buffer.proofs.Theory.Writes.{still, same, then, known_as, landed}
use Rattle.image_layout.specs.declared.Head.{Head}
use Rattle.image_layout.specs.declared.Next.{Next}
use Rattle.image_layout.specs.Heads.{Says}
use Rattle.image_layout.specs.Room.{Room}
use Rattle.image_layout.specs.Encoded.{Encoded, head, heads, head_offset, expressions, image_bytes}
use Rattle.calculus.specs.Lists.{tabulate}
use Rattle.calculus.proofs.Theory.Tabulate.{length_tabulate, tabulate_all}
use Rattle.image_layout.proofs.Theory.Components.{length_heads, heads_one, expressions_one, so_far, so_far_none, so_far_one, so_far_most, length_tabulated, image_tabulated}

module _ (m : ℕ) (f : ℕ → Encoded) where
  -- a turn that adds an expression
  pub expression_turn : {old : List ℕ} {at i : ℕ} {mid : List ℕ} {next : ℕ} {out : List ℕ} {last : ℕ}
      → Wrote old at (expressions (tabulate i f)) mid next → Wrote mid next (f i).expression out last
      → Wrote old at (expressions (tabulate (i + 1) f)) out last
  expression_turn {i = i} w v = known_as (then w v) (sym (expressions_one i f))

  -- there is room for it, where there is for all
  pub room_turn : {old : List ℕ} {at i : ℕ} {out : List ℕ} {next : ℕ}
      → at + length (expressions (tabulate m f)) ≤ length old → i < m → Wrote old at (expressions (tabulate i f)) out next → next + length (f i).expression ≤ length out
  room_turn {i = i} room below w = omega (arith, same w, w.ends, so_far_one f i, so_far_most f m (i + 1) (omega arith))

  -- m, the heads and the expressions are the image
  pub image_turns : {old a b out : List ℕ} {first second last : ℕ}
      → Wrote old 0 (two_bytes m) a first → Wrote a first (heads (head_offset m) (tabulate m f)) b second → Wrote b second (expressions (tabulate m f)) out last
      → Wrote old 0 (image_bytes (tabulate m f)) out last
  image_turns u w v = known_as (then (then u w) v) (image_tabulated m f)

  module _ {old : List ℕ} (room : Room m f old) where
    pub room_kept : {out : List ℕ} → length out ≡ length old → Room m f out
    room_kept e = record { fits_in = rw e room.fits_in; small = room.small }

    -- for all the expressions
    pub room_expressions : {at : ℕ} → at ≡ head_offset m → at + length (expressions (tabulate m f)) ≤ length old
    room_expressions e = omega (arith, length_tabulated m f, room.fits_in)

    -- for m, and for all the heads
    pub room_names : (first_head ≤ length old) × (m < two_byte_values)
    room_names = omega (arith, length_tabulated m f, room.fits_in, room.small)

    module _ {i : ℕ} (below : i < m) where
      -- a place and a length in two bytes
      small_head : (head_offset m + so_far f i < two_byte_values) × (length (f i).expression < two_byte_values)
      small_head = omega (arith, so_far_one f i, so_far_most f m (i + 1) (omega arith), length_tabulated m f, room.small)

      pub room_expression : {at : ℕ} {out : List ℕ} {next : ℕ}
          → at ≡ head_offset m → Wrote old at (expressions (tabulate i f)) out next → next + length (f i).expression ≤ length out
      room_expression e w = room_turn (room_expressions e) below w

  -- i heads are written, the first where heads begin
  pub record HeadsTo (old : List ℕ) (at i : ℕ) (out : List ℕ) (next : Next) : Type 0 where
    pub begins : at ≡ first_head
    pub few : i ≤ m
    pub wrote : Wrote old at (heads (head_offset m) (tabulate i f)) out next.head
    pub due : next.expression ≡ head_offset m + so_far f i

  module _ {old : List ℕ} {at : ℕ} where
    -- none is
    pub heads_start : {next : Next} → at ≡ first_head → next.head ≡ at → next.expression ≡ head_offset m → HeadsTo old at 0 old next
    unfolding tabulate heads
    heads_start b h e = record { begins = b; few = omega arith; wrote = landed still (sym h); due = omega (arith, so_far_none f) }

    module _ {i : ℕ} {out : List ℕ} {next : Next} (w : HeadsTo old at i out next) where
      -- all are, and the expressions begin
      pub heads_all : {n : ℕ} → n ≤ i → n ≡ m → Wrote old at (heads (head_offset m) (tabulate m f)) out next.head
      heads_all l e = known_as w.wrote (ap (heads (head_offset m)) (tabulate_all i m m f w.few (omega arith) refl))

      module _ {this : Head} (below : i < m) (says : Says this (f i)) where
        -- there is room for the next, and what it says fits
        pub room_head : Room m f old → (next.head + head_length ≤ length out) × ((next.expression < two_byte_values) × (this.size < two_byte_values))
        room_head room =
            let small = small_head room below in (
              omega (arith, w.begins, same w.wrote, w.wrote.ends, length_heads (head_offset m) (tabulate i f), length_tabulate i f, length_tabulated m f, room.fits_in),
              (omega (arith, small, w.due), omega (arith, small, says.sizes)),
            )

        -- a turn that adds it
        pub heads_turn : {last : List ℕ} {after : Next}
            → Wrote out next.head (head this.kind this.companion next.expression this.size) last after.head
            → after.expression ≡ next.expression + this.size → HeadsTo old at (i + 1) last after
        heads_turn v e = record {
          begins = w.begins;
          few = omega arith;
          wrote = known_as (then w.wrote v) (sym (heads_one (head_offset m) i f ∙ rw (← says.kinds, ← says.companions, ← w.due, ← says.sizes)));
          due = omega (arith, so_far_one f i, w.due, says.sizes);
        }

  -- where the heads end the expressions begin
  pub heads_end : {at next : ℕ} → at ≡ first_head → next ≡ at + length (heads (head_offset m) (tabulate m f)) → next ≡ head_offset m
  heads_end e n = omega (arith, length_heads (head_offset m) (tabulate m f), length_tabulate m f)
