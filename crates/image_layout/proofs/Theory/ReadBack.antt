-- What was written is read back: the components of `image_bytes E` are E, and it keeps the layout.
use Rattle.std.specs.Prelude.{◌≡◌, ℕ, zero, suc, ◌+◌, ◌*◌, length, drop}
use Rattle.std.proofs.Math.Path.{refl, ap, ap₂}
use Rattle.std.proofs.Common.{sym, ◌∙◌, add-zero, add_assoc, arith, get_or-append-add, drop_at}
use Rattle.std.proofs.Math.Option.{some}
use mathlib.Core.List.{List, [], ◌∷◌, ◌++◌, append_assoc}
use Rattle.std.proofs.Math.ListN.{get_or, take, length-append}
use Rattle.std.proofs.Math.Seq.{take_at}
use Rattle.calculus.specs.Bytes.{two_bytes, word}
use Rattle.buffer.proofs.Theory.TwoBytes.{number_of_bytes}
use Rattle.calculus.specs.Syntax.{at}
use Rattle.calculus.proofs.Theory.Tests.{clash}
use Rattle.calculus.proofs.Theory.Lists.{append_left}
use Rattle.image_layout.specs.Encoded.{Encoded, head, heads, head_offset, expressions, image_bytes}
use Rattle.calculus.specs.Lists.{tabulate}
use Rattle.calculus.proofs.Theory.Tabulate.{tabulate_is}
use Rattle.image_layout.specs.Slice.{names, kind_at, companion_at, offset_at, length_at, expression_at, encoded_at, encoded_all}
use Rattle.image_layout.proofs.Theory.Components.{expressions_append, heads_append, length_heads, so_far}

-- a head that stands at its place is read
module _ (P R : List ℕ) (kind companion offset size k : ℕ) (place : length P ≡ head_offset k) where
  abbrev with_head : List ℕ
  with_head = P ++ (head kind companion offset size ++ R)

  byte_there : (n : ℕ) → get_or with_head (head_offset k + n) 0 ≡ get_or (head kind companion offset size ++ R) n 0
  byte_there n = ap (λ (x : ℕ). get_or with_head (x + n) 0) (sym place) ∙ get_or-append-add P (head kind companion offset size ++ R) n 0

  kind_there : kind_at with_head k ≡ kind
  unfolding kind_at head two_bytes
  kind_there = ap (λ (x : ℕ). get_or with_head x 0) (sym (add-zero (head_offset k))) ∙ byte_there 0

  companion_there : companion_at with_head k ≡ companion
  unfolding companion_at head two_bytes
  companion_there = byte_there 1

  offset_there : offset_at with_head k ≡ offset
  unfolding offset_at word head two_bytes
  offset_there =
      ap₂ (λ (x y : ℕ). x + 256 * y) (byte_there 2) (ap (λ (x : ℕ). get_or with_head x 0) (add_assoc (head_offset k) 2 1) ∙ byte_there 3)
      ∙ number_of_bytes offset

  length_there : length_at with_head k ≡ size
  unfolding length_at word head two_bytes
  length_there =
      ap₂ (λ (x y : ℕ). x + 256 * y) (byte_there 4) (ap (λ (x : ℕ). get_or with_head x 0) (add_assoc (head_offset k) 4 1) ∙ byte_there 5)
      ∙ number_of_bytes size

-- the number of names
pub names_read : (E : List Encoded) → names (image_bytes E) ≡ length E
unfolding names word image_bytes two_bytes
names_read E = number_of_bytes (length E)

-- a list of components apart at one of them
module _ (A : List Encoded) (e : Encoded) (B : List Encoded) where
  abbrev whole : List Encoded
  whole = A ++ (e ∷ B)

  -- where the expression of e begins
  abbrev begins : ℕ
  begins = head_offset (length whole) + length (expressions A)

  before_head : List ℕ
  before_head = two_bytes (length whole) ++ heads (head_offset (length whole)) A

  after_head : List ℕ
  after_head = heads (begins + length e.expression) B ++ expressions whole

  by_head : image_bytes whole ≡ before_head ++ (head e.kind e.companion begins (length e.expression) ++ after_head)
  unfolding image_bytes heads before_head after_head
  by_head = rw heads_append (simp append_assoc)

  head_place : length before_head ≡ head_offset (length A)
  unfolding before_head two_bytes
  head_place = omega (arith, length_heads (head_offset (length whole)) A)

  before_expression : List ℕ
  before_expression = two_bytes (length whole) ++ heads (head_offset (length whole)) whole ++ expressions A

  by_expression : image_bytes whole ≡ before_expression ++ (e.expression ++ expressions B)
  unfolding image_bytes expressions before_expression
  by_expression = rw expressions_append (simp append_assoc)

  expression_place : length before_expression ≡ begins
  unfolding before_expression two_bytes
  expression_place =
      omega (arith, length-append (heads (head_offset (length whole)) whole) (expressions A), length_heads (head_offset (length whole)) whole)

  -- each field of its head, and its expression
  kind_read : kind_at (image_bytes whole) (length A) ≡ e.kind
  kind_read = rw by_head (kind_there before_head after_head e.kind e.companion begins (length e.expression) (length A) head_place)

  companion_read : companion_at (image_bytes whole) (length A) ≡ e.companion
  companion_read = rw by_head (companion_there before_head after_head e.kind e.companion begins (length e.expression) (length A) head_place)

  offset_read : offset_at (image_bytes whole) (length A) ≡ begins
  offset_read = rw by_head (offset_there before_head after_head e.kind e.companion begins (length e.expression) (length A) head_place)

  length_read : length_at (image_bytes whole) (length A) ≡ length e.expression
  length_read = rw by_head (length_there before_head after_head e.kind e.companion begins (length e.expression) (length A) head_place)

  expression_read : expression_at (image_bytes whole) (length A) ≡ e.expression
  unfolding expression_at
  expression_read =
      ap₂ (λ (x y : ℕ). take x (drop y (image_bytes whole))) length_read offset_read
      ∙ ap (λ (l : List ℕ). take (length e.expression) (drop begins l)) by_expression
      ∙ ap (take (length e.expression)) (drop_at before_expression (e.expression ++ expressions B) begins expression_place)
      ∙ take_at e.expression (expressions B) (length e.expression) refl

  encoded_read : encoded_at (image_bytes whole) (length A) ≡ e
  unfolding encoded_at
  encoded_read = rw (kind_read, companion_read, expression_read)

-- a list apart at a place
split_place : (E : List Encoded) (k : ℕ) {e : Encoded} → at E k ≡ some e → (A : List Encoded) × (B : List Encoded) × (E ≡ A ++ (e ∷ B)) × (length A ≡ k)
split_place [] k h = absurd (clash (cc))
split_place (x ∷ E) zero {e} h = ([], E, ap (λ (y : Encoded). y ∷ E) cc, refl)
split_place (x ∷ E) (suc k) h = let (A, B, p, n) = split_place E k h in (x ∷ A, B, ap (λ (l : List Encoded). x ∷ l) p, ap suc n)

module _ (E : List Encoded) where
  -- the component that stands at k is read there
  pub component_read : (k : ℕ) (e : Encoded) → at E k ≡ some e → encoded_at (image_bytes E) k ≡ e
  component_read k e h =
      let (A, B, p, n) = split_place E k h in
      ap₂ (λ (l : List Encoded) (x : ℕ). encoded_at (image_bytes l) x) p (sym n) ∙ encoded_read A e B

  -- with its length
  pub size_read : (k : ℕ) (e : Encoded) → at E k ≡ some e → length_at (image_bytes E) k ≡ length e.expression
  size_read k e h =
      let (A, B, p, n) = split_place E k h in
      ap₂ (λ (l : List Encoded) (x : ℕ). length_at (image_bytes l) x) p (sym n) ∙ length_read A e B

  -- and where its expression begins
  pub place_read : (k : ℕ) (e : Encoded) → at E k ≡ some e → offset_at (image_bytes E) k ≡ head_offset (length E) + so_far (encoded_at (image_bytes E)) k
  place_read k e h =
      let (A, B, p, n) = split_place E k h in
      let front : tabulate (length A) (encoded_at (image_bytes E)) ≡ A =
      tabulate_is (length A) (encoded_at (image_bytes E)) A refl (λ j a g. component_read j a (ap (λ (l : List Encoded). at l j) p ∙ append_left A (e ∷ B) j g)) in
      ap₂ (λ (l : List Encoded) (x : ℕ). offset_at (image_bytes l) x) p (sym n)
      ∙ offset_read A e B
      ∙ ap₂ (λ (x : ℕ) (l : List Encoded). head_offset x + length (expressions l)) (ap length (sym p)) (sym front ∙ ap (λ (x : ℕ). tabulate x (encoded_at (image_bytes E))) n)

  -- what was written is read back
  pub read_back : encoded_all (image_bytes E) ≡ E
  unfolding encoded_all
  read_back = rw names_read (tabulate_is (length E) (encoded_at (image_bytes E)) E refl component_read)
