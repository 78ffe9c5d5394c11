-- A slice of bytes keeps the layout exactly when it is the image of a list of components, and that list is one only.
use Rattle.std.specs.Prelude.{◌≡◌, true, ◌↔◌, drop}
use Rattle.std.proofs.Math.Path.{refl, sym, ap, ap₂}
use Rattle.std.proofs.Common.{◌∙◌, add-one, arith, take-add, drop-drop}
use Rattle.std.proofs.Math.Option.{some}
use mathlib.Core.List.{List, [], ◌++◌, append_assoc, append-nil}
use Prim.Native.Nat.{ℕ, zero, suc, ◌+◌, ◌≤◌, ◌<◌}
use Rattle.std.proofs.Math.ListN.{length, take, length-drop}
use Rattle.std.proofs.Math.Seq.{length-take-le, take-length}
use Rattle.calculus.specs.Limits.{head_length}
use Rattle.calculus.specs.Bytes.{Bytes, two_bytes}
use Rattle.buffer.proofs.Theory.TwoBytes.{two_there, word_bytes}
use Rattle.calculus.specs.Syntax.{at}
use Rattle.calculus.proofs.Theory.Lists.{at_below}
use Rattle.image_layout.specs.Encoded.{Encoded, head, heads, head_offset, expressions, image_bytes}
use Rattle.calculus.specs.Lists.{tabulate}
use Rattle.calculus.proofs.Theory.Tabulate.{tabulate_parts}
use Rattle.image_layout.specs.Slice.{names, kind_at, companion_at, offset_at, length_at, expression_at, encoded_at, encoded_all}
use Rattle.image_layout.proofs.Theory.Slice.{encoded_kind, encoded_companion}
use Rattle.image_layout.specs.Layout.{end_below, LayoutRule, heads_stand, HeadRule, EachHead}
use Rattle.image_layout.proofs.Theory.Components.{heads_one, expressions_one, so_far, so_far_none, so_far_next, length_image, image_tabulated}
use Rattle.image_layout.proofs.Theory.Test.{end_first, end_next, laid_heads, heads_stand_iff}
use Rattle.image_layout.proofs.Theory.ReadBack.{names_read, component_read, size_read, place_read, read_back}

-- where each expression is as long as its head says, the expressions of lower names end after their bytes
module _ (s : List ℕ) (as_said : (k : ℕ) → k < names s → length (encoded_at s k).expression ≡ length_at s k) where
  pub end_below_is : (k : ℕ) → k ≤ names s → end_below s k ≡ head_offset (names s) + so_far (encoded_at s) k
  unfolding end_below
  end_below_is zero h = omega (arith, so_far_none (encoded_at s))
  end_below_is (suc k) h = omega (arith, end_below_is k (omega arith), so_far_next (encoded_at s) k, as_said k (omega arith))

-- ---- from components to the slice

module _ (E : List Encoded) (each : EachHead E) where
  found : (k : ℕ) → k < names (image_bytes E) → (e : Encoded) × (at E k ≡ some e)
  found k h = at_below E k (omega (arith, names_read E))

  as_written : (k : ℕ) → k < names (image_bytes E) → length (encoded_at (image_bytes E) k).expression ≡ length_at (image_bytes E) k
  as_written k h = let (e, g) = found k h in ap (λ (x : Encoded). length x.expression) (component_read E k e g) ∙ sym (size_read E k e g)

  kind_is : (k : ℕ) (e : Encoded) → at E k ≡ some e → kind_at (image_bytes E) k ≡ e.kind
  unfolding encoded_at
  kind_is k e g = ap (λ (x : Encoded). x.kind) (component_read E k e g)

  companion_is : (k : ℕ) (e : Encoded) → at E k ≡ some e → companion_at (image_bytes E) k ≡ e.companion
  unfolding encoded_at
  companion_is k e g = ap (λ (x : Encoded). x.companion) (component_read E k e g)

  -- the image of such components keeps the layout
  pub image_laid : LayoutRule (image_bytes E)
  unfolding encoded_all
  image_laid = record {
    heads_inside = omega (arith, ap head_offset (names_read E), length_image E);
    heads = λ k h. let (e, g) = found k h in rw (kind_is k e g, companion_is k e g, size_read E k e g) (each k e g);
    offsets = λ k h. let (e, g) = found k h in
        place_read E k e g
        ∙ ap (λ (x : ℕ). head_offset x + so_far (encoded_at (image_bytes E)) k) (sym (names_read E))
        ∙ sym (end_below_is (image_bytes E) as_written k (omega arith));
    ends =
        end_below_is (image_bytes E) as_written (names (image_bytes E)) (omega arith)
        ∙ ap₂ (λ (x : ℕ) (l : List Encoded). head_offset x + length (expressions l)) (names_read E) (read_back E)
        ∙ sym (length_image E);
  }

  pub image_stands : heads_stand (image_bytes E) ≡ true
  image_stands = (heads_stand_iff (image_bytes E)).1 image_laid

-- ---- from the slice to components

-- two parts of a slice, one after the other
part_add : (s : List ℕ) (n a b : ℕ) → take a (drop n s) ++ take b (drop (n + a) s) ≡ take (a + b) (drop n s)
part_add s n a b = ap (λ (l : List ℕ). take a (drop n s) ++ take b l) (sym (drop-drop a n s)) ∙ sym (take-add a b (drop n s))

module _ (s : List ℕ) (L : LayoutRule s) where
  -- an expression is as long as its head says
  pub length_expression : (k : ℕ) → k < names s → length (encoded_at s k).expression ≡ length_at s k
  unfolding encoded_at expression_at
  length_expression k h =
      length-take-le (length_at s k) (drop (offset_at s k) s) (omega (arith, length-drop (offset_at s k) s, L.offsets k h, (laid_heads s L k h).inside))

  -- the components that are read keep their rules
  rule_read : (k : ℕ) → k < names s → HeadRule (encoded_at s k).kind (encoded_at s k).companion (length (encoded_at s k).expression)
  rule_read k h = rw (encoded_kind, encoded_companion, length_expression k h) (L.heads k h)

  pub each_read : EachHead (encoded_all s)
  unfolding encoded_all
  each_read k e g = let (h, p) = tabulate_parts (names s) (encoded_at s) k g in rw p (rule_read k h)

  module _ (bytes : Bytes s) where
    -- the head of name k, byte for byte
    head_bytes : (k : ℕ) → k < names s → head (kind_at s k) (companion_at s k) (offset_at s k) (length_at s k) ≡ take 6 (drop (head_offset k) s)
    unfolding head kind_at companion_at offset_at length_at
    head_bytes k h =
        let room : head_offset k + head_length ≤ length s = omega (arith, L.heads_inside) in
        ap₂ (λ (a b : List ℕ). a ++ b)
        (ap₂ (λ (a b : List ℕ). a ++ b) (sym (two_there s (head_offset k) (omega arith))) (word_bytes s (head_offset k + 2) bytes (omega arith)) ∙ part_add s (head_offset k) 2 2)
        (word_bytes s (head_offset k + 4) bytes (omega arith))
        ∙ part_add s (head_offset k) 4 2

    -- the first k heads, byte for byte
    abbrev heads_of : ℕ → List ℕ
    heads_of k = heads (head_offset (names s)) (tabulate k (encoded_at s))

    no_heads : two_bytes (names s) ++ heads_of 0 ≡ take 2 s
    unfolding names heads tabulate
    no_heads = append-nil (two_bytes (names s)) ∙ word_bytes s 0 bytes (omega (arith, L.heads_inside))

    next_head : (k : ℕ) → k < names s → heads_of (suc k) ≡ heads_of k ++ take 6 (drop (head_offset k) s)
    unfolding encoded_at
    next_head k h =
        ap heads_of (sym (add-one k))
        ∙ heads_one (head_offset (names s)) k (encoded_at s)
        ∙ ap (λ (l : List ℕ). heads_of k ++ l)
        (ap₂ (head (kind_at s k) (companion_at s k))
        (sym (end_below_is s length_expression k (omega arith)) ∙ sym (L.offsets k h))
        (length_expression k h)
        ∙ head_bytes k h)

    heads_bytes : (k : ℕ) → k ≤ names s → two_bytes (names s) ++ heads_of k ≡ take (head_offset k) s
    heads_bytes zero h = no_heads
    heads_bytes (suc k) h =
        let place : head_offset k + head_length ≡ head_offset (suc k) = omega arith in
        ap (λ (l : List ℕ). two_bytes (names s) ++ l) (next_head k (omega arith))
        ∙ sym (append_assoc (two_bytes (names s)) (heads_of k) (take 6 (drop (head_offset k) s)))
        ∙ ap (λ (l : List ℕ). l ++ take 6 (drop (head_offset k) s)) (heads_bytes k (omega arith))
        ∙ sym (take-add (head_offset k) 6 s)
        ∙ ap (λ (x : ℕ). take x s) place

    -- the first k expressions, byte for byte
    abbrev expressions_of : ℕ → List ℕ
    expressions_of k = expressions (tabulate k (encoded_at s))

    no_expressions : expressions_of 0 ≡ []
    unfolding expressions tabulate
    no_expressions = refl

    next_expression : (k : ℕ) → k < names s → expressions_of (suc k) ≡ expressions_of k ++ take (length_at s k) (drop (end_below s k) s)
    unfolding encoded_at expression_at
    next_expression k h =
        ap expressions_of (sym (add-one k))
        ∙ expressions_one k (encoded_at s)
        ∙ ap (λ (x : ℕ). expressions_of k ++ take (length_at s k) (drop x s)) (L.offsets k h)

    expressions_bytes : (k : ℕ) → k ≤ names s → take (head_offset (names s)) s ++ expressions_of k ≡ take (end_below s k) s
    expressions_bytes zero h = ap (λ (l : List ℕ). take (head_offset (names s)) s ++ l) no_expressions ∙ append-nil (take (head_offset (names s)) s) ∙ ap (λ (x : ℕ). take x s) (sym (end_first s))
    expressions_bytes (suc k) h =
        ap (λ (l : List ℕ). take (head_offset (names s)) s ++ l) (next_expression k (omega arith))
        ∙ sym (append_assoc (take (head_offset (names s)) s) (expressions_of k) (take (length_at s k) (drop (end_below s k) s)))
        ∙ ap (λ (l : List ℕ). l ++ take (length_at s k) (drop (end_below s k) s)) (expressions_bytes k (omega arith))
        ∙ sym (take-add (end_below s k) (length_at s k) s)
        ∙ ap (λ (x : ℕ). take x s) (end_next s k (end_below s k) refl)

    -- the slice is the image of the components that are read
    pub stands : image_bytes (encoded_all s) ≡ s
    unfolding encoded_all
    stands =
        sym (image_tabulated (names s) (encoded_at s))
        ∙ ap (λ (l : List ℕ). l ++ expressions (tabulate (names s) (encoded_at s))) (heads_bytes (names s) (omega arith))
        ∙ expressions_bytes (names s) (omega arith)
        ∙ ap (λ (x : ℕ). take x s) L.ends
        ∙ take-length s

-- ---- both

-- a slice of bytes keeps the layout exactly when it is the image of components that keep their rules
pub exactly : (s : List ℕ) → Bytes s → (heads_stand s ≡ true) ↔ ((E : List Encoded) × EachHead E × (image_bytes E ≡ s))
exactly s bytes = (apart, together)
  where
    apart : heads_stand s ≡ true → (E : List Encoded) × EachHead E × (image_bytes E ≡ s)
    apart h = let L : LayoutRule s = (heads_stand_iff s).0 h in (encoded_all s, each_read s L, stands s L bytes)

    together : (E : List Encoded) × EachHead E × (image_bytes E ≡ s) → heads_stand s ≡ true
    together w = ap heads_stand (sym w.2) ∙ image_stands w.0 w.1

-- and of one list of components only: that which is read in it
pub one_reading : (s : List ℕ) (E : List Encoded) → image_bytes E ≡ s → E ≡ encoded_all s
one_reading s E p = sym (read_back E) ∙ ap encoded_all p
