-- Lists of components end to end and one by one: what a loop over names writes.
use Rattle.std.specs.Prelude.{◌≡◌, refl, List, [], ◌∷◌, ◌++◌, ℕ, zero, suc, ◌+◌, ◌*◌, ◌≤◌, length}
use Rattle.std.proofs.Common.{sym, ap, ◌∙◌, ⊎_elim, append_assoc, append-nil, add-zero, add_assoc, eq-or-lt_of_le, le_of_suc-le-suc, add-one, arith, length-append}
use Rattle.calculus.specs.Limits.{head_length}
use Rattle.calculus.specs.Bytes.{two_bytes}
use Rattle.image_layout.specs.Encoded.{Encoded, head, heads, head_offset, expressions, image_bytes}
use Rattle.calculus.specs.Lists.{tabulate}
use Rattle.calculus.proofs.Theory.Tabulate.{length_tabulate}

pub expressions_append : (A B : List Encoded) → expressions (A ++ B) ≡ expressions A ++ expressions B
unfolding expressions
expressions_append [] B = refl
expressions_append (e ∷ A) B = rw (expressions_append A B, append_assoc)

pub heads_append : (offset : ℕ) (A B : List Encoded) → heads offset (A ++ B) ≡ heads offset A ++ heads (offset + length (expressions A)) B
unfolding heads expressions
heads_append offset [] B = rw add-zero
heads_append offset (e ∷ A) B = rw (heads_append (offset + length e.expression) A B, length-append, append_assoc, add_assoc)

pub length_heads : (offset : ℕ) (E : List Encoded) → length (heads offset E) ≡ head_length * length E
unfolding heads head two_bytes
length_heads offset [] = refl
length_heads offset (e ∷ E) = omega (arith, length_heads (offset + length e.expression) E)

pub length_image : (E : List Encoded) → length (image_bytes E) ≡ head_offset (length E) + length (expressions E)
unfolding image_bytes two_bytes
length_image E = simp (length-append, length_heads) (omega arith)

-- a turn of a loop that writes heads
pub heads_one : (offset i : ℕ) (f : ℕ → Encoded)
    → heads offset (tabulate (i + 1) f) ≡ heads offset (tabulate i f) ++ head (f i).kind (f i).companion (offset + length (expressions (tabulate i f))) (length (f i).expression)
unfolding tabulate heads
heads_one offset i f = rw (add-one, heads_append, append-nil)

-- a turn of a loop that writes expressions
pub expressions_one : (i : ℕ) (f : ℕ → Encoded) → expressions (tabulate (i + 1) f) ≡ expressions (tabulate i f) ++ (f i).expression
unfolding tabulate expressions
expressions_one i f = rw (add-one, expressions_append, append-nil)

-- how many bytes the first i expressions have
abbrev pub so_far : (ℕ → Encoded) → ℕ → ℕ
so_far f i = length (expressions (tabulate i f))

pub so_far_one : (f : ℕ → Encoded) (i : ℕ) → so_far f (i + 1) ≡ so_far f i + length (f i).expression
so_far_one f i = ap length (expressions_one i f) ∙ simp length-append

pub so_far_none : (f : ℕ → Encoded) → so_far f 0 ≡ 0
unfolding tabulate expressions
so_far_none f = refl

pub so_far_next : (f : ℕ → Encoded) (i : ℕ) → so_far f (suc i) ≡ so_far f i + length (f i).expression
so_far_next f i = ap (so_far f) (sym (add-one i)) ∙ so_far_one f i

-- fewer names have no more bytes
pub so_far_most : (f : ℕ → Encoded) (m i : ℕ) → i ≤ m → so_far f i ≤ so_far f m
so_far_most f zero i h =
    let e : i ≡ 0 = omega arith in
    rw e (omega arith)
so_far_most f (suc m) i h =
    ⊎_elim (λ e. rw e (omega arith))
    (λ l. omega (arith, so_far_most f m i (le_of_suc-le-suc l), so_far_next f m))
    (eq-or-lt_of_le h)

-- the length of the image of m names
pub length_tabulated : (m : ℕ) (f : ℕ → Encoded) → length (image_bytes (tabulate m f)) ≡ head_offset m + so_far f m
length_tabulated m f = length_image (tabulate m f) ∙ rw length_tabulate

-- its three writes: the number of names, the heads, the expressions
pub image_tabulated : (m : ℕ) (f : ℕ → Encoded) → two_bytes m ++ heads (head_offset m) (tabulate m f) ++ expressions (tabulate m f) ≡ image_bytes (tabulate m f)
unfolding image_bytes
image_tabulated m f = rw length_tabulate
