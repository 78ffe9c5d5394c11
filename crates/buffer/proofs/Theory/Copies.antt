-- The laws of a copy by pieces, one byte or eight at a time: what a loop that copies has written so far, and that it is all in the end.
use Rattle.std.specs.Prelude.{◌≡◌, refl, List, [], ◌∷◌, ◌++◌, ℕ, suc, zero, ◌+◌, ◌-◌, ◌≤◌, ◌<◌, length, take, drop, set, get_or}
use Rattle.std.proofs.Common.{sym, ap, ◌∙◌, add-zero, add-suc, add-one, arith, length-drop, length-take, take-append-drop, drop-cons, take-add, take-suc, take_all, length-take-le}
use Rattle.buffer.specs.Written.{CopiedTo, Wrote}
use Rattle.buffer.proofs.Theory.Writes.{known_as, stored, then}

-- a turn of a loop that copies `src`: it has j bytes, and stores the next
pub copied_one : (old src : List ℕ) (at j : ℕ) (out : List ℕ) (next : ℕ) → j < length src
    → Wrote old at (take j src) out next → Wrote old at (take (j + 1) src) (set out next (get_or src j 0)) (next + 1)
copied_one old src at j out next h w = known_as (then w (stored (get_or src j 0))) (rw (add-one, take-suc src j 0))

-- its next place
pub copied_next : (old src : List ℕ) (at j : ℕ) (out : List ℕ) (next : ℕ) → j ≤ length src → Wrote old at (take j src) out next → next ≡ at + j
copied_next old src at j out next h w = w.ends ∙ ap (λ (k : ℕ). at + k) (length-take-le j src h)

-- it has copied all
pub copied_all : (old src : List ℕ) (at j : ℕ) (out : List ℕ) (next : ℕ) → length src ≤ j → Wrote old at (take j src) out next → Wrote old at src out next
copied_all old src at j out next h w = known_as w (take_all j src h)

-- a turn that stores the next eight
pub copied_eight : (old src : List ℕ) (at j : ℕ) {out end : List ℕ} {next last : ℕ} → Wrote old at (take j src) out next
    → Wrote out next (take 8 (drop j src)) end last → Wrote old at (take (j + 8) src) end last
copied_eight old src at j w v = known_as (then w v) (sym (take-add j 8 src))

-- what it has copied so far
pub copied_to : (old src : List ℕ) (at j : ℕ) (out : List ℕ) (next : ℕ) → j ≤ length src → Wrote old at (take j src) out next → CopiedTo src old at out next
copied_to old src at j out next h w =
    let n = copied_next old src at j out next h w in
    let k : next - at ≡ j = omega (arith, n) in
    record { onward = omega (arith, n); within = omega (arith, k); wrote = rw k w }

-- the rest of it
pub length_rest : (k : ℕ) (src : List ℕ) → length (take (length src - k) (drop k src)) ≡ length src - k
length_rest k src = simp (length-take, length-drop) (omega arith)

pub with_rest : (k : ℕ) (src : List ℕ) → take k src ++ take (length src - k) (drop k src) ≡ src
with_rest k src =
    ap (λ (r : List ℕ). take k src ++ r) (take_all (length src - k) (drop k src) (omega (arith, length-drop k src)))
    ∙ take-append-drop k src

-- bytes one by one: n of them, from j + i on
unfoldable one_by_one : List ℕ → ℕ → ℕ → ℕ → List ℕ
one_by_one l j i zero = []
one_by_one l j i (suc n) = get_or l (j + i) 0 ∷ one_by_one l j (suc i) n

are_taken : (l : List ℕ) (j i n : ℕ) → j + i + n ≤ length l → one_by_one l j i n ≡ take n (drop (j + i) l)
unfolding one_by_one
are_taken l j i zero h = refl
are_taken l j i (suc n) h =
    ap (λ (r : List ℕ). get_or l (j + i) 0 ∷ r) (are_taken l j (suc i) n (omega arith) ∙ ap (λ (k : ℕ). take n (drop k l)) (add-suc j i))
    ∙ sym (ap (take (suc n)) (drop-cons l (j + i) 0 (omega arith)))

pub eight_from : (l : List ℕ) (j : ℕ) → j + 8 ≤ length l →
    get_or l j 0 ∷ get_or l (j + 1) 0 ∷ get_or l (j + 2) 0 ∷ get_or l (j + 3) 0 ∷ get_or l (j + 4) 0 ∷ get_or l (j + 5) 0 ∷ get_or l (j + 6) 0 ∷ get_or l (j + 7) 0 ∷ [] ≡ take 8 (drop j l)
unfolding one_by_one
eight_from l j h = rw add-zero at (are_taken l j 0 8 (omega arith))
