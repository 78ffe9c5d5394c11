-- The theorems on the reader: a well-formed tree is read back from its bytes, and what is read from bytes is a well-formed tree whose bytes
-- stand there. So some bytes are exactly one term where they are the bytes of a well-formed tree, and that tree is unique.
use mathlib.Core.Path.{◌≡◌, refl, ap, sym, subst, subst⁻¹, ◌∙◌}
use mathlib.Core.Logic.{◌↔◌}
use mathlib.Core.List.{List, [], ◌++◌, ◌∷◌, append_assoc, append-nil}
use Prim.Native.Nat.{ℕ, zero, suc, ◌+◌}
use native.Mathlib.Omega.{arith}
use lib.ListN.{length, drop, take, length-append}
use lib.Seq.{get_or-drop}
use Rattle.calculus.specs.Bytes.{Bytes}
use Rattle.term.specs.Tree.{Tree, node_bytes, leaf, one, tree_bytes, tree_size, two, WellFormed}
use Rattle.term.specs.Reader.{got, read_term}
use Rattle.term.proofs.Nodes.{length_operand, head_is, table_node, head_reads, head_past, head_written, head_allowed}
use Rattle.term.proofs.Reading.{Reads, leaf_reads, one_reads, two_reads, reads, found, past, depth_size}

pub bytes_drop : (n : ℕ) (l : List ℕ) → Bytes l → Bytes (drop n l)
bytes_drop n l b i = rw get_or-drop (b (n + i))

pub bytes_take : (n : ℕ) (l : List ℕ) → Bytes l → Bytes (take n l)
bytes_take zero l b i = omega arith
bytes_take (suc n) [] b i = omega arith
bytes_take (suc n) (x ∷ l) b zero = b 0
bytes_take (suc n) (x ∷ l) b (suc i) = bytes_take n l (λ k. b (suc k)) i

bytes_after : {l : List ℕ} {t : Tree} {r : List ℕ} → Reads l t r → Bytes l → Bytes r
bytes_after {l} {t} a b = rw (past a).rest (bytes_drop (tree_size t) l b)

-- what is read stands there
stands : {l : List ℕ} {t : Tree} {r : List ℕ} → Reads l t r → Bytes l → tree_bytes t ++ r ≡ l
unfolding tree_bytes
stands (leaf_reads {l} {h} e k) b = head_written l h b (head_is l h e)
stands (one_reads {l} {r} {h} {t} e k a) b =
    rw (append_assoc, stands a (bytes_drop h.size l b)) (head_written l h b (head_is l h e))
stands (two_reads {l} {r} {q} {h} {t} {u} e k a o) b =
    let bd = bytes_drop h.size l b in
    simp (append_assoc, stands o (bytes_after a bd), stands a bd) (head_written l h b (head_is l h e))

allowed : {l : List ℕ} {t : Tree} {r : List ℕ} → Reads l t r → Bytes l → WellFormed t
allowed (leaf_reads {l} {h} e k) b = rw k at (head_allowed l h b (head_is l h e))
allowed (one_reads {l} {r} {h} {t} e k a) b =
    (rw k at (head_allowed l h b (head_is l h e)), allowed a (bytes_drop h.size l b))
allowed (two_reads {l} {r} {q} {h} {t} {u} e k a o) b =
    let bd = bytes_drop h.size l b in
    (rw k at (head_allowed l h b (head_is l h e)), allowed a bd, allowed o (bytes_after a bd))

-- a well-formed tree is read from its bytes
written : (t : Tree) (r : List ℕ) → WellFormed t → Reads (tree_bytes t ++ r) t r
unfolding tree_bytes
written (leaf tag arg) r w =
    subst (λ (x : List ℕ). Reads (node_bytes tag arg ++ r) (leaf tag arg) x) (head_past tag arg r) (leaf_reads {h = table_node tag arg 0} (head_reads tag arg 0 r w) refl)
written (one tag arg t) r w =
    let e = head_past tag arg (tree_bytes t ++ r) in
    rw append_assoc
    (one_reads {h = table_node tag arg 1} (head_reads tag arg 1 (tree_bytes t ++ r) w.0) refl (subst⁻¹ (λ (x : List ℕ). Reads x t r) e (written t r w.1)))
written (two tag arg t u) r w =
    let e = head_past tag arg (tree_bytes t ++ (tree_bytes u ++ r)) in
    simp append_assoc
    (two_reads {h = table_node tag arg 2} (head_reads tag arg 2 (tree_bytes t ++ (tree_bytes u ++ r)) w.0) refl
    (subst⁻¹ (λ (x : List ℕ). Reads x t (tree_bytes u ++ r)) e (written t (tree_bytes u ++ r) w.1))
    (written u r w.2))

pub size_bytes : (t : Tree) → length (tree_bytes t) ≡ tree_size t
unfolding tree_bytes tree_size
size_bytes (leaf tag arg) = simp (length_operand tag arg) (omega arith)
size_bytes (one tag arg t) = simp (length-append, length_operand tag arg, size_bytes t) (omega arith)
size_bytes (two tag arg t u) = simp (length-append, length_operand tag arg, size_bytes t, size_bytes u) (omega arith)

pub read_bytes : (t : Tree) (r : List ℕ) → WellFormed t → read_term (tree_bytes t ++ r) ≡ got t r
unfolding read_term
read_bytes t r w = found (written t r w) (length (tree_bytes t ++ r)) (omega (arith, length-append (tree_bytes t) r, size_bytes t, depth_size t))

pub read_stands : (l : List ℕ) (t : Tree) (r : List ℕ) → Bytes l → read_term l ≡ got t r → (l ≡ tree_bytes t ++ r) × WellFormed t
unfolding read_term
read_stands l t r b e = let a = reads (length l) l t r e in (sym (stands a b), allowed a b)

-- exactly one term
pub exactly : (l : List ℕ) (t : Tree) → Bytes l → (read_term l ≡ got t []) ↔ ((l ≡ tree_bytes t) × WellFormed t)
exactly l t b = (
  λ e. let s = read_stands l t [] b e in (s.0 ∙ append-nil (tree_bytes t), s.1),
  λ w. ap read_term (w.0 ∙ sym (append-nil (tree_bytes t))) ∙ read_bytes t [] w.1,
)

pub unique : (t u : Tree) → WellFormed t → WellFormed u → tree_bytes t ≡ tree_bytes u → t ≡ u
unique t u wt wu e =
    let p = read_bytes t [] wt in
    let q = read_bytes u [] wu in
    cc
