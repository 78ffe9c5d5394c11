-- Expressions and their bytes: an expression that fits is read back, and bytes are one term exactly where they are those of such an expression.
use mathlib.Core.Path.{◌≡◌, ap, ap₂, refl, sym, ◌∙◌}
use mathlib.Core.Bool.{Bool, cond, false, false≢true, true}
use mathlib.Core.Logic.{◌↔◌}
use mathlib.Core.List.{List, [], ◌++◌, ◌∷◌, append-nil}
use Prim.Native.Nat.{◌+◌, ℕ}
use lib.ListN.{drop}
use lib.Seq.{drop-drop}
use Rattle.calculus.specs.Bytes.{Bytes}
use Rattle.calculus.specs.Syntax.{Exp}
use Rattle.calculus.specs.Image.{size}
use Rattle.term.specs.Tree.{forms_below, Tree, tree_size, WellFormed}
use Rattle.term.specs.Reader.{end_at, first_rest, first_tree, Got, none, got, GoodAt, of_edition, one_term, read_term, tree_at, tree_in}
use Rattle.term.specs.Expressions.{bytes, exp_of, term_at, TermAt, tree_of, FitsBytes, term_of}
use Rattle.term.proofs.Trees.{bytes_tree, exp_bytes, exp_fits, exp_size, exp_tree, tree_well_formed}
use Rattle.term.proofs.Reading.{none_got, past_term}
use Rattle.term.proofs.Fronts.{is_good, is_tree}
use Rattle.term.proofs.Terms.{bytes_drop, exactly, read_bytes, read_stands, unique}

pub read_written : (e : Exp) (r : List ℕ) → FitsBytes e → read_term (bytes e ++ r) ≡ got (tree_of e) r
read_written e r f = ap (λ l. read_term (l ++ r)) (bytes_tree e) ∙ read_bytes (tree_of e) r (tree_well_formed e f)

pub bytes_unique : (e e' : Exp) → FitsBytes e → FitsBytes e' → bytes e ≡ bytes e' → e ≡ e'
bytes_unique e e' f f' p =
    let t = unique (tree_of e) (tree_of e') (tree_well_formed e f) (tree_well_formed e' f') (sym (bytes_tree e) ∙ p ∙ bytes_tree e') in
    sym (exp_tree e) ∙ ap exp_of t ∙ exp_tree e'

-- what is read is an expression's bytes
pub one_term_is : (l : List ℕ) (t : Tree) → Bytes l → read_term l ≡ got t [] → (l ≡ bytes (exp_of t)) × FitsBytes (exp_of t)
one_term_is l t b e = let (p, w) = (exactly l t b).0 e in (p ∙ sym (exp_bytes t w), exp_fits t w)

-- document 01, cause 5: "a part is not exactly one term"
pub one_term_iff : (l : List ℕ) → Bytes l → ((t : Tree) × (read_term l ≡ got t [])) ↔ ((e : Exp) × (l ≡ bytes e) × FitsBytes e)
one_term_iff l b = (
  λ (t, e). let (p, f) = one_term_is l t b e in (exp_of t, p, f),
  λ (e, p, f). (tree_of e, ap read_term (p ∙ sym (append-nil (bytes e))) ∙ read_written e [] f),
)

-- exactly one term
one_term_parts : (g : Got) → one_term g ≡ true → (t : Tree) × (g ≡ got t [])
unfolding one_term
one_term_parts none e = absurd (false≢true e)
one_term_parts (got t []) e = (t, refl)
one_term_parts (got t (x ∷ rest)) e = absurd (false≢true e)

pub one_term_sound : (l : List ℕ) → Bytes l → one_term (read_term l) ≡ true → (l ≡ bytes (term_at l 0)) × FitsBytes (term_at l 0)
unfolding term_of
one_term_sound l b e = let (t, g) = one_term_parts (read_term l) e in rw g (one_term_is l t b g)

-- the bytes of an expression are one term, that expression
read_alone : (e : Exp) → FitsBytes e → read_term (bytes e) ≡ got (tree_of e) []
read_alone e f = ap read_term (sym (append-nil (bytes e))) ∙ read_written e [] f

pub one_term_complete : (e : Exp) → FitsBytes e → one_term (read_term (bytes e)) ≡ true
unfolding one_term
one_term_complete e f = rw (read_alone e f) refl

pub term_of_bytes : (e : Exp) → FitsBytes e → term_at (bytes e) 0 ≡ e
unfolding term_of
term_of_bytes e f = rw (read_alone e f) (exp_tree e)

-- In an edition

-- what is read there is read without it too
pub edition_got : (forms : ℕ) (g : Got) {t : Tree} {r : List ℕ} → of_edition forms g ≡ got t r → (g ≡ got t r) × (forms_below forms t ≡ true)
unfolding of_edition
edition_got forms none {t} {r} e = absurd (none_got t r e)
edition_got forms (got u q) {t} {r} e = by (forms_below forms u) refl e
  where
    by : (b : Bool) → forms_below forms u ≡ b → cond b (got u q) none ≡ got t r → (got u q ≡ got t r) × (forms_below forms t ≡ true)
    by true f e = let z : u ≡ t = cc in (e, ap (forms_below forms) (sym z) ∙ f)
    by false f e = absurd (none_got t r e)

pub edition_sound : (forms : ℕ) (l : List ℕ) → Bytes l → one_term (of_edition forms (read_term l)) ≡ true →
    (l ≡ bytes (term_at l 0)) × FitsBytes (term_at l 0) × (forms_below forms (tree_in (read_term l)) ≡ true)
unfolding term_of
edition_sound forms l b e =
    let (t, g) = one_term_parts (of_edition forms (read_term l)) e in
    let (q, f) = edition_got forms (read_term l) g in
    let (p, w) = one_term_is l t b q in
    rw q (p, w, f)

pub edition_complete : (forms : ℕ) (l : List ℕ) (e : Exp) → l ≡ bytes e → FitsBytes e → forms_below forms (tree_in (read_term l)) ≡ true →
    one_term (of_edition forms (read_term l)) ≡ true
unfolding one_term of_edition
edition_complete forms l e p f below =
    let q : read_term l ≡ got (tree_of e) [] = ap read_term p ∙ read_alone e f in
    let k : forms_below forms (tree_of e) ≡ true = rw q at below in
    rw (q, k) refl

-- At a position

-- there stand the bytes of the expression that is read
pub term_stands : {l : List ℕ} {at : ℕ} → Bytes l → GoodAt l at → TermAt l at (term_at l at) × (end_at l at ≡ at + size (term_at l at))
unfolding term_of first_tree end_at tree_at
term_stands {l} {at} b g =
    let t = first_tree (drop at l) in
    let (p, w) = read_stands (drop at l) t (first_rest (drop at l)) (bytes_drop at l b) g.good in
    let s = exp_size t w in
    let r : first_rest (drop at l) ≡ drop (at + size (exp_of t)) l =
    (past_term (drop at l) t (first_rest (drop at l)) g.good).rest ∙ drop-drop (tree_size t) at l ∙ ap (λ n. drop (at + n) l) s in
    (record { inside = g.inside; stands = p ∙ ap₂ ◌++◌ (sym (exp_bytes t w)) r; fits = exp_fits t w }, ap (λ n. at + n) s)

-- and the tree is the table's
pub well_formed_at : {l : List ℕ} {at : ℕ} → Bytes l → GoodAt l at → WellFormed (tree_at l at)
unfolding tree_at
well_formed_at {l} {at} b g = (read_stands (drop at l) (first_tree (drop at l)) (first_rest (drop at l)) (bytes_drop at l b) g.good).1

-- and where they stand, the expression is found
pub record Found (l : List ℕ) (at : ℕ) (e : Exp) : Type 0 where
  pub good : GoodAt l at
  pub term : term_at l at ≡ e
  pub ends : end_at l at ≡ at + size e

pub found_at : {l : List ℕ} {at : ℕ} {e : Exp} → TermAt l at e → Found l at e
unfolding term_of first_tree end_at tree_at
found_at {l} {at} {e} s =
    let p = ap read_term s.stands ∙ read_written e (drop (at + size e) l) s.fits in
    let t = is_tree (drop at l) (tree_of e) (drop (at + size e) l) p in
    let w = tree_well_formed e s.fits in
    record {
      good = record { inside = s.inside; good = is_good (drop at l) (tree_of e) (drop (at + size e) l) p };
      term = ap exp_of t ∙ exp_tree e;
      ends = ap (λ x. at + tree_size x) t ∙ ap (λ n. at + n) (exp_size (tree_of e) w) ∙ ap (λ x. at + size x) (exp_tree e);
    }
