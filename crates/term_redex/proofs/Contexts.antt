-- An expression in a context: its bytes, its size, its nodes, and where it stands.
use mathlib.Core.Path.{◌≡◌, ap, refl, sym, ◌∙◌}
use mathlib.Core.List.{List, [], ◌++◌, ◌∷◌, append-nil, append_assoc}
use Prim.Native.Nat.{◌+◌, ◌-◌, ℕ}
use native.Mathlib.Omega.{arith}
use lib.ListN.{drop, length, length-append, length-drop, take}
use lib.Seq.{drop_at, drop-drop, take_at}
use Rattle.calculus.specs.Syntax.{Exp, app, both, case_of, Shape, thread_of, Config, sum_in}
use Rattle.calculus.specs.Reduction.{Context, hole, in_function, in_argument, in_first, in_second, in_subject, plug, Has, put}
use Rattle.calculus.specs.Step.{application, Redex, subject}
use Rattle.calculus.specs.Image.{Closed, closed_app, closed_both, closed_case, nodes, nodes_all, size}
use Rattle.calculus.proofs.Theory.Configurations.{sum_set}
use Rattle.term.specs.Expressions.{both_tag, bytes, case_tag, TermAt, FitsBytes}
use Rattle.term.proofs.Sizes.{length_bytes}
use Rattle.term.proofs.Trees.{fits_app, fits_both, fits_case}
use Rattle.term_redex.specs.Contexts.{back, context_nodes, front, hole_at}
use Rattle.term_redex.specs.Places.{first_part, second_part}

pub plug_bytes : (F : Context) (e : Exp) → bytes (plug F e) ≡ front F ++ (bytes e ++ back F)
unfolding bytes plug front back
plug_bytes hole e = sym (append-nil (bytes e))
plug_bytes (in_function F a) e = ap (λ (l : List ℕ). 2 ∷ (l ++ bytes a)) (plug_bytes F e) ∙ simp append_assoc
plug_bytes (in_argument v w F) e = ap (λ (l : List ℕ). 2 ∷ (bytes v ++ l)) (plug_bytes F e) ∙ simp append_assoc
plug_bytes (in_first s t F e₂) e = ap (λ (l : List ℕ). both_tag s ∷ t ∷ (l ++ bytes e₂)) (plug_bytes F e) ∙ simp append_assoc
plug_bytes (in_second s t v w F) e = ap (λ (l : List ℕ). both_tag s ∷ t ∷ (bytes v ++ l)) (plug_bytes F e) ∙ simp append_assoc
plug_bytes (in_subject s F e₂) e = ap (λ (l : List ℕ). case_tag s ∷ (l ++ bytes e₂)) (plug_bytes F e) ∙ simp append_assoc

pub plug_size : (F : Context) (e : Exp) → size (plug F e) ≡ hole_at F + size e + length (back F)
unfolding hole_at
plug_size F e =
    let b = ap length (plug_bytes F e) in
    omega (arith, b, length_bytes (plug F e), length-append (front F) (bytes e ++ back F), length-append (bytes e) (back F), length_bytes e)

pub plug_nodes : (F : Context) (e : Exp) → nodes (plug F e) ≡ context_nodes F + nodes e
unfolding nodes plug context_nodes
plug_nodes hole e = omega arith
plug_nodes (in_function F a) e = omega (arith, plug_nodes F e)
plug_nodes (in_argument v w F) e = omega (arith, plug_nodes F e)
plug_nodes (in_first s t F e₂) e = omega (arith, plug_nodes F e)
plug_nodes (in_second s t v w F) e = omega (arith, plug_nodes F e)
plug_nodes (in_subject s F e₂) e = omega (arith, plug_nodes F e)

-- the nodes of a configuration whose thread x has e in place of r
pub put_nodes : (C : Config) (x : ℕ) (F : Context) (r : Exp) → Has C x F r → (e : Exp) → nodes_all (put C x F e) + nodes r ≡ nodes_all C + nodes e
unfolding sum_in
put_nodes C x F r h e = omega (arith, sum_set (sum_in nodes) C x (thread_of (plug F e)) h, plug_nodes F e, plug_nodes F r)

-- What fits in bytes

pub plug_fits : (F : Context) (e : Exp) → FitsBytes (plug F e) → FitsBytes e
unfolding plug
plug_fits hole e p = p
plug_fits (in_function F a) e p = plug_fits F e (fits_app p).0
plug_fits (in_argument v w F) e p = plug_fits F e (fits_app p).1
plug_fits (in_first s t F e₂) e p = plug_fits F e (fits_both p).1
plug_fits (in_second s t v w F) e p = plug_fits F e (fits_both p).2
plug_fits (in_subject s F e₂) e p = plug_fits F e (fits_case p).0

-- Variables bound inside

pub closed_parts : {f a : Exp} → Closed 0 (app f a) → Closed 0 f × Closed 0 a
closed_parts (closed_app p q) = (p, q)

pub closed_components : {s : Shape} {t : ℕ} {e f : Exp} → Closed 0 (both s t e f) → Closed 0 e × Closed 0 f
closed_components (closed_both p q) = (p, q)

pub closed_subject : {s : Shape} {e f : Exp} → Closed 0 (case_of s e f) → Closed 0 e × Closed 2 f
closed_subject (closed_case p q) = (p, q)

pub plug_closed : (F : Context) (e : Exp) → Closed 0 (plug F e) → Closed 0 e
unfolding plug
plug_closed hole e c = c
plug_closed (in_function F a) e c = plug_closed F e (closed_parts c).0
plug_closed (in_argument v w F) e c = plug_closed F e (closed_parts c).1
plug_closed (in_first s t F e₂) e c = plug_closed F e (closed_components c).0
plug_closed (in_second s t v w F) e c = plug_closed F e (closed_components c).1
plug_closed (in_subject s F e₂) e c = plug_closed F e (closed_subject c).0

-- Where it stands

-- what is in the hole, and what is around it, where the whole stands at a position
pub record HoleAt (l : List ℕ) (at : ℕ) (F : Context) (e : Exp) : Type 0 where
  pub term : TermAt l (at + hole_at F) e
  pub before : take (hole_at F) (drop at l) ≡ front F
  pub after : drop (at + hole_at F + size e) l ≡ back F ++ drop (at + size (plug F e)) l
  pub ends : at + size (plug F e) ≡ at + hole_at F + size e + length (back F)

-- after a first part
part_after : (l : List ℕ) (at n : ℕ) (a b : List ℕ) → drop at l ≡ a ++ b → length a ≡ n → drop (at + n) l ≡ b
part_after l at n a b e k = sym (drop-drop n at l) ∙ ap (drop n) e ∙ drop_at a b n k

pub hole_stands : {l : List ℕ} {at : ℕ} (F : Context) (e : Exp) → TermAt l at (plug F e) → HoleAt l at F e
unfolding hole_at
hole_stands {l} {at} F e t =
    let rest = drop (at + size (plug F e)) l in
    let s : drop at l ≡ front F ++ (bytes e ++ (back F ++ rest)) =
    t.stands ∙ ap (λ (x : List ℕ). x ++ rest) (plug_bytes F e) ∙ simp append_assoc in
    let p = part_after l at (length (front F)) (front F) (bytes e ++ (back F ++ rest)) s refl in
    let q = part_after l (at + length (front F)) (size e) (bytes e) (back F ++ rest) p (length_bytes e) in
    record {
      term = record {
        inside = omega (arith, t.inside, ap length s, length-drop at l, length-append (front F) (bytes e ++ (back F ++ rest)));
        stands = p ∙ ap (λ (x : List ℕ). bytes e ++ x) (sym q);
        fits = plug_fits F e t.fits;
      };
      before = ap (take (length (front F))) s ∙ take_at (front F) (bytes e ++ (back F ++ rest)) (length (front F)) refl;
      after = q;
      ends = omega (arith, plug_size F e);
    }

-- the two subterms of a node that stands at a position, past the bytes before them
pub record PartsAt (l : List ℕ) (at before : ℕ) (e f whole : Exp) : Type 0 where
  pub first : TermAt l (at + before) e
  pub second : TermAt l (at + before + size e) f
  pub ends : at + size whole ≡ at + before + size e + size f

parts_stand : {l : List ℕ} {at : ℕ} (head : List ℕ) (e f whole : Exp) → bytes whole ≡ head ++ (bytes e ++ bytes f) → FitsBytes e → FitsBytes f → TermAt l at whole →
    PartsAt l at (length head) e f whole
parts_stand {l} {at} head e f whole is fits fits' t =
    let rest = drop (at + size whole) l in
    let s : drop at l ≡ head ++ (bytes e ++ (bytes f ++ rest)) = t.stands ∙ ap (λ (x : List ℕ). x ++ rest) is ∙ simp append_assoc in
    let p = part_after l at (length head) head (bytes e ++ (bytes f ++ rest)) s refl in
    let q = part_after l (at + length head) (size e) (bytes e) (bytes f ++ rest) p (length_bytes e) in
    let r : at + size whole ≡ at + length head + size e + size f =
    omega (arith, ap length is, length_bytes whole, length-append head (bytes e ++ bytes f), length-append (bytes e) (bytes f), length_bytes e, length_bytes f) in
    let n : length l - at ≡ length head + length (bytes e ++ (bytes f ++ rest)) = omega (arith, ap length s, length-drop at l, length-append head (bytes e ++ (bytes f ++ rest))) in
    record {
      first = record {
        inside = omega (arith, t.inside, n);
        stands = p ∙ ap (λ (x : List ℕ). bytes e ++ x) (sym q);
        fits = fits;
      };
      second = record {
        inside = omega (arith, t.inside, n, length-append (bytes e) (bytes f ++ rest), length_bytes e);
        stands = q ∙ ap (λ (k : ℕ). bytes f ++ drop k l) r;
        fits = fits';
      };
      ends = r;
    }

-- function and argument, subject and body
pub redex_stands : {l : List ℕ} {at : ℕ} {r : Exp} (d : Redex r) → TermAt l at r → PartsAt l at 1 (first_part d) (second_part d) r
unfolding bytes
redex_stands (application {f = f} {v = v} wf wv) t = parts_stand (2 ∷ []) f v (app f v) refl (fits_app t.fits).0 (fits_app t.fits).1 t
redex_stands (subject {s = s} {v = v} {e = e} w) t = parts_stand (case_tag s ∷ []) v e (case_of s v e) refl (fits_case t.fits).0 (fits_case t.fits).1 t

-- the components of a pair or list front
pub components_stand : {l : List ℕ} {at : ℕ} {s : Shape} {t : ℕ} {e f : Exp} → TermAt l at (both s t e f) → PartsAt l at 2 e f (both s t e f)
unfolding bytes
components_stand {s = s} {t = t} {e = e} {f = f} h = parts_stand (both_tag s ∷ t ∷ []) e f (both s t e f) refl (fits_both h.fits).1 (fits_both h.fits).2 h
