-- What an answer of a scan says of the term there, and what a scan answers of a term that stands there.
use mathlib.Core.Path.{◌≡◌, ap, refl, sym, ◌∙◌}
use mathlib.Core.Bool.{Bool, false, true}
use mathlib.Core.List.{List, [], ◌∷◌}
use Prim.Native.Nat.{◌+◌, ◌≤◌, zero-le, ℕ}
use native.Mathlib.Omega.{arith}
use borrow.Author.Tests.{le-leb, leb-true}
use lib.Dec.{leb}
use lib.ListN.{drop, length}
use Rattle.calculus.specs.Image.{nodes}
use Rattle.calculus.proofs.Theory.Tests.{clash}
use Rattle.term.specs.Tree.{forms_below, tree_nodes}
use Rattle.term.specs.Reader.{end_at, first_tree, GoodAt, Got, got, none, of_edition, read_term, tree_at}
use Rattle.term.specs.Expressions.{term_at, term_of}
use Rattle.term.proofs.Views.{end_inside, nodes_inside}
use Rattle.term.proofs.Fronts.{is_good, is_tree}
use Rattle.term.proofs.Sizes.{nodes_exp}
use Rattle.term.proofs.Expressions.{edition_got}
use Rattle.term_scan.specs.declared.Extent.{Extent}
use Rattle.std.specs.Prelude.{is_some, IsSome}
use Rattle.std.proofs.Common.{Option, None, Some}
use Rattle.term_scan.specs.Extents.{ends, exactly, extent_at, in_scope, keeping, part_of, scanned, small}
use Rattle.term_scan.proofs.Many.{refused_ends, same_end, same_nodes}

-- there is a term at a position, it ends at e, and it has n nodes
pub record Stands (l : List ℕ) (at e n : ℕ) : Type 0 where
  pub good : GoodAt l at
  pub end : end_at l at ≡ e
  pub count : nodes (term_at l at) ≡ n

nodes_at : (l : List ℕ) (at : ℕ) → tree_nodes (tree_at l at) ≡ nodes (term_at l at)
unfolding term_of tree_at first_tree
nodes_at l at = nodes_exp (tree_at l at)

-- what the scan answers of a term
pub scan_good : {l : List ℕ} {at : ℕ} → GoodAt l at → extent_at l at ≡ ends (end_at l at) (nodes (term_at l at))
unfolding extent_at end_at tree_at
scan_good {l} {at} g = ap (scanned at) g.good ∙ ap (ends (end_at l at)) (nodes_at l at)

-- and where it answers so
pub scan_stands : (l : List ℕ) (at e n : ℕ) → at ≤ length l → ends e n ≡ extent_at l at → Stands l at e n
unfolding extent_at
scan_stands l at e n inside q = is (read_term (drop at l)) refl q
  where
    stood : GoodAt l at → Stands l at e n
    stood g = let p : ends e n ≡ ends (end_at l at) (nodes (term_at l at)) = q ∙ scan_good g in record { good = g; end = sym (same_end p); count = sym (same_nodes p) }

    is : (g : Got) → read_term (drop at l) ≡ g → ends e n ≡ scanned at g → Stands l at e n
    is none r q = absurd (refused_ends (sym q))
    is (got t rest) r q = stood (record { inside = inside; good = is_good (drop at l) t rest r })

-- so of a term that stands it answers
pub scan_some : {l : List ℕ} {at : ℕ} → GoodAt l at → IsSome (extent_at l at)
scan_some g = rw (scan_good g) refl

-- with the term's nodes
pub not_refused : {l : List ℕ} {at : ℕ} → GoodAt l at → None ≡ extent_at l at → ⊥
not_refused g q = refused_ends (q ∙ scan_good g)

pub scanned_nodes : {l : List ℕ} {at e n : ℕ} → GoodAt l at → ends e n ≡ extent_at l at → n ≡ nodes (term_at l at)
scanned_nodes {l} {at} {e} {n} g q = sym (scan_stands l at e n g.inside q).count

-- the same under a budget
pub small_good : {l : List ℕ} {at : ℕ} (b : ℕ) → GoodAt l at → nodes (term_at l at) ≤ b → small b (extent_at l at) ≡ ends (end_at l at) (nodes (term_at l at))
small_good {l} {at} b g le = rw (scan_good g, le-leb (nodes (term_at l at)) b le)

kept : (b x y e n : ℕ) (t : Bool) → leb y b ≡ t → ends e n ≡ keeping t x y → (ends e n ≡ ends x y) × (n ≤ b)
kept b x y e n true s q = (q, (let z : n ≡ y = same_nodes q in omega (arith, leb-true y b s)))
kept b x y e n false s q = absurd (refused_ends (sym q))

pub small_stands : (b : ℕ) (l : List ℕ) (at e n : ℕ) → at ≤ length l → ends e n ≡ small b (extent_at l at) → Stands l at e n × (n ≤ b)
small_stands b l at e n inside q = is (extent_at l at) refl q
  where
    is : (x : Option Extent) → extent_at l at ≡ x → ends e n ≡ small b x → Stands l at e n × (n ≤ b)
    is None r q = absurd (refused_ends (sym q))
    is (Some x) r q = let (p, le) = kept b x.end x.nodes e n (leb x.nodes b) refl q in (scan_stands l at e n inside (p ∙ sym r), le)

-- and in scope
pub scope_ends : (b : Bool) (x : Option Extent) (e n : ℕ) → ends e n ≡ in_scope b x → (b ≡ true) × (ends e n ≡ x)
scope_ends true x e n q = (refl, q)
scope_ends false x e n q = absurd (refused_ends (sym q))

-- so of a term within the budget the answer says the scope
pub scope_said : {l : List ℕ} {at : ℕ} (b : ℕ) → GoodAt l at → nodes (term_at l at) ≤ b → (t : Bool) → is_some (in_scope t (small b (extent_at l at))) ≡ t
scope_said {l} {at} b g few t = ap (λ x. is_some (in_scope t x)) (small_good b g few) ∙ is t
  where
    is : (t : Bool) → is_some (in_scope t (ends (end_at l at) (nodes (term_at l at)))) ≡ t
    is true = refl
    is false = refl

-- a budget of all bytes is enough
pub small_all : (b : ℕ) (l : List ℕ) (at : ℕ) → at ≤ length l → length l ≤ at + b → small b (extent_at l at) ≡ extent_at l at
small_all b l at inside enough = is (extent_at l at) refl
  where
    is : (x : Option Extent) → extent_at l at ≡ x → small b x ≡ x
    is None q = refl
    is (Some x) q =
        let s = scan_stands l at x.end x.nodes inside (sym q) in
        rw (le-leb x.nodes b (omega (arith, enough, s.count, nodes_at l at, nodes_inside l at, end_inside s.good)))

-- a part that is one term
pub record Single (l : List ℕ) (n : ℕ) : Type 0 where
  pub reads : read_term l ≡ got (tree_at l 0) []
  pub good : GoodAt l 0
  pub count : nodes (term_at l 0) ≡ n

pub part_single : (forms : ℕ) (l : List ℕ) (n : ℕ) → Some n ≡ part_of forms l → Single l n × (forms_below forms (tree_at l 0) ≡ true)
unfolding part_of tree_at term_of first_tree
part_single forms l n q = is (of_edition forms (read_term l)) refl q
  where
    is : (g : Got) → of_edition forms (read_term l) ≡ g → Some n ≡ exactly g → Single l n × (forms_below forms (first_tree l) ≡ true)
    is none r q = absurd (clash (cc))
    is (got t (b ∷ rest)) r q = absurd (clash (cc))
    is (got t []) r q =
        let (r', f) = edition_got forms (read_term l) r in
        let p = is_tree l t [] r' in
        let m : n ≡ tree_nodes t = cc in (
          record {
            reads = r' ∙ ap (λ x. got x []) (sym p);
            good = record { inside = zero-le; good = is_good l t [] r' };
            count = sym (nodes_exp (first_tree l)) ∙ ap tree_nodes p ∙ sym m;
          },
          ap (forms_below forms) p ∙ f,
        )
