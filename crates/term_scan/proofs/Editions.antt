-- The forms of an edition: the walk that asks each tag, what the loop of `scan_within` knows, and what it answers of a part.
use mathlib.Core.Path.{◌≡◌, ap, refl, sym, ◌∙◌}
use mathlib.Core.Bool.{Bool, cond, false, true}
use mathlib.Core.List.{List, [], ◌∷◌}
use Prim.Native.Nat.{◌+◌, ◌-◌, ◌<◌, ◌≤◌, zero-le, ℕ}
use native.Mathlib.Omega.{arith}
use borrow.Author.Tests.{eq-eqb, le-ltb, lt-ltb, ne_eqb}
use lib.Dec.{eqb, ltb}
use lib.ListN.{drop, length, length-drop}
use Rattle.std.proofs.Common.{None, Option, Some}
use Rattle.term.specs.declared.Node.{Node}
use Rattle.term.specs.Forms.{tags}
use Rattle.term.specs.Tree.{forms_below, Tree, tree_size}
use Rattle.term.specs.Reader.{first_tree, GoodAt, Got, got, node_at, none, of_edition, read_term, tree_at}
use Rattle.term.proofs.Fronts.{is_good, is_tree}
use Rattle.term.proofs.Reading.{past_term, shaped_term}
use Rattle.term.proofs.Shapes.{all_forms}
use Rattle.term_walk.proofs.Law.{from, Walk}
use Rattle.term_walk.proofs.Asking.{asked}
use Rattle.term_scan.specs.declared.Extent.{Extent}
use Rattle.term_scan.specs.Extents.{edition_extent, ends, exactly, extent_at, in_scope, part_of, scanned, small}
use Rattle.term_scan.proofs.Many.{seen_bad, small_end, small_over}
use Rattle.term_scan.proofs.Plain.{Asking, asking_done, asking_on, asking_out, asking_start, plain}
use Rattle.term_scan.proofs.Answers.{small_all}

-- nothing is in scope
pub nothing : (b : Bool) → None ≡ in_scope b None
nothing true = refl
nothing false = refl

-- a term in an edition with all forms
pub all_tags : (l : List ℕ) (at : ℕ) → edition_extent tags l at ≡ extent_at l at
unfolding edition_extent extent_at of_edition
all_tags l at = is (read_term (drop at l)) refl
  where
    is : (g : Got) → read_term (drop at l) ≡ g → scanned at (of_edition tags g) ≡ scanned at g
    is none e = refl
    is (got t r) e = rw (all_forms t (shaped_term (drop at l) t r e)) refl

module _ (forms : ℕ) where
  -- the walk that asks each tag
  abbrev pub tagging : Walk Bool
  tagging = plain (λ tag arg. ltb tag forms)

  pub forms_of : {l : List ℕ} {at : ℕ} → GoodAt l at → from tagging (0 ∷ []) l at ≡ forms_below forms (tree_at l at)
  unfolding forms_below
  forms_of g =
      asked (λ tag d. 0) (λ tag d. 0) (λ d tag arg. ltb tag forms) (λ d t. forms_below forms t) (λ d arg tag f. refl) (λ d arg t tag f. refl) (λ d arg t u tag f. refl) 0 g

  module _ (l : List ℕ) (at : ℕ) (inside : at ≤ length l) where
    -- the walk says whether the edition has the term
    edition_is : edition_extent forms l at ≡ in_scope (from tagging (0 ∷ []) l at) (extent_at l at)
    unfolding edition_extent extent_at of_edition tree_at first_tree
    edition_is = is (read_term (drop at l)) refl
      where
        by : (t : Tree) (r : List ℕ) (b : Bool) → scanned at (cond b (got t r) none) ≡ in_scope b (scanned at (got t r))
        by t r true = refl
        by t r false = refl

        is : (g : Got) → read_term (drop at l) ≡ g → scanned at (of_edition forms g) ≡ in_scope (from tagging (0 ∷ []) l at) (scanned at g)
        is none e = nothing (from tagging (0 ∷ []) l at)
        is (got t r) e =
            by t r (forms_below forms t)
            ∙ ap (λ b. in_scope b (scanned at (got t r)))
            (ap (forms_below forms) (sym (is_tree (drop at l) t r e)) ∙ sym (forms_of (record { inside = inside; good = is_good (drop at l) t r e })))

    -- also under a budget
    pub edition_small : (b : ℕ) → in_scope (from tagging (0 ∷ []) l at) (small b (extent_at l at)) ≡ small b (edition_extent forms l at)
    edition_small b = by (from tagging (0 ∷ []) l at) ∙ ap (small b) (sym edition_is)
      where
        by : (x : Bool) → in_scope x (small b (extent_at l at)) ≡ small b (in_scope x (extent_at l at))
        by true = refl
        by false = refl

    -- where it is enough
    pub edition_all : (b : ℕ) → length l ≤ at + b → small b (edition_extent forms l at) ≡ edition_extent forms l at
    edition_all b enough = sym (edition_small b) ∙ ap (in_scope (from tagging (0 ∷ []) l at)) (small_all b l at inside enough) ∙ sym edition_is

-- The loop: the nodes read are within the budget

pub record Within (forms budget : ℕ) (l : List ℕ) (at here n waits : ℕ) : Type 0 where
  pub begun : at ≤ length l
  pub asking : Asking (λ tag arg. ltb tag forms) l at here n waits
  pub few : n ≤ budget

pub within_start : (forms budget : ℕ) (l : List ℕ) (at : ℕ) → at ≤ length l → Within forms budget l at at 0 1
within_start forms budget l at begun = record { begun = begun; asking = asking_start _ l at begun; few = zero-le }

module _ {forms budget : ℕ} {l : List ℕ} {at here n waits : ℕ} (w : Within forms budget l at here n waits) where
  abbrev answer : Option Extent
  answer = small budget (edition_extent forms l at)

  no_term : None ≡ small budget (extent_at l at) → None ≡ answer
  no_term q = nothing (from (tagging forms) (0 ∷ []) l at) ∙ ap (in_scope (from (tagging forms) (0 ∷ []) l at)) q ∙ edition_small forms l at w.begun budget

  -- behind the last node
  pub within_done : waits ≡ 0 → ends here n ≡ answer
  within_done e =
      small_end budget w.asking.seen e w.few
      ∙ ap (λ b. in_scope b (small budget (extent_at l at))) (sym (asking_done w.asking e))
      ∙ edition_small forms l at w.begun budget

  pub within_over : budget < n + waits → None ≡ answer
  within_over h = no_term (small_over budget w.asking.seen h)

  module _ (some : 0 < waits) where
    pub within_bad : node_at l here ≡ None → None ≡ answer
    within_bad is = no_term (ap (small budget) (seen_bad w.asking.seen some is))

    module _ {h : Node} (is : node_at l here ≡ Some h) where
      pub within_out : forms ≤ h.tag → None ≡ answer
      within_out high =
          ap (λ b. in_scope b (small budget (extent_at l at))) (sym (asking_out w.asking some is (le-ltb h.tag forms high)))
          ∙ edition_small forms l at w.begun budget

      pub within_on : n < budget → h.tag < forms → Within forms budget l at (here + h.size) (n + 1) (waits - 1 + h.subterms)
      within_on few low = record { begun = w.begun; asking = asking_on w.asking some is (lt-ltb h.tag forms low); few = omega arith }

-- Exactly one term: it ends with the bytes

abbrev whole : ℕ → Option Extent → Option ℕ
whole k None = None
whole k (Some x) = cond (eqb x.end k) (Some x.nodes) None

module _ (forms : ℕ) (l : List ℕ) where
  part_by : whole (length l) (edition_extent forms l 0) ≡ part_of forms l
  unfolding edition_extent part_of of_edition
  part_by = is (read_term l) refl
    where
      length_is : (t : Tree) (r : List ℕ) → read_term l ≡ got t r → length l ≡ tree_size t + length r
      length_is t r e = omega (arith, ap length (past_term l t r e).rest, length-drop (tree_size t) l, (past_term l t r e).fits)

      at_end : (t : Tree) (b : Bool) → eqb (0 + tree_size t) (length l) ≡ true → whole (length l) (scanned 0 (cond b (got t []) none)) ≡ exactly (cond b (got t []) none)
      at_end t true q = rw q refl
      at_end t false q = refl

      over : (t : Tree) (x : ℕ) (r : List ℕ) (b : Bool) → eqb (0 + tree_size t) (length l) ≡ false → whole (length l) (scanned 0 (cond b (got t (x ∷ r)) none)) ≡ exactly (cond b (got t (x ∷ r)) none)
      over t x r true q = rw q refl
      over t x r false q = refl

      is : (g : Got) → read_term l ≡ g → whole (length l) (scanned 0 (of_edition forms g)) ≡ exactly (of_edition forms g)
      is none e = refl
      is (got t []) e = at_end t (forms_below forms t) (eq-eqb _ _ (omega (arith, length_is t [] e)))
      is (got t (x ∷ r)) e = over t x r (forms_below forms t) (ne_eqb _ _ (λ z. absurd (omega (arith, z, length_is t (x ∷ r) e))))

  pub part_refused : None ≡ edition_extent forms l 0 → None ≡ part_of forms l
  part_refused q = ap (whole (length l)) q ∙ part_by

  module _ (e n : ℕ) (q : ends e n ≡ edition_extent forms l 0) where
    pub part_is : e ≡ length l → Some n ≡ part_of forms l
    part_is f = ap (λ b. cond b (Some n) None) (sym (eq-eqb e (length l) f)) ∙ ap (whole (length l)) q ∙ part_by

    pub part_over : (e ≡ length l → ⊥) → None ≡ part_of forms l
    part_over f = ap (λ b. cond b (Some n) None) (sym (ne_eqb e (length l) f)) ∙ ap (whole (length l)) q ∙ part_by
