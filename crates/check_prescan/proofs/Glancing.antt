-- What the loop of `glance` knows, and what each of its turns keeps: four walks at once, which ask form, nesting, scope and annotation of each node.
use mathlib.Core.Path.{◌≡◌, ap, ap₂, refl, sym, ◌∙◌}
use mathlib.Core.Bool.{Bool, ◌&&◌, and-false, cond, false, false≢true, true}
use mathlib.Core.List.{List, [], ◌∷◌, map}
use Prim.Native.Nat.{◌*◌, ◌+◌, ◌<◌, ◌≤◌, suc, zero, ℕ}
use native.Mathlib.Omega.{arith}
use lib.Dec.{ltb}
use lib.ListN.{drop, length, length-map}
use Rattle.calculus.specs.Limits.{byte_values, max_nesting}
use Rattle.calculus.specs.Syntax.{Exp, lam}
use Rattle.calculus.specs.Table.{Table}
use Rattle.calculus.specs.Verdict.{annotated, annotated_const}
use Rattle.calculus.proofs.Theory.Tests.{and_parts, clash, ltb_false, ltb_sound}
use Rattle.std.proofs.Common.{Option, None, Some}
use Rattle.term.specs.declared.Node.{Node}
use Rattle.term.specs.Forms.{tags}
use Rattle.term.specs.Tree.{forms_below, HasForm, Tree, tree_nodes}
use Rattle.term.specs.Reader.{first_tree, Got, got, GoodAt, node_at, none, of_edition, read_term, tree_at}
use Rattle.term.specs.Expressions.{exp_of, leaf_exp, leaf_forms, term_at, term_of, two_exp, two_forms}
use Rattle.term.proofs.Fronts.{is_good, is_tree}
use Rattle.term.proofs.Reading.{shaped_term}
use Rattle.term.proofs.Shapes.{all_forms, leaf_tag, one_tag, two_tag}
use Rattle.term_walk.specs.Frames.{opened, top_of}
use Rattle.term_walk.specs.Frames as walk
use Rattle.term_walk.proofs.Law.{from, from_end, from_node, Walk}
use Rattle.term_walk.proofs.Asking.{asked, asking}
use Rattle.term_walk.proofs.Stack.{length_below, length_passed, pop}
use Rattle.term_scan.specs.Extents.{edition_extent, ends, part_of}
use Rattle.term_scan.specs.Extents as extents
use Rattle.term_scan.specs.Scopes.{operand_scoped}
use Rattle.term_scan.proofs.Many.{More, Seen, seen_bad, seen_end, seen_node, seen_start}
use Rattle.term_scan.proofs.Editions.{all_tags, forms_of, part_is, part_over, part_refused, tagging}
use Rattle.term_scan.proofs.Nesting.{levels, nesting_of}
use Rattle.term_scan.proofs.Scopes.{scope_of, scoping}
use Rattle.check_types.specs.Two.{is_both_tag, is_list_tag, shape_of}
use Rattle.check_prescan.specs.Stands.{around_of, ended, exactly, glance, level_of, next_node, node_annotated, node_stands, stands}

-- Annotations, by the number of subterms

module _ (T : Table) where
  leaf_annotated : (d arg tag : ℕ) → HasForm tag 0 → annotated T (leaf_exp tag arg) ≡ node_annotated T tag arg
  unfolding node_annotated is_both_tag
  leaf_annotated d arg = leaf_tag (λ tag. annotated T (leaf_exp tag arg) ≡ node_annotated T tag arg) refl refl refl refl refl refl refl refl

  one_annotated : (arg : ℕ) (e : Exp) (tag : ℕ) → HasForm tag 1 → annotated T (lam arg e) ≡ (node_annotated T tag arg && annotated T e)
  unfolding node_annotated annotated
  one_annotated arg e = one_tag (λ tag. annotated T (lam arg e) ≡ (node_annotated T tag arg && annotated T e)) refl

  two_annotated : (arg : ℕ) (e f : Exp) (tag : ℕ) → HasForm tag 2 → annotated T (two_exp tag arg e f) ≡ (node_annotated T tag arg && (annotated T e && annotated T f))
  unfolding node_annotated is_both_tag is_list_tag shape_of annotated annotated_const leaf_exp leaf_forms two_exp two_forms
  two_annotated arg e f = two_tag (λ tag. annotated T (two_exp tag arg e f) ≡ (node_annotated T tag arg && (annotated T e && annotated T f))) refl refl refl refl refl

  -- the walk that asks them; its frames say nothing
  abbrev annotating : Walk Bool
  annotating = asking (λ tag d. 0) (λ tag d. 0) (λ d tag arg. node_annotated T tag arg)

  annotations_of : {l : List ℕ} {at : ℕ} → GoodAt l at → from annotating (0 ∷ []) l at ≡ annotated T (term_at l at)
  unfolding exp_of term_of tree_at first_tree
  annotations_of g =
      asked (λ tag d. 0) (λ tag d. 0) (λ d tag arg. node_annotated T tag arg) (λ d t. annotated T (exp_of t))
      leaf_annotated (λ d arg t. one_annotated arg (exp_of t)) (λ d arg t u. two_annotated arg (exp_of t) (exp_of u)) 0 g

-- The walks together

module _ (forms : ℕ) (T : Table) (names : ℕ) (l : List ℕ) where
  abbrev of_forms : Bool
  of_forms = from (tagging forms) (0 ∷ []) l 0

  abbrev nested : Bool
  nested = from (levels max_nesting) (0 ∷ []) l 0

  abbrev in_scope : Bool
  in_scope = from (scoping (length T) names) (0 ∷ []) l 0

  abbrev with_types : Bool
  with_types = from (annotating T) (0 ∷ []) l 0

  abbrev all_pass : Bool
  all_pass = of_forms && (nested && (in_scope && with_types))

  -- of a part that is one term they say whether it stands
  pub glance_part : glance forms T names l ≡ cond all_pass (part_of tags l) None
  unfolding glance part_of of_edition stands term_of tree_at first_tree
  glance_part = is (read_term l) refl
    where
      no_term : (b : Bool) → ◌≡◌ {A = Option ℕ} None (cond b None None)
      no_term true = refl
      no_term false = refl

      say : {t : Tree} {r : List ℕ} → read_term l ≡ got t r → (forms_below forms t && stands T names (exp_of t)) ≡ all_pass
      say {t} {r} e =
          let g : GoodAt l 0 = record { inside = omega arith; good = is_good l t r e } in
          let p = is_tree l t r e in
          ap (λ x. forms_below forms x && stands T names (exp_of x)) (sym p)
          ∙ ap₂ ◌&&◌ (sym (forms_of forms g))
          (ap₂ ◌&&◌ (sym (nesting_of max_nesting g)) (ap₂ ◌&&◌ (sym (scope_of (length T) names g)) (sym (annotations_of T g))))

      at_end : (t : Tree) (a b : Bool) → exactly T names (cond a (got t []) none) ≡ cond (a && stands T names (exp_of t)) (Some (tree_nodes t)) None
      at_end t true b = refl
      at_end t false b = refl

      over : (t : Tree) (x : ℕ) (r : List ℕ) (a b : Bool) → exactly T names (cond a (got t (x ∷ r)) none) ≡ cond b None None
      over t x r true b = no_term b
      over t x r false b = no_term b

      is : (g : Got) → read_term l ≡ g → exactly T names (of_edition forms g) ≡ cond all_pass (extents.exactly (of_edition tags g)) None
      is none e = no_term all_pass
      is (got t []) e =
          at_end t (forms_below forms t) true
          ∙ ap (λ b. cond b (Some (tree_nodes t)) None) (say e)
          ∙ ap (λ b. cond all_pass (extents.exactly (cond b (got t []) none)) None) (sym (all_forms t (shaped_term l t [] e)))
      is (got t (x ∷ r)) e =
          over t x r (forms_below forms t) all_pass
          ∙ ap (λ b. cond all_pass (extents.exactly (cond b (got t (x ∷ r)) none)) None) (sym (all_forms t (shaped_term l t (x ∷ r) e)))

  -- where one of them fails there is no such term
  failing : all_pass ≡ false → None ≡ glance forms T names l
  failing f = sym (glance_part ∙ ap (λ b. cond b (part_of tags l) None) f)

-- Frames

-- of a term to come below which n wait: no more than there are nodes above it, which are within the limit, and bind at most two variables each
pub record Framed (d n : ℕ) : Type 0 where
  pub waiting : n ≤ level_of d
  pub within : level_of d ≤ max_nesting
  pub few : around_of d ≤ 2 * level_of d

abbrev Fits : List ℕ → Type 0
Fits [] = Unit {0}
Fits (d ∷ ds) = Framed d (length ds) × Fits ds

-- the frames of subterms: a node more above them, and in the last of them the node's variables around
abbrev below : ℕ → ℕ
below d = d + byte_values

-- those frames say so
pub record Grown (d k : ℕ) : Type 0 where
  pub first_level : level_of d + 1 ≡ level_of (below d)
  pub first_around : around_of d ≡ around_of (below d)
  pub last_level : level_of d + 1 ≡ level_of (below d + k)
  pub last_around : around_of d + k ≡ around_of (below d + k)

grown : (d k : ℕ) → level_of d < max_nesting → around_of d ≤ 2 * level_of d → k ≤ 2 → Grown d k
grown d k high few two =
    record { first_level = omega arith; first_around = omega arith; last_level = omega arith; last_around = omega arith }

module _ (d k n : ℕ) (high : level_of d < max_nesting) (two : k ≤ 2) (f : Framed d n) where
  frames_grow : Grown d k
  frames_grow = grown d k high f.few two

  framed_first : Framed (below d) (suc n)
  framed_first =
      let g = frames_grow in
      record { waiting = omega (arith, g.first_level, f.waiting); within = omega (arith, g.first_level); few = omega (arith, g.first_level, g.first_around, f.few) }

  framed_last : Framed (below d + k) n
  framed_last =
      let g = frames_grow in
      record { waiting = omega (arith, g.last_level, f.waiting); within = omega (arith, g.last_level); few = omega (arith, g.last_level, g.last_around, f.few) }

fits_opened : (j d k : ℕ) (ds : List ℕ) → level_of d < max_nesting → k ≤ 2 → Fits (d ∷ ds) → Fits (opened j (below d) (below d + k) ds)
unfolding opened
fits_opened zero d k ds high two (f, fs) = fs
fits_opened (suc zero) d k ds high two (f, fs) = (framed_last d k (length ds) high two f, fs)
fits_opened (suc (suc j)) d k ds high two (f, fs) = (framed_first d k (length ds) high two f, (framed_last d k (length ds) high two f, fs))

map_opened : (f : ℕ → ℕ) (j x y : ℕ) (ds : List ℕ) → opened j (f x) (f y) (map f ds) ≡ map f (opened j x y ds)
unfolding opened
map_opened f zero x y ds = refl
map_opened f (suc zero) x y ds = refl
map_opened f (suc (suc j)) x y ds = refl

-- The loop

-- n nodes read, now here, and the frames of the terms to come
pub record Glancing (forms : ℕ) (T : Table) (names : ℕ) (l : List ℕ) (here n : ℕ) (ds : List ℕ) : Type 0 where
  pub seen : Seen l 0 here n (length ds)
  pub fits : Fits ds
  pub forms_same : of_forms forms T names l ≡ from (tagging forms) (map (λ d. 0) ds) l here
  pub nesting_same : nested forms T names l ≡ from (levels max_nesting) (map level_of ds) l here
  pub scope_same : in_scope forms T names l ≡ from (scoping (length T) names) (map around_of ds) l here
  pub types_same : with_types forms T names l ≡ from (annotating T) (map (λ d. 0) ds) l here

pub glancing_start : (forms : ℕ) (T : Table) (names : ℕ) (l : List ℕ) {ds : List ℕ} → ds ≡ 0 ∷ [] → Glancing forms T names l 0 0 ds
glancing_start forms T names l e =
    rw e
    (record {
      seen = seen_start l 0 (omega arith);
      fits = (record { waiting = omega arith; within = omega arith; few = omega arith }, tt);
      forms_same = refl;
      nesting_same = refl;
      scope_same = refl;
      types_same = refl;
    })

module _ {forms : ℕ} {T : Table} {names : ℕ} {l : List ℕ} {here n : ℕ} {ds : List ℕ} (g : Glancing forms T names l here n ds) where
  pub glancing_end : length ds ≡ 0 → ended l here n ≡ glance forms T names l
  unfolding ended
  glancing_end e = by (ltb here (length l)) refl ∙ sym (glance_part forms T names l ∙ ap (λ b. cond b (part_of tags l) None) all)
    where
      at_end : (W : Walk Bool) (f : ℕ → ℕ) → from W (map f ds) l here ≡ W.done (drop here l)
      at_end W f = from_end W (map f ds) l here (length-map ds f ∙ e)

      all : all_pass forms T names l ≡ true
      all =
          ap₂ ◌&&◌ (g.forms_same ∙ at_end (tagging forms) (λ d. 0))
          (ap₂ ◌&&◌ (g.nesting_same ∙ at_end (levels max_nesting) level_of)
          (ap₂ ◌&&◌ (g.scope_same ∙ at_end (scoping (length T) names) around_of) (g.types_same ∙ at_end (annotating T) (λ d. 0))))

      ended_all : ends here n ≡ edition_extent tags l 0
      ended_all = seen_end g.seen e ∙ sym (all_tags l 0)

      by : (b : Bool) → ltb here (length l) ≡ b → cond b None (Some n) ≡ part_of tags l
      by true h = part_over tags l here n ended_all (λ z. absurd (omega (arith, z, ltb_sound here (length l) h)))
      by false h =
          part_is tags l here n ended_all (omega (arith, ltb_false here (length l) h, g.seen.inside))

  module _ (some : 0 < length ds) where
    abbrev pub top : ℕ
    top = top_of ds

    split : Fits (top ∷ walk.below ds)
    split = rw (pop ds some) at g.fits

    no_node : node_at l here ≡ None → None ≡ glance forms T names l
    no_node is = by (all_pass forms T names l) ∙ sym (glance_part forms T names l)
      where
        by : (b : Bool) → None ≡ cond b (part_of tags l) None
        by true = part_refused tags l (seen_bad g.seen some is ∙ sym (all_tags l 0))
        by false = refl

    module _ {h : Node} (is : node_at l here ≡ Some h) where
      pub glancing_node : More l 0 here n (length ds) h
      glancing_node = seen_node g.seen some is

      abbrev rest : List ℕ
      rest = walk.below ds

      -- the law of each walk
      forms_turn : of_forms forms T names l ≡ (ltb h.tag forms && from (tagging forms) (opened h.subterms 0 0 (map (λ d. 0) rest)) l (here + h.size))
      forms_turn =
          g.forms_same ∙ ap (λ x. from (tagging forms) (map (λ d. 0) x) l here) (pop ds some)
          ∙ from_node (tagging forms) 0 (map (λ d. 0) rest) l here is

      nesting_turn : nested forms T names l ≡ (ltb (level_of top) max_nesting && from (levels max_nesting) (opened h.subterms (level_of top + 1) (level_of top + 1) (map level_of rest)) l (here + h.size))
      nesting_turn =
          g.nesting_same ∙ ap (λ x. from (levels max_nesting) (map level_of x) l here) (pop ds some)
          ∙ from_node (levels max_nesting) (level_of top) (map level_of rest) l here is

      scope_turn : in_scope forms T names l
          ≡ (operand_scoped (length T) names (around_of top) h.refers h.arg
          && from (scoping (length T) names) (opened h.subterms (around_of top) (around_of top + h.binders) (map around_of rest)) l (here + h.size))
      scope_turn =
          g.scope_same ∙ ap (λ x. from (scoping (length T) names) (map around_of x) l here) (pop ds some)
          ∙ from_node (scoping (length T) names) (around_of top) (map around_of rest) l here is
          ∙ ap₂
          (λ k r. operand_scoped (length T) names (around_of top) r h.arg
          && from (scoping (length T) names) (opened h.subterms (around_of top) (around_of top + k) (map around_of rest)) l (here + h.size))
          glancing_node.node.binds glancing_node.node.refers

      types_turn : with_types forms T names l
          ≡ (node_annotated T h.tag h.arg && from (annotating T) (opened h.subterms 0 0 (map (λ d. 0) rest)) l (here + h.size))
      types_turn =
          g.types_same ∙ ap (λ x. from (annotating T) (map (λ d. 0) x) l here) (pop ds some)
          ∙ from_node (annotating T) 0 (map (λ d. 0) rest) l here is

      -- a node that does not stand
      falling : node_stands forms T names top h ≡ false → None ≡ glance forms T names l
      unfolding node_stands
      falling f =
          failing forms T names l
          (ap₂ ◌&&◌ forms_turn (ap₂ ◌&&◌ nesting_turn (ap₂ ◌&&◌ scope_turn types_turn))
          ∙ fails (ltb h.tag forms) (ltb (level_of top) max_nesting) (operand_scoped (length T) names (around_of top) h.refers h.arg)
          (node_annotated T h.tag h.arg)
          (from (tagging forms) (opened h.subterms 0 0 (map (λ d. 0) rest)) l (here + h.size))
          (from (levels max_nesting) (opened h.subterms (level_of top + 1) (level_of top + 1) (map level_of rest)) l (here + h.size))
          (from (scoping (length T) names) (opened h.subterms (around_of top) (around_of top + h.binders) (map around_of rest)) l (here + h.size))
          (from (annotating T) (opened h.subterms 0 0 (map (λ d. 0) rest)) l (here + h.size)) f)
        where
          fails : (a b c d w x y z : Bool) → (a && (b && (c && d))) ≡ false → ((a && w) && ((b && x) && ((c && y) && (d && z)))) ≡ false
          fails false b c d w x y z e = refl
          fails true false c d w x y z e = and-false w
          fails true true false d w x y z e = ap (λ v. w && v) (and-false x) ∙ and-false w
          fails true true true false w x y z e = ap (λ v. w && (x && v)) (and-false y) ∙ ap (λ v. w && v) (and-false x) ∙ and-false w
          fails true true true true w x y z e = absurd (false≢true (sym e))

      -- past a node that stands
      pub glancing_on : node_stands forms T names top h ≡ true → {new : List ℕ} → new ≡ opened h.subterms (below top) (below top + h.binders) rest →
          Glancing forms T names l (here + h.size) (n + 1) new
      unfolding node_stands
      glancing_on t {new} p =
          let (has, t'') = and_parts (ltb h.tag forms) _ t in
          let (high, t') = and_parts (ltb (level_of top) max_nesting) _ t'' in
          let (there, typed) = and_parts (operand_scoped (length T) names (around_of top) h.refers h.arg) _ t' in
          let above = ltb_sound (level_of top) max_nesting high in
          let w = grown top h.binders above split.0.few glancing_node.node.bound in
          record {
            seen = rw (length_passed h.subterms (below top) (below top + h.binders) ds glancing_node.node.few p) glancing_node.seen;
            fits = rw p (fits_opened h.subterms top h.binders rest above glancing_node.node.bound split);
            forms_same =
                rw has at forms_turn
                ∙ ap (λ ds. from (tagging forms) ds l (here + h.size)) (map_opened (λ d. 0) h.subterms (below top) (below top + h.binders) rest ∙ ap (map (λ d. 0)) (sym p));
            nesting_same =
                rw high at nesting_turn
                ∙ ap₂ (λ x y. from (levels max_nesting) (opened h.subterms x y (map level_of rest)) l (here + h.size)) w.first_level w.last_level
                ∙ ap (λ ds. from (levels max_nesting) ds l (here + h.size)) (map_opened level_of h.subterms _ _ rest ∙ ap (map level_of) (sym p));
            scope_same =
                rw there at scope_turn
                ∙ ap₂ (λ x y. from (scoping (length T) names) (opened h.subterms x y (map around_of rest)) l (here + h.size)) w.first_around w.last_around
                ∙ ap (λ ds. from (scoping (length T) names) ds l (here + h.size)) (map_opened around_of h.subterms _ _ rest ∙ ap (map around_of) (sym p));
            types_same =
                rw typed at types_turn
                ∙ ap (λ ds. from (annotating T) ds l (here + h.size)) (map_opened (λ d. 0) h.subterms (below top) (below top + h.binders) rest ∙ ap (map (λ d. 0)) (sym p));
          }

    -- what is no next node
    pub glancing_bad : next_node forms T names top (node_at l here) ≡ None → None ≡ glance forms T names l
    unfolding next_node
    glancing_bad e = by (node_at l here) refl e
      where
        by : (x : Option Node) → node_at l here ≡ x → next_node forms T names top x ≡ None → None ≡ glance forms T names l
        by None is e = no_node is
        by (Some h) is e = picked (node_stands forms T names top h) refl e
          where
            picked : (b : Bool) → node_stands forms T names top h ≡ b → cond b (Some h) None ≡ None → None ≡ glance forms T names l
            picked true f e = absurd (clash (cc))
            picked false f e = falling is f

    -- and what is one
    pub record Next (h : Node) : Type 0 where
      pub is : node_at l here ≡ Some h
      pub stood : node_stands forms T names top h ≡ true

    pub next_is : {h : Node} → next_node forms T names top (node_at l here) ≡ Some h → Next h
    unfolding next_node
    next_is {h} e = by (node_at l here) refl e
      where
        by : (x : Option Node) → node_at l here ≡ x → next_node forms T names top x ≡ Some h → Next h
        by None is e = absurd (clash (cc))
        by (Some k) is e = picked (node_stands forms T names top k) refl e
          where
            picked : (b : Bool) → node_stands forms T names top k ≡ b → cond b (Some k) None ≡ Some h → Next h
            picked true f e = let z : k ≡ h = cc in record { is = is ∙ ap Some z; stood = ap (node_stands forms T names top) (sym z) ∙ f }
            picked false f e = absurd (clash (cc))

    -- which stands where there is room for its subterms
    pub record Met (h : Node) : Type 0 where
      pub next : Next h
      pub more : More l 0 here n (length ds) h
      pub room : length ds ≤ max_nesting
      pub high : level_of top < max_nesting

    pub glancing_met : {h : Node} → next_node forms T names top (node_at l here) ≡ Some h → Met h
    unfolding node_stands
    glancing_met {h} e =
        let x = next_is e in
        let above = ltb_sound (level_of top) max_nesting (and_parts (ltb (level_of top) max_nesting) _ (and_parts (ltb h.tag forms) _ x.stood).1).0 in
        record { next = x; more = glancing_node x.is; room = omega (arith, above, split.0.waiting, length_below ds); high = above }
