-- What the loop of `put_substituted` knows, and what each of its turns keeps.
use mathlib.Core.Path.{◌≡◌, ap, ap₂, refl, sym, ◌∙◌}
use mathlib.Core.Bool.{Bool, cond, false, true}
use mathlib.Core.Option.{Option, none, some}
use mathlib.Core.List.{List, [], ◌++◌, ◌∷◌, append_assoc}
use Prim.Native.Nat.{◌+◌, ◌-◌, ◌<◌, ◌≤◌, ℕ}
use native.Mathlib.Omega.{arith}
use lib.Dec.{eqb}
use lib.ListN.{drop, length, length-append}
use Rattle.calculus.specs.Bytes.{Bytes}
use Rattle.calculus.specs.Limits.{max_nodes}
use Rattle.calculus.specs.Syntax.{Exp, lam, var}
use Rattle.calculus.specs.Image.{nodes}
use Rattle.calculus.proofs.Theory.Tests.{clash}
use Rattle.std.proofs.Common.{Some}
use Rattle.term.specs.declared.Node.{Node}
use Rattle.term.specs.Forms.{application_tag, binders_of, case_list_tag, case_pair_tag, cell_tag, exch_tag, form_of, forms, handle_tag, lambda_tag, list_tag, name_tag, num_tag, pair_tag, refers_of, thread_tag, unit_tag}
use Rattle.term.specs.Numbers.{little_endian}
use Rattle.term.specs.Tree.{HasForm, node_bytes, InTable, leaf, one, Tree, tree_bytes, two, WellFormed}
use Rattle.term.specs.Reader.{end_at, first_tree, GoodAt, Got, got, node_at, read_term, tree_at}
use Rattle.term.specs.Expressions.{both_tag, bytes, case_tag, exp_of, leaf_exp, leaf_forms, term_at, term_of, two_exp, two_forms}
use Rattle.term.proofs.Shapes.{at_0, at_1, at_2, leaf_tag, one_tag, two_tag}
use Rattle.term.proofs.Trees.{exp_bytes}
use Rattle.term.proofs.Views.{end_inside, end_onward, NodeAt}
use Rattle.term.proofs.Expressions.{well_formed_at}
use Rattle.term_walk.specs.Frames.{below, opened, top_of}
use Rattle.term_walk.proofs.Law.{ahead, fold, from, from_end, from_good, from_node, onward, Walk}
use Rattle.term_walk.proofs.Stack.{pop}
use Rattle.buffer.specs.Written.{Wrote}
use Rattle.buffer.proofs.Theory.Writes.{known_as, same, still, then}
use Rattle.term_scan.proofs.Going.{Going, going_few, going_met, going_node, going_on, going_start, Met}
use Rattle.term_subst.specs.declared.Span.{Span}
use Rattle.term_subst.specs.Variable.{is_variable}
use Rattle.term_subst.specs.Replaced.{replaced}
use Rattle.term_subst.proofs.Nodes.{none_one, none_two}
use Rattle.term_subst.proofs.Copies.{copied_node, copied_term, length_part, part}

module _ (x y : List ℕ) where
  -- what is written for a node
  abbrev pub piece : ℕ → ℕ → ℕ → ℕ → List ℕ
  piece refers d tag arg = cond (is_variable refers arg d) x (cond (is_variable refers arg (d + 1)) y (node_bytes tag arg))

  -- the walk that writes, what is written before in hand
  abbrev pub writing : Walk (List ℕ → Option (List ℕ))
  writing =
      record {
        first = λ tag d. d;
        last = λ tag d. d + binders_of tag;
        visit = λ d tag arg next before. next (before ++ piece (refers_of tag) d tag arg);
        refused = λ before. none;
        done = λ l before. some before;
        strict = λ d tag arg. refl;
      }

  -- By the number of subterms

  leaf_replaced : (d arg tag : ℕ) → InTable tag arg 0 → piece (refers_of tag) d tag arg ≡ replaced d x y (leaf_exp tag arg)
  unfolding replaced leaf_exp leaf_forms is_variable exp_of tree_bytes form_of forms bytes little_endian
  leaf_replaced d arg tag w =
      leaf_tag (λ tag. InTable tag arg 0 → piece (refers_of tag) d tag arg ≡ replaced d x y (leaf_exp tag arg))
      (λ w. sym (at_1 (λ k. cond (eqb arg d) x (cond (eqb arg k) y (bytes (var arg)))) d))
      (λ w. sym (exp_bytes (leaf unit_tag arg) w))
      (λ w. sym (exp_bytes (leaf num_tag arg) w))
      (λ w. sym (exp_bytes (leaf cell_tag arg) w))
      (λ w. sym (exp_bytes (leaf exch_tag arg) w))
      (λ w. sym (exp_bytes (leaf thread_tag arg) w))
      (λ w. sym (exp_bytes (leaf handle_tag arg) w))
      (λ w. sym (exp_bytes (leaf name_tag arg) w))
      tag w.form w

  -- a node that is no variable is written as it stands
  as_it_stands : (d tag arg : ℕ) → ((k : ℕ) → is_variable (refers_of tag) arg k ≡ false) → piece (refers_of tag) d tag arg ≡ node_bytes tag arg
  as_it_stands d tag arg e = rw (e d, e (d + 1)) refl

  module _ (d arg : ℕ) where
    one_replaced : (e : Exp) (tag : ℕ) → HasForm tag 1 → piece (refers_of tag) d tag arg ++ replaced (d + binders_of tag) x y e ≡ replaced d x y (lam arg e)
    unfolding replaced form_of forms little_endian
    one_replaced e tag f =
        ap (λ l. l ++ replaced (d + binders_of tag) x y e) (as_it_stands d tag arg (λ k. none_one k arg tag f))
        ∙ one_tag (λ tag. node_bytes tag arg ++ replaced (d + binders_of tag) x y e ≡ replaced d x y (lam arg e))
        (sym (at_1 (λ k. lambda_tag ∷ arg ∷ replaced k x y e) d)) tag f

    two_replaced : (e g : Exp) (tag : ℕ) → HasForm tag 2 →
        piece (refers_of tag) d tag arg ++ (replaced d x y e ++ replaced (d + binders_of tag) x y g) ≡ replaced d x y (two_exp tag arg e g)
    unfolding replaced two_exp two_forms both_tag case_tag little_endian form_of forms
    two_replaced e g tag f =
        let r : (tag k : ℕ) → List ℕ = λ tag k. node_bytes tag arg ++ (replaced d x y e ++ replaced k x y g) in
        ap (λ l. l ++ (replaced d x y e ++ replaced (d + binders_of tag) x y g)) (as_it_stands d tag arg (λ k. none_two k arg tag f))
        ∙ two_tag (λ tag. node_bytes tag arg ++ (replaced d x y e ++ replaced (d + binders_of tag) x y g) ≡ replaced d x y (two_exp tag arg e g))
        (sym (at_0 (r application_tag) d)) (sym (at_0 (r pair_tag) d)) (sym (at_0 (r list_tag) d))
        (sym (at_2 (r case_pair_tag) d)) (sym (at_2 (r case_list_tag) d)) tag f

  fold_replaced : (d : ℕ) (t : Tree) → WellFormed t → (next : List ℕ → Option (List ℕ)) (before : List ℕ) →
      fold writing d t next before ≡ next (before ++ replaced d x y (exp_of t))
  unfolding fold exp_of
  fold_replaced d (leaf tag arg) w next before = ap (λ l. next (before ++ l)) (leaf_replaced d arg tag w)
  fold_replaced d (one tag arg t) (w, ok) next before =
      let p = piece (refers_of tag) d tag arg in
      let a = replaced (d + binders_of tag) x y (exp_of t) in
      fold_replaced (d + binders_of tag) t ok next (before ++ p)
      ∙ ap next (append_assoc before p a ∙ ap (λ l. before ++ l) (one_replaced d arg (exp_of t) tag w.form))
  fold_replaced d (two tag arg t u) (w, ok, ok') next before =
      let p = piece (refers_of tag) d tag arg in
      let a = replaced d x y (exp_of t) in
      let b = replaced (d + binders_of tag) x y (exp_of u) in
      fold_replaced d t ok (fold writing (d + binders_of tag) u next) (before ++ p)
      ∙ fold_replaced (d + binders_of tag) u ok' next (before ++ p ++ a)
      ∙ ap next
      (append_assoc (before ++ p) a b
      ∙ append_assoc before p (a ++ b)
      ∙ ap (λ l. before ++ l) (two_replaced d arg (exp_of t) (exp_of u) tag w.form))

  -- so of a term it writes what is asked
  whole : {l : List ℕ} {at : ℕ} → Bytes l → GoodAt l at → from writing (0 ∷ []) l at [] ≡ some (replaced 0 x y (term_at l at))
  unfolding term_of tree_at first_tree
  whole {l} {at} b g = ap (λ f. f []) (from_good writing 0 g) ∙ fold_replaced 0 (tree_at l at) (well_formed_at b g) _ []

  -- What is written is the beginning of what is asked

  module _ (z : List ℕ) where
    fold_grows : (d : ℕ) (t : Tree) (next : List ℕ → Option (List ℕ)) → ((before : List ℕ) → next before ≡ some z → length before ≤ length z) →
        (before : List ℕ) → fold writing d t next before ≡ some z → length before ≤ length z
    unfolding fold
    fold_grows d (leaf tag arg) next h before e =
        omega (arith, h (before ++ piece (refers_of tag) d tag arg) e, length-append before (piece (refers_of tag) d tag arg))
    fold_grows d (one tag arg t) next h before e =
        omega (
          arith,
          fold_grows (d + binders_of tag) t next h (before ++ piece (refers_of tag) d tag arg) e,
          length-append before (piece (refers_of tag) d tag arg),
        )
    fold_grows d (two tag arg t u) next h before e =
        omega (
          arith,
          fold_grows d t (fold writing (d + binders_of tag) u next) (fold_grows (d + binders_of tag) u next h) (before ++ piece (refers_of tag) d tag arg) e,
          length-append before (piece (refers_of tag) d tag arg),
        )

    ahead_grows : (ds l before : List ℕ) → ahead writing ds l before ≡ some z → length before ≤ length z
    unfolding ahead
    ahead_grows [] l before e = let q : before ≡ z = cc in rw q (omega arith)
    ahead_grows (d ∷ ds) l before e = by (read_term l) (ahead_grows ds) e
      where
        by : (g : Got) → ((l before : List ℕ) → ahead writing ds l before ≡ some z → length before ≤ length z) →
            onward writing d (ahead writing ds) g before ≡ some z → length before ≤ length z
        by Got.none ih e = absurd (clash (cc))
        by (got t r) ih e = fold_grows d t (ahead writing ds r) (ih r) before e

    pub from_grows : (ds l : List ℕ) (p : ℕ) (before : List ℕ) → from writing ds l p before ≡ some z → length before ≤ length z
    unfolding from
    from_grows ds l p before e = ahead_grows ds (drop p l) before e

-- The loop

-- a value stands at a part of the slice
pub record ValueAt (l : List ℕ) (v : Span) : Type 0 where
  pub good : GoodAt l v.from
  pub ends : v.to ≡ end_at l v.from

abbrev pub value : List ℕ → Span → List ℕ
value l v = bytes (term_at l v.from)

-- a part that can be copied, and what stands there
pub record Copied (l : List ℕ) (p : Span) (z : List ℕ) : Type 0 where
  pub forward : p.from ≤ p.to
  pub inside : p.to ≤ length l
  pub stands : part l p.from p.to ≡ z

copied_value : {l : List ℕ} {v : Span} → Bytes l → ValueAt l v → Copied l v (value l v)
copied_value {l} {v} b g =
    record {
      forward = omega (arith, g.ends, end_onward l v.from);
      inside = omega (arith, g.ends, end_inside g.good);
      stands = copied_term l b g.good g.ends;
    }

-- the part that is written for a node is the piece
pub copied : {l : List ℕ} {here : ℕ} {h : Node} {p : Span} (inner outer : Span) (d : ℕ) → Bytes l → ValueAt l inner → ValueAt l outer → node_at l here ≡ Some h → NodeAt l here h →
    p ≡ cond (is_variable h.refers h.arg d) inner (cond (is_variable h.refers h.arg (d + 1)) outer (record { from = here; to = here + h.size })) → Copied l p (piece (value l inner) (value l outer) h.refers d h.tag h.arg)
copied {l} {here} {h} inner outer d b p q is n e = rw e (by (is_variable h.refers h.arg d) (is_variable h.refers h.arg (d + 1)))
  where
    by : (u v : Bool) →
        Copied l (cond u inner (cond v outer (record { from = here; to = here + h.size }))) (cond u (value l inner) (cond v (value l outer) (node_bytes h.tag h.arg)))
    by true v = copied_value b p
    by false true = copied_value b q
    by false false = record { forward = omega (arith, n.onward); inside = n.inside; stands = copied_node l b here is }

-- began at `at` in a buffer `old` at pos, now here, what is written in hand
pub record Putting (l : List ℕ) (at : ℕ) (inner outer : Span) (old : List ℕ) (pos here : ℕ) (ds out : List ℕ) (next : ℕ) : Type 0 where
  pub all_bytes : Bytes l
  pub good : GoodAt l at
  pub small : nodes (term_at l at) ≤ max_nodes
  pub one : ValueAt l inner
  pub other : ValueAt l outer
  pub read : ℕ
  pub going : Going l at here read ds
  pub before : List ℕ
  pub wrote : Wrote old pos before out next
  pub same : from (writing (value l inner) (value l outer)) ds l here before ≡ some (replaced 0 (value l inner) (value l outer) (term_at l at))
  pub room : pos + length (replaced 0 (value l inner) (value l outer) (term_at l at)) ≤ length old

pub putting_start : (l : List ℕ) (at : ℕ) (inner outer : Span) (old : List ℕ) (pos : ℕ) {ds : List ℕ} → Bytes l → GoodAt l at → nodes (term_at l at) ≤ max_nodes →
    ValueAt l inner → ValueAt l outer → pos + length (replaced 0 (value l inner) (value l outer) (term_at l at)) ≤ length old →
    ds ≡ 0 ∷ [] → Putting l at inner outer old pos at ds old pos
putting_start l at inner outer old pos b g small p q room e =
    rw e
    (record {
      all_bytes = b;
      good = g;
      small = small;
      one = p;
      other = q;
      read = 0;
      going = going_start l at g.inside;
      before = [];
      wrote = still;
      same = whole (value l inner) (value l outer) b g;
      room = room;
    })

module _ {l : List ℕ} {at : ℕ} {inner outer : Span} {old : List ℕ} {pos here : ℕ} {ds out : List ℕ} {next : ℕ}
    (c : Putting l at inner outer old pos here ds out next) where
  abbrev asked : List ℕ
  asked = replaced 0 (value l inner) (value l outer) (term_at l at)

  abbrev W : Walk (List ℕ → Option (List ℕ))
  W = writing (value l inner) (value l outer)

  pub putting_done : length ds ≡ 0 → Wrote old pos asked out next
  putting_done e =
      let p : some c.before ≡ some asked = sym (ap (λ f. f c.before) (from_end W ds l here e)) ∙ c.same in
      known_as c.wrote (cc)

  pub putting_few : c.read + length ds ≤ max_nodes
  putting_few = omega (arith, going_few c.going c.good, c.small)

  module _ (more : 0 < length ds) {h : Node} (is : node_at l here ≡ Some h) where
    pub putting_met : Met l here ds h
    putting_met = going_met c.going more is putting_few

    abbrev d : ℕ
    d = top_of ds

    abbrev new : List ℕ
    new = piece (value l inner) (value l outer) h.refers d h.tag h.arg

    -- what is written for it
    pub putting_copied : {p : Span} → p ≡ cond (is_variable h.refers h.arg d) inner (cond (is_variable h.refers h.arg (d + 1)) outer (record { from = here; to = here + h.size })) → Copied l p new
    putting_copied e = copied inner outer d c.all_bytes c.one c.other is (going_node c.going more is) e

    -- the law
    turn : from W (opened h.subterms d (d + h.binders) (below ds)) l (here + h.size) (c.before ++ new) ≡ some asked
    turn =
        let n = going_node c.going more is in
        sym
        (ap (λ x. from W x l here c.before) (pop ds more)
        ∙ ap (λ f. f c.before) (from_node W d (below ds) l here is)
        ∙ ap₂
        (λ k r. from W (opened h.subterms d (d + k) (below ds)) l (here + h.size)
        (c.before ++ piece (value l inner) (value l outer) r d h.tag h.arg))
        n.binds n.refers)
        ∙ c.same

    module _ {p : Span} (k : Copied l p new) where
      -- what is written has room
      pub putting_asks : (p.from ≤ p.to) × ((p.to ≤ length l) × (next + (p.to - p.from) ≤ length out))
      putting_asks =
          let z = from_grows (value l inner) (value l outer) asked _ l (here + h.size) (c.before ++ new) turn in
          let m : length new ≡ p.to - p.from = ap length (sym k.stands) ∙ length_part l p.from p.to k.inside in
          (k.forward, (k.inside, omega (arith, z, m, length-append c.before new, c.room, c.wrote.ends, same c.wrote)))

      pub putting_on : {out' : List ℕ} {next' : ℕ} → Wrote out next (part l p.from p.to) out' next' → {new' : List ℕ} →
          new' ≡ opened h.subterms d (d + h.binders) (below ds) → Putting l at inner outer old pos (here + h.size) new' out' next'
      putting_on w q =
          record {
            all_bytes = c.all_bytes;
            good = c.good;
            small = c.small;
            one = c.one;
            other = c.other;
            read = c.read + 1;
            going = going_on c.going more is q;
            before = c.before ++ new;
            wrote = then c.wrote (known_as w k.stands);
            same = ap (λ x. from W x l (here + h.size) (c.before ++ new)) q ∙ turn;
            room = c.room;
          }
