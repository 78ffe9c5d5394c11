-- The reader as a relation, `Reads l t rest`: at the front of l stands t, and rest after it. It has a rule for each number of subterms,
-- and so has each proof below. The reader finds t and rest exactly where the relation holds, whatever the fuel, so that `read_term` is the
-- reader whose subterms are read by `read_term` itself (`step`).
use mathlib.Core.Path.{◌≡◌, refl, ap, sym, subst, subst₂, ◌∙◌}
use mathlib.Core.Bool.{Bool, cond, false, true}
use mathlib.Core.List.{List}
use Prim.Native.Nat.{ℕ, zero, suc, ◌+◌, ◌≤◌}
use native.Mathlib.Nat.{not-suc-le-zero, le_refl}
use native.Mathlib.Omega.{arith}
use lib.ListN.{length, drop, length-drop}
use lib.Seq.{drop-drop}
use Rattle.std.proofs.Common.{Option, None, Some}
use Rattle.term.specs.declared.Node.{Node}
use Rattle.term.specs.Tree.{HasForm, Shaped, Tree, leaf, one, tree_depth, tree_nodes, tree_size, two}
use Rattle.term.specs.Reader.{front_node, Got, got, node_of, front_stands, none, onward, read, read_subterms, read_term, read_with}
use Rattle.term.proofs.Nodes.{head_is, subterms_at_most}

pub data Reads : List ℕ → Tree → List ℕ → Type 0 where
  leaf_reads : {l : List ℕ} {h : Node} → node_of l ≡ Some h → h.subterms ≡ 0 → Reads l (leaf h.tag h.arg) (drop h.size l)
  one_reads : {l r : List ℕ} {h : Node} {t : Tree} → node_of l ≡ Some h → h.subterms ≡ 1 → Reads (drop h.size l) t r → Reads l (one h.tag h.arg t) r
  two_reads : {l r q : List ℕ} {h : Node} {t u : Tree} → node_of l ≡ Some h → h.subterms ≡ 2 → Reads (drop h.size l) t r → Reads r u q → Reads l (two h.tag h.arg t u) q

-- The reader, through the node at the front

-- a node over its one subterm
abbrev pub close_one : Node → Got → Got
close_one h g = onward g λ t rest. got (one h.tag h.arg t) rest

-- a node over its two subterms, the first being t
abbrev pub close_two : Node → Tree → Got → Got
close_two h t g = onward g λ u rest. got (two h.tag h.arg t u) rest

-- the second subterm is read where the first ends
abbrev pub then_second : (List ℕ → Got) → Node → Got → Got
then_second rd h g = onward g λ t after. close_two h t (rd after)

-- the subterms of a node
abbrev pub read_below : (List ℕ → Got) → Node → ℕ → List ℕ → Got
read_below rd h k l = read_subterms rd h.tag h.arg k (drop h.size l)

-- a node's subterms, where there is a node
abbrev pub read_node : (List ℕ → Got) → Option Node → List ℕ → Got
read_node rd None l = none
read_node rd (Some h) l = read_below rd h h.subterms l

through_node : (rd : List ℕ → Got) (l : List ℕ) → read_with rd l ≡ read_node rd (node_of l) l
unfolding node_of
through_node rd l = by (front_stands l)
  where
    by : (b : Bool) → cond b (read_node rd (Some (front_node l)) l) none ≡ read_node rd (cond b (Some (front_node l)) None) l
    by true = refl
    by false = refl

-- What the reader finds, the relation has

pub none_got : (t : Tree) (r : List ℕ) → none ≡ got t r → ⊥
none_got t r e = let z : ◌≡◌ {A = ℕ} 0 1 = cc in omega arith

pub closed_one : (h : Node) (g : Got) (t : Tree) (r : List ℕ) → close_one h g ≡ got t r → (u : Tree) × (g ≡ got u r) × (one h.tag h.arg u ≡ t)
closed_one h none t r e = absurd (none_got t r e)
closed_one h (got u q) t r e = (u, cc, cc)

pub closed_two : (h : Node) (a : Tree) (g : Got) (t : Tree) (r : List ℕ) → close_two h a g ≡ got t r → (u : Tree) × (g ≡ got u r) × (two h.tag h.arg a u ≡ t)
closed_two h a none t r e = absurd (none_got t r e)
closed_two h a (got u q) t r e = (u, cc, cc)

module _ (rd : List ℕ → Got) (reads_rd : (l : List ℕ) (t : Tree) (r : List ℕ) → rd l ≡ got t r → Reads l t r) (l : List ℕ) (h : Node) (is : node_of l ≡ Some h) where
  then_reads : h.subterms ≡ 2 → (g : Got) → rd (drop h.size l) ≡ g → (t : Tree) (r : List ℕ) → then_second rd h g ≡ got t r → Reads l t r
  then_reads k none eg t r e = absurd (none_got t r e)
  then_reads k (got a q) eg t r e =
      let u = closed_two h a (rd q) t r e in
      subst (λ (x : Tree). Reads l x r) u.2 (two_reads is k (reads_rd (drop h.size l) a q eg) (reads_rd q u.0 r u.1))

  subterms_reads : (k : ℕ) → h.subterms ≡ k → (t : Tree) (r : List ℕ) → read_below rd h k l ≡ got t r → Reads l t r
  subterms_reads zero k t r e = subst₂ (λ (x : Tree) (y : List ℕ). Reads l x y) (cc) (cc) (leaf_reads is k)
  subterms_reads (suc zero) k t r e =
      let u = closed_one h (rd (drop h.size l)) t r e in
      subst (λ (x : Tree). Reads l x r) u.2 (one_reads is k (reads_rd (drop h.size l) u.0 r u.1))
  subterms_reads (suc (suc j)) k t r e =
      then_reads (omega (arith, subterms_at_most h.tag, (head_is l h is).at_subterms)) (rd (drop h.size l)) refl t r e

node_reads : (rd : List ℕ → Got) → ((l : List ℕ) (t : Tree) (r : List ℕ) → rd l ≡ got t r → Reads l t r)
    → (l : List ℕ) (h : Option Node) → node_of l ≡ h → (t : Tree) (r : List ℕ) → read_node rd h l ≡ got t r → Reads l t r
node_reads rd reads_rd l None is t r e = absurd (none_got t r e)
node_reads rd reads_rd l (Some h) is t r e = subterms_reads rd reads_rd l h is h.subterms refl t r e

pub reads : (n : ℕ) (l : List ℕ) (t : Tree) (r : List ℕ) → read n l ≡ got t r → Reads l t r
unfolding read
reads zero l t r e = absurd (none_got t r e)
reads (suc n) l t r e = node_reads (read n) (reads n) l (node_of l) refl t r (sym (through_node (read n) l) ∙ e)

-- What the relation has, the reader finds

pub found : {l : List ℕ} {t : Tree} {r : List ℕ} → Reads l t r → (n : ℕ) → tree_depth t ≤ n → read n l ≡ got t r
unfolding read tree_depth
found (leaf_reads h k) zero le = absurd (not-suc-le-zero le)
found (leaf_reads {l} h k) (suc n) le = rw (through_node (read n) l, h, k)
found (one_reads h k a) zero le = absurd (omega arith)
found (one_reads {l} h k a) (suc n) le = rw (through_node (read n) l, h, k, found a n (omega arith))
found (two_reads h k a b) zero le = absurd (omega arith)
found (two_reads {l} h k a b) (suc n) le = rw (through_node (read n) l, h, k, found a n (omega arith), found b n (omega arith))

-- What stands after a term: the term's size is gone

pub record Past (l : List ℕ) (t : Tree) (r : List ℕ) : Type 0 where
  pub rest : r ≡ drop (tree_size t) l
  pub fits : tree_size t ≤ length l

pub past : {l : List ℕ} {t : Tree} {r : List ℕ} → Reads l t r → Past l t r
unfolding tree_size
past (leaf_reads {l} {h} e k) =
    let f = head_is l h e in
    record { rest = rw f.at_size; fits = omega arith }
past (one_reads {l} {r} {h} {t} e k a) =
    let f = head_is l h e in
    let p = past a in
    record {
      rest = rw f.at_size (p.rest ∙ drop-drop (tree_size t) h.size l);
      fits = omega (arith, length-drop h.size l);
    }
past (two_reads {l} {r} {q} {h} {t} {u} e k a b) =
    let f = head_is l h e in
    let p = past a in
    let o = past b in
    let d : r ≡ drop (h.size + tree_size t) l = p.rest ∙ drop-drop (tree_size t) h.size l in
    record {
      rest = rw f.at_size (o.rest ∙ ap (drop (tree_size u)) d ∙ drop-drop (tree_size u) (h.size + tree_size t) l);
      fits = omega (arith, length-drop h.size l, ap (length {A = ℕ}) p.rest, length-drop (tree_size t) (drop h.size l));
    }

pub depth_size : (t : Tree) → tree_depth t ≤ tree_size t
unfolding tree_depth tree_size
depth_size (leaf tag arg) = omega arith
depth_size (one tag arg t) = omega (arith, depth_size t)
depth_size (two tag arg t u) = omega (arith, depth_size t, depth_size u)

pub size_some : (t : Tree) → 1 ≤ tree_size t
unfolding tree_size
size_some (leaf tag arg) = omega arith
size_some (one tag arg t) = omega arith
size_some (two tag arg t u) = omega arith

pub nodes_size : (t : Tree) → tree_nodes t ≤ tree_size t
unfolding tree_nodes tree_size
nodes_size (leaf tag arg) = omega arith
nodes_size (one tag arg t) = omega (arith, nodes_size t)
nodes_size (two tag arg t u) = omega (arith, nodes_size t, nodes_size u)

-- So the fuel does not matter, once it is as much as the list is long

same : (l : List ℕ) (m n : ℕ) → length l ≤ m → length l ≤ n → (g : Got) → read m l ≡ g → (k : Got) → read n l ≡ k → g ≡ k
same l m n lm ln none em none en = refl
same l m n lm ln (got t r) em k en =
    let a = reads m l t r em in
    sym (found a n (omega (arith, depth_size t, (past a).fits))) ∙ en
same l m n lm ln none em (got t r) en =
    let a = reads n l t r en in
    sym em ∙ found a m (omega (arith, depth_size t, (past a).fits))

pub full : (n : ℕ) (l : List ℕ) → length l ≤ n → read n l ≡ read_term l
unfolding read_term
full n l le = same l n (length l) le (le_refl (length l)) (read n l) refl (read (length l) l) refl

then_full : (n : ℕ) (h : Node) (l : List ℕ) → length l ≤ n → (g : Got) → read_term l ≡ g → then_second (read n) h g ≡ then_second read_term h g
unfolding read_term
then_full n h l le none e = refl
then_full n h l le (got t r) e =
    let p = past (reads (length l) l t r e) in
    ap (close_two h t) (full n r (omega (arith, ap (length {A = ℕ}) p.rest, length-drop (tree_size t) l)))

subterms_full : (n : ℕ) (h : Node) (k : ℕ) (l : List ℕ) → length l ≤ n → read_subterms (read n) h.tag h.arg k l ≡ read_subterms read_term h.tag h.arg k l
subterms_full n h zero l le = refl
subterms_full n h (suc zero) l le = ap (close_one h) (full n l le)
subterms_full n h (suc (suc j)) l le = ap (then_second (read n) h) (full n l le) ∙ then_full n h l le (read_term l) refl

node_full : (n : ℕ) (l : List ℕ) → length l ≤ n → (h : Option Node) → read_node (read n) h l ≡ read_node read_term h l
node_full n l le None = refl
node_full n l le (Some h) = subterms_full n h h.subterms (drop h.size l) (omega (arith, length-drop h.size l))

-- the reader's equation
pub step : (l : List ℕ) → read_term l ≡ read_node read_term (node_of l) l
unfolding read
step l =
    sym (full (suc (length l)) l (omega arith)) ∙ through_node (read (length l)) l ∙ node_full (length l) l (le_refl (length l)) (node_of l)

-- and at a node with k subterms
pub step_node : (l : List ℕ) (h : Node) → node_of l ≡ Some h → (k : ℕ) → h.subterms ≡ k → read_term l ≡ read_below read_term h k l
step_node l h is k e =
    step l ∙ ap (λ (x : Option Node). read_node read_term x l) is ∙ ap (λ (x : ℕ). read_below read_term h x l) e

pub past_term : (l : List ℕ) (t : Tree) (r : List ℕ) → read_term l ≡ got t r → Past l t r
unfolding read_term
past_term l t r e = past (reads (length l) l t r e)

-- The nodes that are read are the table's

has_form : (l : List ℕ) {h : Node} {k : ℕ} → node_of l ≡ Some h → h.subterms ≡ k → HasForm h.tag k
has_form l {h} is k = let n = head_is l h is in record { known = n.known; shape = n.at_subterms ∙ k }

shaped : {l : List ℕ} {t : Tree} {r : List ℕ} → Reads l t r → Shaped t
shaped (leaf_reads {l} is k) = has_form l is k
shaped (one_reads {l} is k a) = (has_form l is k, shaped a)
shaped (two_reads {l} is k a b) = (has_form l is k, shaped a, shaped b)

pub shaped_term : (l : List ℕ) (t : Tree) (r : List ℕ) → read_term l ≡ got t r → Shaped t
unfolding read_term
shaped_term l t r e = shaped (reads (length l) l t r e)
