-- No accepted term is lost: the bytes of every term that has a type, in scope, with annotations that stand and without cause 10, are a string of the search.
use Rattle.std.proofs.Common.{◌∙◌, sym}
use Rattle.std.specs.Prelude.{◌≡◌, Bool, ◌&&◌, ◌||◌, ltb}
use Rattle.std.proofs.Math.Path.{ap, refl}
use Rattle.std.proofs.Math.Bool.{cond, false, true}
use Rattle.std.proofs.lemmas.Bool.{false≢true}
use Rattle.std.proofs.Math.Option.{Option, none, some}
use mathlib.Core.List.{List, [], ◌++◌, ◌∷◌, append_assoc}
use Prim.Native.Nat.{◌+◌, ◌-◌, ◌<◌, ◌≤◌, suc, zero, ℕ}
use Rattle.std.proofs.Math.Decide.{dec_lt}
use native.Mathlib.Omega.{arith}
use Rattle.std.proofs.Math.Dec.{eqb}
use Rattle.std.proofs.Math.ListN.{length}
use Rattle.calculus.specs.Syntax.{Const, unit, num, op, Op, cell, exch, thread, handle, Shape, pair, list, Exp, var, name, const, lam, app, both, case_of, at}
use Rattle.calculus.specs.Names.{uses}
use Rattle.calculus.specs.Image.{nodes}
use Rattle.calculus.specs.Table.{Entry, Table, is_many}
use Rattle.calculus.specs.Verdict.{is_function_kind, on_function, on_number, scoped_const, scoped, annotated, result_number, applied_number, lambda_number, type_number, outside_many, linear_variable, linear}
use Rattle.calculus.proofs.Theory.Tests.{clash, and_true, and_parts, eqb_sound, eqb_complete, ltb_sound, ltb_complete, leb_complete}
use Rattle.calculus.proofs.Theory.Lists.{at_bound}
use Rattle.calculus.proofs.Theory.Verdict.{on_number_parts}
use Rattle.check_linearity.proofs.Theory.Lambdas.{on_function_at, on_function_parts}
use Rattle.term.specs.Numbers.{little_endian}
use Rattle.term.specs.Forms.{form_of, forms, subterms_of, variable_tag, lambda_tag, application_tag, unit_tag, num_tag, name_tag}
use Rattle.term.specs.Tree.{forms_below}
use Rattle.term.specs.Expressions.{bytes, const_bytes, op_tag, both_tag, case_tag, leaf_forms, leaf_exp, tree_of}
use Rattle.recipe_file.specs.Editions.{edition_1}
use Rattle.list_spec.specs.Search.{Branch}
use Rattle.list_spec.specs.Listed.{small_nums, small_const, has_small_nums}
use Rattle.list_spec.specs.Goals.{Goal, goal, State, state, pending, Head, head, piece_of, meets, with_parts, arguments, leaf_type, behind_leaf, behind_lambda, enter_by, enter, room, may_use, useful_by, useful, bounds, heads, with_branch, choose, branches_at, branches}
use Rattle.list_spec.proofs.Theory.Search.{Member, first, among, Word, piece_and}
use Rattle.list_spec.proofs.Theory.Ascending.{in_heads}

-- a term that edition 1 has the node forms of
abbrev pub plain : Exp → Bool
plain e = forms_below edition_1.forms (tree_of e)

-- what is known of a term that goes into the search
pub record Typed (T : Table) (env : List ℕ) (e : Exp) (t : ℕ) : Type 0 where
  pub in_scope : scoped (length T) 1 (length env) e ≡ true
  pub stands : annotated T e ≡ true
  pub number : type_number T env e ≡ some t
  pub small : has_small_nums e ≡ true
  pub of_edition : plain e ≡ true

-- there is room for the terms to come, and for no node more where none is to come
pub record Room (r n : ℕ) : Type 0 where
  pub enough : n ≤ r
  pub exact : n ≡ 0 → r ≡ 0

-- `or`
or_left : {a : Bool} (b : Bool) → a ≡ true → (a || b) ≡ true
or_left b p = rw p refl

or_right : (a : Bool) {b : Bool} → b ≡ true → (a || b) ≡ true
or_right true p = refl
or_right false p = p

room_test : (r : ℕ) (s : State) → Room r (pending s) → room r s ≡ true
unfolding room
room_test r s h = and_true (leb_complete (pending s) r h.enough) (go r (pending s) h)
  where
    go : (r n : ℕ) → Room r n → (eqb r 0 || ltb 0 n) ≡ true
    go r zero k = rw (k.exact refl) refl
    go r (suc n) k = or_right (eqb r 0) (ltb_complete 0 (suc n) (omega arith))

-- the arguments of a function are as many as it is applied to
pub arguments_length : (T : Table) (k : ℕ) (want : Option ℕ) (t : ℕ) (env : List ℕ) (goals : List Goal) → meets T k want t ≡ true
    → length (arguments T k t env goals) ≡ k + length goals
unfolding arguments meets with_parts
arguments_length T zero want t env goals e = omega arith
arguments_length T (suc k) want t env goals e =
    let (x, h, a, b) = on_function_parts T t (λ p q. meets T k want q) e in
    rw h (omega (arith, arguments_length T k want x.q env goals b))

-- a node that may stand there is a branch
module _ (T : Table) (r k : ℕ) (g : Goal) (goals : List Goal) where
  chosen : (hs : List Head) (h : Head) (s : State) → Member h hs → enter T k g goals h ≡ some s → Room r (pending s) → useful T r k goals h ≡ true
      → Member (record { piece = piece_of h; next = s }) (choose T r k g goals hs)
  unfolding choose with_branch
  chosen (h ∷ hs) _ s first e o u = rw (e, room_test r s o, u) first
  chosen (h' ∷ hs) h s (among d) e o u = skip (enter T k g goals h') (chosen hs h s d e o u)
    where
      skip : (o : Option State) {b : Branch State} → Member b (choose T r k g goals hs)
          → Member b (with_branch (λ s. room r s && useful T r k goals h') (piece_of h') o (choose T r k g goals hs))
      skip none m = m
      skip (some s) m = go (room r s && useful T r k goals h') m
        where
          go : (b : Bool) {c : Branch State} → Member c (choose T r k g goals hs)
              → Member c (cond b (record { piece = piece_of h'; next = s } ∷ choose T r k g goals hs) (choose T r k g goals hs))
          go true n = among n
          go false n = n
  chosen [] h s m e o u = elim m [ ]

  branch_of : (h : Head) (s : State) → Member h (heads (length g.env) (length T)) → enter T k g goals h ≡ some s → Room r (pending s) → useful T r k goals h ≡ true
      → Member (record { piece = piece_of h; next = s }) (branches T r (state k (g ∷ goals)))
  unfolding branches branches_at
  branch_of h s d e o u = chosen _ h s d e o u

  pub word_more : (h : Head) (s : State) {w : List ℕ} → Member h (heads (length g.env) (length T)) → enter T k g goals h ≡ some s → Room r (pending s) → useful T r k goals h ≡ true
      → Word (branches T) r s w → Word (branches T) (suc r) (state k (g ∷ goals)) (piece_of h ++ w)
  word_more h s d e o u w = piece_and {b = record { piece = piece_of h; next = s }} (branch_of h s d e o u) w

-- the node of a leaf is tried
pub record LeafHead (depth types : ℕ) (e : Exp) : Type 0 where
  pub node : Head
  pub tried : Member node (heads depth types)
  pub no_subterm : subterms_of node.tag ≡ 0
  pub says : leaf_exp node.tag node.arg ≡ e
  pub written : piece_of node ≡ bytes e

module _ (depth types : ℕ) where
  variable_head : (i : ℕ) → i < depth → LeafHead depth types (var i)
  unfolding bounds form_of forms leaf_exp leaf_forms little_endian bytes
  variable_head i h = record { node = head variable_tag i; tried = in_heads depth types variable_tag i h; no_subterm = refl; says = refl; written = refl }

  name_head : (k : ℕ) → k < 1 → LeafHead depth types (name k)
  unfolding bounds form_of forms leaf_exp leaf_forms little_endian bytes
  name_head k h = record { node = head name_tag k; tried = in_heads depth types name_tag k h; no_subterm = refl; says = refl; written = refl }

  op_head : (o : Op) (t : ℕ) → t < types → LeafHead depth types (const (op o t))
  unfolding bounds form_of forms leaf_exp leaf_forms little_endian bytes const_bytes op_tag
  op_head cell t h = record { node = head (op_tag cell) t; tried = in_heads depth types (op_tag cell) t h; no_subterm = refl; says = refl; written = refl }
  op_head exch t h = record { node = head (op_tag exch) t; tried = in_heads depth types (op_tag exch) t h; no_subterm = refl; says = refl; written = refl }
  op_head thread t h = record { node = head (op_tag thread) t; tried = in_heads depth types (op_tag thread) t h; no_subterm = refl; says = refl; written = refl }
  op_head handle t h = record { node = head (op_tag handle) t; tried = in_heads depth types (op_tag handle) t h; no_subterm = refl; says = refl; written = refl }

  const_head : (c : Const) → scoped_const types c ≡ true → small_const c ≡ true → LeafHead depth types (const c)
  unfolding bounds form_of forms leaf_exp leaf_forms little_endian bytes const_bytes scoped_const small_const
  const_head unit h m = record { node = head unit_tag 0; tried = in_heads depth types unit_tag 0 (omega arith); no_subterm = refl; says = refl; written = refl }
  const_head (num n) h m = record { node = head num_tag n; tried = in_heads depth types num_tag n (ltb_sound n small_nums m); no_subterm = refl; says = refl; written = refl }
  const_head (op o t) h m = op_head o t (ltb_sound t types h)

-- a leaf
module _ (T : Table) (k : ℕ) (want : Option ℕ) (env : List ℕ) (goals : List Goal) where
  leaf_enters : (e : Exp) (t : ℕ) (l : LeafHead (length env) (length T) e) → Typed T env e t → meets T k want t ≡ true
      → enter T k (goal want env) goals l.node ≡ some (state 0 (arguments T k t env goals))
  unfolding enter enter_by leaf_type behind_leaf
  leaf_enters e t l y m = rw (l.no_subterm, l.says, y.in_scope, y.stands, y.number, m) refl

  -- and is always kept
  leaf_useful : (r : ℕ) (h : Head) → subterms_of h.tag ≡ 0 → useful T r k goals h ≡ true
  unfolding useful useful_by
  leaf_useful r h z = rw z refl

  leaf_word : (e : Exp) (t : ℕ) {m : ℕ} {w : List ℕ} → LeafHead (length env) (length T) e → Typed T env e t → meets T k want t ≡ true
      → Room m (length (arguments T k t env goals)) → Word (branches T) m (state 0 (arguments T k t env goals)) w
      → (r : ℕ) → 1 + m ≡ r → Word (branches T) r (state k (goal want env ∷ goals)) (bytes e ++ w)
  leaf_word e t {m} {w} l y h o x r z =
      let q : r ≡ suc m = omega arith in
      let o' : Room m (0 + length (arguments T k t env goals)) = record { enough = omega (arith, o.enough); exact = λ p. o.exact (omega arith) } in
      rw (q, ← l.written) (word_more T m k (goal want env) goals l.node (state 0 (arguments T k t env goals)) l.tried (leaf_enters e t l y h) o' (leaf_useful m l.node l.no_subterm) x)

-- a typed leaf's node is tried
module _ (T : Table) (env : List ℕ) where
  variable_tried : (i t : ℕ) → Typed T env (var i) t → LeafHead (length env) (length T) (var i)
  unfolding scoped
  variable_tried i t y = variable_head (length env) (length T) i (ltb_sound i (length env) y.in_scope)

  name_tried : (j t : ℕ) → Typed T env (name j) t → LeafHead (length env) (length T) (name j)
  unfolding scoped
  name_tried j t y = name_head (length env) (length T) j (ltb_sound j 1 y.in_scope)

  const_tried : (c : Const) (t : ℕ) → Typed T env (const c) t → LeafHead (length env) (length T) (const c)
  unfolding scoped has_small_nums
  const_tried c t y = const_head (length env) (length T) c y.in_scope y.small

-- inversions of the typing of lambdas and applications
pub record LambdaParts (T : Table) (env : List ℕ) (t : ℕ) (e : Exp) (n : ℕ) : Type 0 where
  pub type : Entry
  pub there : at T t ≡ some type
  pub function : is_function_kind type.kind ≡ true
  pub body : Typed T (type.p ∷ env) e type.q
  pub same_number : t ≡ n

lambda_parts : (T : Table) (env : List ℕ) (t : ℕ) (e : Exp) (n : ℕ) → Typed T env (lam t e) n → LambdaParts T env t e n
unfolding scoped annotated type_number lambda_number has_small_nums forms_below tree_of
lambda_parts T env t e n y = go (at T t) refl y.number
  where
    go : (o : Option Entry) → at T t ≡ o → lambda_number t o (λ p. type_number T (p ∷ env) e) ≡ some n → LambdaParts T env t e n
    go none h f = absurd (clash (cc))
    go (some x) h f = pick (is_function_kind x.kind && on_number (type_number T (x.p ∷ env) e) (λ q. eqb q x.q)) refl f
      where
        pick : (b : Bool) → (is_function_kind x.kind && on_number (type_number T (x.p ∷ env) e) (λ q. eqb q x.q)) ≡ b
            → cond b (some t) none ≡ some n → LambdaParts T env t e n
        pick false a c = absurd (clash (cc))
        pick true a c = let (u, v) = and_parts (is_function_kind x.kind) _ a in record {
          type = x;
          there = h;
          function = u;
          body = record {
            in_scope = (and_parts (ltb t (length T)) _ y.in_scope).1;
            stands = (and_parts (on_function T t (λ p q. true)) _ y.stands).1;
            number = let (m, g, c) = on_number_parts (type_number T (x.p ∷ env) e) (λ q. eqb q x.q) v in g ∙ ap some (eqb_sound m x.q c);
            small = y.small;
            of_edition = y.of_edition;
          };
          same_number = cc;
        }

pub record ApplicationParts (T : Table) (env : List ℕ) (f a : Exp) (n : ℕ) : Type 0 where
  pub type : ℕ
  pub read : Entry
  pub there : at T type ≡ some read
  pub is_function : is_function_kind read.kind ≡ true
  pub function : Typed T env f type
  pub argument : Typed T env a read.p
  pub result : read.q ≡ n

result_parts : (T : Table) (s a n : ℕ) → result_number (at T s) a ≡ some n
    → (x : Entry) × (at T s ≡ some x) × (is_function_kind x.kind ≡ true) × (a ≡ x.p) × (x.q ≡ n)
unfolding result_number
result_parts T s a n e = go (at T s) refl e
  where
    go : (o : Option Entry) → at T s ≡ o → result_number o a ≡ some n → (x : Entry) × (at T s ≡ some x) × (is_function_kind x.kind ≡ true) × (a ≡ x.p) × (x.q ≡ n)
    go none h f = absurd (clash (cc))
    go (some x) h f = pick (is_function_kind x.kind && eqb a x.p) refl f
      where
        pick : (b : Bool) → (is_function_kind x.kind && eqb a x.p) ≡ b → cond b (some x.q) none ≡ some n
            → (y : Entry) × (at T s ≡ some y) × (is_function_kind y.kind ≡ true) × (a ≡ y.p) × (y.q ≡ n)
        pick false u v = absurd (clash (cc))
        pick true u v = let (i, j) = and_parts (is_function_kind x.kind) _ u in (x, h, i, eqb_sound a x.p j, (cc))

applied_parts : (T : Table) (f a : Option ℕ) (n : ℕ) → applied_number T f a ≡ some n → (s m : ℕ) × (f ≡ some s) × (a ≡ some m) × (result_number (at T s) m ≡ some n)
unfolding applied_number
applied_parts T none a n e = absurd (clash (cc))
applied_parts T (some s) none n e = absurd (clash (cc))
applied_parts T (some s) (some m) n e = (s, m, refl, refl, e)

application_parts : (T : Table) (env : List ℕ) (f a : Exp) (n : ℕ) → Typed T env (app f a) n → ApplicationParts T env f a n
unfolding scoped annotated type_number has_small_nums forms_below tree_of
application_parts T env f a n y =
    let (s, m, i, j, h) = applied_parts T (type_number T env f) (type_number T env a) n y.number in
    let (x, g, u, v, w) = result_parts T s m n h in
    let (c, d) = and_parts (scoped (length T) 1 (length env) f) _ y.in_scope in
    let (k, l) = and_parts (annotated T f) _ y.stands in
    let (o, p) = and_parts (has_small_nums f) _ y.small in
    let (q, r) = and_parts (plain f) _ y.of_edition in
    record {
      type = s;
      read = x;
      there = g;
      is_function = u;
      function = record { in_scope = c; stands = k; number = i; small = o; of_edition = q };
      argument = record { in_scope = d; stands = l; number = j ∙ ap some v; small = p; of_edition = r };
      result = w;
    }

pub nodes_some : (e : Exp) → 1 ≤ nodes e
unfolding nodes
nodes_some (var i) = omega arith
nodes_some (name k) = omega arith
nodes_some (const c) = omega arith
nodes_some (lam t e) = omega arith
nodes_some (app f a) = omega arith
nodes_some (both s t e₁ e₂) = omega arith
nodes_some (case_of s e₁ e₂) = omega arith

-- the goals behind the head of an application
pub more_arguments : (T : Table) (k s : ℕ) (env : List ℕ) (goals : List Goal) (x : Entry) → at T s ≡ some x
    → arguments T (suc k) s env goals ≡ goal (some x.p) env ∷ arguments T k x.q env goals
unfolding arguments with_parts
more_arguments T k s env goals x h = rw h refl

meets_more : (T : Table) (k : ℕ) (want : Option ℕ) (s : ℕ) (x : Entry) → at T s ≡ some x → is_function_kind x.kind ≡ true → meets T k want x.q ≡ true
    → meets T (suc k) want s ≡ true
unfolding meets
meets_more T k want s x h a b = on_function_at T s x (λ p q. meets T k want q) h a ∙ b

meets_same : (T : Table) (t : ℕ) → meets T 0 (some t) t ≡ true
unfolding meets
meets_same T t = eqb_complete t t refl

pub no_arguments : (T : Table) (t : ℕ) (env : List ℕ) (goals : List Goal) → arguments T 0 t env goals ≡ goals
unfolding arguments
no_arguments T t env goals = refl

-- pairs and what takes them apart are of edition 2
not_both : (s : Shape) (t : ℕ) (e₁ e₂ : Exp) → plain (both s t e₁ e₂) ≡ true → ⊥
unfolding forms_below tree_of both_tag
not_both pair t e₁ e₂ h = false≢true h
not_both list t e₁ e₂ h = false≢true h

not_case : (s : Shape) (e₁ e₂ : Exp) → plain (case_of s e₁ e₂) ≡ true → ⊥
unfolding forms_below tree_of case_tag
not_case pair e₁ e₂ h = false≢true h
not_case list e₁ e₂ h = false≢true h

-- cause 10 in a lambda's body: where variable i, of type p, is used once, a term of one node is the variable
one_node : (T : Table) (env : List ℕ) (i p : ℕ) (e : Exp) (q : ℕ) → at env i ≡ some p → nodes e ≤ 1 → uses i e ≡ 1 → type_number T env e ≡ some q → p ≡ q
unfolding nodes uses type_number
one_node T env i p (var j) q a l u y = go (eqb j i) refl u
  where
    go : (b : Bool) → eqb j i ≡ b → cond {A = ℕ} b 1 0 ≡ 1 → p ≡ q
    go true z v = let c : j ≡ i = eqb_sound j i z in cc
    go false z v = absurd (clash v)
one_node T env i p (name k) q a l u y = absurd (clash u)
one_node T env i p (const c) q a l u y = absurd (clash u)
one_node T env i p (lam t e) q a l u y = absurd (omega (arith, nodes_some e))
one_node T env i p (app e₁ e₂) q a l u y = absurd (omega (arith, nodes_some e₁))
one_node T env i p (both s t e₁ e₂) q a l u y = absurd (omega (arith, nodes_some e₁))
one_node T env i p (case_of s e₁ e₂) q a l u y = absurd (omega (arith, nodes_some e₁))

-- a once parameter of type p, used once in a body of n nodes at most
module _ (T : Table) (env : List ℕ) (p n : ℕ) where
  by_three : (q : ℕ) → 2 < n → may_use T p q n ≡ true
  unfolding may_use
  by_three q l = or_right (is_many T p) (or_right (eqb p q)
      (and_true (ltb_complete _ n (omega arith)) (or_right (on_function T q (λ a b. eqb b p)) (ltb_complete _ n (omega arith)))))

  by_one : (e : Exp) (q : ℕ) → Typed T (p ∷ env) e q → nodes e ≤ 1 → uses 0 e ≡ 1 → may_use T p q n ≡ true
  unfolding may_use
  by_one e q y l u = or_right (is_many T p) (or_left _ (eqb_complete p q (one_node T (p ∷ env) 0 p e q refl l u y.number)))

  by_two : (t : ℕ) (e : Exp) (q : ℕ) → Typed T (p ∷ env) (lam t e) q → nodes e ≤ 1 → uses 1 e ≡ 1 → 1 < n → may_use T p q n ≡ true
  unfolding may_use
  by_two t e q y l u h =
      let x = lambda_parts T (p ∷ env) t e q y in
      let z : p ≡ x.type.q = one_node T (x.type.p ∷ p ∷ env) 1 p e x.type.q refl l u x.body.number in
      let g : at T q ≡ some x.type = ap (at T) (sym x.same_number) ∙ x.there in
      or_right (is_many T p) (or_right (eqb p q)
      (and_true (ltb_complete _ n (omega arith)) (or_left _ (on_function_at T q x.type (λ a b. eqb b p) g x.function ∙ eqb_complete _ _ (sym z)))))

  by_nodes : (e : Exp) (q : ℕ) → Typed T (p ∷ env) e q → nodes e ≤ n → uses 0 e ≡ 1 → may_use T p q n ≡ true
  unfolding nodes uses
  by_nodes (var i) q y l u = by_one (var i) q y (omega arith) u
  by_nodes (name k) q y l u = by_one (name k) q y (omega arith) u
  by_nodes (const c) q y l u = by_one (const c) q y (omega arith) u
  by_nodes (lam t e) q y l u = elim (dec_lt 2 n) [ yes h ↦ by_three q h | no h ↦ by_two t e q y (omega arith) u (omega (arith, nodes_some e)) ]
  by_nodes (app e₁ e₂) q y l u = by_three q (omega (arith, nodes_some e₁, nodes_some e₂))
  by_nodes (both s t e₁ e₂) q y l u = by_three q (omega (arith, nodes_some e₁, nodes_some e₂))
  by_nodes (case_of s e₁ e₂) q y l u = by_three q (omega (arith, nodes_some e₁, nodes_some e₂))

  -- the body of a lambda that keeps the rule may use its parameter
  body_uses : (e : Exp) (q : ℕ) → Typed T (p ∷ env) e q → linear_variable T 0 p e ≡ true → nodes e ≤ n → may_use T p q n ≡ true
  unfolding may_use linear_variable
  body_uses e q y v l = go (is_many T p) refl v
    where
      go : (b : Bool) → is_many T p ≡ b → cond b true (eqb (uses 0 e) 1 && outside_many T 0 e) ≡ true → may_use T p q n ≡ true
      go true m w = or_left _ m
      go false m w = by_nodes e q y l (eqb_sound (uses 0 e) 1 (and_parts (eqb (uses 0 e) 1) _ w).0)

module _ (T : Table) where
  lambda_enters : (k : ℕ) (want : Option ℕ) (env : List ℕ) (goals : List Goal) (t : ℕ) (x : Entry) → at T t ≡ some x → is_function_kind x.kind ≡ true
      → meets T k want t ≡ true → enter T k (goal want env) goals (head lambda_tag t) ≡ some (state 0 (goal (some x.q) (x.p ∷ env) ∷ arguments T k t env goals))
  unfolding enter enter_by form_of forms behind_lambda
  lambda_enters k want env goals t x h f m = rw (h, f, m) refl

  apply_enters : (k : ℕ) (g : Goal) (goals : List Goal) → enter T k g goals (head application_tag 0) ≡ some (state (suc k) (g ∷ goals))
  unfolding enter enter_by form_of forms
  apply_enters k g goals = refl

  -- a lambda whose body may use its parameter is kept, and every application
  lambda_useful : (r k : ℕ) (goals : List Goal) (t : ℕ) (x : Entry) → at T t ≡ some x → is_function_kind x.kind ≡ true
      → may_use T x.p x.q (r - (k + length goals)) ≡ true → useful T r k goals (head lambda_tag t) ≡ true
  unfolding useful useful_by form_of forms
  lambda_useful r k goals t x h f u = on_function_at T t x (λ p q. may_use T p q (r - (k + length goals))) h f ∙ u

  apply_useful : (r k : ℕ) (goals : List Goal) → useful T r k goals (head application_tag 0) ≡ true
  unfolding useful useful_by form_of forms
  apply_useful r k goals = refl

  -- cause 10 of the parts
  lambda_linear : (env : List ℕ) (t : ℕ) (e : Exp) (x : Entry) → at T t ≡ some x → linear T env (lam t e) ≡ true
      → (linear_variable T 0 x.p e ≡ true) × (linear T (x.p ∷ env) e ≡ true)
  unfolding linear
  lambda_linear env t e x h l =
      let (y, g, a, b) = on_function_parts T t (λ p q. linear_variable T 0 p e && linear T (p ∷ env) e) l in
      let z : x ≡ y = cc in
      rw z (and_parts (linear_variable T 0 y.p e) _ b)

  application_linear : (env : List ℕ) (f a : Exp) → linear T env (app f a) ≡ true → (linear T env f ≡ true) × (linear T env a ≡ true)
  unfolding linear
  application_linear env f a l = and_parts (linear T env f) _ l

  lambda_in : (depth t : ℕ) → t < length T → Member (head lambda_tag t) (heads depth (length T))
  unfolding bounds
  lambda_in depth t h = in_heads depth (length T) lambda_tag t h

  apply_in : (depth : ℕ) → Member (head application_tag 0) (heads depth (length T))
  unfolding bounds
  apply_in depth = in_heads depth (length T) application_tag 0 (omega arith)

  -- the bytes of a typed term, and strings of the arguments and goals behind it
  pub complete : (e : Exp) (env : List ℕ) (t k : ℕ) (want : Option ℕ) (goals : List Goal) {m : ℕ} {w : List ℕ} → Typed T env e t → linear T env e ≡ true
      → meets T k want t ≡ true → Room m (length (arguments T k t env goals)) → Word (branches T) m (state 0 (arguments T k t env goals)) w
      → (r : ℕ) → nodes e + m ≡ r → Word (branches T) r (state k (goal want env ∷ goals)) (bytes e ++ w)
  unfolding nodes bytes form_of forms little_endian
  complete (var i) env t k want goals y y' h o x r z = leaf_word T k want env goals (var i) t (variable_tried T env i t y) y h o x r z
  complete (name j) env t k want goals y y' h o x r z = leaf_word T k want env goals (name j) t (name_tried T env j t y) y h o x r z
  complete (const c) env t k want goals y y' h o x r z = leaf_word T k want env goals (const c) t (const_tried T env c t y) y h o x r z
  complete (lam s e) env t k want goals {m} {w} y y' h o x r z =
      let p = lambda_parts T env s e t y in
      let q : s ≡ t = p.same_number in
      let h' : meets T k want s ≡ true = rw q h in
      let l = arguments T k s env goals in
      let o' : Room m (length l) = rw q o in
      let x' : Word (branches T) m (state 0 l) w = rw q x in
      let n = nodes e + m in
      let v = lambda_linear env s e p.type p.there y' in
      let b : Word (branches T) n (state 0 (goal (some p.type.q) (p.type.p ∷ env) ∷ l)) (bytes e ++ w) =
      complete e (p.type.p ∷ env) p.type.q 0 (some p.type.q) l p.body v.1 (meets_same T p.type.q)
      (rw (no_arguments T p.type.q (p.type.p ∷ env) l) o') (rw (no_arguments T p.type.q (p.type.p ∷ env) l) x') n refl in
      let a : Room n (0 + suc (length l)) = record { enough = omega (arith, nodes_some e, o'.enough); exact = λ u. absurd (omega arith) } in
      let c = body_uses T env p.type.p (n - (k + length goals)) e p.type.q p.body v.0 (omega (arith, o'.enough, arguments_length T k want s env goals h')) in
      let d : r ≡ suc n = omega arith in
      rw d (word_more T n k (goal want env) goals (head lambda_tag s) (state 0 (goal (some p.type.q) (p.type.p ∷ env) ∷ l))
      (lambda_in (length env) s (at_bound T s p.there)) (lambda_enters k want env goals s p.type p.there p.function h') a
      (lambda_useful n k goals s p.type p.there p.function c) b)
  complete (app f a) env t k want goals {m} {w} y y' h o x r z =
      let p = application_parts T env f a t y in
      let y'' = application_linear env f a y' in
      let q : p.read.q ≡ t = p.result in
      let h' : meets T k want p.read.q ≡ true = rw q h in
      let l = arguments T k p.read.q env goals in
      let g = goal (some p.read.p) env in
      let o' : Room m (length l) = rw q o in
      let x' : Word (branches T) m (state 0 l) w = rw q x in
      let u : Word (branches T) (nodes a + m) (state 0 (g ∷ l)) (bytes a ++ w) =
      complete a env p.read.p 0 (some p.read.p) l p.argument y''.1 (meets_same T p.read.p)
      (rw (no_arguments T p.read.p env l) o') (rw (no_arguments T p.read.p env l) x') (nodes a + m) refl in
      let c = more_arguments T k p.type env goals p.read p.there in
      let n = nodes f + (nodes a + m) in
      let i : Room (nodes a + m) (length (g ∷ l)) = record { enough = omega (arith, nodes_some a, o'.enough); exact = λ e. absurd (omega arith) } in
      let v : Word (branches T) n (state (suc k) (goal want env ∷ goals)) (bytes f ++ (bytes a ++ w)) =
      complete f env p.type (suc k) want goals p.function y''.0 (meets_more T k want p.type p.read p.there p.is_function h') (rw c i) (rw c u) n refl in
      let j : Room n (suc k + suc (length goals)) =
      record { enough = omega (arith, nodes_some f, nodes_some a, o'.enough, arguments_length T k want p.read.q env goals h'); exact = λ e. absurd (omega arith) } in
      let d : r ≡ suc n = omega arith in
      let b : (bytes f ++ bytes a) ++ w ≡ bytes f ++ (bytes a ++ w) = append_assoc (bytes f) (bytes a) w in
      rw (d, b) (word_more T n k (goal want env) goals (head application_tag 0) (state (suc k) (goal want env ∷ goals))
      (apply_in (length env)) (apply_enters k (goal want env) goals) j (apply_useful n k goals) v)
  complete (both s u e₁ e₂) env t k want goals y y' h o x r z = absurd (not_both s u e₁ e₂ y.of_edition)
  complete (case_of s e₁ e₂) env t k want goals y y' h o x r z = absurd (not_case s e₁ e₂ y.of_edition)
