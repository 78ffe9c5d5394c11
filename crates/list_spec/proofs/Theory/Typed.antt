-- What the search makes is a term of the size, in scope, with annotations that stand, and of a many type: of the test at its end only cause 10 is left.
use Rattle.std.proofs.Common.{◌∙◌, arith}
use Rattle.std.specs.Prelude.{◌≡◌, Bool, ◌&&◌, ◌||◌, not, ◌+◌, ◌<◌, ◌≤◌, suc, zero, ℕ, eqb, leb, ltb, get_or, length}
use Rattle.std.proofs.Math.Path.{ap, refl, subst, sym}
use Rattle.std.proofs.Math.Bool.{cond, false, true}
use Rattle.std.proofs.lemmas.Bool.{false≢true}
use Rattle.std.proofs.Math.Option.{Option, none, some}
use mathlib.Core.List.{List, [], ◌++◌, ◌∷◌, append_assoc, append-nil}
use Rattle.calculus.specs.Bytes.{two_byte_values}
use Rattle.calculus.specs.Causes.{linearity_cause}
use Rattle.calculus.specs.Syntax.{unit, num, op, Exp, var, name, const, lam, app, both, case_of, at, Each, each_var, each_name, each_const, each_lam, each_app, each_both, each_case}
use Rattle.calculus.specs.Names.{count}
use Rattle.calculus.specs.Limits.{byte_values}
use Rattle.calculus.specs.Image.{nodes, Writable}
use Rattle.calculus.specs.Table.{Entry, Table, is_many}
use Rattle.calculus.specs.Verdict.{is_function_kind, on_number, scoped_const, scoped, annotated, result_number, applied_number, lambda_number, type_number, linear, every, verdict}
use Rattle.calculus.proofs.Theory.Tests.{clash, and_true, and_parts, eqb_sound, eqb_complete, eqb_differ, leb_sound, ltb_sound, ltb_complete}
use Rattle.calculus.proofs.Theory.Lists.{at_bound}
use Rattle.check_linearity.proofs.Theory.Lambdas.{on_function_at, on_function_parts}
use Rattle.term.specs.Numbers.{little_endian}
use Rattle.term.specs.Forms.{form_of, forms, subterms_of, lambda_tag, application_tag}
use Rattle.term.specs.Tree.{node_bytes, forms_below}
use Rattle.term.specs.Expressions.{bytes, const_bytes, op_tag, leaf_forms, leaf_exp, const_tree, tree_of, FitsBytes, term_of}
use Rattle.term.proofs.Table.{below, end_of_row, Row, ◌∣◌}
use Rattle.term.proofs.Leaves.{leaf_nodes}
use Rattle.term.proofs.Expressions.{term_of_bytes}
use Rattle.recipe_file.specs.Editions.{edition_1}
use Rattle.list_spec.specs.Order.{above}
use Rattle.list_spec.specs.Search.{Branch, find}
use Rattle.list_spec.specs.Listed.{small_nums, small_const, has_small_nums, passes, listed_test}
use Rattle.list_spec.specs.Goals.{Goal, goal, State, state, pending, Head, head, piece_of, meets, arguments, leaf_type, behind_leaf, behind_lambda, enter_by, enter, room, useful, bounds, heads, with_branch, choose, branches_at, branches, beginning}
use Rattle.list_spec.specs.NextTerm.{search}
use Rattle.list_spec.proofs.Theory.Search.{Member, first, among, Word, no_more, piece_and, same_find}
use Rattle.list_spec.proofs.Theory.Ascending.{none_in, from_heads}
use Rattle.list_spec.proofs.Theory.Complete.{plain, Typed, Room, nodes_some, more_arguments}
use Rattle.list_spec.proofs.Theory.Exact.{all_bytes_exp, edition_read}

-- what a branch says
record From (T : Table) (r k : ℕ) (g : Goal) (goals : List Goal) (hs : List Head) (c : Branch State) : Type 0 where
  pub node : Head
  pub tried : Member node hs
  pub bytes_of : c.piece ≡ piece_of node
  pub enters : enter T k g goals node ≡ some c.next
  pub roomy : room r c.next ≡ true

module _ (T : Table) (r k : ℕ) (g : Goal) (goals : List Goal) where
  later : {h : Head} {hs : List Head} {c : Branch State} → From T r k g goals hs c → From T r k g goals (h ∷ hs) c
  later f = record { node = f.node; tried = among f.tried; bytes_of = f.bytes_of; enters = f.enters; roomy = f.roomy }

  from_with : (h : Head) (hs : List Head) (bs : List (Branch State)) (o : Option State) → enter T k g goals h ≡ o
      → ((c : Branch State) → Member c bs → From T r k g goals hs c) → {c : Branch State} → Member c (with_branch (λ s. room r s && useful T r k goals h) (piece_of h) o bs) → From T r k g goals (h ∷ hs) c
  unfolding with_branch
  from_with h hs bs none e f d = later (f _ d)
  from_with h hs bs (some s) e f d = go (room r s && useful T r k goals h) refl d
    where
      go : (b : Bool) → (room r s && useful T r k goals h) ≡ b → {c : Branch State} → Member c (cond b (record { piece = piece_of h; next = s } ∷ bs) bs) → From T r k g goals (h ∷ hs) c
      go true p first = record { node = h; tried = first; bytes_of = refl; enters = e; roomy = (and_parts (room r s) _ p).0 }
      go true p (among m) = later (f _ m)
      go false p m = later (f _ m)

  from_branch : (hs : List Head) (c : Branch State) → Member c (choose T r k g goals hs) → From T r k g goals hs c
  unfolding choose
  from_branch [] c d = absurd (none_in d)
  from_branch (h ∷ hs) c d = from_with h hs (choose T r k g goals hs) (enter T k g goals h) refl (from_branch hs) d

  from_branches : (c : Branch State) → Member c (branches T r (state k (g ∷ goals))) → From T r k g goals (heads (length g.env) (length T)) c
  unfolding branches branches_at
  from_branches c d = from_branch _ c d

-- a node that is tried, by the number of its subterms: a leaf with small nums, a lambda, an application
data Tried : ℕ → ℕ → Type 0 where
  tried_leaf : {tag arg : ℕ} → subterms_of tag ≡ 0 → node_bytes tag arg ≡ bytes (leaf_exp tag arg) → has_small_nums (leaf_exp tag arg) ≡ true
      → plain (leaf_exp tag arg) ≡ true → Tried tag arg
  tried_lambda : {arg : ℕ} → Tried lambda_tag arg
  tried_application : {arg : ℕ} → Tried application_tag arg

by_tag : (depth types tag : ℕ) → tag < edition_1.forms → (arg : ℕ) → arg < get_or (bounds depth types) tag 0 → Tried tag arg
unfolding bounds form_of forms little_endian leaf_exp leaf_forms bytes const_bytes op_tag has_small_nums small_const forms_below tree_of const_tree
by_tag depth types tag h = below row tag h
  where
    row : Row (λ tag. (arg : ℕ) → arg < get_or (bounds depth types) tag 0 → Tried tag arg) 0 edition_1.forms
    row =
        (λ arg l. tried_leaf refl refl refl refl) ∣ (λ arg l. tried_lambda) ∣ (λ arg l. tried_application) ∣ (λ arg l. tried_leaf refl refl refl refl)
        ∣ (λ arg l. tried_leaf refl refl (ltb_complete arg small_nums l) refl) ∣ (λ arg l. tried_leaf refl refl refl refl) ∣ (λ arg l. tried_leaf refl refl refl refl)
        ∣ (λ arg l. tried_leaf refl refl refl refl) ∣ (λ arg l. tried_leaf refl refl refl refl) ∣ (λ arg l. tried_leaf refl refl refl refl) ∣ end_of_row

of_heads : (depth types : ℕ) (h : Head) → Member h (heads depth types) → Tried h.tag h.arg
of_heads depth types h d = let (a, b) = from_heads depth types d in by_tag depth types h.tag a h.arg b

-- what entering says
module _ (T : Table) (k : ℕ) (g : Goal) (goals : List Goal) where
  leaf_parts : (e : Exp) (s : State) → behind_leaf T k g goals (leaf_type T g.env e) ≡ some s
      → (t : ℕ) × (scoped (length T) 1 (length g.env) e ≡ true) × (annotated T e ≡ true) × (type_number T g.env e ≡ some t) × (meets T k g.want t ≡ true)
      × (s ≡ state 0 (arguments T k t g.env goals))
  unfolding behind_leaf leaf_type
  leaf_parts e s h = go (scoped (length T) 1 (length g.env) e && annotated T e) refl (type_number T g.env e) refl h
    where
      go : (b : Bool) → (scoped (length T) 1 (length g.env) e && annotated T e) ≡ b → (o : Option ℕ) → type_number T g.env e ≡ o
          → behind_leaf T k g goals (cond b o none) ≡ some s
          → (t : ℕ) × (scoped (length T) 1 (length g.env) e ≡ true) × (annotated T e ≡ true) × (type_number T g.env e ≡ some t) × (meets T k g.want t ≡ true)
          × (s ≡ state 0 (arguments T k t g.env goals))
      go false p o q f = absurd (clash (cc))
      go true p none q f = absurd (clash (cc))
      go true p (some t) q f = let (a, b) = and_parts (scoped (length T) 1 (length g.env) e) _ p in pick (meets T k g.want t) refl a b f
        where
          pick : (c : Bool) → meets T k g.want t ≡ c → scoped (length T) 1 (length g.env) e ≡ true → annotated T e ≡ true
              → cond c (some (state 0 (arguments T k t g.env goals))) none ≡ some s
              → (t : ℕ) × (scoped (length T) 1 (length g.env) e ≡ true) × (annotated T e ≡ true) × (type_number T g.env e ≡ some t) × (meets T k g.want t ≡ true)
              × (s ≡ state 0 (arguments T k t g.env goals))
          pick false m a b i = absurd (clash (cc))
          pick true m a b i = (t, a, b, q, m, (cc))

  lambda_parts : (t : ℕ) (s : State) → behind_lambda T k g goals t (at T t) ≡ some s
      → (x : Entry) × (at T t ≡ some x) × (is_function_kind x.kind ≡ true) × (meets T k g.want t ≡ true)
      × (s ≡ state 0 (goal (some x.q) (x.p ∷ g.env) ∷ arguments T k t g.env goals))
  unfolding behind_lambda
  lambda_parts t s h = go (at T t) refl h
    where
      go : (o : Option Entry) → at T t ≡ o → behind_lambda T k g goals t o ≡ some s
          → (x : Entry) × (at T t ≡ some x) × (is_function_kind x.kind ≡ true) × (meets T k g.want t ≡ true)
          × (s ≡ state 0 (goal (some x.q) (x.p ∷ g.env) ∷ arguments T k t g.env goals))
      go none p f = absurd (clash (cc))
      go (some x) p f = pick (is_function_kind x.kind && meets T k g.want t) refl f
        where
          pick : (c : Bool) → (is_function_kind x.kind && meets T k g.want t) ≡ c
              → cond c (some (state 0 (goal (some x.q) (x.p ∷ g.env) ∷ arguments T k t g.env goals))) none ≡ some s
              → (x : Entry) × (at T t ≡ some x) × (is_function_kind x.kind ≡ true) × (meets T k g.want t ≡ true)
              × (s ≡ state 0 (goal (some x.q) (x.p ∷ g.env) ∷ arguments T k t g.env goals))
          pick false m i = absurd (clash (cc))
          pick true m i = let (a, b) = and_parts (is_function_kind x.kind) _ m in (x, p, a, b, (cc))

room_of : (r : ℕ) (s : State) → room r s ≡ true → Room r (pending s)
unfolding room
room_of r s e = let (a, b) = and_parts (leb (pending s) r) _ e in
    record { enough = leb_sound (pending s) r a; exact = λ z. go (eqb r 0) refl (rw z at b) }
  where
    go : (c : Bool) → eqb r 0 ≡ c → (eqb r 0 || ltb 0 0) ≡ true → r ≡ 0
    go true p q = eqb_sound r 0 p
    go false p q = absurd (false≢true (rw p at q))

-- a string of the search at a goal: a typed term, and a string of the goals behind it
pub record Parsed (T : Table) (r k : ℕ) (want : Option ℕ) (env : List ℕ) (goals : List Goal) (w : List ℕ) : Type 0 where
  pub term : Exp
  pub type : ℕ
  pub left : ℕ
  pub rest : List ℕ
  pub typed : Typed T env term type
  pub wanted : meets T k want type ≡ true
  pub counts : nodes term + left ≡ r
  pub splits : w ≡ bytes term ++ rest
  pub onward : Word (branches T) left (state 0 (arguments T k type env goals)) rest
  pub roomy : Room left (length (arguments T k type env goals))

room_eq : {r m n : ℕ} → m ≡ n → Room r m → Room r n
room_eq e o = rw (← e) o

wanted_is : (T : Table) (w t : ℕ) → meets T 0 (some w) t ≡ true → t ≡ w
unfolding meets
wanted_is T w t e = eqb_sound t w e

wanted_more : (T : Table) (k : ℕ) (want : Option ℕ) (t : ℕ) → meets T (suc k) want t ≡ true
    → (x : Entry) × (at T t ≡ some x) × (is_function_kind x.kind ≡ true) × (meets T k want x.q ≡ true)
unfolding meets
wanted_more T k want t e = on_function_parts T t (λ p q. meets T k want q) e

lambda_typed : (T : Table) (env : List ℕ) (t : ℕ) (e : Exp) (x : Entry) → at T t ≡ some x → is_function_kind x.kind ≡ true → Typed T (x.p ∷ env) e x.q → Typed T env (lam t e) t
unfolding scoped annotated type_number lambda_number on_number has_small_nums forms_below tree_of
lambda_typed T env t e x h f y = record {
  in_scope = and_true (ltb_complete t (length T) (at_bound T t h)) y.in_scope;
  stands = and_true (on_function_at T t x (λ p q. true) h f) y.stands;
  number = rw (h, f, y.number, eqb_complete x.q x.q refl) refl;
  small = y.small;
  of_edition = y.of_edition;
}

application_typed : (T : Table) (env : List ℕ) (f a : Exp) (t : ℕ) (x : Entry) → at T t ≡ some x → is_function_kind x.kind ≡ true
    → Typed T env f t → Typed T env a x.p → Typed T env (app f a) x.q
unfolding scoped annotated type_number applied_number result_number has_small_nums forms_below tree_of
application_typed T env f a t x h k y z = record {
  in_scope = and_true y.in_scope z.in_scope;
  stands = and_true y.stands z.stands;
  number = rw (y.number, z.number, h, k, eqb_complete x.p x.p refl) refl;
  small = and_true y.small z.small;
  of_edition = and_true y.of_edition z.of_edition;
}

module _ (T : Table) where
  -- by the node that comes first
  abbrev Below : ℕ → Type 0
  Below n = (r : ℕ) → r ≤ n → (k : ℕ) (want : Option ℕ) (env : List ℕ) (goals : List Goal) (w : List ℕ) → Room r (k + suc (length goals))
      → Word (branches T) r (state k (goal want env ∷ goals)) w → Parsed T r k want env goals w

  by_leaf : (r k : ℕ) (want : Option ℕ) (env : List ℕ) (goals : List Goal) (e : Exp) (s : State) (w : List ℕ) → nodes e ≡ 1 → has_small_nums e ≡ true → plain e ≡ true
      → behind_leaf T k (goal want env) goals (leaf_type T env e) ≡ some s → Room r (pending s) → Word (branches T) r s w → Parsed T (suc r) k want env goals (bytes e ++ w)
  by_leaf r k want env goals e s w n m i h o d =
      let (t, a, b, c, f, z) = leaf_parts T k (goal want env) goals e s h in
      let l = arguments T k t env goals in
      record {
        term = e;
        type = t;
        left = r;
        rest = w;
        typed = record { in_scope = a; stands = b; number = c; small = m; of_edition = i };
        wanted = f;
        counts = omega arith;
        splits = refl;
        onward = rw z at d;
        roomy = let q : Room r (0 + length l) = rw z at o in room_eq (omega arith) q;
      }

  by_lambda : (n : ℕ) → Below n → (r : ℕ) → r ≤ n → (k : ℕ) (want : Option ℕ) (env : List ℕ) (goals : List Goal) (t : ℕ) (s : State) (w : List ℕ)
      → behind_lambda T k (goal want env) goals t (at T t) ≡ some s → Room r (pending s) → Word (branches T) r s w → Parsed T (suc r) k want env goals (1 ∷ t ∷ w)
  unfolding arguments nodes bytes
  by_lambda n ih r l k want env goals t s w h o d =
      let (x, a, b, c, z) = lambda_parts T k (goal want env) goals t s h in
      let g = arguments T k t env goals in
      let p = ih r l 0 (some x.q) (x.p ∷ env) g w (rw z at o) (rw z at d) in
      let q : p.type ≡ x.q = wanted_is T x.q p.type p.wanted in
      record {
        term = lam t p.term;
        type = t;
        left = p.left;
        rest = p.rest;
        typed = lambda_typed T env t p.term x a b (rw q at p.typed);
        wanted = c;
        counts = omega (arith, p.counts);
        splits = ap (λ u. 1 ∷ t ∷ u) p.splits;
        onward = p.onward;
        roomy = p.roomy;
      }

  by_apply : (n : ℕ) → Below n → (r : ℕ) → r ≤ n → (k : ℕ) (want : Option ℕ) (env : List ℕ) (goals : List Goal) (w : List ℕ)
      → Room r (suc k + suc (length goals)) → Word (branches T) r (state (suc k) (goal want env ∷ goals)) w → Parsed T (suc r) k want env goals (2 ∷ w)
  unfolding arguments nodes bytes
  by_apply n ih r l k want env goals w o d =
      let p = ih r l (suc k) want env goals w o d in
      let (x, a, b, c) = wanted_more T k want p.type p.wanted in
      let g = arguments T k x.q env goals in
      let m = more_arguments T k p.type env goals x a in
      let v : Word (branches T) p.left (state 0 (goal (some x.p) env ∷ g)) p.rest = rw m at p.onward in
      let u : Room p.left (suc (length g)) = rw m at p.roomy in
      let i = ih p.left (omega (arith, p.counts, nodes_some p.term)) 0 (some x.p) env g p.rest (room_eq (omega arith) u) v in
      let q : i.type ≡ x.p = wanted_is T x.p i.type i.wanted in
      record {
        term = app p.term i.term;
        type = x.q;
        left = i.left;
        rest = i.rest;
        typed = application_typed T env p.term i.term p.type x a b p.typed (rw q at i.typed);
        wanted = c;
        counts = omega (arith, p.counts, i.counts);
        splits = ap (λ z. 2 ∷ z) (p.splits ∙ ap (λ z. bytes p.term ++ z) i.splits ∙ sym (append_assoc (bytes p.term) (bytes i.term) i.rest));
        onward = i.onward;
        roomy = i.roomy;
      }

  some_is : {s t : State} → some s ≡ some t → t ≡ s
  some_is e = cc

  by_node : (n : ℕ) → Below n → (r : ℕ) → r ≤ n → (k : ℕ) (want : Option ℕ) (env : List ℕ) (goals : List Goal) (tag arg : ℕ) (s : State) (w : List ℕ) → Tried tag arg
      → enter T k (goal want env) goals (head tag arg) ≡ some s → Room r (pending s) → Word (branches T) r s w → Parsed T (suc r) k want env goals (node_bytes tag arg ++ w)
  unfolding enter enter_by form_of forms little_endian
  by_node n ih r l k want env goals tag arg s w (tried_leaf z b m i) e o d =
      subst (λ p. Parsed T (suc r) k want env goals (p ++ w)) (sym b) (by_leaf r k want env goals (leaf_exp tag arg) s w (leaf_nodes tag arg) m i (rw z at e) o d)
  by_node n ih r l k want env goals tag arg s w tried_lambda e o d = by_lambda n ih r l k want env goals arg s w e o d
  by_node n ih r l k want env goals tag arg s w tried_application e o d = let z = some_is e in by_apply n ih r l k want env goals w (rw z at o) (rw z at d)

  by_word : (n : ℕ) → Below n → (r : ℕ) → r ≤ suc n → (k : ℕ) (want : Option ℕ) (env : List ℕ) (goals : List Goal) (w : List ℕ) → Room r (k + suc (length goals))
      → Word (branches T) r (state k (goal want env ∷ goals)) w → Parsed T r k want env goals w
  by_word n ih zero l k want env goals w o d = absurd (omega (arith, o.enough))
  by_word n ih (suc r) l k want env goals _ o (piece_and {b = c} {w = w} m d) =
      let f = from_branches T r k (goal want env) goals c m in
      rw f.bytes_of (by_node n ih r (omega arith) k want env goals f.node.tag f.node.arg c.next w (of_heads (length env) (length T) f.node f.tried) f.enters (room_of r c.next f.roomy) d)

  parsed : (n : ℕ) → Below n
  parsed zero r l k want env goals w o d = absurd (omega (arith, o.enough))
  parsed (suc n) r l k want env goals w o d = by_word n (parsed n) r l k want env goals w o d

  -- the whole term
  pub record Made (size : ℕ) (s : List ℕ) : Type 0 where
    pub term : Exp
    pub type : ℕ
    pub typed : Typed T [] term type
    pub many : is_many T type ≡ true
    pub of_size : nodes term ≡ size
    pub written : s ≡ bytes term

  at_end : (s : List ℕ) {x : State} → Word (branches T) 0 x s → s ≡ []
  at_end [] no_more = refl
  at_end (_ ∷ _) d = elim d [ ]

  pub word_typed : (size : ℕ) (s : List ℕ) → 1 ≤ size → Word (branches T) size beginning s → Made size s
  unfolding arguments meets
  word_typed size s h d =
      let p = parsed size size (omega arith) 0 none [] [] s (record { enough = omega arith; exact = λ z. absurd (omega arith) }) d in
      let z : p.left ≡ 0 = p.roomy.exact refl in
      let e : p.rest ≡ [] = at_end p.rest (rw z at p.onward) in
      record {
        term = p.term;
        type = p.type;
        typed = p.typed;
        many = p.wanted;
        of_size = omega (arith, p.counts);
        written = p.splits ∙ ap (λ r. bytes p.term ++ r) e ∙ append-nil (bytes p.term);
      }

  -- of the test, only cause 10 is left
  verdict_left : (b : Bool) → eqb (cond (not (b && true)) linearity_cause 0) 0 ≡ b
  verdict_left true = refl
  verdict_left false = refl

  pub only_cause_10 : (size : ℕ) (e : Exp) (t : ℕ) → Typed T [] e t → is_many T t ≡ true → nodes e ≡ size → passes T size e ≡ linear T [] e
  unfolding passes verdict every on_number
  only_cause_10 size e t y m n = rw (eqb_complete (nodes e) size n, y.small, y.in_scope, y.stands, y.number, m) (verdict_left (linear T [] e))

-- a term in scope, with few types, nodes and lambdas around, can be written
index_fits : (T : Table) (depth : ℕ) (e : Exp) → scoped (length T) 1 depth e ≡ true → has_small_nums e ≡ true → length T ≤ byte_values → depth + nodes e ≤ byte_values → Each Writable e
unfolding scoped scoped_const has_small_nums small_const nodes
index_fits T d (var i) h m t n = let l = ltb_sound i d h in let k : i < byte_values = omega arith in each_var k
index_fits T d (name j) h m t n = each_name
index_fits T d (const unit) h m t n = each_const tt
index_fits T d (const (num k)) h m t n = let l = ltb_sound k small_nums m in let b : k < two_byte_values = omega arith in each_const b
index_fits T d (const (op o s)) h m t n = let l = ltb_sound s (length T) h in let b : s < byte_values = omega arith in each_const b
index_fits T d (lam s e) h m t n = let (a, b) = and_parts (ltb s (length T)) _ h in let l = ltb_sound s (length T) a in let k : s < byte_values = omega arith in
    each_lam k (index_fits T (suc d) e b m t (omega arith))
index_fits T d (app f a) h m t n = let (i, j) = and_parts (scoped (length T) 1 d f) _ h in let (p, q) = and_parts (has_small_nums f) _ m in
    each_app (index_fits T d f i p t (omega arith)) (index_fits T d a j q t (omega arith))
index_fits T d (both x s e₁ e₂) h m t n = let (a, b) = and_parts (ltb s (length T)) _ h in let l = ltb_sound s (length T) a in let k : s < byte_values = omega arith in
    let (i, j) = and_parts (scoped (length T) 1 d e₁) _ b in let (p, q) = and_parts (has_small_nums e₁) _ m in
    each_both k (index_fits T d e₁ i p t (omega arith)) (index_fits T d e₂ j q t (omega arith))
index_fits T d (case_of x e₁ e₂) h m t n = let (i, j) = and_parts (scoped (length T) 1 d e₁) _ h in let (p, q) = and_parts (has_small_nums e₁) _ m in
    each_case (index_fits T d e₁ i p t (omega arith)) (index_fits T (suc (suc d)) e₂ j q t (omega (arith, nodes_some e₁)))

no_name : (T : Table) (depth : ℕ) (e : Exp) (k : ℕ) → scoped (length T) 1 depth e ≡ true → byte_values ≤ k → count k e ≡ 0
unfolding scoped count
no_name T d (var i) k h l = refl
no_name T d (name j) k h l = let b = ltb_sound j 1 h in rw (eqb_differ j k (λ z. omega arith)) refl
no_name T d (const c) k h l = refl
no_name T d (lam s e) k h l = no_name T (suc d) e k (and_parts (ltb s (length T)) _ h).1 l
no_name T d (app f a) k h l = let (i, j) = and_parts (scoped (length T) 1 d f) _ h in omega (arith, no_name T d f k i l, no_name T d a k j l)
no_name T d (both x s e₁ e₂) k h l = let (a, b) = and_parts (ltb s (length T)) _ h in let (i, j) = and_parts (scoped (length T) 1 d e₁) _ b in
    omega (arith, no_name T d e₁ k i l, no_name T d e₂ k j l)
no_name T d (case_of x e₁ e₂) k h l = let (i, j) = and_parts (scoped (length T) 1 d e₁) _ h in
    omega (arith, no_name T d e₁ k i l, no_name T (suc (suc d)) e₂ k j l)

module _ (T : Table) (few : length T ≤ byte_values) (size : ℕ) (some_node : 1 ≤ size) (few_nodes : size ≤ byte_values) where
  pub made_fits : {s : List ℕ} (m : Made T size s) → FitsBytes m.term
  made_fits m = record {
    writable = index_fits T 0 m.term m.typed.in_scope m.typed.small few (omega (arith, m.of_size));
    names = λ k l. no_name T 0 m.term k m.typed.in_scope l;
  }

  -- what is left to do at the end of the search: cause 10 of the term that stands there
  pub word_test : (s : List ℕ) → Word (branches T) size beginning s → listed_test T size s ≡ linear T [] (term_of s)
  unfolding listed_test
  word_test s d =
      let m = word_typed T size s some_node d in
      let f = made_fits m in
      let e = m.written in
      let a = all_bytes_exp m.term f in
      let b = edition_read m.term f m.typed.of_edition in
      let c = term_of_bytes m.term f in
      rw (e, a, b, c) (only_cause_10 T size m.term m.type m.typed m.many m.of_size)

  -- so the search may test that alone
  pub search_linear : (after : List ℕ) → search T size after ≡ find (branches T) (λ s. linear T [] (term_of s)) size beginning [] (above after)
  unfolding search
  search_linear after = same_find (branches T) (listed_test T size) (λ s. linear T [] (term_of s)) size beginning [] (above after) word_test
