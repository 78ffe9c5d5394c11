-- Whether the node of a code may stand, test by test, as the code asks.
use mathlib.Core.Path.{◌≡◌, refl, sym, subst, ◌∙◌}
use mathlib.Core.Bool.{Bool, ◌&&◌, ◌||◌, cond, false, true, false≢true}
use mathlib.Core.Option.{Option, none, some}
use mathlib.Core.List.{List}
use Prim.Native.Nat.{◌*◌, ◌+◌, ◌-◌, ◌<◌, ◌≤◌, suc, ℕ}
use native.Mathlib.Omega.{arith}
use lib.Dec.{eqb, leb, ltb}
use lib.ListN.{get_or, length}
use Rattle.calculus.specs.Limits.{byte_values}
use Rattle.calculus.specs.Syntax.{cell, exch, handle, op, Op, thread}
use Rattle.calculus.specs.Table.{is_many, Table}
use Rattle.calculus.specs.Verdict.{annotated, annotated_const, is_function_kind, on_function}
use Rattle.calculus.proofs.Theory.Lists.{at_bound}
use Rattle.calculus.proofs.Theory.Tests.{and_true, eqb_complete, eqb_differ, eqb_sound, leb_complete, leb_sound, ltb_complete, ltb_false, ltb_not, ltb_sound}
use Rattle.term.specs.Forms.{application_tag, cell_tag, form_of, forms, handle_tag, lambda_tag, name_tag, subterms_of, variable_tag}
use Rattle.term.specs.Tree.{HasForm}
use Rattle.term.specs.Expressions.{leaf_exp, leaf_forms}
use Rattle.term.proofs.Shapes.{leaf_tag}
use Rattle.term.proofs.Table.{below, end_of_row, Row, ◌∣◌}
use Rattle.recipe_table.specs.declared.Entry.{Entry}
use Rattle.recipe_table.specs.Filled.{as_entry}
use Rattle.check_types.specs.Entries.{entry_of}
use Rattle.check_types.specs.Walk.{environment, HasNumber}
use Rattle.check_types.proofs.Entries.{on_function_is}
use Rattle.list_spec.specs.Goals.{bounds, Goal, goal, may_use, meets, State}
use Rattle.check_linearity.proofs.Theory.Lambdas.{on_function_parts}
use Rattle.list_place.specs.Places.{want_of}
use Rattle.list_place.specs.Candidates.{Annotated, arg_in, candidate, has, lambda_stands, leaf_bound, leaf_room, LeafStands, MayStand, tag_in}
use Rattle.list_place.proofs.Standing.{application_once, application_there, lambda_met, lambda_no_function, lambda_not_met, leaf_met, leaf_no_room, leaf_not_annotated, leaf_not_met, length_environment, not_tried}

pub leb_not : (m n : ℕ) → n < m → leb m n ≡ false
leb_not m n h = go (leb m n) refl
  where
    go : (b : Bool) → leb m n ≡ b → leb m n ≡ false
    go false e = e
    go true e = absurd (let k = leb_sound m n e in omega arith)

or_right : (a : Bool) {b : Bool} → b ≡ true → (a || b) ≡ true
or_right true e = refl
or_right false e = e

none_there : {A : Type 0} {o : Option A} → o ≡ none → false ≡ has o
none_there {A} {o} e = rw e refl

-- a code below the last, of no lambda and no application, is a leaf's
pub leaf_form : (tag : ℕ) → tag < 10 → ¬ (tag ≡ lambda_tag) → ¬ (tag ≡ application_tag) → HasForm tag 0
unfolding form_of forms
leaf_form tag h l a = record { known = omega arith; shape = below row tag h l a }
  where
    row : Row (λ tag. ¬ (tag ≡ lambda_tag) → ¬ (tag ≡ application_tag) → subterms_of tag ≡ 0) 0 10
    row = (λ x y. refl) ∣ (λ x y. absurd (x refl)) ∣ (λ x y. absurd (y refl)) ∣ (λ x y. refl) ∣ (λ x y. refl) ∣ (λ x y. refl) ∣ (λ x y. refl) ∣ (λ x y. refl)
        ∣ (λ x y. refl) ∣ (λ x y. refl) ∣ end_of_row

-- a variable is one of those in scope
pub bound_variable : (tag depth arg : ℕ) → tag ≡ variable_tag → arg < leaf_bound tag depth → arg < depth
unfolding leaf_bound
bound_variable tag depth arg e h = rw e at h

-- the bound that a leaf's tag says, and how many numbers are tried after it
module _ (T : Table) (depth : ℕ) (few : length T ≤ byte_values) where
  pub beyond : (tag : ℕ) → HasForm tag 0 → (arg : ℕ) → leaf_bound tag depth ≤ arg → get_or (bounds depth (length T)) tag 0 ≤ arg
  unfolding leaf_bound bounds
  beyond = leaf_tag (λ tag. (arg : ℕ) → leaf_bound tag depth ≤ arg → get_or (bounds depth (length T)) tag 0 ≤ arg)
      (λ a h. h) (λ a h. h) (λ a h. h) (λ a h. omega arith) (λ a h. omega arith) (λ a h. omega arith) (λ a h. omega arith) (λ a h. h)

  instance_there : (o : Op) (arg : ℕ) → annotated_const T (op o arg) ≡ true → arg < length T
  unfolding annotated_const
  instance_there cell arg e = let (x, h, a, b) = on_function_parts T arg _ e in at_bound T arg h
  instance_there exch arg e = let (x, h, a, b) = on_function_parts T arg _ e in at_bound T arg h
  instance_there thread arg e = let (x, h, a, b) = on_function_parts T arg _ e in at_bound T arg h
  instance_there handle arg e = let (x, h, a, b) = on_function_parts T arg _ e in at_bound T arg h

  pub within : (tag : ℕ) → HasForm tag 0 → (arg : ℕ) → arg < leaf_bound tag depth → annotated T (leaf_exp tag arg) ≡ true → arg < get_or (bounds depth (length T)) tag 0
  unfolding leaf_bound bounds leaf_exp leaf_forms annotated
  within = leaf_tag (λ tag. (arg : ℕ) → arg < leaf_bound tag depth → annotated T (leaf_exp tag arg) ≡ true → arg < get_or (bounds depth (length T)) tag 0)
      (λ a h e. h) (λ a h e. h) (λ a h e. h)
      (λ a h e. instance_there cell a e) (λ a h e. instance_there exch a e) (λ a h e. instance_there thread a e) (λ a h e. instance_there handle a e) (λ a h e. h)

module _ (T : Table) (env : List ℕ) (depth spine want code : ℕ) (few : length T ≤ byte_values) (f : HasForm (tag_in code) 0) where
  bounded : (P : ℕ → Type 0) → P depth → P (length (environment depth env))
  bounded P p = subst P (sym (length_environment depth env)) p

  -- a leaf by its tests
  module _ (nodes : ℕ) (rest : List Goal) where
    abbrev it : Option State
    it = candidate T nodes spine (goal (want_of want) (environment depth env)) rest code

    out : leaf_bound (tag_in code) depth ≤ arg_in code → it ≡ none
    out h = not_tried T nodes spine (want_of want) (environment depth env) rest code
        (bounded (λ d. get_or (bounds d (length T)) (tag_in code) 0 ≤ arg_in code) (beyond T depth few (tag_in code) f (arg_in code) h))

    inside : arg_in code < get_or (bounds depth (length T)) (tag_in code) 0 → arg_in code < get_or (bounds (length (environment depth env)) (length T)) (tag_in code) 0
    inside h = bounded (λ d. arg_in code < get_or (bounds d (length T)) (tag_in code) 0) h

    tried_or : (P : Type 0) → (arg_in code < get_or (bounds (length (environment depth env)) (length T)) (tag_in code) 0 → P)
        → (get_or (bounds (length (environment depth env)) (length T)) (tag_in code) 0 ≤ arg_in code → P) → P
    tried_or P low high = go (ltb (arg_in code) (get_or (bounds (length (environment depth env)) (length T)) (tag_in code) 0)) refl
      where
        go : (b : Bool) → ltb (arg_in code) (get_or (bounds (length (environment depth env)) (length T)) (tag_in code) 0) ≡ b → P
        go true e = low (ltb_sound _ _ e)
        go false e = high (ltb_false _ _ e)

    plain : annotated T (leaf_exp (tag_in code) (arg_in code)) ≡ false → it ≡ none
    plain e = tried_or (it ≡ none) (λ h. leaf_not_annotated T nodes spine (want_of want) (environment depth env) rest code h f e)
        (not_tried T nodes spine (want_of want) (environment depth env) rest code)

    pub full : leaf_room nodes (spine + length rest) ≡ false → it ≡ none
    full e = tried_or (it ≡ none) (λ h. leaf_no_room T nodes spine (want_of want) (environment depth env) rest code h f e)
        (not_tried T nodes spine (want_of want) (environment depth env) rest code)

  pub stands_out : leaf_bound (tag_in code) depth ≤ arg_in code → LeafStands T env depth spine want code false
  stands_out h = record { answers = λ nodes rest e. none_there (out nodes rest h) }

  pub stands_plain : annotated T (leaf_exp (tag_in code) (arg_in code)) ≡ false → LeafStands T env depth spine want code false
  stands_plain h = record { answers = λ nodes rest e. none_there (plain nodes rest h) }

  pub stands_met : arg_in code < leaf_bound (tag_in code) depth → annotated T (leaf_exp (tag_in code) (arg_in code)) ≡ true
      → (t : ℕ) → HasNumber (environment depth env) (leaf_exp (tag_in code) (arg_in code)) t
      → (r : Bool) → r ≡ meets T spine (want_of want) t → LeafStands T env depth spine want code r
  stands_met h a t n r e = record { answers = λ nodes rest o. go nodes rest o r e }
    where
      go : (nodes : ℕ) (rest : List Goal) → leaf_room nodes (spine + length rest) ≡ true → (r : Bool) → r ≡ meets T spine (want_of want) t → r ≡ has (it nodes rest)
      go nodes rest o true e =
          rw (leaf_met T nodes spine (want_of want) (environment depth env) rest code (inside nodes rest (within T depth few (tag_in code) f (arg_in code) h a)) f t n a (sym e), o) refl
      go nodes rest o false e =
          none_there (leaf_not_met T nodes spine (want_of want) (environment depth env) rest code (inside nodes rest (within T depth few (tag_in code) f (arg_in code) h a)) f t n a (sym e))

-- room for a leaf, in numbers
module _ (pending left : ℕ) (h : 0 < pending) (e : pending ≤ left) where
  pub room_some : 1 < pending → true ≡ leaf_room (left - 1) (pending - 1)
  room_some l = sym (and_true (leb_complete (pending - 1) (left - 1) (omega arith)) (go (eqb (left - 1) 0) (ltb_complete 0 (pending - 1) (omega arith))))
    where
      go : (b : Bool) → ltb 0 (pending - 1) ≡ true → (b || ltb 0 (pending - 1)) ≡ true
      go true z = refl
      go false z = z

  pub room_last : pending ≤ 1 → eqb left 1 ≡ leaf_room (left - 1) (pending - 1)
  room_last l = go left e
    where
      go : (n : ℕ) → pending ≤ n → eqb n 1 ≡ leaf_room (n - 1) (pending - 1)
      go n k = let z : pending - 1 ≡ 0 = omega arith in rw z (pick (eqb n 1) refl)
        where
          pick : (b : Bool) → eqb n 1 ≡ b → b ≡ leaf_room (n - 1) 0
          pick true q = let y : n - 1 ≡ 0 = omega (arith, eqb_sound n 1 q) in rw y refl
          pick false q = rw (leb_complete 0 (n - 1) (omega arith), eqb_differ (n - 1) 0 (λ z. not_one (omega arith))) refl
            where
              not_one : n ≡ 1 → ⊥
              not_one z = false≢true (sym q ∙ eqb_complete n 1 z)

-- a once parameter used in a body, test by test
module _ (T : Table) (p q nodes : ℕ) where
  or_last : (a b c : Bool) → c ≡ true → (a || (b || c)) ≡ true
  or_last true b c e = refl
  or_last false true c e = refl
  or_last false false c e = e

  pub uses_long : 2 < nodes → true ≡ may_use T p q nodes
  unfolding may_use
  uses_long h = sym (or_last (is_many T p) (eqb p q) _ (rw (ltb_complete 1 nodes (omega arith), ltb_complete 2 nodes h) (last (on_function T q (λ a b. eqb b p)))))
    where
      last : (b : Bool) → (b || true) ≡ true
      last true = refl
      last false = refl

  pub uses_same : p ≡ q → true ≡ may_use T p q nodes
  unfolding may_use
  uses_same e = sym (go (is_many T p) (eqb_complete p q e))
    where
      go : (b : Bool) → eqb p q ≡ true → (b || (eqb p q || (ltb 1 nodes && (on_function T q (λ a b. eqb b p) || ltb 2 nodes)))) ≡ true
      go true z = refl
      go false z = rw z refl

  pub uses_many : is_many T p ≡ true → true ≡ may_use T p q nodes
  unfolding may_use
  uses_many e = rw e refl

  module _ (o : is_many T p ≡ false) (n : ¬ (p ≡ q)) where
    pub uses_short : nodes < 2 → false ≡ may_use T p q nodes
    unfolding may_use
    uses_short h = rw (o, eqb_differ p q n, ltb_not 1 nodes (omega arith)) refl

    module _ (l : 2 ≤ nodes) (u : nodes ≤ 2) (x : Entry) (e : as_entry x ≡ entry_of T q) where
      by_body : may_use T p q nodes ≡ (is_function_kind x.kind && eqb x.q p)
      unfolding may_use
      by_body = rw (o, eqb_differ p q n, ltb_complete 1 nodes (omega arith), ltb_not 2 nodes u, on_function_is T q (λ a b. eqb b p), ← e) (last (is_function_kind x.kind && eqb x.q p))
        where
          last : (b : Bool) → (b || false) ≡ b
          last true = refl
          last false = refl

      pub uses_no_function : is_function_kind x.kind ≡ false → false ≡ may_use T p q nodes
      uses_no_function f = sym (by_body ∙ rw f refl)

      pub uses_function : is_function_kind x.kind ≡ true → eqb x.q p ≡ may_use T p q nodes
      uses_function f = sym (by_body ∙ rw f refl)

pub ruleset uses = (uses_long, uses_same, uses_many, uses_short, uses_no_function, uses_function)

-- a lambda, test by test
module _ (T : Table) (spine want t nodes : ℕ) (x : Entry) (e : as_entry x ≡ entry_of T t) where
  pub lambda_fails : is_function_kind x.kind ≡ false → false ≡ lambda_stands T spine want t nodes
  unfolding lambda_stands
  lambda_fails f = rw (← e, f) refl

  pub lambda_unmet : is_function_kind x.kind ≡ true → meets T spine (want_of want) t ≡ false → false ≡ lambda_stands T spine want t nodes
  unfolding lambda_stands
  lambda_unmet f m = rw (← e, f, m) refl

  pub lambda_used : is_function_kind x.kind ≡ true → meets T spine (want_of want) t ≡ true → may_use T x.p x.q nodes ≡ lambda_stands T spine want t nodes
  unfolding lambda_stands
  lambda_used f m = rw (← e, f, m) refl

-- a constant, and what is none
module _ (constants : List Bool) (tag arg : ℕ) where
  pub annotated_low : tag < cell_tag → Annotated constants tag arg true
  unfolding annotated annotated_const leaf_exp leaf_forms
  annotated_low h = record { answers = λ T k l. sym (below (row T) tag h) }
    where
      row : (T : Table) → Row (λ tag. annotated T (leaf_exp tag arg) ≡ true) 0 5
      row T = refl ∣ refl ∣ refl ∣ refl ∣ refl ∣ end_of_row

  pub annotated_high : handle_tag < tag → Annotated constants tag arg true
  unfolding annotated leaf_exp leaf_forms
  annotated_high h = record { answers = λ T k l. let z : tag ≡ name_tag = omega arith in rw z refl }

  pub annotated_constant : cell_tag ≤ tag → tag ≤ handle_tag → arg < byte_values → Annotated constants tag arg (get_or constants ((tag - cell_tag) * byte_values + arg) false)
  annotated_constant l h b = record { answers = λ T k m. k.each tag arg l h b }

-- the node of a code, test by test
module _ (T : Table) (env : List ℕ) (depth spine want pending left code : ℕ) (enough : pending ≤ left) where
  abbrev Δ : List ℕ
  Δ = environment depth env

  abbrev at_goals : List Goal → Option State
  at_goals rest = candidate T (left - 1) spine (goal (want_of want) Δ) rest code

  module _ (tag : tag_in code ≡ lambda_tag) where
    by_function : (rest : List Goal) (P : Type 0) → (at_goals rest ≡ none → P)
        → (is_function_kind (entry_of T (arg_in code)).kind ≡ true → meets T spine (want_of want) (arg_in code) ≡ true → P) → P
    by_function rest P dead alive = go (is_function_kind (entry_of T (arg_in code)).kind) refl (meets T spine (want_of want) (arg_in code)) refl
      where
        go : (a : Bool) → is_function_kind (entry_of T (arg_in code)).kind ≡ a → (b : Bool) → meets T spine (want_of want) (arg_in code) ≡ b → P
        go false e b f = dead (lambda_no_function T (left - 1) spine (want_of want) Δ rest code tag e)
        go true e false f = dead (lambda_not_met T (left - 1) spine (want_of want) Δ rest code tag f)
        go true e true f = alive e f

    pub may_no_lambda : left ≤ pending → MayStand T env depth spine want pending left code false
    may_no_lambda h = record {
      answers = λ rest e. by_function rest (false ≡ has (at_goals rest)) none_there (λ f m. none_there
          (lambda_met T (left - 1) spine (want_of want) Δ rest code tag f m ∙ rw (full_room rest e) refl));
    }
      where
        full_room : (rest : List Goal) → spine + suc (length rest) ≡ pending → leb (suc (spine + length rest)) (left - 1) ≡ false
        full_room rest e = leb_not (suc (spine + length rest)) (left - 1) (omega arith)

    pub may_lambda : pending < left → (r : Bool) → r ≡ lambda_stands T spine want (arg_in code) (left - pending) → MayStand T env depth spine want pending left code r
    unfolding lambda_stands
    may_lambda h r e = record { answers = λ rest z. e ∙ go rest z (is_function_kind (entry_of T (arg_in code)).kind) refl (meets T spine (want_of want) (arg_in code)) refl }
      where
        last : (b : Bool) (x : State) → b ≡ has (cond b (some x) none)
        last true x = refl
        last false x = refl

        go : (rest : List Goal) → spine + suc (length rest) ≡ pending → (a : Bool) → is_function_kind (entry_of T (arg_in code)).kind ≡ a
            → (b : Bool) → meets T spine (want_of want) (arg_in code) ≡ b
            → (is_function_kind (entry_of T (arg_in code)).kind && (meets T spine (want_of want) (arg_in code) && may_use T (entry_of T (arg_in code)).p (entry_of T (arg_in code)).q (left - pending)))
            ≡ has (at_goals rest)
        go rest z false f b m = rw (f, lambda_no_function T (left - 1) spine (want_of want) Δ rest code tag f) refl
        go rest z true f false m = rw (f, m, lambda_not_met T (left - 1) spine (want_of want) Δ rest code tag m) refl
        go rest z true f true m =
            let y : left - 1 - (spine + length rest) ≡ left - pending = omega arith in
            let l = leb_complete (suc (spine + length rest)) (left - 1) (omega arith) in
            let k : (eqb (left - 1) 0 || ltb 0 (suc (spine + length rest))) ≡ true = or_right (eqb (left - 1) 0) (ltb_complete 0 (suc (spine + length rest)) (omega arith)) in
            rw (lambda_met T (left - 1) spine (want_of want) Δ rest code tag f m, y, l, k, f, m) (last (may_use T (entry_of T (arg_in code)).p (entry_of T (arg_in code)).q (left - pending)) _)

  module _ (tag : tag_in code ≡ application_tag) where
    pub may_not_apply : ¬ (arg_in code ≡ 0) → MayStand T env depth spine want pending left code false
    may_not_apply n = record { answers = λ rest e. none_there (application_once T (left - 1) spine (want_of want) Δ rest code tag n) }

    pub may_apply : arg_in code ≡ 0 → MayStand T env depth spine want pending left code (leb (pending + 2) left)
    may_apply z = record { answers = λ rest e. rw (application_there T (left - 1) spine (want_of want) Δ rest code tag z, room_apply rest e) (last (leb (pending + 2) left) _) }
      where
        last : (b : Bool) (x : State) → b ≡ has (cond b (some x) none)
        last true x = refl
        last false x = refl

        room_apply : (rest : List Goal) → spine + suc (length rest) ≡ pending → leaf_room (left - 1) (suc spine + suc (length rest)) ≡ leb (pending + 2) left
        room_apply rest e = go (ltb left (pending + 2)) refl
          where
            go : (b : Bool) → ltb left (pending + 2) ≡ b → leaf_room (left - 1) (suc spine + suc (length rest)) ≡ leb (pending + 2) left
            go true q = let l = ltb_sound left (pending + 2) q in
                rw (leb_not (suc spine + suc (length rest)) (left - 1) (omega arith), leb_not (pending + 2) left l) refl
            go false q = let l = ltb_false left (pending + 2) q in
                rw (leb_complete (suc spine + suc (length rest)) (left - 1) (omega arith), leb_complete (pending + 2) left l)
                (or_right (eqb (left - 1) 0) (ltb_complete 0 (suc spine + suc (length rest)) (omega arith)))

  module _ (few : length T ≤ byte_values) (f : HasForm (tag_in code) 0) (some_pending : 0 < pending) where
    others : (rest : List Goal) → spine + suc (length rest) ≡ pending → spine + length rest ≡ pending - 1
    others rest e = omega arith

    pub may_no_leaf : leaf_room (left - 1) (pending - 1) ≡ false → MayStand T env depth spine want pending left code false
    may_no_leaf h = record { answers = λ rest e. none_there (full T env depth spine want code few f (left - 1) rest (rw (others rest e) h)) }

    pub may_leaf : leaf_room (left - 1) (pending - 1) ≡ true → (r : Bool) → LeafStands T env depth spine want code r → MayStand T env depth spine want pending left code r
    may_leaf h r l = record { answers = λ rest e. l.answers (left - 1) rest (rw (others rest e) h) }
