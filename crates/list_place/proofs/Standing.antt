-- The node of a code: whether it may stand, and what is to come behind it, by its tag.
use mathlib.Core.Path.{◌≡◌, ap, refl, ◌∙◌}
use mathlib.Core.Bool.{Bool, ◌&&◌, cond, false, true}
use mathlib.Core.Option.{Option, none, some}
use mathlib.Core.List.{List, ◌∷◌}
use Prim.Native.Nat.{◌+◌, ◌-◌, ◌<◌, ◌≤◌, suc, zero, ℕ}
use native.Mathlib.Omega.{arith}
use lib.Dec.{ltb}
use lib.ListN.{get_or, length}
use Rattle.calculus.specs.Options.{on_some}
use Rattle.calculus.specs.Syntax.{at}
use Rattle.calculus.specs.Table.{Entry, Table}
use Rattle.calculus.specs.Verdict.{annotated, is_function_kind, on_function, scoped, scoped_const}
use Rattle.calculus.proofs.Theory.Lists.{at_bound}
use Rattle.calculus.proofs.Theory.Tests.{ltb_complete, ltb_not}
use Rattle.term.specs.Forms.{application_tag, form_of, forms, lambda_tag}
use Rattle.term.specs.Tree.{HasForm}
use Rattle.term.specs.Expressions.{leaf_exp, leaf_forms}
use Rattle.term.proofs.Shapes.{leaf_tag}
use Rattle.check_types.specs.Entries.{entry_of, known_entry}
use Rattle.check_types.specs.Walk.{environment, HasNumber}
use Rattle.check_types.proofs.Entries.{on_function_is}
use Rattle.list_spec.specs.Goals.{arguments, behind_lambda, behind_leaf, bounds, enter, enter_by, Goal, goal, head, leaf_type, may_use, meets, room, state, State, useful, useful_by}
use Rattle.list_spec.proofs.Theory.Complete.{arguments_length}
use Rattle.list_place.specs.Candidates.{arg_in, behind, candidate, leaf_room, tag_in}
use Rattle.list_place.proofs.Pushing.{there}

pub length_environment : (n : ℕ) (a : List ℕ) → length (environment n a) ≡ n
unfolding environment
length_environment zero a = refl
length_environment (suc n) a = ap suc (length_environment n a)

module _ (T : Table) (r k : ℕ) (want : Option ℕ) (Δ : List ℕ) (rest : List Goal) (code : ℕ) where
  abbrev it : Option State
  it = candidate T r k (goal want Δ) rest code

  -- a number that is not tried
  pub not_tried : get_or (bounds (length Δ) (length T)) (tag_in code) 0 ≤ arg_in code → it ≡ none
  unfolding candidate
  not_tried h = rw (ltb_not (arg_in code) (get_or (bounds (length Δ) (length T)) (tag_in code) 0) h) refl

  tried : arg_in code < get_or (bounds (length Δ) (length T)) (tag_in code) 0 → it ≡ behind T r k (goal want Δ) rest (head (tag_in code) (arg_in code))
  unfolding candidate
  tried h = rw (ltb_complete (arg_in code) (get_or (bounds (length Δ) (length T)) (tag_in code) 0) h) refl

  -- a leaf that is tried
  module _ (h : arg_in code < get_or (bounds (length Δ) (length T)) (tag_in code) 0) (f : HasForm (tag_in code) 0) where
    in_scope : (tag : ℕ) → HasForm tag 0 → (arg : ℕ) → arg < get_or (bounds (length Δ) (length T)) tag 0 → scoped (length T) 1 (length Δ) (leaf_exp tag arg) ≡ true
    unfolding scoped scoped_const leaf_exp leaf_forms bounds
    in_scope = leaf_tag (λ tag. (arg : ℕ) → arg < get_or (bounds (length Δ) (length T)) tag 0 → scoped (length T) 1 (length Δ) (leaf_exp tag arg) ≡ true)
        (λ a l. ltb_complete a (length Δ) l) (λ a l. refl) (λ a l. refl)
        (λ a l. ltb_complete a (length T) l) (λ a l. ltb_complete a (length T) l) (λ a l. ltb_complete a (length T) l) (λ a l. ltb_complete a (length T) l)
        (λ a l. ltb_complete a 1 l)

    entered : it ≡ on_some (behind_leaf T k (goal want Δ) rest (leaf_type T Δ (leaf_exp (tag_in code) (arg_in code)))) λ s. cond (room r s && true) (some s) none
    unfolding behind enter enter_by useful useful_by
    entered = tried h ∙ rw f.shape refl

    and_true_is : (b : Bool) → (b && true) ≡ b
    and_true_is true = refl
    and_true_is false = refl

    -- where there is no room, whatever its type is
    pub leaf_no_room : leaf_room r (k + length rest) ≡ false → it ≡ none
    unfolding behind_leaf room
    leaf_no_room e = entered ∙ go (leaf_type T Δ (leaf_exp (tag_in code) (arg_in code)))
      where
        pick : (t : ℕ) (b : Bool) → meets T k want t ≡ b
            → on_some (cond b (some (state 0 (arguments T k t Δ rest))) none) (λ s. cond (room r s && true) (some s) none) ≡ none
        pick t false f = refl
        pick t true f = let l : 0 + length (arguments T k t Δ rest) ≡ k + length rest = omega (arith, arguments_length T k want t Δ rest f) in rw (l, e) refl

        go : (o : Option ℕ) → on_some (behind_leaf T k (goal want Δ) rest o) (λ s. cond (room r s && true) (some s) none) ≡ none
        go none = refl
        go (some t) = pick t (meets T k want t) refl

    pub leaf_not_annotated : annotated T (leaf_exp (tag_in code) (arg_in code)) ≡ false → it ≡ none
    unfolding leaf_type behind_leaf
    leaf_not_annotated e = entered ∙ rw (in_scope (tag_in code) f (arg_in code) h, e) refl

    module _ (t : ℕ) (n : HasNumber Δ (leaf_exp (tag_in code) (arg_in code)) t) (a : annotated T (leaf_exp (tag_in code) (arg_in code)) ≡ true) where
      by_type : it ≡ on_some (behind_leaf T k (goal want Δ) rest (some t)) λ s. cond (room r s && true) (some s) none
      unfolding leaf_type
      by_type = entered ∙ rw (in_scope (tag_in code) f (arg_in code) h, a, n.number T) refl

      pub leaf_not_met : meets T k want t ≡ false → it ≡ none
      unfolding behind_leaf
      leaf_not_met e = by_type ∙ rw e refl

      pub leaf_met : meets T k want t ≡ true → it ≡ cond (leaf_room r (k + length rest)) (some (state 0 (arguments T k t Δ rest))) none
      unfolding behind_leaf room
      leaf_met e =
          let l : 0 + length (arguments T k t Δ rest) ≡ k + length rest = omega (arith, arguments_length T k want t Δ rest e) in
          by_type ∙ rw (e, and_true_is (leaf_room r (0 + length (arguments T k t Δ rest)))) (ap (λ (m : ℕ). cond (leaf_room r m) (some (state 0 (arguments T k t Δ rest))) none) l)

  -- a lambda, whatever the number of its type
  module _ (tag : tag_in code ≡ lambda_tag) where
    abbrev below : Option State
    below = behind_lambda T k (goal want Δ) rest (arg_in code) (at T (arg_in code))

    abbrev usable : Bool
    usable = on_function T (arg_in code) λ p q. may_use T p q (r - (k + length rest))

    lambda_tried : it ≡ cond (ltb (arg_in code) (length T)) (on_some below λ s. cond (room r s && usable) (some s) none) none
    unfolding candidate bounds behind enter enter_by form_of forms useful useful_by
    lambda_tried = rw tag refl

    nowhere : below ≡ none → it ≡ none
    nowhere e = lambda_tried ∙ rw e (either (ltb (arg_in code) (length T)))
      where
        either : (b : Bool) → cond {A = Option State} b none none ≡ none
        either true = refl
        either false = refl

    pub lambda_no_function : is_function_kind (entry_of T (arg_in code)).kind ≡ false → it ≡ none
    unfolding entry_of known_entry behind_lambda
    lambda_no_function e = nowhere (go (at T (arg_in code)) e)
      where
        go : (o : Option Entry) → is_function_kind (known_entry o).kind ≡ false → behind_lambda T k (goal want Δ) rest (arg_in code) o ≡ none
        go none f = refl
        go (some x) f = rw f refl

    pub lambda_not_met : meets T k want (arg_in code) ≡ false → it ≡ none
    unfolding behind_lambda
    lambda_not_met e = nowhere (go (at T (arg_in code)))
      where
        last : (b : Bool) (s : State) → cond (b && false) (some s) none ≡ none
        last true s = refl
        last false s = refl

        go : (o : Option Entry) → behind_lambda T k (goal want Δ) rest (arg_in code) o ≡ none
        go none = refl
        go (some x) = rw e (last (is_function_kind x.kind) _)

    pub lambda_met : is_function_kind (entry_of T (arg_in code)).kind ≡ true → meets T k want (arg_in code) ≡ true
        → it ≡ cond (leaf_room r (suc (k + length rest)) && may_use T (entry_of T (arg_in code)).p (entry_of T (arg_in code)).q (r - (k + length rest)))
        (some (state 0 (goal (some (entry_of T (arg_in code)).q) ((entry_of T (arg_in code)).p ∷ Δ) ∷ arguments T k (arg_in code) Δ rest))) none
    unfolding behind_lambda room
    lambda_met f e =
        let a = there T (arg_in code) f in
        let x = entry_of T (arg_in code) in
        let l : 0 + suc (length (arguments T k (arg_in code) Δ rest)) ≡ suc (k + length rest) = omega (arith, arguments_length T k want (arg_in code) Δ rest e) in
        let u : usable ≡ may_use T x.p x.q (r - (k + length rest)) = on_function_is T (arg_in code) (λ p q. may_use T p q (r - (k + length rest))) ∙ rw f refl in
        lambda_tried ∙ rw (u, ltb_complete (arg_in code) (length T) (at_bound T (arg_in code) a), a, f, e)
        (ap (λ (m : ℕ). cond (leaf_room r m && may_use T x.p x.q (r - (k + length rest)))
        (some (state 0 (goal (some x.q) (x.p ∷ Δ) ∷ arguments T k (arg_in code) Δ rest))) none) l)

  -- an application
  module _ (tag : tag_in code ≡ application_tag) where
    pub application_once : ¬ (arg_in code ≡ 0) → it ≡ none
    unfolding bounds
    application_once n = not_tried (rw tag (omega arith))

    pub application_there : arg_in code ≡ 0 → it ≡ cond (leaf_room r (suc k + suc (length rest))) (some (state (suc k) (goal want Δ ∷ rest))) none
    unfolding bounds behind enter enter_by room form_of forms useful useful_by
    application_there e = tried (rw (tag, e) (omega arith)) ∙ rw tag (last (leaf_room r (suc k + suc (length rest))))
      where
        last : (b : Bool) → cond (b && true) (some (state (suc k) (goal want Δ ∷ rest))) none ≡ cond b (some (state (suc k) (goal want Δ ∷ rest))) none
        last true = refl
        last false = refl
