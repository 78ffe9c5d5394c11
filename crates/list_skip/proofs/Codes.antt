-- Codes that are passed over: their nodes cannot stand.
use mathlib.Core.Path.{◌≡◌, refl, sym, ◌∙◌}
use mathlib.Core.Bool.{Bool, ◌&&◌, cond, false, false≢true, true}
use mathlib.Core.List.{List}
use Prim.Native.Nat.{◌*◌, ◌+◌, ◌-◌, ◌<◌, ◌≤◌, suc, ℕ}
use native.Mathlib.Omega.{arith}
use lib.Dec.{leb, ltb}
use Rattle.calculus.specs.Limits.{byte_values}
use Rattle.calculus.specs.Table.{Table}
use Rattle.calculus.specs.Verdict.{annotated, is_function_kind}
use Rattle.calculus.proofs.Theory.Tests.{eqb_differ, leb_sound, ltb_false, ltb_sound}
use Rattle.term.specs.Forms.{application_tag, cell_tag, handle_tag, lambda_tag, name_tag, num_tag, unit_tag, variable_tag}
use Rattle.term.specs.Tree.{HasForm}
use Rattle.term.specs.Expressions.{leaf_exp}
use Rattle.check_types.specs.Entries.{entry_of}
use Rattle.check_types.specs.Walk.{environment}
use Rattle.check_types.proofs.Leaves.{op_number}
use Rattle.list_spec.specs.Goals.{meets}
use Rattle.list_index.specs.Index.{in_band}
use Rattle.list_place.specs.Places.{want_of}
use Rattle.list_place.specs.Candidates.{arg_in, codes, lambda_stands, leaf_bound, leaf_room, LeafStands, MayStand, tag_in}
use Rattle.list_place.proofs.Asking.{leaf_form, may_apply, may_lambda, may_leaf, may_no_lambda, may_no_leaf, may_not_apply, stands_met, stands_out, stands_plain}
use Rattle.list_skip.specs.Jumps.{applications_end, first_constant, first_lambda, first_unit, GoalAsked, Jump, JumpAt, NumberJump, SmallJump, variables_end}

-- any byte may stand after the tag of a constant
constant_bound : (tag depth arg : ℕ) → cell_tag ≤ tag → tag ≤ handle_tag → arg < byte_values → arg < leaf_bound tag depth
unfolding leaf_bound
constant_bound tag depth arg l h b =
    rw (eqb_differ tag variable_tag (λ z. omega arith), eqb_differ tag num_tag (λ z. omega arith), eqb_differ tag unit_tag (λ z. omega arith), eqb_differ tag name_tag (λ z. omega arith)) b

module _ {T : Table} {depth pending left : ℕ} (g : GoalAsked T depth pending left) (spine want : ℕ) where
  abbrev Dead : ℕ → Type 0
  Dead i = (env : List ℕ) → MayStand T env depth spine want pending left i false

  -- a leaf that does not stand, or for which there is no room
  leaf_dead : (i : ℕ) → HasForm (tag_in i) 0 → ((env : List ℕ) → LeafStands T env depth spine want i false) → Dead i
  leaf_dead i f l env = go (leaf_room (left - 1) (pending - 1)) refl
    where
      go : (b : Bool) → leaf_room (left - 1) (pending - 1) ≡ b → MayStand T env depth spine want pending left i false
      go true e = may_leaf T env depth spine want pending left i g.enough g.few_types f g.some_pending e false (l env)
      go false e = may_no_leaf T env depth spine want pending left i g.enough g.few_types f g.some_pending e

  pub no_room_dead : (i : ℕ) → HasForm (tag_in i) 0 → leaf_room (left - 1) (pending - 1) ≡ false → Dead i
  no_room_dead i f e env = may_no_leaf T env depth spine want pending left i g.enough g.few_types f g.some_pending e

  -- a number beyond those of its tag
  pub beyond_dead : (i : ℕ) → HasForm (tag_in i) 0 → leaf_bound (tag_in i) depth ≤ arg_in i → Dead i
  beyond_dead i f h = leaf_dead i f λ env. stands_out T env depth spine want i g.few_types f h

  -- a lambda whose type does not come to what is wanted, or for which there is no room
  pub lambda_dead : (i : ℕ) → tag_in i ≡ lambda_tag → (meets T spine (want_of want) (arg_in i) && true) ≡ false → Dead i
  unfolding lambda_stands
  lambda_dead i t e env = go (ltb pending left) refl
    where
      last : (a m b : Bool) → (m && true) ≡ false → false ≡ (a && (m && b))
      last true true b q = absurd (false≢true (sym q))
      last true false b q = refl
      last false m b q = refl

      go : (b : Bool) → ltb pending left ≡ b → MayStand T env depth spine want pending left i false
      go true q = may_lambda T env depth spine want pending left i g.enough t (ltb_sound pending left q) false
          (last (is_function_kind (entry_of T (arg_in i)).kind) (meets T spine (want_of want) (arg_in i)) _ e)
      go false q = may_no_lambda T env depth spine want pending left i g.enough t (ltb_false pending left q)

  pub full_lambda_dead : (i : ℕ) → tag_in i ≡ lambda_tag → left ≤ pending → Dead i
  full_lambda_dead i t h env = may_no_lambda T env depth spine want pending left i g.enough t h

  -- an application with a number, or for which there is no room
  pub application_dead : (i : ℕ) → tag_in i ≡ application_tag → ¬ (arg_in i ≡ 0) → Dead i
  application_dead i t n env = may_not_apply T env depth spine want pending left i g.enough t n

  pub full_application_dead : (i : ℕ) → tag_in i ≡ application_tag → left ≤ pending → Dead i
  full_application_dead i t h env = go (ltb 0 (arg_in i)) refl
    where
      no_test : leb (pending + 2) left ≡ false
      no_test = pick (leb (pending + 2) left) refl
        where
          pick : (b : Bool) → leb (pending + 2) left ≡ b → leb (pending + 2) left ≡ false
          pick false q = q
          pick true q = absurd (let l = leb_sound (pending + 2) left q in omega arith)

      go : (b : Bool) → ltb 0 (arg_in i) ≡ b → MayStand T env depth spine want pending left i false
      go true q = may_not_apply T env depth spine want pending left i g.enough t (λ z. let l = ltb_sound 0 (arg_in i) q in omega arith)
      go false q = rw no_test at (may_apply T env depth spine want pending left i g.enough t (let l = ltb_false 0 (arg_in i) q in omega arith))

  -- a constant that does not come to what is wanted, or is no instance
  pub constant_dead : (i : ℕ) → cell_tag ≤ tag_in i → tag_in i ≤ handle_tag → (meets T spine (want_of want) (arg_in i) && annotated T (leaf_exp (tag_in i) (arg_in i))) ≡ false → Dead i
  constant_dead i l h e = leaf_dead i f λ env. go env (annotated T (leaf_exp (tag_in i) (arg_in i))) refl
    where
      f : HasForm (tag_in i) 0
      f = leaf_form (tag_in i) (omega arith) (λ z. omega arith) (λ z. omega arith)

      and_right : (a b : Bool) → (a && b) ≡ false → b ≡ true → false ≡ a
      and_right true b q r = sym q ∙ r
      and_right false b q r = refl

      go : (env : List ℕ) (b : Bool) → annotated T (leaf_exp (tag_in i) (arg_in i)) ≡ b → LeafStands T env depth spine want i false
      go env false q = stands_plain T env depth spine want i g.few_types f q
      go env true q = stands_met T env depth spine want i g.few_types f (constant_bound (tag_in i) depth (arg_in i) l h (omega arith)) q (arg_in i) (op_number (tag_in i) (arg_in i) (environment depth env) l h) false (and_right _ _ e q)

-- nodes with a type number: the numbers that are passed over
pub lambda_jump : (T : Table) (spine want code n : ℕ) → tag_in code ≡ lambda_tag → NumberJump T spine want 0 (arg_in code) n → JumpAt T spine want code (first_lambda + n)
unfolding in_band
lambda_jump T spine want code n t j = record {
  at_goal = λ depth pending left g. record {
    up = omega (arith, j.up);
    within = omega (arith, j.within);
    dead = λ env i h k. lambda_dead g spine want i (omega (arith, j.within)) (j.passed (arg_in i) (omega arith) (omega (arith, j.within))) env;
  };
}

pub constant_jump : (T : Table) (spine want code n : ℕ) → cell_tag ≤ tag_in code → tag_in code ≤ handle_tag → NumberJump T spine want (tag_in code - cell_tag + 1) (arg_in code) n
    → JumpAt T spine want code (tag_in code * byte_values + n)
unfolding in_band
constant_jump T spine want code n l h j = record {
  at_goal = λ depth pending left g. record {
    up = omega (arith, j.up);
    within = omega (arith, j.within);
    dead = λ env i a k.
        let e : tag_in i ≡ tag_in code = omega (arith, j.within) in
        constant_dead g spine want i (rw e l) (rw e h) (rw e (of_band (tag_in code) (arg_in i) l (j.passed (arg_in i) (omega arith) (omega (arith, j.within))))) env;
  };
}
  where
    of_band : (tag arg : ℕ) → cell_tag ≤ tag → (meets T spine (want_of want) arg && in_band T (tag - cell_tag + 1) arg) ≡ false
        → (meets T spine (want_of want) arg && annotated T (leaf_exp tag arg)) ≡ false
    of_band tag arg l q =
        let e : tag - cell_tag + 1 ≡ suc (tag - cell_tag) = omega arith in
        let f : cell_tag + (tag - cell_tag) ≡ tag = omega arith in
        rw f at (the_band (rw e at q))
      where
        the_band : (meets T spine (want_of want) arg && in_band T (suc (tag - cell_tag)) arg) ≡ false
            → (meets T spine (want_of want) arg && annotated T (leaf_exp (cell_tag + (tag - cell_tag)) arg)) ≡ false
        the_band q = q

-- no variable, lambda or application: unit, or what comes behind it
pub not_lower : (tag : ℕ) → ¬ (tag ≡ variable_tag) → ¬ (tag ≡ lambda_tag) → ¬ (tag ≡ application_tag) → unit_tag ≤ tag
not_lower tag a b c = omega (arith, a, b, c)

-- the others
module _ (depth pending left code : ℕ) where
  pub one_code : code < first_constant → SmallJump depth pending left code (code + 1)
  one_code h = record { at_goal = λ T spine want g. record { up = omega arith; within = omega arith; dead = λ env i a k. absurd (omega arith) } }

  pub past_variables : tag_in code ≡ variable_tag → leaf_bound (tag_in code) depth ≤ arg_in code + 1 → SmallJump depth pending left code (variables_end pending left)
  unfolding variables_end
  past_variables t h = record { at_goal = λ T spine want g. go T spine want g (leb left pending) refl }
    where
      variable_dead : (T : Table) (spine want : ℕ) → GoalAsked T depth pending left → (env : List ℕ) (i : ℕ) → code < i → i < first_lambda → MayStand T env depth spine want pending left i false
      variable_dead T spine want g env i a k =
          let e : tag_in i ≡ tag_in code = omega arith in
          beyond_dead g spine want i (leaf_form (tag_in i) (omega arith) (λ z. omega arith) (λ z. omega arith)) (rw e (beyond (leaf_bound (tag_in code) depth) i (omega arith) h)) env
        where
          beyond : (n i : ℕ) → arg_in code < arg_in i → n ≤ arg_in code + 1 → n ≤ arg_in i
          beyond n i a b = omega arith

      full_dead : (T : Table) (spine want : ℕ) → GoalAsked T depth pending left → left ≤ pending → (env : List ℕ) (i : ℕ) → code < i → i < first_unit → MayStand T env depth spine want pending left i false
      full_dead T spine want g f env i a k = pick (ltb i first_lambda) refl (ltb i (application_tag * byte_values)) refl
        where
          pick : (b : Bool) → ltb i first_lambda ≡ b → (c : Bool) → ltb i (application_tag * byte_values) ≡ c → MayStand T env depth spine want pending left i false
          pick true p c q = variable_dead T spine want g env i a (ltb_sound i first_lambda p)
          pick false p true q = full_lambda_dead g spine want i (let l = ltb_sound i (application_tag * byte_values) q in omega (arith, ltb_false i first_lambda p)) f env
          pick false p false q = full_application_dead g spine want i (omega (arith, ltb_false i (application_tag * byte_values) q)) f env

      go : (T : Table) (spine want : ℕ) → GoalAsked T depth pending left → (b : Bool) → leb left pending ≡ b
          → Jump T depth spine want pending left code (cond b first_unit first_lambda)
      go T spine want g true q = record { up = omega arith; within = omega arith; dead = full_dead T spine want g (leb_sound left pending q) }
      go T spine want g false q = record { up = omega arith; within = omega arith; dead = variable_dead T spine want g }

  pub past_small : code < first_constant → unit_tag ≤ tag_in code → leaf_bound (tag_in code) depth ≤ arg_in code + 1 → SmallJump depth pending left code ((tag_in code + 1) * byte_values)
  past_small c l h = record {
    at_goal = λ T spine want g. record {
      up = omega arith;
      within = omega arith;
      dead = λ env i a k.
          let e : tag_in i ≡ tag_in code = omega arith in
          beyond_dead g spine want i (leaf_form (tag_in i) (omega arith) (λ z. omega arith) (λ z. omega arith)) (rw e (beyond_one (leaf_bound (tag_in code) depth) i (omega arith) h)) env;
    };
  }
    where
      beyond_one : (n i : ℕ) → arg_in code < arg_in i → n ≤ arg_in code + 1 → n ≤ arg_in i
      beyond_one n i a b = omega arith

-- an application, and the last code
module _ {T : Table} {depth pending left : ℕ} (g : GoalAsked T depth pending left) (spine want code : ℕ) where
  pub past_applications : tag_in code ≡ application_tag → Jump T depth spine want pending left code (applications_end pending left)
  unfolding applications_end
  past_applications t = go (leaf_room (left - 1) (pending - 1)) refl
    where
      number_dead : (env : List ℕ) (i : ℕ) → code < i → i < first_unit → MayStand T env depth spine want pending left i false
      number_dead env i a k = application_dead g spine want i (omega arith) (λ z. omega arith) env

      full_dead : leaf_room (left - 1) (pending - 1) ≡ false → (env : List ℕ) (i : ℕ) → code < i → i < codes → MayStand T env depth spine want pending left i false
      full_dead q env i a k = pick (ltb i first_unit) refl
        where
          pick : (b : Bool) → ltb i first_unit ≡ b → MayStand T env depth spine want pending left i false
          pick true p = number_dead env i a (ltb_sound i first_unit p)
          pick false p = let l = ltb_false i first_unit p in
              no_room_dead g spine want i (leaf_form (tag_in i) (omega arith) (λ z. omega arith) (λ z. omega arith)) q env

      go : (b : Bool) → leaf_room (left - 1) (pending - 1) ≡ b → Jump T depth spine want pending left code (cond b first_unit codes)
      go true q = record { up = omega arith; within = omega arith; dead = number_dead }
      go false q = record { up = omega arith; within = omega arith; dead = full_dead q }

  pub past_names : handle_tag < tag_in code → code < codes → Jump T depth spine want pending left code codes
  unfolding leaf_bound
  past_names l h = record {
    up = h;
    within = omega arith;
    dead = λ env i a k.
        let e : tag_in i ≡ name_tag = omega arith in
        beyond_dead g spine want i (leaf_form (tag_in i) (omega arith) (λ z. omega arith) (λ z. omega arith)) (rw e (omega arith)) env;
  }
