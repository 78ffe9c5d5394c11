-- The terms to come in arrays: a store behind them, and the arguments of a function put behind them.
use mathlib.Core.Path.{◌≡◌, ap₂, refl, sym, ◌∙◌}
use mathlib.Core.Bool.{Bool, false, true}
use mathlib.Core.Option.{Option, some}
use mathlib.Core.List.{List, ◌∷◌}
use Prim.Native.Nat.{◌+◌, ◌-◌, ◌<◌, ◌≤◌, suc, zero, ℕ}
use native.Mathlib.Omega.{arith}
use lib.Dec.{ltb}
use lib.ListN.{get_or, length, length-set, set}
use lib.Seq.{get_or-set_other, get_or-set_same}
use Rattle.calculus.specs.Limits.{byte_values}
use Rattle.calculus.specs.Syntax.{at}
use Rattle.calculus.specs.Table.{Table}
use Rattle.calculus.specs.Verdict.{is_function_kind}
use Rattle.calculus.proofs.Theory.Tests.{and_parts, eqb_differ, ltb_false, ltb_sound}
use Rattle.recipe_table.specs.declared.Entry.{Entry}
use Rattle.recipe_table.specs.Filled.{as_entry}
use Rattle.check_types.specs.Entries.{entry_of}
use Rattle.check_types.specs.Walk.{environment}
use Rattle.check_types.proofs.Entries.{entry_there, on_function_is}
use Rattle.list_spec.specs.Goals.{arguments, Goal, goal, meets, with_parts}
use Rattle.list_place.specs.Places.{any_type, goals_of, Pushed, want_of}

-- a type's number is wanted
pub want_some : (w : ℕ) → w < byte_values → want_of w ≡ some w
unfolding want_of
want_some w h = rw (eqb_differ w any_type (λ e. omega arith)) refl

-- stores at n and behind it leave the first n terms
pub goals_set : (n : ℕ) (wants depths env : List ℕ) (i w d : ℕ) → n ≤ i → goals_of (set wants i w) (set depths i d) env n ≡ goals_of wants depths env n
unfolding goals_of
goals_set zero wants depths env i w d h = refl
goals_set (suc n) wants depths env i w d h =
    ap₂ (λ (g : Goal) (gs : List Goal). g ∷ gs)
    (ap₂ (λ (x y : ℕ). goal (want_of x) (environment y env)) (get_or-set_other wants i n w 0 (omega arith)) (get_or-set_other depths i n d 0 (omega arith)))
    (goals_set n wants depths env i w d (omega arith))

-- one term more
pub goals_more : (n : ℕ) (wants depths env : List ℕ) (w d : ℕ) → n < length wants → n < length depths
    → goals_of (set wants n w) (set depths n d) env (n + 1) ≡ goal (want_of w) (environment d env) ∷ goals_of wants depths env n
unfolding goals_of
goals_more n wants depths env w d h k =
    let e : n + 1 ≡ suc n = omega arith in
    rw e (ap₂ (λ (g : Goal) (gs : List Goal). g ∷ gs)
    (ap₂ (λ (x y : ℕ). goal (want_of x) (environment y env)) (get_or-set_same wants n w 0 h) (get_or-set_same depths n d 0 k))
    (goals_set n wants depths env n w d (omega arith)))

-- a function's type is applied: its entry, and what is asked of its result
pub applied : (T : Table) (k : ℕ) (want : Option ℕ) (t : ℕ) → meets T (suc k) want t ≡ true
    → (is_function_kind (entry_of T t).kind ≡ true) × (meets T k want (entry_of T t).q ≡ true)
unfolding meets
applied T k want t e = and_parts (is_function_kind (entry_of T t).kind) _ (sym (on_function_is T t (λ p q. meets T k want q)) ∙ e)

pub there : (T : Table) (t : ℕ) → is_function_kind (entry_of T t).kind ≡ true → at T t ≡ some (entry_of T t)
there T t f = entry_there T t (entry_of T t) is_function_kind refl refl f

module _ (T : Table) (wants depths : List ℕ) (goals : ℕ) where
  pub pushed_none : (spine t depth : ℕ) → spine ≡ 0 → Pushed T wants depths goals spine t depth wants depths goals
  unfolding arguments
  pushed_none spine t depth e = rw e (record {
    long = omega arith;
    wide = refl;
    broad = refl;
    below = λ i h. refl;
    above = λ i h k. absurd (omega arith);
    arguments = λ want m env. refl;
  })

  module _ (spine t depth top : ℕ) (wants' depths' : List ℕ) (x : Entry) (h : 0 < spine) (e : as_entry x ≡ entry_of T t) (b : x.p < byte_values)
      (p : Pushed T wants depths goals (spine - 1) x.q depth wants' depths' top) (u : top < length wants') (v : top < length depths') where
    in_front : (env : List ℕ) (k : ℕ) (want : Option ℕ) → meets T (suc k) want t ≡ true
        → arguments T (suc k) t (environment depth env) (goals_of wants depths env goals)
        ≡ goal (some x.p) (environment depth env) ∷ arguments T k x.q (environment depth env) (goals_of wants depths env goals)
    unfolding arguments with_parts
    in_front env k want m = let (f, g) = applied T k want t m in rw (there T t f, ← e) refl

    args : (k : ℕ) → spine ≡ suc k → (want : Option ℕ) → meets T spine want t ≡ true → (env : List ℕ)
        → goals_of (set wants' top x.p) (set depths' top depth) env (top + 1) ≡ arguments T spine t (environment depth env) (goals_of wants depths env goals)
    args k z want m env =
        let y : spine - 1 ≡ k = omega arith in
        let m' : meets T (suc k) want t ≡ true = rw z at m in
        let n : meets T k want x.q ≡ true = rw (← e) at (applied T k want t m').1 in
        let q : goals_of wants' depths' env top ≡ arguments T k x.q (environment depth env) (goals_of wants depths env goals) = rw y at (p.arguments want (rw y n) env) in
        goals_more top wants' depths' env x.p depth u v
        ∙ rw (want_some x.p b, q, z) (sym (in_front env k want m'))

    pub pushed_more : Pushed T wants depths goals spine t depth (set wants' top x.p) (set depths' top depth) (top + 1)
    pushed_more = record {
      long = omega (arith, p.long);
      wide = simp length-set p.wide;
      broad = simp length-set p.broad;
      below = λ i k. get_or-set_other depths' top i depth 0 (omega (arith, p.long)) ∙ p.below i k;
      above = λ i k l. go i k l (ltb i top) refl;
      arguments = args (spine - 1) (omega arith);
    }
      where
        go : (i : ℕ) → goals ≤ i → i < top + 1 → (c : Bool) → ltb i top ≡ c → get_or (set depths' top depth) i 0 ≡ depth
        go i k l true z = let y = ltb_sound i top z in get_or-set_other depths' top i depth 0 (omega arith) ∙ p.above i k y
        go i k l false z = let y : i ≡ top = omega (arith, ltb_false i top z) in rw y (get_or-set_same depths' top depth 0 v)
