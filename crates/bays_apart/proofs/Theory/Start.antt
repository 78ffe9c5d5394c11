-- The starting image of a recipe that suits the second profile: all that a run keeps holds of it, and a bay that is the same in two recipes is the same in their images.
use Rattle.std.proofs.Common.{◌∙◌, ap, arith}
use Rattle.std.specs.Prelude.{◌≡◌, refl, true, ◌<◌, ◌≤◌, suc, zero, ℕ, length}
use Rattle.std.proofs.Math.Path.{sym}
use Rattle.std.proofs.Math.Option.{some}
use mathlib.Core.List.{List, [], ◌++◌, ◌∷◌, map}
use Rattle.std.proofs.Math.Decide.{dec_lt}
use Rattle.std.proofs.lemmas.List.{length-map}
use Rattle.calculus.specs.Syntax.{Const, unit, num, op, Exp, var, name, const, lam, app, both, case_of, thread_of, at}
use Rattle.calculus.specs.Typing.{TypeNumbers}
use Rattle.calculus.specs.Lists.{tabulate}
use Rattle.calculus.specs.Table.{Table, type_at}
use Rattle.calculus.specs.Recipe.{setting_with, loaded, start, Admitted}
use Rattle.calculus.specs.Owners.{Owners, first_owners}
use Rattle.calculus.specs.Shares.{of_bay, bay_components, bays_in}
use Rattle.calculus.specs.Profile.{separate, names_only, Suits}
use Rattle.calculus.proofs.Theory.Tests.{clash, and_parts, eqb_sound, eqb_differ}
use Rattle.calculus.proofs.Theory.Lists.{at_bound, at_below, append_left, append_below}
use Rattle.calculus.proofs.Theory.Tabulate.{length_tabulate, tabulate_at}
use Rattle.calculus.proofs.Theory.Shares.{names_only_iff}
use Rattle.calculus.proofs.Theory.Images.{Good}
use Rattle.calculus.proofs.Theory.Recipes.{start_good}
use Rattle.calculus.proofs.Theory.Claim.{bays_typed}
use Rattle.bays_apart.specs.Same.{SameConst, same_unit, same_num, same_op, Same, same_var, same_name, same_const, same_lam, same_app, same_both, same_case, same_thread, same_holds, rank, SamePlace, alike_nil, alike_cons, SameBay}
use Rattle.calculus.proofs.Theory.BaySums.{bays_append, bay_nowhere, each_bay, each_bay_only, first_own}
use Rattle.bays_apart.proofs.Theory.Mirrors.{Mine, Mirrors}
use Rattle.bays_apart.proofs.Theory.Shares.{owner_below}
use Rattle.bays_apart.proofs.Theory.Fine.{Setting, Fine}

at_map : {A B : Type 0} (f : A → B) (l : List A) (i : ℕ) {a : A} → at l i ≡ some a → at (map f l) i ≡ some (f a)
at_map f [] i h = absurd (clash (cc))
at_map f (b ∷ l) zero {a} h = let e : b ≡ a = cc in ap (λ x. some (f x)) e
at_map f (b ∷ l) (suc i) h = at_map f l i h

-- ---- what a bay owns, and the place of its first name, by its owners

rank_first : (k : ℕ) (O : Owners) (n : ℕ) → ((m : ℕ) → m < n → ¬ (at O m ≡ some k)) → rank k O n ≡ 0
unfolding rank
rank_first k [] n h = refl
rank_first k (o ∷ O) zero h = refl
rank_first k (o ∷ O) (suc n) h = rw (eqb_differ o k (λ e. h zero (omega arith) (ap some e))) (rank_first k O n (λ m l. h (suc m) (omega arith)))

-- ---- the owners of a recipe of b bays

bays_each : (b : ℕ) → bays_in (each_bay b) ≡ b
unfolding tabulate bays_in
bays_each zero = refl
bays_each (suc b) = let e = bays_append (each_bay b) (b ∷ []) in let f = bays_each b in omega arith

first_bays : (b : ℕ) → bays_in (first_owners b) ≡ b
unfolding first_owners
first_bays b = let e = bays_append (each_bay b) (each_bay b) in let f = bays_each b in omega arith

first_mine : (b k : ℕ) → k < b → at (first_owners b) k ≡ some k
unfolding first_owners
first_mine b k l = append_left (each_bay b) (each_bay b) k (tabulate_at b (λ bay. bay) k l)

first_rank : (b k : ℕ) → k < b → rank k (first_owners b) k ≡ 0
unfolding first_owners
first_rank b k l = rank_first k (each_bay b ++ each_bay b) k
    (λ m n h. let e = each_bay_only b k m (sym (append_below (each_bay b) (each_bay b) m (rw length_tabulate (omega arith))) ∙ h) in omega arith)

first_none : {A : Type 0} (b k : ℕ) (l : List A) → b ≤ k → of_bay k (first_owners b) l ≡ []
first_none b k l n = bay_nowhere k (first_owners b) l (λ m h. let z = owner_below (first_owners b) m h in omega (arith, first_bays b))

-- ---- terms that name only their setting

module _ {O P : Owners} {τ σ : TypeNumbers} (k : ℕ) (p : SamePlace k O P k k) where
  same_start : {e f : Exp} → Same ◌≡◌ τ σ e f → names_only k e ≡ true → Same (SamePlace k O P) τ σ e f
  unfolding names_only
  same_start same_var h = same_var
  same_start (same_name {n = n} {m = m} q) h = let e : n ≡ k = eqb_sound n k h in let f : m ≡ k = sym q ∙ e in same_name {n = n} {m = m} (rw (e, f) p)
  same_start (same_const c) h = same_const c
  same_start (same_lam t s) h = same_lam t (same_start s h)
  same_start (same_app {f = f} {a = a} s u) h = let (i, j) = and_parts (names_only k f) (names_only k a) h in same_app (same_start s i) (same_start u j)
  same_start (same_both {e = e} {a = a} t s u) h = let (i, j) = and_parts (names_only k e) (names_only k a) h in same_both t (same_start s i) (same_start u j)
  same_start (same_case {e = e} {a = a} s u) h = let (i, j) = and_parts (names_only k e) (names_only k a) h in same_case (same_start s i) (same_start u j)

same_itself_const : (τ : TypeNumbers) (c : Const) → SameConst τ τ c c
same_itself_const τ unit = same_unit
same_itself_const τ (num n) = same_num
same_itself_const τ (op o t) = same_op refl

pub same_itself : (τ : TypeNumbers) (e : Exp) → Same ◌≡◌ τ τ e e
same_itself τ (var i) = same_var
same_itself τ (name n) = same_name refl
same_itself τ (const c) = same_const (same_itself_const τ c)
same_itself τ (lam t e) = same_lam refl (same_itself τ e)
same_itself τ (app f a) = same_app (same_itself τ f) (same_itself τ a)
same_itself τ (both s t e a) = same_both refl (same_itself τ e) (same_itself τ a)
same_itself τ (case_of s e a) = same_case (same_itself τ e) (same_itself τ a)

-- ---- the starting image

good : {T : Table} {ns : List ℕ} {es : List Exp} → Admitted T ns es → Good (length es) (type_at T) (start T ns es)
good {T} {ns} {es} a = start_good (bays_typed a.table es a.accepted) a.starts a.written a.bays a.size

start_sizes : {T : Table} {ns : List ℕ} {es : List Exp} → Admitted T ns es → length (start T ns es).owned.owners ≡ length (start T ns es).owned.config
start_sizes a = (good a).3.sizes

-- what bay k owns: its setting and its thread
start_own : {T : Table} {ns : List ℕ} {es : List Exp} → Admitted T ns es → (k n : ℕ) (e : Exp) → at ns k ≡ some n → at es k ≡ some e →
    bay_components k (start T ns es).owned ≡ setting_with n ∷ thread_of e ∷ []
unfolding loaded
start_own {ns = ns} {es = es} a k n e v t = first_own (length es) k (map setting_with ns) (map thread_of es) (rw length-map a.starts.one_each) (at_map setting_with ns k v) (at_map thread_of es k t)
    (at_bound es k t)

-- a bay that is the same in two recipes is the same in their starting images
module _ {T T' : Table} {ns ns' : List ℕ} {es es' : List Exp} (a : Admitted T ns es) (a' : Admitted T' ns' es') (w : Suits separate es (start T ns es).owned) (k : ℕ)
    (s : SameBay k T T' ns ns' es es') where
  setting_place : Mine k (start T ns es).owned (start T' ns' es').owned k k
  unfolding loaded
  setting_place =
      let l = at_bound es k s.there_left in
      let l' = at_bound es' k s.there_right in
      record {
        owned_left = first_mine (length es) k l;
        owned_right = first_mine (length es') k l';
        same_rank = first_rank (length es) k l ∙ sym (first_rank (length es') k l');
      }

  named : names_only k s.term_left ≡ true
  named = (names_only_iff k s.term_left).1 (w.0 k s.term_left s.there_left)

  pub start_mirrors : Mirrors k (type_at T) (type_at T') (start T ns es).owned (start T' ns' es').owned
  start_mirrors = record {
    sizes_left = start_sizes a;
    sizes_right = start_sizes a';
    parts = rw (start_own a k s.value s.term_left s.value_left s.there_left, start_own a' k s.value s.term_right s.value_right s.there_right)
        (alike_cons (same_holds (same_const same_num)) (alike_cons (same_thread (same_start k setting_place s.same_term named)) alike_nil));
  }

module _ {T : Table} {ns : List ℕ} {es : List Exp} (a : Admitted T ns es) (w : Suits separate es (start T ns es).owned) where
  -- a bay of one recipe, with itself
  itself : (j n : ℕ) (e : Exp) → at ns j ≡ some n → at es j ≡ some e → SameBay j T T ns ns es es
  itself j n e v t = record {
    value = n;
    value_left = v;
    value_right = v;
    term_left = e;
    term_right = e;
    there_left = t;
    there_right = t;
    same_term = same_itself (type_at T) e;
  }

  bay_value : (j : ℕ) → j < length es → (n : ℕ) × (at ns j ≡ some n)
  bay_value j l = at_below ns j (omega (arith, a.starts.one_each))

  start_nothing : (j : ℕ) → length es ≤ j → bay_components j (start T ns es).owned ≡ []
  unfolding loaded
  start_nothing j l = first_none (length es) j (map setting_with ns ++ map thread_of es) l

  own : (j : ℕ) → Mirrors j (type_at T) (type_at T) (start T ns es).owned (start T ns es).owned
  own j = elim (dec_lt j (length es)) [
    | yes l ↦
        let (n, v) = bay_value j l in
        let (e, t) = at_below es j l in
        start_mirrors a a w j (itself j n e v t)
    | no l ↦ let z = start_nothing j (omega arith) in record { sizes_left = start_sizes a; sizes_right = start_sizes a; parts = rw z alike_nil }
  ]

  start_bays : bays_in (start T ns es).owned.owners ≡ length es
  unfolding loaded
  start_bays = first_bays (length es)

  start_setting : (k : ℕ) → k < length es → Setting k (start T ns es).owned
  unfolding loaded
  start_setting k l = let (n, v) = bay_value k l in record {
    held = const (num n);
    cell = append_left (map setting_with ns) (map thread_of es) k (at_map setting_with ns k v);
    mine = first_mine (length es) k l;
    first = first_rank (length es) k l;
  }

  -- all that a run keeps holds at the start
  pub start_fine : Fine (type_at T) (length es) (start T ns es)
  start_fine = record { good = good a; own = own; bays = start_bays; shares = w.1; settings = start_setting }
