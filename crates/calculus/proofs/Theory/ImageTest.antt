-- Cause 13: the test passes exactly the configurations that an image may hold.
use Rattle.std.specs.Prelude.{◌≡◌, refl, ◌↔◌, ◌⊎◌, Bool, ◌&&◌, cond, false, true, [], ◌∷◌, ◌+◌, ◌≤◌, suc, zero, ℕ, eqb, ltb, length}
use Rattle.std.proofs.Common.{ap, sym, subst, inl, inr, arith}
use Rattle.std.proofs.lemmas.Bool.{false≢true}
use Rattle.std.proofs.Math.Option.{Option, none, some}
use Rattle.std.proofs.Math.Decide.{dec_lt}
use Rattle.calculus.specs.Syntax.{Exp, var, name, const, lam, app, Value, Component, thread_of, holds, open_for, used, awaited, Config, at, In, sum_in, sum_all, both, case_of}
use Rattle.calculus.specs.Names.{count}
use Rattle.calculus.specs.Step.{Place, settled, meet, loose, place}
use Rattle.calculus.specs.Limits.{max_names, max_nodes}
use Rattle.calculus.specs.Image.{Closed, closed_var, closed_name, closed_const, closed_lam, closed_app, nodes_all, WithinLimits, ImageRule, expression_test, is_settled, is_awaited, handle_for, component_test, each_test, limits_test, image_test, closed_both, closed_case}
use Rattle.calculus.proofs.Theory.Tests.{clash, and_true, and_parts, eqb_sound, eqb_complete, eqb_differ, ltb_sound, ltb_complete}
use Rattle.calculus.proofs.Theory.Expressions.{count_same}
use Rattle.calculus.proofs.Theory.Places.{place_sound, place_value, Placed}

-- the limits
pub limits_test_iff : (C : Config) → (limits_test C ≡ true) ↔ WithinLimits C
unfolding limits_test
limits_test_iff C = (
  λ h. let (p, q) = and_parts (ltb (length C) (suc max_names)) (ltb (nodes_all C) (suc max_nodes)) h in
      let l = ltb_sound (length C) (suc max_names) p in let k = ltb_sound (nodes_all C) (suc max_nodes) q in
      record { few_names = omega arith; few_nodes = omega arith },
  λ w. let l = w.few_names in let k = w.few_nodes in
      and_true (ltb_complete (length C) (suc max_names) (omega arith)) (ltb_complete (nodes_all C) (suc max_nodes) (omega arith)),
)

-- expressions
abbrev Kept : ℕ → ℕ → Exp → Type 0
Kept m depth e = Closed depth e × ((k : ℕ) → m ≤ k → count k e ≡ 0)

expression_sound : (m depth : ℕ) (e : Exp) → expression_test m depth e ≡ true → Kept m depth e
unfolding expression_test count
expression_sound m depth (var i) h = (closed_var (ltb_sound i depth h), λ k l. refl)
expression_sound m depth (name j) h = (closed_name, λ k l. let p = ltb_sound j m h in rw (eqb_differ j k (λ q. omega arith)) refl)
expression_sound m depth (const c) h = (closed_const, λ k l. refl)
expression_sound m depth (lam t e) h = let (p, q) = expression_sound m (suc depth) e h in (closed_lam p, q)
expression_sound m depth (app f a) h =
    let (g, b) = and_parts (expression_test m depth f) (expression_test m depth a) h in
    let (p, q) = expression_sound m depth f g in
    let (p', q') = expression_sound m depth a b in
    (closed_app p p', λ k l. omega (arith, q k l, q' k l))
expression_sound m depth (both s t e₁ e₂) h =
    let (g, b) = and_parts (expression_test m depth e₁) (expression_test m depth e₂) h in
    let (p, q) = expression_sound m depth e₁ g in
    let (p', q') = expression_sound m depth e₂ b in
    (closed_both p p', λ k l. omega (arith, q k l, q' k l))
expression_sound m depth (case_of s e₁ e₂) h =
    let (g, b) = and_parts (expression_test m depth e₁) (expression_test m (suc (suc depth)) e₂) h in
    let (p, q) = expression_sound m depth e₁ g in
    let (p', q') = expression_sound m (suc (suc depth)) e₂ b in
    (closed_case p p', λ k l. omega (arith, q k l, q' k l))

expression_complete : (m depth : ℕ) {e : Exp} → Closed depth e → ((k : ℕ) → m ≤ k → count k e ≡ 0) → expression_test m depth e ≡ true
unfolding expression_test count
expression_complete m depth (closed_var {i = i} l) n = ltb_complete i depth l
expression_complete m depth (closed_name {k = k}) n = elim (dec_lt k m) [
  | yes l ↦ ltb_complete k m l
  | no l ↦ absurd (clash (let p = n k (omega arith) in let q = count_same k in cc))
]
expression_complete m depth closed_const n = refl
expression_complete m depth (closed_lam p) n = expression_complete m (suc depth) p n
expression_complete m depth (closed_app p q) n =
    and_true (expression_complete m depth p (λ k l. omega (arith, n k l))) (expression_complete m depth q (λ k l. omega (arith, n k l)))
expression_complete m depth (closed_both p q) n =
    and_true (expression_complete m depth p (λ k l. omega (arith, n k l))) (expression_complete m depth q (λ k l. omega (arith, n k l)))
expression_complete m depth (closed_case p q) n =
    and_true (expression_complete m depth p (λ k l. omega (arith, n k l))) (expression_complete m (suc (suc depth)) q (λ k l. omega (arith, n k l)))

-- values
pub settled_value : (e : Exp) → is_settled (place e) ≡ true → Value e
unfolding is_settled
settled_value e h = go (place e) (place_sound e) h
  where
    go : (p : Place) → Placed e p → is_settled p ≡ true → Value e
    go (settled v w) q h = subst (λ (u : Exp). Value u) (sym q) w
    go (meet F r d) q h = absurd (false≢true h)
    go loose q h = absurd (false≢true h)

value_complete : {e : Exp} → Value e → is_settled (place e) ≡ true
unfolding is_settled
value_complete w = rw (place_value w) refl

-- handles
handle_self : (y : ℕ) → handle_for y (open_for y) ≡ 1
unfolding handle_for
handle_self y = rw (eqb_complete y y refl) refl

handle_is : (y : ℕ) (c : Component) → (handle_for y c ≡ 0) ⊎ ((handle_for y c ≡ 1) × (c ≡ open_for y))
unfolding handle_for
handle_is y (open_for z) = go (eqb z y) refl
  where
    go : (b : Bool) → eqb z y ≡ b → (◌≡◌ {A = ℕ} (cond b 1 0) 0) ⊎ ((◌≡◌ {A = ℕ} (cond b 1 0) 1) × (open_for z ≡ open_for y))
    go true e = inr (refl, ap open_for (eqb_sound z y e))
    go false e = inl refl
handle_is y (thread_of e) = inl refl
handle_is y (holds e) = inl refl
handle_is y used = inl refl
handle_is y awaited = inl refl

head_one : (y : ℕ) (c : Component) → c ≡ open_for y → handle_for y c ≡ 1
head_one y c e = rw e (handle_self y)

handles_none : (y : ℕ) (C : Config) → sum_all (handle_for y) C ≡ 0 → (z : ℕ) → ¬ (at C z ≡ some (open_for y))
unfolding sum_all
handles_none y [] h z p = clash (cc)
handles_none y (c ∷ C) h zero p = let q : c ≡ open_for y = cc in omega (arith, head_one y c q)
handles_none y (c ∷ C) h (suc z) p = handles_none y C (omega arith) z p

none_handles : (y : ℕ) (C : Config) → ((z : ℕ) → ¬ (at C z ≡ some (open_for y))) → sum_all (handle_for y) C ≡ 0
unfolding sum_all
none_handles y [] n = refl
none_handles y (c ∷ C) n = elim (handle_is y c) [
  | inl p ↦ omega (arith, p, none_handles y C (λ z. n (suc z)))
  | inr (p, q) ↦ absurd (n zero (ap some q))
]

abbrev OneFor : ℕ → Config → Type 0
OneFor y C = (z : ℕ) × (at C z ≡ some (open_for y)) × ((z' : ℕ) → at C z' ≡ some (open_for y) → z' ≡ z)

handles_one : (y : ℕ) (C : Config) → sum_all (handle_for y) C ≡ 1 → OneFor y C
unfolding sum_all
handles_one y [] h = absurd (omega arith)
handles_one y (c ∷ C) h = elim (handle_is y c) [
  | inl p ↦ let (z, q, u) = handles_one y C (omega (arith, p)) in (suc z, q, later p z u)
  | inr (p, q) ↦ (zero, ap some q, first (omega (arith, p)))
]
  where
    later : handle_for y c ≡ 0 → (z : ℕ) → ((z' : ℕ) → at C z' ≡ some (open_for y) → z' ≡ z) → (z' : ℕ) → at (c ∷ C) z' ≡ some (open_for y) → z' ≡ suc z
    later p z u zero g = let q : c ≡ open_for y = cc in absurd (omega (arith, p, head_one y c q))
    later p z u (suc z') g = ap suc (u z' g)

    first : sum_all (handle_for y) C ≡ 0 → (z' : ℕ) → at (c ∷ C) z' ≡ some (open_for y) → z' ≡ zero
    first p zero g = refl
    first p (suc z') g = absurd (handles_none y C p z' g)

one_handles : (y : ℕ) (C : Config) (z : ℕ) → at C z ≡ some (open_for y) → ((z' : ℕ) → at C z' ≡ some (open_for y) → z' ≡ z) → sum_all (handle_for y) C ≡ 1
unfolding sum_all
one_handles y [] z p u = absurd (clash (cc))
one_handles y (c ∷ C) zero p u =
    let q : c ≡ open_for y = cc in
    omega (arith, head_one y c q, none_handles y C (λ z g. let e = u (suc z) g in omega arith))
one_handles y (c ∷ C) (suc z) p u = elim (handle_is y c) [
  | inl q ↦ omega (arith, q, one_handles y C z p (λ z' g. let e = u (suc z') g in omega arith))
  | inr (q, r) ↦ let e = u zero (ap some r) in absurd (omega arith)
]

awaited_sound : (o : Option Component) → is_awaited o ≡ true → o ≡ some awaited
unfolding is_awaited
awaited_sound (some awaited) h = refl
awaited_sound (some (thread_of e)) h = absurd (false≢true h)
awaited_sound (some (holds e)) h = absurd (false≢true h)
awaited_sound (some (open_for y)) h = absurd (false≢true h)
awaited_sound (some used) h = absurd (false≢true h)
awaited_sound none h = absurd (false≢true h)

-- each component
each_sound : (test : ℕ → Component → Bool) (k : ℕ) (C : Config) → each_test test k C ≡ true → (i : ℕ) (c : Component) → at C i ≡ some c → test (i + k) c ≡ true
unfolding each_test
each_sound test k [] h i c p = absurd (clash (cc))
each_sound test k (d ∷ C) h zero c p = let e : d ≡ c = cc in let (g, b) = and_parts (test k d) (each_test test (suc k) C) h in
    let z : zero + k ≡ k = omega arith in rw (z, ← e) g
each_sound test k (d ∷ C) h (suc i) c p = let (g, b) = and_parts (test k d) (each_test test (suc k) C) h in
    let z : suc i + k ≡ i + suc k = omega arith in rw z (each_sound test (suc k) C b i c p)

each_complete : (test : ℕ → Component → Bool) (k : ℕ) (C : Config) → ((i : ℕ) (c : Component) → at C i ≡ some c → test (i + k) c ≡ true) → each_test test k C ≡ true
unfolding each_test
each_complete test k [] f = refl
each_complete test k (d ∷ C) f =
    let z : zero + k ≡ k = omega arith in
    and_true (rw z at (f zero d refl)) (each_complete test (suc k) C (λ i c p. let w : suc i + k ≡ i + suc k = omega arith in rw w at (f (suc i) c p)))

-- the test passes exactly what keeps the rules
pub image_test_iff : (C : Config) → (image_test C ≡ true) ↔ ImageRule C
unfolding image_test limits_test component_test sum_in is_awaited
image_test_iff C = (there, back)
  where
    there : image_test C ≡ true → ImageRule C
    there h = record {
      bound = λ x c p. bound x c (at_test x c p);
      names_below = λ x c p. below x c (at_test x c p);
      cells = λ x v p. settled_value v (and_parts (expression_test (length C) 0 v) (is_settled (place v)) (at_test x (holds v) p)).1;
      companions = λ z y p. awaited_sound (at C y) (at_test z (open_for y) p);
      futures = λ y p. handles_one y C (eqb_sound (sum_all (handle_for y) C) 1 (at_test y awaited p));
      limits = (limits_test_iff C).0 parts.1;
    }
      where
        parts : (each_test (component_test C) 0 C ≡ true) × (limits_test C ≡ true)
        parts = and_parts (each_test (component_test C) 0 C) (limits_test C) h

        at_test : (x : ℕ) (c : Component) → at C x ≡ some c → component_test C x c ≡ true
        at_test x c p = let z : x + 0 ≡ x = omega arith in rw z at (each_sound (component_test C) 0 C parts.0 x c p)

        kept : (v : Exp) → (expression_test (length C) 0 v && is_settled (place v)) ≡ true → Kept (length C) 0 v
        kept v t = expression_sound (length C) 0 v (and_parts (expression_test (length C) 0 v) (is_settled (place v)) t).0

        bound : (x : ℕ) (c : Component) → component_test C x c ≡ true → In (Closed 0) c
        bound x (thread_of e) t = (expression_sound (length C) 0 e t).0
        bound x (holds v) t = (kept v t).0
        bound x (open_for y) t = tt
        bound x used t = tt
        bound x awaited t = tt

        below : (x : ℕ) (c : Component) → component_test C x c ≡ true → (k : ℕ) → length C ≤ k → sum_in (count k) c ≡ 0
        below x (thread_of e) t = (expression_sound (length C) 0 e t).1
        below x (holds v) t = (kept v t).1
        below x (open_for y) t = λ k l. refl
        below x used t = λ k l. refl
        below x awaited t = λ k l. refl

    back : ImageRule C → image_test C ≡ true
    back w = and_true (each_complete (component_test C) 0 C (λ x c p. let z : x + 0 ≡ x = omega arith in rw z (one x c p))) ((limits_test_iff C).1 w.limits)
      where
        one : (x : ℕ) (c : Component) → at C x ≡ some c → component_test C x c ≡ true
        one x (thread_of e) p = expression_complete (length C) 0 (w.bound x (thread_of e) p) (w.names_below x (thread_of e) p)
        one x (holds v) p = and_true (expression_complete (length C) 0 (w.bound x (holds v) p) (w.names_below x (holds v) p)) (value_complete (w.cells x v p))
        one x (open_for y) p = rw (w.companions x y p) refl
        one x used p = refl
        one x awaited p = let (z, q, u) = w.futures x p in eqb_complete (sum_all (handle_for x) C) 1 (one_handles x C z q u)
