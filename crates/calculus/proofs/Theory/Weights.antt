-- What the outcome of rules 1, 8 and 9 weighs, in nodes or in bytes: what the body does and, for each place of a variable, what its value does less the variable.
use Rattle.std.specs.Prelude.{◌≡◌, refl, Bool, eqb}
use Rattle.std.proofs.Math.Bool.{cond, false, true}
use Prim.Native.Nat.{◌*◌, ◌+◌, ◌≤◌, suc, ℕ}
use Rattle.std.proofs.Common.{mul-le-mul}
use native.Mathlib.Omega.{arith}
use Rattle.calculus.specs.Syntax.{Exp, Shape, var, name, const, lam, app, both, case_of}
use Rattle.calculus.specs.Reduction.{substitute}
use Rattle.calculus.specs.Names.{uses}
use Rattle.calculus.specs.Image.{Closed, closed_var, closed_name, closed_const, closed_lam, closed_app, closed_both, closed_case, nodes, size}
use Rattle.calculus.proofs.Theory.Tests.{eqb_sound, eqb_differ}

-- a variable beyond those around a closed expression does not stand in it
pub closed_unused : {depth : ℕ} {e : Exp} → Closed depth e → (i : ℕ) → depth ≤ i → uses i e ≡ 0
unfolding uses
closed_unused (closed_var {i = j} l) i h = rw (eqb_differ j i (λ e. omega arith))
closed_unused closed_name i h = refl
closed_unused closed_const i h = refl
closed_unused (closed_lam p) i h = closed_unused p (suc i) (omega arith)
closed_unused (closed_app p q) i h = omega (arith, closed_unused p i h, closed_unused q i h)
closed_unused (closed_both p q) i h = omega (arith, closed_unused p i h, closed_unused q i h)
closed_unused (closed_case p q) i h = omega (arith, closed_unused p i h, closed_unused q (suc (suc i)) (omega arith))

-- a closed value put in for one variable leaves the others where they are
pub uses_substitute : (i depth : ℕ) → ¬ (i ≡ depth) → {v : Exp} → Closed 0 v → (e : Exp) → uses i (substitute depth v e) ≡ uses i e
unfolding uses substitute
uses_substitute i depth n {v} c (var j) = go (eqb j depth) refl
  where
    go : (b : Bool) → eqb j depth ≡ b → uses i (cond b v (var j)) ≡ cond (eqb j i) 1 0
    go true p = let q : j ≡ depth = eqb_sound j depth p in rw (eqb_differ j i (λ e. n (omega arith))) (closed_unused c i (omega arith))
    go false p = refl
uses_substitute i depth n c (name k) = refl
uses_substitute i depth n c (const x) = refl
uses_substitute i depth n c (lam t e) = uses_substitute (suc i) (suc depth) (λ q. n (omega arith)) c e
uses_substitute i depth n c (app f a) = omega (arith, uses_substitute i depth n c f, uses_substitute i depth n c a)
uses_substitute i depth n c (both s t e₁ e₂) = omega (arith, uses_substitute i depth n c e₁, uses_substitute i depth n c e₂)
uses_substitute i depth n c (case_of s e₁ e₂) =
    omega (arith, uses_substitute i depth n c e₁, uses_substitute (suc (suc i)) (suc (suc depth)) (λ q. n (omega arith)) c e₂)

-- a place of one variable is no place of the next
one_place : (P : Bool → Bool → Type 0) (d i : ℕ) → P true false → P false true → P false false → P (eqb i d) (eqb i (suc d))
one_place P d i p q r = by (eqb i d) refl (eqb i (suc d)) refl
  where
    by : (a : Bool) → eqb i d ≡ a → (b : Bool) → eqb i (suc d) ≡ b → P a b
    by true e true f = absurd (omega (arith, eqb_sound i d e, eqb_sound i (suc d) f))
    by true e false f = p
    by false e true f = q
    by false e false f = r

-- A weight of expressions: that of their nodes added up, a variable's being `variable`; of the other nodes with subterms the own weights.
pub record Weight (w : Exp → ℕ) (variable : ℕ) : Type 0 where
  pub of_lam : ℕ
  pub of_app : ℕ
  pub of_both : ℕ
  pub of_case : ℕ
  pub at_var : (i : ℕ) → w (var i) ≡ variable
  pub in_lam : (t : ℕ) (e : Exp) → w (lam t e) ≡ of_lam + w e
  pub in_app : (f a : Exp) → w (app f a) ≡ of_app + (w f + w a)
  pub in_both : (s : Shape) (t : ℕ) (e₁ e₂ : Exp) → w (both s t e₁ e₂) ≡ of_both + (w e₁ + w e₂)
  pub in_case : (s : Shape) (e₁ e₂ : Exp) → w (case_of s e₁ e₂) ≡ of_case + (w e₁ + w e₂)

-- nodes, and bytes
pub nodes_weight : Weight nodes 1
unfolding nodes
nodes_weight =
    record {
      of_lam = 1;
      of_app = 1;
      of_both = 1;
      of_case = 1;
      at_var = λ i. refl;
      in_lam = λ t e. omega arith;
      in_app = λ f a. omega arith;
      in_both = λ s t e₁ e₂. omega arith;
      in_case = λ s e₁ e₂. omega arith;
    }

pub size_weight : Weight size 2
unfolding size
size_weight =
    record {
      of_lam = 2;
      of_app = 1;
      of_both = 2;
      of_case = 1;
      at_var = λ i. refl;
      in_lam = λ t e. omega arith;
      in_app = λ f a. omega arith;
      in_both = λ s t e₁ e₂. omega arith;
      in_case = λ s e₁ e₂. omega arith;
    }

module _ {w : Exp → ℕ} {variable : ℕ} (W : Weight w variable) where
  -- The body's weight and, for each place of a variable, its value's less the variable's

  -- one variable
  pub weigh_substitute : (depth : ℕ) (v e : Exp) → w (substitute depth v e) + uses depth e * variable ≡ w e + uses depth e * w v
  unfolding uses substitute
  weigh_substitute depth v (var i) = go (eqb i depth)
    where
      go : (b : Bool) → w (cond b v (var i)) + cond b 1 0 * variable ≡ w (var i) + cond b 1 0 * w v
      go true = omega (arith, W.at_var i)
      go false = omega arith
  weigh_substitute depth v (name k) = omega arith
  weigh_substitute depth v (const c) = omega arith
  weigh_substitute depth v (lam t e) =
      let d = suc depth in
      omega (arith, W.in_lam t e, W.in_lam t (substitute d v e), weigh_substitute d v e)
  weigh_substitute depth v (app f a) =
      let p = weigh_substitute depth v f in
      let q = weigh_substitute depth v a in
      omega (arith, W.in_app f a, W.in_app (substitute depth v f) (substitute depth v a), p, q)
  weigh_substitute depth v (both s t e₁ e₂) =
      let p = weigh_substitute depth v e₁ in
      let q = weigh_substitute depth v e₂ in
      omega (arith, W.in_both s t e₁ e₂, W.in_both s t (substitute depth v e₁) (substitute depth v e₂), p, q)
  weigh_substitute depth v (case_of s e₁ e₂) =
      let d = suc (suc depth) in
      let p = weigh_substitute depth v e₁ in
      let q = weigh_substitute d v e₂ in
      omega (arith, W.in_case s e₁ e₂, W.in_case s (substitute depth v e₁) (substitute d v e₂), p, q)

  -- the places of two variables weigh no more than the whole
  pub places_weigh : (d : ℕ) (e : Exp) → (uses d e + uses (suc d) e) * variable ≤ w e
  unfolding uses
  places_weigh d (var i) =
      let v = W.at_var i in
      one_place (λ a b. (cond a 1 0 + cond b 1 0) * variable ≤ w (var i)) d i (omega arith) (omega arith) (omega arith)
  places_weigh d (name k) = omega arith
  places_weigh d (const c) = omega arith
  places_weigh d (lam t e) = omega (arith, W.in_lam t e, places_weigh (suc d) e)
  places_weigh d (app f a) = omega (arith, W.in_app f a, places_weigh d f, places_weigh d a)
  places_weigh d (both s t e₁ e₂) = omega (arith, W.in_both s t e₁ e₂, places_weigh d e₁, places_weigh d e₂)
  places_weigh d (case_of s e₁ e₂) = omega (arith, W.in_case s e₁ e₂, places_weigh d e₁, places_weigh (suc (suc d)) e₂)

-- so values of at most m each in their places are no more than m for each node
pub uses_most : {n m p q : ℕ} (d : ℕ) (e : Exp) → nodes e ≤ n → p ≤ m → q ≤ m → uses d e * p + uses (suc d) e * q ≤ n * m
uses_most {n} {m} {p} {q} d e few small small' =
    let all : uses d e + uses (suc d) e ≤ n = omega (arith, places_weigh nodes_weight d e) in
    let x : uses d e * p ≤ uses d e * m = mul-le-mul (omega arith) small in
    let y : uses (suc d) e * q ≤ uses (suc d) e * m = mul-le-mul (omega arith) small' in
    let z : (uses d e + uses (suc d) e) * m ≤ n * m = mul-le-mul all (omega arith) in
    omega (arith, x, y, z)
