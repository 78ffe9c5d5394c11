-- Causes in the order of their numbers: the first that fits is the lowest.
use Rattle.std.specs.Prelude.{◌≡◌, refl, Bool, cond, false, true, List, [], ◌∷◌, ℕ, ◌<◌, ◌≤◌, suc, zero}
use Rattle.std.proofs.Common.{ap, arith}
use Rattle.std.proofs.Math.Option.{some}
use Rattle.calculus.specs.Syntax.{at}
use Rattle.calculus.specs.Lowest.{Cause, cause, first_cause, Lowest}
use Rattle.calculus.proofs.Theory.Tests.{clash}

-- causes in the order of their numbers, all above m; all numbers at most n
abbrev pub Ascending : ℕ → List Cause → Type 0
Ascending m [] = Unit {0}
Ascending m (c ∷ cs) = (m < c.number) × Ascending c.number cs

abbrev pub AtMost : ℕ → List Cause → Type 0
AtMost n [] = Unit {0}
AtMost n (c ∷ cs) = (c.number ≤ n) × AtMost n cs

above : (m : ℕ) (cs : List Cause) → Ascending m cs → (i : ℕ) {k : ℕ} {b : Bool} → at cs i ≡ some (cause k b) → m < k
above m [] a i h = absurd (clash (cc))
above m (c ∷ cs) (l, a) zero h = let e : c.number ≡ _ = ap (λ (x : Cause). x.number) (same h) in omega arith
  where
    same : {x y : Cause} → some x ≡ some y → x ≡ y
    same p = cc
above m (c ∷ cs) (l, a) (suc i) h = let n = above c.number cs a i h in omega arith

-- in that order the first that fits is the lowest
pub ascending_lowest : (m : ℕ) (cs : List Cause) → Ascending m cs → Lowest cs (first_cause cs)
ascending_lowest m [] a = record { one_that_fits = λ n. absurd (n refl); none_lower = λ i k h. absurd (clash (cc)) }
ascending_lowest m (c ∷ cs) (l, a) = go c.fits refl (ascending_lowest c.number cs a)
  where
    here : (k : ℕ) → some c ≡ some (cause k true) → (c.number ≡ k) × (c.fits ≡ true)
    here k p = let q : c ≡ cause k true = cc in (ap (λ (x : Cause). x.number) q, ap (λ (x : Cause). x.fits) q)

    go : (b : Bool) → c.fits ≡ b → Lowest cs (first_cause cs) → Lowest (c ∷ cs) (cond b c.number (first_cause cs))
    go true q rest = record {
      one_that_fits = λ n. (0, λ i. some (record { number = c.number; fits = q i }));
      none_lower = λ i k h. (omega arith, first i k h);
    }
      where
        first : (i k : ℕ) → at (c ∷ cs) i ≡ some (cause k true) → c.number ≤ k
        first zero k h = let e = (here k h).0 in omega arith
        first (suc i) k h = let n = above c.number cs a i h in omega arith
    go false q rest = record {
      one_that_fits = λ n. let (i, h) = rest.one_that_fits n in (suc i, h);
      none_lower = later;
    }
      where
        later : (i k : ℕ) → at (c ∷ cs) i ≡ some (cause k true) → (¬ (first_cause cs ≡ 0)) × (first_cause cs ≤ k)
        later zero k h = absurd (clash (let e = (here k h).1 in cc))
        later (suc i) k h = rest.none_lower i k h

pub first_cause_at_most : (n : ℕ) (cs : List Cause) → AtMost n cs → first_cause cs ≤ n
first_cause_at_most n [] a = omega arith
first_cause_at_most n (c ∷ cs) (l, a) = go c.fits (first_cause_at_most n cs a)
  where
    go : (b : Bool) → first_cause cs ≤ n → cond b c.number (first_cause cs) ≤ n
    go true r = l
    go false r = r
