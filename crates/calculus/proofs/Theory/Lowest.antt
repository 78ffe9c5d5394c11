-- The first cause that fits: laws of lists of causes.
use Rattle.std.specs.Prelude.{◌≡◌, refl, Bool, ◌&&◌, cond, false, not, true, List, [], ◌++◌, ◌∷◌, suc, zero, ℕ, T, eqb}
use Rattle.std.proofs.Common.{append-nil, arith}
use Rattle.std.proofs.lemmas.Bool.{eqb-false, not-true}
use Rattle.calculus.specs.Lowest.{Cause, first_cause}
use Rattle.calculus.proofs.Theory.Tests.{and_parts}

-- no cause of a list fits
abbrev pub NoneFits : List Cause → Type 0
NoneFits [] = Unit {0}
NoneFits (c ∷ cs) = (c.fits ≡ false) × NoneFits cs

-- a number that is not 0
abbrev positive : ℕ → Bool
positive zero = false
positive (suc n) = true

-- no cause has the number 0
abbrev pub numbered : List Cause → Bool
numbered [] = true
numbered (c ∷ cs) = positive c.number && numbered cs

-- where the first part of a list answers, the rest does not matter
pub first_cause_front : (cs ds : List Cause) → ¬ (first_cause cs ≡ 0) → first_cause (cs ++ ds) ≡ first_cause cs
first_cause_front [] ds n = absurd (n refl)
first_cause_front (c ∷ cs) ds n = go c.fits n (first_cause_front cs ds)
  where
    go : (b : Bool) → ¬ (cond b c.number (first_cause cs) ≡ 0) → (¬ (first_cause cs ≡ 0) → first_cause (cs ++ ds) ≡ first_cause cs)
        → cond b c.number (first_cause (cs ++ ds)) ≡ cond b c.number (first_cause cs)
    go true n h = refl
    go false n h = h n

-- where nothing in it fits, the rest decides
pub first_cause_rest : (cs ds : List Cause) → NoneFits cs → first_cause (cs ++ ds) ≡ first_cause ds
first_cause_rest [] ds n = refl
first_cause_rest (c ∷ cs) ds n = rw n.0 (first_cause_rest cs ds n.1)

-- where the answer is 0, nothing fits
first_fails : (b : Bool) (n m : ℕ) (cs : List Cause) → T (positive n && numbered cs) → cond b n m ≡ 0 → (b ≡ false) × T (numbered cs) × (m ≡ 0)
first_fails b zero m cs t e = absurd t
first_fails true (suc n) m cs t e = absurd (omega arith)
first_fails false (suc n) m cs t e = (refl, t, e)

pub first_cause_parts : (cs ds : List Cause) → T (numbered cs) → first_cause (cs ++ ds) ≡ 0 → NoneFits cs × (first_cause ds ≡ 0)
first_cause_parts [] ds t e = (tt, e)
first_cause_parts (c ∷ cs) ds t e =
    let (p, u, z) = first_fails c.fits c.number (first_cause (cs ++ ds)) cs t e in
    let (r, w) = first_cause_parts cs ds u z in
    ((p, r), w)

pub none_fits : (cs : List Cause) → T (numbered cs) → first_cause cs ≡ 0 → NoneFits cs
none_fits cs t e = (first_cause_parts cs [] t (rw (append-nil cs) e)).0

-- and back
pub none_first : (cs : List Cause) → NoneFits cs → first_cause cs ≡ 0
none_first [] n = refl
none_first (c ∷ cs) (p, n) = rw p (none_first cs n)

-- no cause of a list has the number k, which is not 0
abbrev pub apart : ℕ → List Cause → Bool
apart k [] = not (eqb 0 k)
apart k (c ∷ cs) = not (eqb c.number k) && apart k cs

-- so it is not answered
pub not_answered : (k : ℕ) (cs : List Cause) → apart k cs ≡ true → ¬ (first_cause cs ≡ k)
not_answered k [] t = eqb-false 0 k (not-true _ t)
not_answered k (c ∷ cs) t = let (p, q) = and_parts (not (eqb c.number k)) (apart k cs) t in go c.fits (eqb-false c.number k (not-true _ p)) (not_answered k cs q)
  where
    go : (b : Bool) → ¬ (c.number ≡ k) → ¬ (first_cause cs ≡ k) → ¬ (cond b c.number (first_cause cs) ≡ k)
    go true f g e = f e
    go false f g e = g e
