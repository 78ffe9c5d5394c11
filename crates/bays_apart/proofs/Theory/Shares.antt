-- Shares: no bay above its share means that all are within document 01's limits; b stays the same in a run, so shares alone decide 15.
use Rattle.std.proofs.Common.{◌∙◌, suc-mul, arith}
use Rattle.std.specs.Prelude.{◌≡◌, ◌↔◌, Bool, eqb, length, replicate}
use Rattle.std.proofs.Math.Path.{ap, refl}
use Rattle.std.proofs.Math.Bool.{cond, false, true}
use Rattle.std.proofs.Math.Option.{some}
use mathlib.Core.List.{[], ◌++◌, ◌∷◌}
use Prim.Native.Nat.{◌*◌, ◌+◌, ◌-◌, ◌<◌, ◌≤◌, suc, zero, ℕ}
use Rattle.std.proofs.Math.Nat.{mul-div-le}
use Rattle.std.proofs.Math.Decide.{dec_lt}
use Rattle.calculus.specs.Syntax.{Component, Config, at, sum_in, sum_all}
use Rattle.calculus.specs.Limits.{max_names, max_nodes}
use Rattle.calculus.specs.Lists.{sum_below}
use Rattle.calculus.specs.Image.{nodes, WithinLimits}
use Rattle.calculus.specs.Reduction.{Rule, Reduces}
use Rattle.calculus.specs.Owners.{Owners, Owned, owner, owners_after, grown}
use Rattle.calculus.specs.Shares.{of_bay, bay_components, bays_in, names_share, nodes_share, WithinShares}
use Rattle.calculus.specs.Profile.{separate, HasRoom}
use Rattle.calculus.proofs.Theory.Tests.{clash, eqb_complete, eqb_differ}
use Rattle.calculus.proofs.Theory.Lists.{get_d_at, at_below}
use Rattle.calculus.proofs.Theory.Tabulate.{sum_below_same}
use Rattle.calculus.proofs.Theory.BaySums.{bays_append, length_sum}
use Rattle.calculus.proofs.Theory.Owners.{length_owners_after, no_fewer, goer_there}

-- owners are below b
pub owner_below : (O : Owners) (n : ℕ) {o : ℕ} → at O n ≡ some o → o < bays_in O
unfolding bays_in
owner_below [] n h = absurd (clash (cc))
owner_below (a ∷ O) zero {o} h = let e : a ≡ o = cc in omega arith
owner_below (a ∷ O) (suc n) h = let l = owner_below O n h in omega arith

-- b stays when names come to a bay that is there
bays_replicate : (n k : ℕ) → bays_in (replicate n k) ≤ suc k
unfolding bays_in
bays_replicate zero k = omega arith
bays_replicate (suc n) k = let l = bays_replicate n k in omega arith

bays_more : (O : Owners) (x n : ℕ) {k : ℕ} → at O x ≡ some k → bays_in (O ++ replicate n k) ≡ bays_in O
bays_more O x n {k} h =
    let e = bays_append O (replicate n k) in
    let l = bays_replicate n k in
    let m = owner_below O x h in
    omega arith

-- ---- sums over all bays

sum_bound : (n s : ℕ) (f : ℕ → ℕ) → ((j : ℕ) → j < n → f j ≤ s) → sum_below n f ≤ n * s
unfolding sum_below
sum_bound zero s f h = omega arith
sum_bound (suc n) s f h = rw suc-mul (omega (arith, sum_bound n s f (λ j l. h j (omega arith)), h n (omega arith)))

-- bay o has a more than g says
sum_none : (n o a : ℕ) (g : ℕ → ℕ) → n ≤ o → sum_below n (λ j. cond (eqb o j) (a + g j) (g j)) ≡ sum_below n g
unfolding sum_below
sum_none zero o a g l = refl
sum_none (suc n) o a g l = rw (eqb_differ o n (omega arith)) (omega (arith, sum_none n o a g (omega arith)))

sum_one : (n o a : ℕ) (g : ℕ → ℕ) → o < n → sum_below n (λ j. cond (eqb o j) (a + g j) (g j)) ≡ a + sum_below n g
unfolding sum_below
sum_one zero o a g l = absurd (omega arith)
sum_one (suc n) o a g l = elim (dec_lt o n) [
  | yes m ↦ rw (eqb_differ o n (omega arith)) (omega (arith, sum_one n o a g m))
  | no m ↦ rw (eqb_complete o n (omega arith)) (omega (arith, sum_none n o a g (omega arith)))
]

sum_of_none : (n : ℕ) → sum_below n (λ j. 0) ≡ 0
unfolding sum_below
sum_of_none zero = refl
sum_of_none (suc n) = omega (arith, sum_of_none n)

-- ---- a measure of components, over all that the bays own

module _ (measure : Component → ℕ) where
  one_more : (t : Bool) (c : Component) (C : Config) → sum_all measure (cond t (c ∷ C) C) ≡ cond t (measure c + sum_all measure C) (sum_all measure C)
  unfolding sum_all
  one_more true c C = refl
  one_more false c C = refl

  all_bays : (b : ℕ) (O : Owners) (C : Config) → length O ≡ length C → ((n o : ℕ) → at O n ≡ some o → o < b) →
      sum_below b (λ j. sum_all measure (of_bay j O C)) ≡ sum_all measure C
  unfolding sum_all of_bay
  all_bays b [] [] s h = sum_of_none b
  all_bays b [] (c ∷ C) s h = absurd (omega arith)
  all_bays b (o ∷ O) [] s h = absurd (omega arith)
  all_bays b (o ∷ O) (c ∷ C) s h =
      sum_below_same b (λ j. sum_all measure (cond (eqb o j) (c ∷ of_bay j O C) (of_bay j O C)))
      (λ j. cond (eqb o j) (measure c + sum_all measure (of_bay j O C)) (sum_all measure (of_bay j O C))) (λ j l. one_more (eqb o j) c (of_bay j O C)) ∙
      sum_one b o (measure c) (λ j. sum_all measure (of_bay j O C)) (h zero o refl) ∙ ap (λ n. measure c + n) (all_bays b O C (omega arith) (λ n. h (suc n)))

  all_bound : (b share limit : ℕ) (I : Owned) → b * share ≤ limit → length I.owners ≡ length I.config →
      ((n o : ℕ) → at I.owners n ≡ some o → o < b) → ((j : ℕ) → j < b → sum_all measure (bay_components j I) ≤ share) → sum_all measure I.config ≤ limit
  all_bound b share limit I r e h k =
      let p = all_bays b I.owners I.config e h in
      let q = sum_bound b share (λ j. sum_all measure (bay_components j I)) k in
      omega arith

-- "rounded down": no bay above its share, and all together are within document 01's limits
pub shares_within : (b : ℕ) (I : Owned) → length I.owners ≡ length I.config → ((n o : ℕ) → at I.owners n ≡ some o → o < b) → WithinShares b I → WithinLimits I.config
shares_within b I e h s = record {
  few_names = rw (length_sum I.config) (all_bound (λ c. 1) b (names_share b) max_names I (mul-div-le max_names b) e h (λ j l. rw (← length_sum (bay_components j I)) (s j l).few_names));
  few_nodes = all_bound (sum_in nodes) b (nodes_share b) max_nodes I (mul-div-le max_nodes b) e h (λ j l. (s j l).few_nodes);
}

-- of any image whose names all have owners, b as the stepper takes it
pub shares_limits : (I : Owned) → length I.owners ≡ length I.config → WithinShares (bays_in I.owners) I → WithinLimits I.config
shares_limits I e s = shares_within (bays_in I.owners) I e (λ n o h. owner_below I.owners n h) s

-- b stays the same after a step
pub bays_grown : (O : Owners) (x : ℕ) (C' : Config) → x < length O → bays_in (owners_after O x C') ≡ bays_in O
unfolding owners_after
bays_grown O x C' l = let (k, h) = at_below O x l in let e : owner O x ≡ k = get_d_at O x h in bays_more O x (length C' - length O) (rw e h)

-- so shares alone decide 15, of any image whose names all have owners
pub room_shares : (I : Owned) {x : ℕ} {r : Rule} {C' : Config} → length I.owners ≡ length I.config → Reduces I.config x r C' →
    HasRoom separate I (grown I x C') ↔ WithinShares (bays_in I.owners) (grown I x C')
room_shares I {x} {C' = C'} e d = (λ (l, w). w, λ w. (shares_limits (grown I x C') sizes (rw b w), w))
  where
    sizes : length (owners_after I.owners x C') ≡ length C'
    sizes = length_owners_after I.owners x C' (omega (arith, e, no_fewer d))

    b : bays_in (owners_after I.owners x C') ≡ bays_in I.owners
    b = bays_grown I.owners x C' (omega (arith, e, goer_there d))
