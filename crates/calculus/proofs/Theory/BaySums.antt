-- T-09: what a bay owns, in names and in any measure: after a change, with names more, by index; the highest owner.
use Rattle.std.proofs.Common.{◌∙◌, add-one, length-drop, take-append-drop, length-take-le}
use Rattle.std.proofs.Math.Path.{◌≡◌, ap, ap₂, refl, sym}
use Rattle.std.specs.Prelude.{Bool, eqb, drop, replicate, set, take}
use Rattle.std.proofs.Math.Bool.{cond, false, true}
use Rattle.std.proofs.Math.Option.{some}
use mathlib.Core.List.{List, [], ◌++◌, ◌∷◌}
use Prim.Native.Nat.{◌+◌, ◌-◌, ◌<◌, ◌≤◌, max, suc, zero, ℕ}
use native.Mathlib.Omega.{arith}
use Rattle.std.proofs.Math.ListN.{length, length-append}
use Rattle.calculus.specs.Lists.{tabulate, sum_below}
use Rattle.calculus.specs.Syntax.{Component, Config, at, sum_all}
use Rattle.calculus.specs.Owners.{Owners, first_owners, owner, owners_after}
use Rattle.calculus.specs.Shares.{of_bay, bays_in}
use Rattle.calculus.proofs.Theory.Tests.{clash, eqb_complete, eqb_differ}
use Rattle.calculus.proofs.Theory.Configurations.{sum_append}
use Rattle.calculus.proofs.Theory.Tabulate.{length_tabulate, tabulate_at, tabulate_parts}

-- what of n counts for bay k, where `owner` owns it
abbrev pub for_bay : ℕ → ℕ → ℕ → ℕ
for_bay k owner n = cond (eqb owner k) n 0

-- ---- the components of a bay

module _ {A : Type 0} (k : ℕ) where
  -- two lists one after the other
  pub bay_append : (O P : Owners) (l m : List A) → length O ≡ length l → of_bay k (O ++ P) (l ++ m) ≡ of_bay k O l ++ of_bay k P m
  unfolding of_bay
  bay_append [] P [] m e = refl
  bay_append [] P (a ∷ l) m e = absurd (omega arith)
  bay_append (o ∷ O) P [] m e = absurd (omega arith)
  bay_append (o ∷ O) P (a ∷ l) m e = go (eqb o k) (bay_append O P l m (omega arith))
    where
      go : (b : Bool) → of_bay k (O ++ P) (l ++ m) ≡ of_bay k O l ++ of_bay k P m →
          cond b (a ∷ of_bay k (O ++ P) (l ++ m)) (of_bay k (O ++ P) (l ++ m)) ≡ cond b (a ∷ of_bay k O l) (of_bay k O l) ++ of_bay k P m
      go true h = ap (λ (r : List A). a ∷ r) h
      go false h = h

  -- owners that own nothing
  pub bay_short : (O P : Owners) (l : List A) → length l ≤ length O → of_bay k (O ++ P) l ≡ of_bay k O l
  unfolding of_bay
  bay_short [] [] l e = refl
  bay_short [] (p ∷ P) [] e = refl
  bay_short [] (p ∷ P) (a ∷ l) e = absurd (omega arith)
  bay_short (o ∷ O) P [] e = refl
  bay_short (o ∷ O) P (a ∷ l) e = ap (λ (r : List A). cond (eqb o k) (a ∷ r) r) (bay_short O P l (omega arith))

  -- one owner
  pub bay_replicate : (n o : ℕ) (l : List A) → length l ≡ n → of_bay k (replicate n o) l ≡ cond (eqb o k) l []
  unfolding of_bay
  bay_replicate zero o [] e = go (eqb o k)
    where
      go : (b : Bool) → ◌≡◌ {A = List A} [] (cond b [] [])
      go true = refl
      go false = refl
  bay_replicate zero o (a ∷ l) e = absurd (omega arith)
  bay_replicate (suc n) o [] e = absurd (omega arith)
  bay_replicate (suc n) o (a ∷ l) e = go (eqb o k) (bay_replicate n o l (omega arith))
    where
      go : (b : Bool) → of_bay k (replicate n o) l ≡ cond b l [] → cond b (a ∷ of_bay k (replicate n o) l) (of_bay k (replicate n o) l) ≡ cond b (a ∷ l) []
      go true h = ap (λ (r : List A). a ∷ r) h
      go false h = h

  -- how many a bay owns is said by the owners
  pub bay_length : (O : Owners) (l m : List A) → length l ≡ length m → length (of_bay k O l) ≡ length (of_bay k O m)
  unfolding of_bay
  bay_length [] l m e = refl
  bay_length (o ∷ O) [] [] e = refl
  bay_length (o ∷ O) [] (b ∷ m) e = absurd (omega arith)
  bay_length (o ∷ O) (a ∷ l) [] e = absurd (omega arith)
  bay_length (o ∷ O) (a ∷ l) (b ∷ m) e = go (eqb o k) (bay_length O l m (omega arith))
    where
      go : (t : Bool) → length (of_bay k O l) ≡ length (of_bay k O m) → length (cond t (a ∷ of_bay k O l) (of_bay k O l)) ≡ length (cond t (b ∷ of_bay k O m) (of_bay k O m))
      go true h = omega arith
      go false h = h

-- ---- by the owners

module _ {A : Type 0} where
  -- one place more, owned or not
  pub bay_mine : (k o : ℕ) (O : Owners) (a : A) (l : List A) → o ≡ k → of_bay k (o ∷ O) (a ∷ l) ≡ a ∷ of_bay k O l
  unfolding of_bay
  bay_mine k o O a l e = rw (eqb_complete o k e)

  pub bay_other : (k o : ℕ) (O : Owners) (a : A) (l : List A) → ¬ (o ≡ k) → of_bay k (o ∷ O) (a ∷ l) ≡ of_bay k O l
  unfolding of_bay
  bay_other k o O a l n = rw (eqb_differ o k n)

  -- a bay that owns no place, and one that owns a single place
  pub bay_nowhere : (k : ℕ) (O : Owners) (l : List A) → ((m : ℕ) → ¬ (at O m ≡ some k)) → of_bay k O l ≡ []
  unfolding of_bay
  bay_nowhere k [] l h = refl
  bay_nowhere k (o ∷ O) [] h = refl
  bay_nowhere k (o ∷ O) (a ∷ l) h = bay_other k o O a l (λ e. h zero (ap some e)) ∙ bay_nowhere k O l (λ m. h (suc m))

  bay_once : (k : ℕ) (O : Owners) (l : List A) (n : ℕ) {a : A} → at O n ≡ some k → ((m : ℕ) → at O m ≡ some k → m ≡ n) → at l n ≡ some a → of_bay k O l ≡ a ∷ []
  unfolding of_bay
  bay_once k [] l n p u q = absurd (clash (cc))
  bay_once k (o ∷ O) [] n p u q = absurd (clash (cc))
  bay_once k (o ∷ O) (b ∷ l) zero {a} p u q =
      let e : o ≡ k = cc in let f : b ≡ a = cc in
      bay_mine k o O b l e ∙ rw (f, bay_nowhere k O l (λ m h. let z = u (suc m) h in omega arith))
  bay_once k (o ∷ O) (b ∷ l) (suc n) p u q =
      bay_other k o O b l (λ e. let z = u zero (ap some e) in omega arith) ∙ bay_once k O l n p (λ m h. let z = u (suc m) h in omega arith) q

-- one place for each of b bays
abbrev pub each_bay : ℕ → Owners
each_bay b = tabulate b (λ bay. bay)

pub each_bay_only : (b k m : ℕ) → at (each_bay b) m ≡ some k → m ≡ k
each_bay_only b k m h = let (_, e) = tabulate_parts b (λ (bay : ℕ). bay) m h in omega arith

-- what bay k owns of a list of b things, one for each bay, and then one for each again
pub first_own : {A : Type 0} (b k : ℕ) (l m : List A) {a c : A} → length l ≡ b → at l k ≡ some a → at m k ≡ some c → k < b → of_bay k (first_owners b) (l ++ m) ≡ a ∷ c ∷ []
unfolding first_owners
first_own b k l m s p q n = bay_append k (each_bay b) (each_bay b) l m (rw length_tabulate (sym s)) ∙
    rw (bay_once k (each_bay b) l k (tabulate_at b (λ bay. bay) k n) (each_bay_only b k) p, bay_once k (each_bay b) m k (tabulate_at b (λ bay. bay) k n) (each_bay_only b k) q)

-- ---- what a step of thread x leaves, of which `C` are old names and `D` new ones

module _ (k : ℕ) (O : Owners) (x : ℕ) where
  -- no names come
  pub bay_kept : (C : Config) → length C ≡ length O → of_bay k (owners_after O x C) C ≡ of_bay k O C
  unfolding owners_after
  bay_kept C e = bay_short k O (replicate (length C - length O) (owner O x)) C (omega arith)

  -- the names that come are the thread's bay's
  bay_more : (C D : Config) → length C ≡ length O → of_bay k (owners_after O x (C ++ D)) (C ++ D) ≡ of_bay k O C ++ cond (eqb (owner O x) k) D []
  unfolding owners_after
  bay_more C D e =
      let n : length D ≡ length (C ++ D) - length O = omega (arith, length-append C D) in
      bay_append k O (replicate (length (C ++ D) - length O) (owner O x)) C D (sym e) ∙ ap (λ (l : Config). of_bay k O C ++ l) (bay_replicate k (length (C ++ D) - length O) (owner O x) D n)

  pub bay_names : (C C' : Config) → length C ≡ length O → length C ≤ length C' → length (of_bay k (owners_after O x C') C') ≡ length (of_bay k O C) + for_bay k (owner O x) (length C' - length C)
  bay_names C C' e l =
      let n = length O in
      let old : length (take n C') ≡ length O = length-take-le n C' (omega arith) in
      ap (λ (l : Config). length (of_bay k (owners_after O x l) l)) (sym (take-append-drop n C'))
      ∙ ap length (bay_more (take n C') (drop n C') old)
      ∙ length-append (of_bay k O (take n C')) (cond (eqb (owner O x) k) (drop n C') [])
      ∙ ap₂ ◌+◌ (bay_length k O (take n C') C (old ∙ sym e)) (picked (eqb (owner O x) k) ∙ ap (for_bay k (owner O x)) (length-drop n C' ∙ omega arith))
    where
      picked : (b : Bool) → length (cond b (drop (length O) C') []) ≡ cond b (length (drop (length O) C')) 0
      picked true = refl
      picked false = refl

-- ---- sums

module _ (measure : Component → ℕ) (k : ℕ) where
  -- a change at x
  pub bay_set : (O : Owners) (C : Config) (x : ℕ) (a : Component) {c : Component} → at C x ≡ some c → x < length O →
      sum_all measure (of_bay k O (set C x a)) + for_bay k (owner O x) (measure c) ≡ sum_all measure (of_bay k O C) + for_bay k (owner O x) (measure a)
  unfolding of_bay sum_all
  bay_set [] C x a h l = absurd (omega arith)
  bay_set (o ∷ O) [] x a h l = absurd (clash (cc))
  bay_set (o ∷ O) (b ∷ C) zero a {c} h l = let e : b ≡ c = cc in go (eqb o k) (ap measure e)
    where
      go : (t : Bool) → measure b ≡ measure c →
          sum_all measure (cond t (a ∷ of_bay k O C) (of_bay k O C)) + cond t (measure c) 0 ≡ sum_all measure (cond t (b ∷ of_bay k O C) (of_bay k O C)) + cond t (measure a) 0
      go true e = omega arith
      go false e = refl
  bay_set (o ∷ O) (b ∷ C) (suc x) a {c} h l = go (eqb o k) (bay_set O C x a h (omega arith))
    where
      go : (t : Bool) → sum_all measure (of_bay k O (set C x a)) + for_bay k (owner O x) (measure c) ≡ sum_all measure (of_bay k O C) + for_bay k (owner O x) (measure a) →
          sum_all measure (cond t (b ∷ of_bay k O (set C x a)) (of_bay k O (set C x a))) + for_bay k (owner O x) (measure c)
          ≡ sum_all measure (cond t (b ∷ of_bay k O C) (of_bay k O C)) + for_bay k (owner O x) (measure a)
      go true e = omega (arith, e)
      go false e = e

  -- what new names bring
  pub bay_grown : (O : Owners) (x : ℕ) (C D : Config) → length C ≡ length O →
      sum_all measure (of_bay k (owners_after O x (C ++ D)) (C ++ D)) ≡ sum_all measure (of_bay k O C) + for_bay k (owner O x) (sum_all measure D)
  unfolding sum_all
  bay_grown O x C D e = ap (sum_all measure) (bay_more k O x C D e) ∙ sum_append measure (of_bay k O C) (cond (eqb (owner O x) k) D []) ∙ ap (λ (n : ℕ). sum_all measure (of_bay k O C) + n) (picked (eqb (owner O x) k))
    where
      picked : (b : Bool) → sum_all measure (cond b D []) ≡ cond b (sum_all measure D) 0
      picked true = refl
      picked false = refl

  -- name by name
  pub bay_tabulated : (n : ℕ) (o : ℕ → ℕ) (c : ℕ → Component) → sum_all measure (of_bay k (tabulate n o) (tabulate n c)) ≡ sum_below n (λ i. for_bay k (o i) (measure (c i)))
  unfolding tabulate sum_below sum_all of_bay
  bay_tabulated zero o c = refl
  bay_tabulated (suc n) o c =
      ap (sum_all measure) (bay_append k (tabulate n o) (o n ∷ []) (tabulate n c) (c n ∷ []) (length_tabulate n o ∙ sym (length_tabulate n c)))
      ∙ sum_append measure (of_bay k (tabulate n o) (tabulate n c)) (cond (eqb (o n) k) (c n ∷ []) [])
      ∙ ap₂ ◌+◌ (bay_tabulated n o c) (picked (eqb (o n) k))
    where
      picked : (b : Bool) → sum_all measure (cond b (c n ∷ []) []) ≡ cond b (measure (c n)) 0
      picked true = omega arith
      picked false = refl

-- how many components there are is a sum too
pub length_sum : (C : Config) → length C ≡ sum_all (λ c. 1) C
unfolding sum_all
length_sum [] = refl
length_sum (c ∷ C) = omega (arith, length_sum C)

-- ---- the highest owner

pub bays_append : (O P : Owners) → bays_in (O ++ P) ≡ max (bays_in O) (bays_in P)
unfolding bays_in
bays_append [] P = omega arith
bays_append (o ∷ O) P = let e = bays_append O P in omega arith

module _ (f : ℕ → ℕ) where
  bays_next : (i : ℕ) → bays_in (tabulate (i + 1) f) ≡ max (bays_in (tabulate i f)) (suc (f i))
  unfolding tabulate bays_in
  bays_next i = let e = ap (λ (n : ℕ). bays_in (tabulate n f)) (add-one i) in let h = bays_append (tabulate i f) (f i ∷ []) in omega arith

  -- one owner more: higher than those before, or not
  pub bays_raised : (i : ℕ) → bays_in (tabulate i f) ≤ f i → bays_in (tabulate (i + 1) f) ≡ f i + 1
  bays_raised i l = let e = bays_next i in omega arith

  pub bays_still : (i : ℕ) → f i < bays_in (tabulate i f) → bays_in (tabulate (i + 1) f) ≡ bays_in (tabulate i f)
  bays_still i l = let e = bays_next i in omega arith

  -- no bay from b on has owners
  pub bays_most : (n b : ℕ) → ((i : ℕ) → i < n → f i < b) → bays_in (tabulate n f) ≤ b
  unfolding tabulate bays_in
  bays_most zero b h = omega arith
  bays_most (suc n) b h = omega (arith, bays_append (tabulate n f) (f n ∷ []), bays_most n b (λ i l. h i (omega arith)), h n (omega arith))
