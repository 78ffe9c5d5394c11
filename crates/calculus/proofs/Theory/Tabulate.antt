-- Lists by index: length, what stands where, tests and sums.
use Rattle.std.proofs.Common.{◌∙◌, eqb-true}
use Rattle.std.specs.Prelude.{◌≡◌, Bool, ◌&&◌, eqb, replicate, set}
use Rattle.std.proofs.Math.Path.{ap, ap₂, refl, sym}
use Rattle.std.proofs.Math.Bool.{cond, false, true}
use Rattle.std.proofs.Math.Option.{some}
use mathlib.Core.List.{List, [], ◌++◌, ◌∷◌, map}
use Prim.Native.Nat.{◌+◌, ◌<◌, ◌≤◌, suc, zero, ℕ}
use Rattle.std.proofs.Math.Decide.{dec_lt}
use native.Mathlib.Omega.{arith}
use Rattle.std.proofs.lemmas.Bool.{eqb-false}
use Rattle.std.proofs.Math.Dec.{ltb}
use Rattle.std.proofs.Math.ListN.{length, length-append}
use Rattle.std.proofs.lemmas.List.{set-append_left, set_at}
use Rattle.std.proofs.Math.Seq.{set_out}
use Rattle.calculus.proofs.Theory.Configurations.{sum_append}
use Rattle.calculus.specs.Syntax.{Exp, at, thread_of, sum_in, sum_all, Component}
use Rattle.calculus.specs.Lists.{tabulate, each_below, sum_below}
use Rattle.calculus.specs.Image.{nodes, nodes_all}
use Rattle.calculus.specs.Verdict.{every}
use Rattle.calculus.proofs.Theory.Tests.{and_true, and_parts, ltb_complete, ltb_false, ltb_not, ltb_sound}
use Rattle.calculus.proofs.Theory.Lists.{at_bound, at_below, at_past, same_at, append_left, append_right}

module _ {A : Type 0} where
  pub length_tabulate : (n : ℕ) (f : ℕ → A) → length (tabulate n f) ≡ n
  unfolding tabulate
  length_tabulate zero f = refl
  length_tabulate (suc n) f = length-append (tabulate n f) (f n ∷ []) ∙ omega (arith, length_tabulate n f)

  pub tabulate_at : (n : ℕ) (f : ℕ → A) (k : ℕ) → k < n → at (tabulate n f) k ≡ some (f k)
  unfolding tabulate
  tabulate_at zero f k l = absurd (omega arith)
  tabulate_at (suc n) f k l = elim (dec_lt k n) [
    | yes p ↦ append_left (tabulate n f) (f n ∷ []) k (tabulate_at n f k p)
    | no p ↦
        let e : k ≡ length (tabulate n f) + 0 = omega (arith, length_tabulate n f) in
        let q : k ≡ n = omega arith in
        ap (at (tabulate n f ++ (f n ∷ []))) e ∙ append_right (tabulate n f) (f n ∷ []) 0 ∙ ap (λ (i : ℕ). some (f i)) (sym q)
  ]

  -- lists of the same length with the same elements
  pub tabulate_same : (n : ℕ) (f g : ℕ → A) → ((k : ℕ) → k < n → f k ≡ g k) → tabulate n f ≡ tabulate n g
  unfolding tabulate
  tabulate_same zero f g h = refl
  tabulate_same (suc n) f g h = ap₂ (λ (l : List A) (x : A). l ++ (x ∷ [])) (tabulate_same n f g (λ k l. h k (omega arith))) (h n (omega arith))

  -- a loop has come to the end
  pub tabulate_all : (i m n : ℕ) (f : ℕ → A) → i ≤ m → m ≤ i → m ≡ n → tabulate i f ≡ tabulate n f
  tabulate_all i m n f low high e =
      let k : i ≡ n = omega arith in
      rw k

  -- the first value apart
  pub tabulate_first : (n : ℕ) (f : ℕ → A) → tabulate (suc n) f ≡ f 0 ∷ tabulate n (λ i. f (suc i))
  unfolding tabulate
  tabulate_first zero f = refl
  tabulate_first (suc n) f = ap (λ (l : List A). l ++ (f (suc n) ∷ [])) (tabulate_first n f)

  -- the same value everywhere
  pub replicate_tabulated : (n : ℕ) (x : A) → replicate n x ≡ tabulate n (λ k. x)
  unfolding tabulate
  replicate_tabulated zero x = refl
  replicate_tabulated (suc n) x = ap (λ (l : List A). x ∷ l) (replicate_tabulated n x) ∙ sym (tabulate_first n (λ k. x))

  -- a store into a list that is one longer
  set_more : (p q : List A) (n x : ℕ) (a y : A) (b : Bool) → length p ≡ n → eqb n x ≡ b → set p x a ≡ q → set (p ++ (y ∷ [])) x a ≡ q ++ (cond b a y ∷ [])
  set_more p q n x a y true len e h =
      let there : n ≡ x = eqb-true n x e in
      let out : set p x a ≡ p = set_out p x a (omega arith) in
      set_at p y [] a x (len ∙ there) ∙ ap (λ (l : List A). l ++ (a ∷ [])) (sym out ∙ h)
  set_more p q n x a y false len e h = go (dec_lt x n)
    where
      go : Dec (x < n) → set (p ++ (y ∷ [])) x a ≡ q ++ (y ∷ [])
      go (yes l) = set-append_left p (y ∷ []) x a (omega arith) ∙ ap (λ (l : List A). l ++ (y ∷ [])) h
      go (no l) =
          let after : n < x = omega (arith, eqb-false n x e) in
          set_out (p ++ (y ∷ [])) x a (omega (arith, length-append p (y ∷ [])))
          ∙ ap (λ (l : List A). l ++ (y ∷ [])) (sym (set_out p x a (omega arith)) ∙ h)

  -- one value changed: a function with that value
  pub set_tabulate : (n x : ℕ) (f : ℕ → A) (v : A) → set (tabulate n f) x v ≡ tabulate n (λ i. cond (eqb i x) v (f i))
  unfolding tabulate
  set_tabulate zero x f v = refl
  set_tabulate (suc n) x f v = set_more (tabulate n f) _ n x v (f n) (eqb n x) (length_tabulate n f) refl (set_tabulate n x f v)

-- the first i values of f, 0 for the rest: an array that is filled from the front
unfoldable pub filled_to : (ℕ → ℕ) → ℕ → ℕ → ℕ
filled_to f i k = cond (ltb k i) (f k) 0

module _ (n : ℕ) (f : ℕ → ℕ) where
  pub filled_none : replicate {A = ℕ} n 0 ≡ tabulate n (filled_to f 0)
  unfolding filled_to
  filled_none = replicate_tabulated n 0 ∙ tabulate_same n (λ k. 0) (filled_to f 0) (λ k l. sym (ap (λ (b : Bool). cond b (f k) 0) (ltb_not k 0 (omega arith))))

  -- one value more
  pub filled_next : (i v : ℕ) → v ≡ f i → set (tabulate n (filled_to f i)) i v ≡ tabulate n (filled_to f (i + 1))
  unfolding filled_to
  filled_next i v e = set_tabulate n i (filled_to f i) v ∙ tabulate_same n _ (filled_to f (i + 1)) (λ k l. go k (eqb k i) refl)
    where
      past : (k : ℕ) (b : Bool) → ltb k i ≡ b → (k ≡ i → ⊥) → ltb k i ≡ ltb k (i + 1)
      past k true l d = l ∙ sym (ltb_complete k (i + 1) (omega (arith, ltb_sound k i l)))
      past k false l d = l ∙ sym (ltb_not k (i + 1) (omega (arith, ltb_false k i l)))

      go : (k : ℕ) (b : Bool) → eqb k i ≡ b → cond b v (cond (ltb k i) (f k) 0) ≡ cond (ltb k (i + 1)) (f k) 0
      go k true p = let z : k ≡ i = eqb-true k i p in rw (z, e, ltb_complete i (i + 1) (omega arith)) refl
      go k false p = rw (past k (ltb k i) refl (eqb-false k i p)) refl

  -- all values, where those that are left are 0
  pub filled_all : (i : ℕ) → ((k : ℕ) → i ≤ k → f k ≡ 0) → tabulate n (filled_to f i) ≡ tabulate n f
  unfolding filled_to
  filled_all i z = tabulate_same n (filled_to f i) f (λ k l. go k (ltb k i) refl)
    where
      go : (k : ℕ) (b : Bool) → ltb k i ≡ b → cond b (f k) 0 ≡ f k
      go k true p = refl
      go k false p = sym (z k (ltb_false k i p))

-- what stands at a place is a value of f there
pub tabulate_parts : {A : Type 0} (n : ℕ) (f : ℕ → A) (k : ℕ) {x : A} → at (tabulate n f) k ≡ some x → (k < n) × (x ≡ f k)
tabulate_parts n f k h = elim (dec_lt k n) [
  | yes p ↦ (p, let q = tabulate_at n f k p in cc)
  | no p ↦ absurd (let l = at_bound (tabulate n f) k h in p (omega (arith, length_tabulate n f)))
]

-- a list whose elements are the values of f
pub tabulate_is : {A : Type 0} (n : ℕ) (f : ℕ → A) (l : List A) → length l ≡ n → ((k : ℕ) (x : A) → at l k ≡ some x → f k ≡ x) → tabulate n f ≡ l
tabulate_is n f l e h = same_at (tabulate n f) l λ k. elim (dec_lt k n) [
  | yes p ↦ let (x, q) = at_below l k (omega arith) in tabulate_at n f k p ∙ ap some (h k x q) ∙ sym q
  | no p ↦ at_past (tabulate n f) k (omega (arith, length_tabulate n f)) ∙ sym (at_past l k (omega arith))
]

pub map_tabulate : {A B : Type 0} (g : A → B) (n : ℕ) (f : ℕ → A) → map g (tabulate n f) ≡ tabulate n (λ k. g (f k))
unfolding tabulate
map_tabulate g zero f = refl
map_tabulate g (suc n) f = map_append g (tabulate n f) (f n) ∙ ap (λ l. l ++ (g (f n) ∷ [])) (map_tabulate g n f)
  where
    map_append : {A B : Type 0} (g : A → B) (l : List A) (x : A) → map g (l ++ (x ∷ [])) ≡ map g l ++ (g x ∷ [])
    map_append g [] x = refl
    map_append g (y ∷ l) x = ap (λ r. g y ∷ r) (map_append g l x)

and_assoc : (a b c : Bool) → (a && (b && c)) ≡ ((a && b) && c)
and_assoc true b c = refl
and_assoc false b c = refl

and_true_right : (a : Bool) → a ≡ (a && true)
and_true_right true = refl
and_true_right false = refl

-- a test of all terms, one after the other
pub every_tabulate : (test : Exp → Bool) (n : ℕ) (f : ℕ → Exp) → every test (tabulate n f) ≡ each_below n (λ k. test (f k))
unfolding tabulate each_below every
every_tabulate test zero f = refl
every_tabulate test (suc n) f = every_append (tabulate n f) (f n) ∙ ap (λ b. b && test (f n)) (every_tabulate test n f)
  where
    every_append : (es : List Exp) (e : Exp) → every test (es ++ (e ∷ [])) ≡ (every test es && test e)
    every_append [] e = sym (and_true_right (test e))
    every_append (d ∷ es) e = ap (λ b. test d && b) (every_append es e) ∙ and_assoc (test d) (every test es) (test e)

-- each below n passes
pub each_below_sound : (n : ℕ) (test : ℕ → Bool) → each_below n test ≡ true → (k : ℕ) → k < n → test k ≡ true
unfolding each_below
each_below_sound zero test e k l = absurd (omega arith)
each_below_sound (suc n) test e k l = elim (dec_lt k n) [
  | yes p ↦ each_below_sound n test (and_parts (each_below n test) (test n) e).0 k p
  | no p ↦ let q : k ≡ n = omega arith in ap test q ∙ (and_parts (each_below n test) (test n) e).1
]

pub each_below_complete : (n : ℕ) (test : ℕ → Bool) → ((k : ℕ) → k < n → test k ≡ true) → each_below n test ≡ true
unfolding each_below
each_below_complete zero test h = refl
each_below_complete (suc n) test h = and_true (each_below_complete n test (λ k l. h k (omega arith))) (h n (omega arith))

-- tests and sums that are the same below n
pub each_below_same : (n : ℕ) (f g : ℕ → Bool) → ((k : ℕ) → k < n → f k ≡ g k) → each_below n f ≡ each_below n g
unfolding each_below
each_below_same zero f g h = refl
each_below_same (suc n) f g h = ap₂ ◌&&◌ (each_below_same n f g (λ k l. h k (omega arith))) (h n (omega arith))

pub sum_below_same : (n : ℕ) (f g : ℕ → ℕ) → ((k : ℕ) → k < n → f k ≡ g k) → sum_below n f ≡ sum_below n g
unfolding sum_below
sum_below_same zero f g h = refl
sum_below_same (suc n) f g h = ap₂ ◌+◌ (sum_below_same n f g (λ k l. h k (omega arith))) (h n (omega arith))

-- a sum over a configuration, name by name
pub sum_tabulated : (measure : Component → ℕ) (n : ℕ) (f : ℕ → Component) → sum_all measure (tabulate n f) ≡ sum_below n (λ k. measure (f k))
unfolding tabulate sum_below sum_all
sum_tabulated measure zero f = refl
sum_tabulated measure (suc n) f = omega (arith, sum_append measure (tabulate n f) (f n ∷ []), sum_tabulated measure n f)

-- the nodes of all terms
pub nodes_tabulate : (n : ℕ) (f : ℕ → Exp) → nodes_all (map thread_of (tabulate n f)) ≡ sum_below n (λ k. nodes (f k))
unfolding sum_in
nodes_tabulate n f = ap nodes_all (map_tabulate thread_of n f) ∙ sum_tabulated (sum_in nodes) n (λ k. thread_of (f k))
