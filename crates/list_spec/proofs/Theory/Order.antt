-- The order of byte strings is strict and total; what a bound says behind a piece.
use Rattle.std.specs.Prelude.{◌≡◌, refl, Bool, cond, false, true, List, [], ◌++◌, ◌∷◌, ◌<◌, ℕ, ltb}
use Rattle.std.proofs.Common.{arith}
use Rattle.calculus.proofs.Theory.Tests.{ltb_sound, ltb_false}
use Rattle.list_spec.specs.Order.{Before, shorter, lower, same, Bound, free, above, After, Passed, behind, on, pass, passed}

-- what comes before another is not the other
not_equal : {l m : List ℕ} → Before l m → l ≡ m → ⊥
not_equal shorter e = cc
not_equal (lower {x = x} {y = y} h) e = let z : x ≡ y = cc in omega arith
not_equal (same b) e = not_equal b (cc)

pub before_irreflexive : {l : List ℕ} → Before l l → ⊥
before_irreflexive b = not_equal b refl

pub before_trans : {l m n : List ℕ} → Before l m → Before m n → Before l n
before_trans shorter (lower h) = shorter
before_trans shorter (same b) = shorter
before_trans (lower {x = x} h) (lower {y = z} k) = let b : x < z = omega arith in lower b
before_trans (lower h) (same b) = lower h
before_trans (same b) (lower h) = lower h
before_trans (same b) (same c) = same (before_trans b c)

pub before_asymmetric : {l m : List ℕ} → Before l m → Before m l → ⊥
before_asymmetric b c = before_irreflexive (before_trans b c)

-- one of the three
pub data Ordered : List ℕ → List ℕ → Type 0 where
  earlier : {l m : List ℕ} → Before l m → Ordered l m
  equal : {l : List ℕ} → Ordered l l
  later : {l m : List ℕ} → Before m l → Ordered l m

ordered_more : (x : ℕ) {l m : List ℕ} → Ordered l m → Ordered (x ∷ l) (x ∷ m)
ordered_more x (earlier b) = earlier (same b)
ordered_more x equal = equal
ordered_more x (later b) = later (same b)

pub ordered : (l m : List ℕ) → Ordered l m
ordered [] [] = equal
ordered [] (y ∷ m) = earlier shorter
ordered (x ∷ l) [] = later shorter
ordered (x ∷ l) (y ∷ m) = go (ordered l m) (ltb x y) refl (ltb y x) refl
  where
    go : Ordered l m → (a : Bool) → ltb x y ≡ a → (b : Bool) → ltb y x ≡ b → Ordered (x ∷ l) (y ∷ m)
    go o true p b q = earlier (lower (ltb_sound x y p))
    go o false p true q = later (lower (ltb_sound y x q))
    go o false p false q = let z : x ≡ y = omega (arith, ltb_false x y p, ltb_false y x q) in rw z (ordered_more y o)

pub nothing_before : (v : List ℕ) → Before v [] → ⊥
nothing_before [] b = elim b [ ]
nothing_before (x ∷ v) b = elim b [ ]

-- two pieces that differ at a place where both have a byte, the first lower
pub data Lower : List ℕ → List ℕ → Type 0 where
  lower_here : {x y : ℕ} {l m : List ℕ} → x < y → Lower (x ∷ l) (y ∷ m)
  lower_behind : {x : ℕ} {l m : List ℕ} → Lower l m → Lower (x ∷ l) (x ∷ m)

-- whatever goes on behind them
pub lower_before : {p q : List ℕ} (u v : List ℕ) → Lower p q → Before (p ++ u) (q ++ v)
lower_before u v (lower_here h) = lower h
lower_before u v (lower_behind b) = same (lower_before u v b)

-- what is left behind a byte that both begin with
behind_equal : {x y : ℕ} {l m : List ℕ} → Before (x ∷ l) (y ∷ m) → x ≡ y → Before l m
behind_equal (lower h) e = absurd (omega arith)
behind_equal (same b) e = b

tail_before : {x : ℕ} {l m : List ℕ} → Before (x ∷ l) (x ∷ m) → Before l m
tail_before b = behind_equal b refl

pub before_drop : (p : List ℕ) {u v : List ℕ} → Before (p ++ u) (p ++ v) → Before u v
before_drop [] b = b
before_drop (x ∷ p) b = before_drop p (tail_before b)

pub before_add : (p : List ℕ) {u v : List ℕ} → Before u v → Before (p ++ u) (p ++ v)
before_add [] b = b
before_add (x ∷ p) b = same (before_add p b)

-- what `pass` says of what goes on behind a piece
abbrev pub Says : List ℕ → List ℕ → Passed → Type 0
Says l p behind = (w : List ℕ) → Before l (p ++ w) → ⊥
Says l p (on b) = (w : List ℕ) → (Before l (p ++ w) → After b w) × (After b w → Before l (p ++ w))

not_less : {x y : ℕ} {l m : List ℕ} → x < y → Before (y ∷ l) (x ∷ m) → ⊥
not_less h (lower k) = omega arith
not_less h (same b) = omega arith

says_more : (x : ℕ) (l p : List ℕ) (o : Passed) → Says l p o → Says (x ∷ l) (x ∷ p) o
says_more x l p behind h = λ w b. h w (tail_before b)
says_more x l p (on b) h = λ w. (λ c. (h w).0 (tail_before c), λ c. same ((h w).1 c))

pub pass_says : (l p : List ℕ) → Says l p (pass l p)
unfolding pass
pass_says l [] = λ w. (λ b. b, λ b. b)
pass_says [] (x ∷ p) = λ w. (λ b. tt, λ b. shorter)
pass_says (y ∷ l) (x ∷ p) = go (pass_says l p) (ltb x y) refl (ltb y x) refl
  where
    go : Says l p (pass l p) → (a : Bool) → ltb x y ≡ a → (b : Bool) → ltb y x ≡ b → Says (y ∷ l) (x ∷ p) (cond a behind (cond b (on free) (pass l p)))
    go h true e b f = λ w c. not_less (ltb_sound x y e) c
    go h false e true f = λ w. (λ c. tt, λ c. lower (ltb_sound y x f))
    go h false e false f = let z : x ≡ y = omega (arith, ltb_false x y e, ltb_false y x f) in rw z (says_more y l p (pass l p) h)

-- the same for a bound
abbrev pub SaysOf : Bound → List ℕ → Passed → Type 0
SaysOf low p behind = (w : List ℕ) → After low (p ++ w) → ⊥
SaysOf low p (on b) = (w : List ℕ) → (After low (p ++ w) → After b w) × (After b w → After low (p ++ w))

from_says : (l p : List ℕ) (o : Passed) → Says l p o → SaysOf (above l) p o
from_says l p behind h = h
from_says l p (on b) h = h

pub passed_says : (low : Bound) (p : List ℕ) → SaysOf low p (passed low p)
passed_says free p = λ w. (λ b. b, λ b. b)
passed_says (above l) p = from_says l p (pass l p) (pass_says l p)
