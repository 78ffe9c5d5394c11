-- A stack in an array.
use mathlib.Core.Path.{◌≡◌, ap, ap₂, refl, ◌∙◌}
use mathlib.Core.List.{List, [], ◌∷◌}
use Prim.Native.Nat.{◌+◌, ◌-◌, ◌<◌, ◌≤◌, suc, zero, ℕ}
use native.Mathlib.Omega.{arith}
use lib.ListN.{get_or, length, length-set, set}
use lib.Seq.{get_or-set_other, get_or-set_same}
use Rattle.term_walk.specs.Frames.{below, opened, Passed, stack_of, top_of}

pub length_stack : (n : ℕ) (a : List ℕ) → length (stack_of n a) ≡ n
unfolding stack_of
length_stack zero a = refl
length_stack (suc n) a = ap suc (length_stack n a)

-- a store past the top leaves it
stack_set : (n : ℕ) (a : List ℕ) (i x : ℕ) → n ≤ i → stack_of n (set a i x) ≡ stack_of n a
unfolding stack_of
stack_set zero a i x h = refl
stack_set (suc n) a i x h = ap₂ ◌∷◌ (get_or-set_other a i n x 0 (omega arith)) (stack_set n a i x (omega arith))

-- the top
pub top : (n : ℕ) (a : List ℕ) → 0 < n → get_or a (n - 1) 0 ≡ top_of (stack_of n a)
unfolding stack_of
top zero a some = absurd (omega arith)
top (suc n) a some =
    let e : suc n - 1 ≡ n = omega arith in
    ap (λ x. get_or a x 0) e

-- those below it
pub below_stack : (n : ℕ) (a : List ℕ) → below (stack_of n a) ≡ stack_of (n - 1) a
unfolding stack_of
below_stack zero a = refl
below_stack (suc n) a = let e : suc n - 1 ≡ n = omega arith in rw e refl

-- frames with one on top
pub pop : (ds : List ℕ) → 0 < length ds → ds ≡ top_of ds ∷ below ds
pop [] some = absurd (omega arith)
pop (d ∷ ds) some = refl

-- past a node there are as many
pub length_opened : (k x y : ℕ) (ds : List ℕ) → k ≤ 2 → length (opened k x y ds) ≡ length ds + k
unfolding opened
length_opened zero x y ds h = omega arith
length_opened (suc zero) x y ds h = omega arith
length_opened (suc (suc k)) x y ds h = omega arith

pub length_below : (ds : List ℕ) → length (below ds) ≡ length ds - 1
length_below [] = refl
length_below (d ∷ ds) = omega arith

-- what `pass` stores
module _ (a : List ℕ) (n x y : ℕ) (room : suc n < length a) where
  -- the frame of the last subterm in the place of the node's own, that of the first on top of it
  abbrev stored : List ℕ
  stored = set (set a n y) (suc n) x

  below_last : stack_of n stored ≡ stack_of n a
  below_last = stack_set n (set a n y) (suc n) x (omega arith) ∙ stack_set n a n y (omega arith)

  is_last : get_or stored n 0 ≡ y
  is_last = get_or-set_other (set a n y) (suc n) n x 0 (omega arith) ∙ get_or-set_same a n y 0 (omega arith)

  is_first : get_or stored (suc n) 0 ≡ x
  is_first = get_or-set_same (set a n y) (suc n) x 0 (omega (arith, length-set a n y))

  stored_frames : (k : ℕ) → k ≤ 2 → (m : ℕ) → m ≡ n + k → stack_of m stored ≡ opened k x y (stack_of n a)
  unfolding stack_of opened
  stored_frames zero h m e = let z : m ≡ n = omega arith in rw z below_last
  stored_frames (suc zero) h m e = let z : m ≡ suc n = omega arith in rw z (ap₂ ◌∷◌ is_last below_last)
  stored_frames (suc (suc zero)) h m e = let z : m ≡ suc (suc n) = omega arith in rw z (ap₂ ◌∷◌ is_first (ap₂ ◌∷◌ is_last below_last))
  stored_frames (suc (suc (suc k))) h m e = absurd (omega arith)

pub passed : (a : List ℕ) (waits k x y : ℕ) → 0 < waits → waits < length a → k ≤ 2 → Passed a waits k x y (set (set a (waits - 1) y) waits x) (waits - 1 + k)
passed a zero k x y some room few = absurd (omega arith)
passed a (suc n) k x y some room few =
    let e : suc n - 1 ≡ n = omega arith in
    rw e
    (record {
      frames = rw e (stored_frames a n x y room k few (n + k) refl);
      left = rw e refl;
      room = length-set (set a n y) (suc n) x ∙ length-set a n y;
    })

-- so past a node they are as many as are still to come
pub length_passed : (k x y : ℕ) (ds : List ℕ) {new : List ℕ} → k ≤ 2 → new ≡ opened k x y (below ds) → length new ≡ length ds - 1 + k
length_passed k x y ds few e = omega (arith, ap length e, length_opened k x y (below ds) few, length_below ds)
