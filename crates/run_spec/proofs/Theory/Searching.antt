-- Looking along names: the first that goes, what it says that nobody does, and where a number comes from.
use Rattle.std.proofs.Common.{◌∙◌, ap, sym, inl, inr, arith}
use Rattle.std.specs.Prelude.{◌≡◌, refl, ◌⊎◌, Bool, cond, ℕ, zero, suc, ◌+◌, ◌-◌, ◌<◌, ◌≤◌, eqb, length}
use Rattle.std.proofs.Math.Bool.{false, true}
use Rattle.std.proofs.Math.Option.{some}
use mathlib.Core.List.{List, [], ◌∷◌, ◌++◌, append-nil}
use Rattle.std.proofs.Math.Decide.{dec_lt}
use Rattle.calculus.specs.Syntax.{at}
use Rattle.calculus.proofs.Theory.Lists.{append_left, append_right}
use Rattle.calculus.proofs.Theory.Tests.{clash, eqb_complete, eqb_differ}
use Rattle.run_spec.specs.Course.{Look, goes, lacks_room, rests, passes_on, look, upward, going_round, Search, found, nobody, met, looking_on, look_along}
use Rattle.run_spec.specs.HouseRunner.{up_to}

-- x stands in a list
abbrev pub In : ℕ → List ℕ → Type 0
In x l = (i : ℕ) × (at l i ≡ some x)

-- a look finds that it goes; `CanStep` says the same by the answers of its steps (Looks, `goes_iff`)
abbrev pub GoesAt : List ℕ → ℕ → Type 0
GoesAt image x = (image' : List ℕ) × (look image x ≡ goes image')

-- ---- nobody

-- nobody of a list goes, and `now` says whether one of them, or one before, lacked room
pub record Nobody (image : List ℕ) (before : Bool) (xs : List ℕ) (now : Bool) : Type 0 where
  pub none : (z : ℕ) → In z xs → ¬ GoesAt image z
  pub one_lacked : now ≡ true → (before ≡ true) ⊎ ((z : ℕ) × (look image z ≡ lacks_room))
  pub lacked_before : before ≡ true → now ≡ true
  pub lacked_here : (z : ℕ) → In z xs → look image z ≡ lacks_room → now ≡ true

module _ (image : List ℕ) (x : ℕ) (xs : List ℕ) where
  none_of : ((s : List ℕ) → ¬ (look image x ≡ goes s)) → ((z : ℕ) → In z xs → ¬ GoesAt image z) → (z : ℕ) → In z (x ∷ xs) → ¬ GoesAt image z
  none_of n f z (zero, h) (s, g) = let e : x ≡ z = cc in n s (ap (look image) e ∙ g)
  none_of n f z (suc i, h) g = f z (i, h) g

  lacked_of : {now : Bool} → (look image x ≡ lacks_room → now ≡ true) → ((z : ℕ) → In z xs → look image z ≡ lacks_room → now ≡ true) →
      (z : ℕ) → In z (x ∷ xs) → look image z ≡ lacks_room → now ≡ true
  lacked_of n f z (zero, h) g = let e : x ≡ z = cc in n (ap (look image) e ∙ g)
  lacked_of n f z (suc i, h) g = f z (i, h) g

pub search_nobody : (image : List ℕ) (lacked : Bool) (xs : List ℕ) {now : Bool} → look_along image lacked xs ≡ nobody now → Nobody image lacked xs now
unfolding look_along looking_on
search_nobody image lacked [] {now} e =
    let q : lacked ≡ now = cc in
    record {
      none = λ z (i, h) g. clash (cc);
      one_lacked = λ t. inl (q ∙ t);
      lacked_before = λ t. sym q ∙ t;
      lacked_here = λ z (i, h) g. absurd (clash (cc));
    }
search_nobody image lacked (x ∷ xs) {now} e = go (look image x) refl e (λ l. search_nobody image l xs)
  where
    go : (k : Look) → look image x ≡ k → looking_on k x lacked (λ l. look_along image l xs) ≡ nobody now →
        ((l : Bool) → look_along image l xs ≡ nobody now → Nobody image l xs now) → Nobody image lacked (x ∷ xs) now
    go (goes s) p q ih = absurd (clash (cc))
    go lacks_room p q ih =
        let r = ih true q in
        record {
          none = none_of image x xs (λ s g. clash (cc)) r.none;
          one_lacked = λ t. inr (x, p);
          lacked_before = λ t. r.lacked_before refl;
          lacked_here = lacked_of image x xs (λ g. r.lacked_before refl) r.lacked_here;
        }
    go rests p q ih =
        let r = ih lacked q in
        record {
          none = none_of image x xs (λ s g. clash (cc)) r.none;
          one_lacked = r.one_lacked;
          lacked_before = r.lacked_before;
          lacked_here = lacked_of image x xs (λ g. absurd (clash (cc))) r.lacked_here;
        }
    go (passes_on n) p q ih = absurd (clash (cc))

-- ---- what is found

-- y goes, and nobody looked at up to y but y does
abbrev pub First : List ℕ → List ℕ → ℕ → List ℕ → Type 0
First image xs y image' = (look image y ≡ goes image') × ((z : ℕ) → In z (up_to y xs) → GoesAt image z → z ≡ y)

module _ (image : List ℕ) (x : ℕ) (xs : List ℕ) {y : ℕ} {image' : List ℕ} where
  -- x itself goes
  found_here : look image x ≡ goes image' → x ≡ y → First image (x ∷ xs) y image'
  unfolding up_to
  found_here p e = (rw e at p, λ z (i, h) g. only i z h)
    where
      rest : (b : Bool) → b ≡ true → (i z : ℕ) → ¬ (at (cond b [] (up_to y xs)) i ≡ some z)
      rest true t i z h = clash (cc)
      rest false t i z h = clash (cc)

      only : (i z : ℕ) → at (x ∷ cond (eqb x y) [] (up_to y xs)) i ≡ some z → z ≡ y
      only zero z h = cc
      only (suc i) z h = absurd (rest (eqb x y) (eqb_complete x y e) i z h)

  -- x does not
  found_later : ((s : List ℕ) → ¬ (look image x ≡ goes s)) → First image xs y image' → First image (x ∷ xs) y image'
  unfolding up_to
  found_later n (p, f) = (p, λ z (i, h) g. go i z h g)
    where
      rest : (b : Bool) (i z : ℕ) → at (cond b [] (up_to y xs)) i ≡ some z → GoesAt image z → z ≡ y
      rest true i z h g = absurd (clash (cc))
      rest false i z h g = f z (i, h) g

      go : (i z : ℕ) → at (x ∷ cond (eqb x y) [] (up_to y xs)) i ≡ some z → GoesAt image z → z ≡ y
      go zero z h (s, q) = let e : x ≡ z = cc in absurd (n s (ap (look image) e ∙ q))
      go (suc i) z h g = rest (eqb x y) i z h g

pub search_found : (image : List ℕ) (lacked : Bool) (xs : List ℕ) {y : ℕ} {image' : List ℕ} → look_along image lacked xs ≡ found y image' → First image xs y image'
unfolding look_along looking_on
search_found image lacked [] e = absurd (clash (cc))
search_found image lacked (x ∷ xs) {y} {image'} e = go (look image x) refl e (λ l. search_found image l xs)
  where
    go : (k : Look) → look image x ≡ k → looking_on k x lacked (λ l. look_along image l xs) ≡ found y image' →
        ((l : Bool) → look_along image l xs ≡ found y image' → First image xs y image') → First image (x ∷ xs) y image'
    go (goes s) p q ih = let e : x ≡ y = cc in let f : s ≡ image' = cc in found_here image x xs (rw f at p) e
    go lacks_room p q ih = found_later image x xs (λ s r. clash (cc)) (ih _ q)
    go rests p q ih = found_later image x xs (λ s r. clash (cc)) (ih _ q)
    go (passes_on n) p q ih = absurd (clash (cc))

-- ---- a number to be passed on

-- it came of a look
pub search_met : (image : List ℕ) (lacked : Bool) (xs : List ℕ) {n : ℕ} → look_along image lacked xs ≡ met n → (z : ℕ) × (look image z ≡ passes_on n)
unfolding look_along looking_on
search_met image lacked [] e = absurd (clash (cc))
search_met image lacked (x ∷ xs) {n} e = go (look image x) refl e (λ l. search_met image l xs)
  where
    go : (k : Look) → look image x ≡ k → looking_on k x lacked (λ l. look_along image l xs) ≡ met n →
        ((l : Bool) → look_along image l xs ≡ met n → (z : ℕ) × (look image z ≡ passes_on n)) → (z : ℕ) × (look image z ≡ passes_on n)
    go (goes s) p q ih = absurd (clash (cc))
    go lacks_room p q ih = ih true q
    go rests p q ih = ih lacked q
    go (passes_on m) p q ih = let e : m ≡ n = cc in (x, rw e at p)

-- ---- two lists

-- looking along two lists, one after the other
unfoldable pub going_on : Search → (Bool → Search) → Search
going_on (found x image') onward = found x image'
going_on (nobody lacked) onward = onward lacked
going_on (met number) onward = met number

pub search_append : (image : List ℕ) (lacked : Bool) (xs ys : List ℕ) → look_along image lacked (xs ++ ys) ≡ going_on (look_along image lacked xs) (λ l. look_along image l ys)
unfolding look_along looking_on going_on
search_append image lacked [] ys = refl
search_append image lacked (x ∷ xs) ys = go (look image x) (λ l. search_append image l xs ys)
  where
    go : (k : Look) → ((l : Bool) → look_along image l (xs ++ ys) ≡ going_on (look_along image l xs) (λ l. look_along image l ys)) →
        looking_on k x lacked (λ l. look_along image l (xs ++ ys)) ≡ going_on (looking_on k x lacked (λ l. look_along image l xs)) (λ l. look_along image l ys)
    go (goes s) ih = refl
    go lacks_room ih = ih true
    go rests ih = ih lacked
    go (passes_on n) ih = refl

-- ---- numbers in order

pub length_upward : (x n : ℕ) → length (upward x n) ≡ n
unfolding upward
length_upward x zero = refl
length_upward x (suc n) = ap suc (length_upward (x + 1) n)

pub at_upward : (x n z : ℕ) → x ≤ z → z < x + n → In z (upward x n)
unfolding upward
at_upward x zero z l h = absurd (omega arith)
at_upward x (suc n) z l h = go (dec_lt x z) (at_upward (x + 1) n z)
  where
    go : Dec (x < z) → (x + 1 ≤ z → z < x + 1 + n → In z (upward (x + 1) n)) → In z (x ∷ upward (x + 1) n)
    go (yes p) ih = let (i, e) = ih (omega arith) (omega arith) in (suc i, e)
    go (no p) ih = let e : x ≡ z = omega arith in (0, ap some e)

in_left : (l m : List ℕ) (z : ℕ) → In z l → In z (l ++ m)
in_left l m z (i, h) = (i, append_left l m i h)

in_right : (l m : List ℕ) (z : ℕ) → In z m → In z (l ++ m)
in_right l m z (i, h) = (length l + i, append_right l m i ∙ h)

-- every number below m comes round
pub all_round : (m next z : ℕ) → z < m → In z (going_round m next)
unfolding going_round
all_round m next z l = go (dec_lt z next)
  where
    go : Dec (z < next) → In z (upward next (m - next) ++ upward 0 next)
    go (yes p) = in_right (upward next (m - next)) (upward 0 next) z (at_upward 0 next z (omega arith) (omega arith))
    go (no p) = in_left (upward next (m - next)) (upward 0 next) z (at_upward next (m - next) z (omega arith) (omega arith))

-- up to y: what stands before it is there
pub up_to_upward : (y x n z : ℕ) (r : List ℕ) → x ≤ z → z < x + n → ((w : ℕ) → x ≤ w → w < z → ¬ (w ≡ y)) → In z (up_to y (upward x n ++ r))
unfolding upward up_to
up_to_upward y x zero z r l h f = absurd (omega arith)
up_to_upward y x (suc n) z r l h f = go (dec_lt x z) (up_to_upward y (x + 1) n z r)
  where
    go : Dec (x < z) → (x + 1 ≤ z → z < x + 1 + n → ((w : ℕ) → x + 1 ≤ w → w < z → ¬ (w ≡ y)) → In z (up_to y (upward (x + 1) n ++ r))) →
        In z (x ∷ cond (eqb x y) [] (up_to y (upward (x + 1) n ++ r)))
    go (yes p) ih =
        let (i, e) = ih (omega arith) (omega arith) (λ w a b. f w (omega arith) b) in
        (suc i, rw (eqb_differ x y (f x (omega arith) p)) e)
    go (no p) ih = let e : x ≡ z = omega arith in (0, ap some e)

pub up_to_past : (y x n z : ℕ) (r : List ℕ) → y < x → In z (up_to y r) → In z (up_to y (upward x n ++ r))
unfolding upward up_to
up_to_past y x zero z r l h = h
up_to_past y x (suc n) z r l h =
    let (i, e) = up_to_past y (x + 1) n z r (omega arith) h in
    (suc i, rw (eqb_differ x y (omega arith)) e)

-- one list by itself
pub up_to_alone : (y n z : ℕ) → z ≤ y → z < n → In z (up_to y (upward 0 n))
up_to_alone y n z l h =
    let (i, e) = up_to_upward y 0 n z [] (omega arith) (omega arith) (λ w a b q. omega arith) in
    (i, sym (ap (λ (r : List ℕ). at (up_to y r) i) (append-nil (upward 0 n))) ∙ e)
