-- `all` over the numbers below n: each passes the test.
use Rattle.std.proofs.Common.{◌∙◌, ap, sym}
use Rattle.std.specs.Prelude.{◌≡◌, refl, Option, None, Bool, ◌&&◌, true, false, List, suc, zero, ℕ, ◌+◌}
use native.Mathlib.Omega.{arith}
use mathlib.Core.Bool.{and_assoc, and-true}
use denote.Param.Members.{Mut}
use Rattle.std.specs.declared.ops.Range.{Range}
use Rattle.std.specs.Fn.{Called}
use Rattle.std.specs.Iterator.{YieldsThen}
use Rattle.std.specs.List.{FoldsTo, list_all, range_with_len}
use Rattle.std.specs.Option.{MatchOption}
use Rattle.std.proofs.iter.Yields.{nat_range_steps}
use Rattle.std.proofs.lemmas.Iterator.{YieldsList-from_range}
use Rattle.std.proofs.lemmas.Iterator.Search.{all_from_yields_List}
use Rattle.calculus.specs.Lists.{each_below}

-- the last number apart
all_last : (test : ℕ → Bool) (a n m : ℕ) → a + n ≡ m → list_all test (range_with_len a (suc n)) ≡ (list_all test (range_with_len a n) && test m)
all_last test a zero m h = let e : a ≡ m = omega arith in and-true (test a) ∙ ap test e
all_last test a (suc n) m h = ap (λ b. test a && b) (all_last test (a + 1) n m (omega arith)) ∙ sym (and_assoc (test a) (list_all test (range_with_len (a + 1) n)) (test m))

all_listed : (test : ℕ → Bool) (n : ℕ) → list_all test (range_with_len 0 n) ≡ each_below n test
unfolding each_below
all_listed test zero = refl
all_listed test (suc n) = all_last test 0 n n (omega arith) ∙ ap (λ b. b && test n) (all_listed test n)

-- what `all` answers over a range, where each call answers the test
pub all_below : {F : Type 0} {g : Mut F (ℕ × Unit {0}) Bool} {m n : ℕ} → m ≡ n → (test : ℕ → Bool) (u : Range ℕ) (f : F) (r : Bool)
    → (xs : List ℕ) × (o : Option ℕ) × (j : F) × YieldsThen nat_range_steps (record { start = 0; end = m }) xs o u × FoldsTo (λ p x q. Called g p (x, tt) true q) f xs j × MatchOption o (r ≡ true) (λ x. (r ≡ false) × ((h : F) × Called g j (x, tt) false h))
    → ((x : ℕ) (b : Bool) (q : F) → Called g f (x, tt) b q → (q ≡ f) × (b ≡ test x))
    → r ≡ each_below n test
all_below {m = m} e test u f r ran says =
    all_from_yields_List test u f r ran (YieldsList-from_range 0 m m refl (omega arith)) says ∙ all_listed test m ∙ ap (λ n. each_below n test) e
