-- T-09: the tests of shares, of room and of a bay's own setting say what they seem to say.
use Rattle.std.specs.Prelude.{◌≡◌, refl, ◌↔◌, ◌&&◌, true, List, [], ◌∷◌, ◌+◌, suc, zero, ℕ, leb, length}
use Rattle.std.proofs.Common.{sym, arith}
use Rattle.std.proofs.Math.Option.{some}
use Rattle.std.proofs.Math.Decide.{ℕ_discrete}
use Rattle.calculus.specs.Syntax.{Exp, var, name, const, lam, app, both, case_of, at}
use Rattle.calculus.specs.Names.{count}
use Rattle.calculus.specs.Image.{nodes_all, WithinLimits, limits_test}
use Rattle.calculus.specs.Owners.{Owned}
use Rattle.calculus.specs.Shares.{bay_components, bays_in, names_share, nodes_share, Share, WithinShares, share_test, shares_test}
use Rattle.calculus.specs.Profile.{Profile, common, separate, HasRoom, room_test, OwnSettings, names_only, own_settings_test}
use Rattle.calculus.proofs.Theory.Tests.{clash, and_true, and_parts, eqb_sound, eqb_complete, eqb_differ, leb_sound, leb_complete}
use Rattle.calculus.proofs.Theory.Tabulate.{each_below_sound, each_below_complete}
use Rattle.calculus.proofs.Theory.ImageTest.{limits_test_iff}

-- one bay's share
pub share_test_iff : (b : ℕ) (I : Owned) (k : ℕ) → (share_test b I k ≡ true) ↔ Share b I k
unfolding share_test
share_test_iff b I k = (
  λ h. let (p, q) = and_parts (leb (length (bay_components k I)) (names_share b)) (leb (nodes_all (bay_components k I)) (nodes_share b)) h in
      record { few_names = leb_sound (length (bay_components k I)) (names_share b) p; few_nodes = leb_sound (nodes_all (bay_components k I)) (nodes_share b) q },
  λ w. and_true (leb_complete (length (bay_components k I)) (names_share b) w.few_names) (leb_complete (nodes_all (bay_components k I)) (nodes_share b) w.few_nodes),
)

-- all bays' shares
pub shares_test_iff : (b : ℕ) (I : Owned) → (shares_test b I ≡ true) ↔ WithinShares b I
unfolding shares_test
shares_test_iff b I = (
  λ h k l. (share_test_iff b I k).0 (each_below_sound b (share_test b I) h k l),
  λ w. each_below_complete b (share_test b I) (λ k l. (share_test_iff b I k).1 (w k l)),
)

-- a profile's limit
pub room_iff : (p : Profile) (I I' : Owned) → (room_test p I I' ≡ true) ↔ HasRoom p I I'
room_iff common I I' = limits_test_iff I'.config
room_iff separate I I' = (
  λ h. let (l, s) = and_parts (limits_test I'.config) (shares_test (bays_in I.owners) I') h in
      ((limits_test_iff I'.config).0 l, (shares_test_iff (bays_in I.owners) I').0 s),
  λ (w, s). and_true ((limits_test_iff I'.config).1 w) ((shares_test_iff (bays_in I.owners) I').1 s),
)

-- either profile keeps document 01's limits
pub room_limits : (p : Profile) (I I' : Owned) → HasRoom p I I' → WithinLimits I'.config
room_limits common I I' w = w
room_limits separate I I' (w, s) = w

-- "bay k's terms name only setting k", of one term
only_sound : (k : ℕ) (e : Exp) → names_only k e ≡ true → (j : ℕ) → ¬ (j ≡ k) → count j e ≡ 0
unfolding names_only count
only_sound k (var i) h j n = refl
only_sound k (name i) h j n = let e = eqb_sound i k h in rw (eqb_differ i j (λ q. n (omega arith))) refl
only_sound k (const c) h j n = refl
only_sound k (lam t e) h j n = only_sound k e h j n
only_sound k (app f a) h j n = let (p, q) = and_parts (names_only k f) (names_only k a) h in omega (arith, only_sound k f p j n, only_sound k a q j n)
only_sound k (both s t f a) h j n = let (p, q) = and_parts (names_only k f) (names_only k a) h in omega (arith, only_sound k f p j n, only_sound k a q j n)
only_sound k (case_of s f a) h j n = let (p, q) = and_parts (names_only k f) (names_only k a) h in omega (arith, only_sound k f p j n, only_sound k a q j n)

only_complete : (k : ℕ) (e : Exp) → ((j : ℕ) → ¬ (j ≡ k) → count j e ≡ 0) → names_only k e ≡ true
unfolding names_only count
only_complete k (var i) h = refl
only_complete k (name i) h = elim (ℕ_discrete i k) [
  | yes e ↦ eqb_complete i k e
  | no n ↦ let z = h i n in absurd (clash (rw (eqb_complete i i refl) at (sym z)))
]
only_complete k (const c) h = refl
only_complete k (lam t e) h = only_complete k e h
only_complete k (app f a) h = and_true (only_complete k f (λ j n. omega (arith, h j n))) (only_complete k a (λ j n. omega (arith, h j n)))
only_complete k (both s t f a) h = and_true (only_complete k f (λ j n. omega (arith, h j n))) (only_complete k a (λ j n. omega (arith, h j n)))
only_complete k (case_of s f a) h = and_true (only_complete k f (λ j n. omega (arith, h j n))) (only_complete k a (λ j n. omega (arith, h j n)))

pub names_only_iff : (k : ℕ) (e : Exp) → (names_only k e ≡ true) ↔ ((j : ℕ) → ¬ (j ≡ k) → count j e ≡ 0)
names_only_iff k e = (only_sound k e, only_complete k e)

-- of the terms of bays k, k + 1, ..
own_from_iff : (k : ℕ) (es : List Exp) → (own_settings_test k es ≡ true) ↔ ((i : ℕ) (e : Exp) → at es i ≡ some e → names_only (k + i) e ≡ true)
unfolding own_settings_test
own_from_iff k [] = (λ h i e p. absurd (clash (cc)), λ h. refl)
own_from_iff k (e ∷ es) = (there (own_from_iff (suc k) es).0, λ h. and_true (let z : k + 0 ≡ k = omega arith in rw z at (h 0 e refl)) ((own_from_iff (suc k) es).1 (λ i e' p. let z : k + suc i ≡ suc k + i = omega arith in rw z at (h (suc i) e' p))))
  where
    there : (own_settings_test (suc k) es ≡ true → (i : ℕ) (e' : Exp) → at es i ≡ some e' → names_only (suc k + i) e' ≡ true) → (names_only k e && own_settings_test (suc k) es) ≡ true → (i : ℕ) (e' : Exp) → at (e ∷ es) i ≡ some e' → names_only (k + i) e' ≡ true
    there rest h zero e' p = let q : e ≡ e' = cc in let z : k + 0 ≡ k = omega arith in rw (z, ← q) (and_parts (names_only k e) (own_settings_test (suc k) es) h).0
    there rest h (suc i) e' p = let z : k + suc i ≡ suc k + i = omega arith in rw z (rest (and_parts (names_only k e) (own_settings_test (suc k) es) h).1 i e' p)

pub own_settings_iff : (es : List Exp) → (own_settings_test 0 es ≡ true) ↔ OwnSettings es
own_settings_iff es = (
  λ h bay e p. (names_only_iff bay e).0 (let z : 0 + bay ≡ bay = omega arith in rw z at ((own_from_iff 0 es).0 h bay e p)),
  λ h. (own_from_iff 0 es).1 (λ bay e p. let z : 0 + bay ≡ bay = omega arith in rw z ((names_only_iff bay e).1 (h bay e p))),
)
