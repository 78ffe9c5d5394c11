-- Document 02, T-09: the profiles under which a recipe is loaded and stepped. A profile says which names a term may say, and which limit decides 15.
use Rattle.std.specs.Prelude.{◌≡◌, Bool, ◌&&◌, true, List, [], ◌∷◌, suc, ℕ, eqb, length}
use Rattle.std.proofs.Math.Option.{some}
use Rattle.calculus.specs.Syntax.{Exp, var, name, const, lam, app, both, case_of, at}
use Rattle.calculus.specs.Names.{count}
use Rattle.calculus.specs.Image.{WithinLimits, limits_test}
use Rattle.calculus.specs.Owners.{Owned}
use Rattle.calculus.specs.Shares.{bays_in, WithinShares, shares_test}

-- document 01's loader and stepper; the second ones
pub data Profile : Type 0 where
  common separate : Profile

-- which limit decides 15, I being the image handed in and I' the outcome: document 01's; in the second profile also that no bay is above its share
abbrev pub HasRoom : Profile → Owned → Owned → Type 0
HasRoom common I I' = WithinLimits I'.config
HasRoom separate I I' = WithinLimits I'.config × WithinShares (bays_in I.owners) I'

-- the same as a test that computes (Theory.Shares, `room_iff`)
abbrev pub room_test : Profile → Owned → Owned → Bool
room_test common I I' = limits_test I'.config
room_test separate I I' = limits_test I'.config && shares_test (bays_in I.owners) I'

-- "bay k's terms name only setting k"; es are the bays' terms
abbrev pub OwnSettings : List Exp → Type 0
OwnSettings es = (bay : ℕ) (e : Exp) → at es bay ≡ some e → (k : ℕ) → ¬ (k ≡ bay) → count k e ≡ 0

-- the same as a test that computes (Theory.Shares, `own_settings_iff`): every name in e is k
unfoldable pub names_only : ℕ → Exp → Bool
names_only k (var i) = true
names_only k (name n) = eqb n k
names_only k (const c) = true
names_only k (lam t e) = names_only k e
names_only k (app f a) = names_only k f && names_only k a
names_only k (both s t e₁ e₂) = names_only k e₁ && names_only k e₂
names_only k (case_of s e₁ e₂) = names_only k e₁ && names_only k e₂

-- the terms of bays k, k + 1, ..
unfoldable pub own_settings_test : ℕ → List Exp → Bool
own_settings_test k [] = true
own_settings_test k (e ∷ es) = names_only k e && own_settings_test (suc k) es

-- what a profile asks of a recipe that is accepted, es being the bays' terms and I the starting image: "a bay that names another's setting" and "a bay that starts above
-- its share" are refused
abbrev pub Suits : Profile → List Exp → Owned → Type 0
Suits common es I = Unit {0}
Suits separate es I = OwnSettings es × WithinShares (length es) I
