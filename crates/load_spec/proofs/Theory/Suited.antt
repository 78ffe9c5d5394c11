-- T-09: causes 20 and 21 do not fit exactly where the profile's conditions hold of the recipe that a file says.
use Rattle.std.specs.Prelude.{◌≡◌, refl, ◌↔◌, Bool, false, not, true, List, ℕ, length}
use Rattle.std.proofs.Common.{sym}
use Rattle.calculus.specs.Lowest.{first_cause}
use Rattle.calculus.specs.Profile.{Profile, common, separate, own_settings_test, Suits}
use Rattle.calculus.specs.Recipe.{start}
use Rattle.calculus.specs.Shares.{shares_test}
use Rattle.calculus.specs.Syntax.{Exp}
use Rattle.calculus.specs.Table.{Table}
use Rattle.calculus.proofs.Theory.Lowest.{none_fits, none_first}
use Rattle.calculus.proofs.Theory.Shares.{own_settings_iff, shares_test_iff}
use Rattle.check_spec.specs.Recipe.{Recipe}
use Rattle.check_spec.proofs.Theory.Accepted.{table_is, nums_are, terms_are}
use Rattle.load_spec.specs.Starting.{starting_state}
use Rattle.load_spec.specs.Loading.{cause_20, cause_21, profile_causes}

-- a test that is not passed is a cause that fits
fails_not : (b : Bool) → (not b ≡ false) ↔ (b ≡ true)
fails_not true = (λ e. refl, λ e. refl)
fails_not false = (λ e. sym e, λ e. sym e)

module _ {file : List ℕ} {T : Table} {ns : List ℕ} {es : List Exp} (r : Recipe file T ns es) where
  starts_as : (starting_state file).owned ≡ (start T ns es).owned
  starts_as = rw (table_is r, nums_are r, terms_are r) refl

  pub own_settings_suit : (cause_20 file ≡ false) ↔ (own_settings_test 0 es ≡ true)
  unfolding cause_20
  own_settings_suit = rw (terms_are r) (fails_not (own_settings_test 0 es))

  pub shares_suit : (cause_21 file ≡ false) ↔ (shares_test (length es) (start T ns es).owned ≡ true)
  unfolding cause_21
  shares_suit = rw (starts_as, ← r.count) (fails_not (shares_test (length es) (start T ns es).owned))

-- none of a profile's causes fits exactly where the recipe suits it
pub suits_iff : (p : Profile) {file : List ℕ} {T : Table} {ns : List ℕ} {es : List Exp} → Recipe file T ns es → (first_cause (profile_causes p file) ≡ 0) ↔ Suits p es (start T ns es).owned
suits_iff common r = (λ e. tt, λ w. refl)
suits_iff separate {file} {T} {ns} {es} r = (
  λ e.
      let (a, (b, u)) = none_fits (profile_causes separate file) tt e in
      ((own_settings_iff es).0 ((own_settings_suit r).0 a), (shares_test_iff (length es) (start T ns es).owned).0 ((shares_suit r).0 b)),
  λ (o, w).
      none_first (profile_causes separate file) ((own_settings_suit r).1 ((own_settings_iff es).1 o), ((shares_suit r).1 ((shares_test_iff (length es) (start T ns es).owned).1 w), tt)),
)
