-- Cause 20 bay by bay.
use mathlib.Core.Path.{◌≡◌, ap, refl, sym, ◌∙◌}
use mathlib.Core.Bool.{◌&&◌, and_assoc, and-true, not, true}
use mathlib.Core.List.{List, [], ◌++◌, ◌∷◌}
use Prim.Native.Nat.{◌+◌, suc, zero, ℕ}
use native.Mathlib.Omega.{arith}
use lib.ListN.{length}
use Rattle.calculus.specs.Lists.{each_below, tabulate}
use Rattle.calculus.specs.Syntax.{Exp}
use Rattle.calculus.specs.Profile.{names_only, own_settings_test}
use Rattle.calculus.proofs.Theory.Tabulate.{length_tabulate}
use Rattle.recipe_file.specs.File.{bays}
use Rattle.check_spec.specs.Bays.{bay_term, bay_terms}
use Rattle.load_spec.specs.Loading.{cause_20}
use Rattle.check_separate.specs.Tests.{bay_owns}

-- one term more
own_append : (k : ℕ) (es : List Exp) (e : Exp) (m : ℕ) → k + length es ≡ m → own_settings_test k (es ++ (e ∷ [])) ≡ (own_settings_test k es && names_only m e)
unfolding own_settings_test
own_append k [] e m h = let z : k ≡ m = omega arith in ap (λ i. names_only i e && true) z ∙ and-true (names_only m e)
own_append k (d ∷ es) e m h =
    ap (λ b. names_only k d && b) (own_append (suc k) es e m (omega arith)) ∙ sym (and_assoc (names_only k d) (own_settings_test (suc k) es) (names_only m e))

own_tabulated : (n : ℕ) (f : ℕ → Exp) → own_settings_test 0 (tabulate n f) ≡ each_below n (λ k. names_only k (f k))
unfolding own_settings_test tabulate each_below
own_tabulated zero f = refl
own_tabulated (suc n) f = own_append 0 (tabulate n f) (f n) n (omega (arith, length_tabulate n f)) ∙ ap (λ b. b && names_only n (f n)) (own_tabulated n f)

pub cause_20_is : (s : List ℕ) → cause_20 s ≡ not (each_below (bays s) (bay_owns s))
unfolding cause_20 bay_terms bay_owns
cause_20_is s = ap not (own_tabulated (bays s) (bay_term s))
