-- What each bay owns in the starting image: its setting and its thread. Cause 21 bay by bay.
use mathlib.Core.Path.{◌≡◌, ap, refl}
use mathlib.Core.Bool.{not}
use mathlib.Core.List.{List, [], ◌∷◌}
use Prim.Native.Nat.{◌<◌, ◌≤◌, ℕ}
use native.Mathlib.Nat.{le-div_iff_mul-le}
use native.Mathlib.Omega.{arith}
use Rattle.calculus.specs.Lists.{each_below, tabulate}
use Rattle.calculus.specs.Syntax.{thread_of, sum_all, sum_in}
use Rattle.calculus.specs.Image.{nodes}
use Rattle.calculus.specs.Owners.{first_owners}
use Rattle.calculus.specs.Recipe.{loaded, setting_with}
use Rattle.calculus.specs.Shares.{bay_components, names_share, share_test, shares_test}
use Rattle.calculus.proofs.Theory.Tests.{leb_complete}
use Rattle.calculus.proofs.Theory.Tabulate.{each_below_same, length_tabulate, map_tabulate, tabulate_at}
use Rattle.calculus.proofs.Theory.BaySums.{first_own}
use Rattle.recipe_file.specs.File.{bays}
use Rattle.recipe_file.specs.Starting.{starting_num, starting_nums}
use Rattle.check_spec.specs.Bays.{bay_term, bay_terms}
use Rattle.check_spec.specs.Verdict.{refusal}
use Rattle.load_spec.specs.Starting.{starting_state}
use Rattle.load_spec.specs.Loading.{cause_21}
use Rattle.check_separate.specs.Tests.{bay_fits, starting_nodes}
use Rattle.check_separate.proofs.Known.{few_bays, some_bay}

-- a bay owns its setting and its thread
pub bay_starts_with : (s : List ℕ) (bay : ℕ) → bay < bays s →
    bay_components bay (starting_state s).owned ≡ setting_with (starting_num s bay) ∷ thread_of (bay_term s bay) ∷ []
unfolding loaded first_owners starting_nums bay_terms
bay_starts_with s bay l =
    let b = bays s in
    rw (length_tabulate b (bay_term s), map_tabulate setting_with b (starting_num s), map_tabulate thread_of b (bay_term s))
    (first_own b bay (tabulate b (λ k. setting_with (starting_num s k))) (tabulate b (λ k. thread_of (bay_term s k))) (length_tabulate b (λ k. setting_with (starting_num s k)))
    (tabulate_at b (λ k. setting_with (starting_num s k)) bay l) (tabulate_at b (λ k. thread_of (bay_term s k)) bay l) l)

-- so it has two names, and the nodes of a num and of its term
module _ (s : List ℕ) (accepted : refusal s ≡ 0) (bay : ℕ) (l : bay < bays s) where
  two_names : 2 ≤ names_share (bays s)
  two_names = (le-div_iff_mul-le (some_bay s accepted)).1 (omega (arith, few_bays s accepted))

  nodes_of : sum_all (sum_in nodes) (setting_with (starting_num s bay) ∷ thread_of (bay_term s bay) ∷ []) ≡ starting_nodes s bay
  unfolding sum_all sum_in nodes starting_nodes
  nodes_of = omega arith

  share_is : share_test (bays s) (starting_state s).owned bay ≡ bay_fits s bay
  unfolding share_test bay_fits
  share_is = rw (bay_starts_with s bay l, leb_complete 2 (names_share (bays s)) two_names, nodes_of) refl

pub cause_21_is : (s : List ℕ) → refusal s ≡ 0 → cause_21 s ≡ not (each_below (bays s) (bay_fits s))
unfolding cause_21 shares_test
cause_21_is s accepted = ap not (each_below_same (bays s) _ _ (share_is s accepted))
