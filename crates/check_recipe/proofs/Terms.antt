-- Causes 5 and 6, by the answers of the loops.
use mathlib.Core.Path.{◌∙◌, ◌≡◌, refl, sym}
use mathlib.Core.Bool.{Bool, ◌||◌, cond, false, not, true}
use mathlib.Core.List.{List, [], ◌∷◌}
use Prim.Native.Nat.{◌<◌, ◌≤◌, ℕ}
use native.Mathlib.Omega.{arith}
use lib.Dec.{ltb}
use borrow.Author.Tests.{not-false}
use Rattle.recipe_file.proofs.LaidOut.{or_parts}
use Rattle.calculus.proofs.Theory.Lowest.{none_fits}
use Rattle.calculus.specs.Lowest.{Cause, cause, first_cause}
use Rattle.calculus.specs.Causes.{no_term_cause, term_size_cause}
use Rattle.calculus.specs.Lists.{each_below, sum_below}
use Rattle.calculus.specs.Limits.{max_recipe_nodes}
use Rattle.calculus.specs.Table.{TableRule}
use Rattle.calculus.proofs.Theory.Tests.{clash, ltb_complete, ltb_false, ltb_not}
use Rattle.recipe_file.specs.File.{bays}
use Rattle.recipe_file.specs.FileRule.{FileRule}
use Rattle.std.proofs.Common.{None, Some}
use Rattle.recipe_table.specs.Entries.{type_table}
use Rattle.check_spec.specs.Bays.{cause_5, cause_6}
use Rattle.check_bays.specs.Terms.{bay_nodes, bay_single, nodes_in}
use Rattle.check_bays.specs.Tests.{all_shallow, bay_shallow}
use Rattle.check_bays.specs.Stages.{Terms}
use Rattle.check_recipe.specs.Refusals.{terms_refusal}

-- the number, by three tests: each part is a term, no term nests too deep, there are too many nodes
module _ (s : List ℕ) where
  abbrev single : Bool
  single = each_below (bays s) (bay_single s)

  abbrev total : ℕ
  total = sum_below (bays s) (bay_nodes s)

  abbrev tests : List Cause
  tests = cause no_term_cause (not single) ∷ cause term_size_cause (not (all_shallow s) || ltb max_recipe_nodes total) ∷ []

  by_tests : terms_refusal s ≡ first_cause tests
  unfolding terms_refusal cause_5 cause_6 bay_single bay_nodes all_shallow bay_shallow
  by_tests = refl

  -- what the count says
  counted : (n : ℕ) → Some n ≡ nodes_in s → (single ≡ true) × (total ≡ n)
  unfolding nodes_in
  counted n e = go single e
    where
      go : (b : Bool) → Some n ≡ cond b (Some total) None → (b ≡ true) × (total ≡ n)
      go true e = (refl, cc)
      go false e = absurd (clash (cc))

  pub no_term : None ≡ nodes_in s → no_term_cause ≡ terms_refusal s
  unfolding nodes_in
  no_term e = go single e refl
    where
      go : (b : Bool) → None ≡ cond b (Some total) None → single ≡ b → no_term_cause ≡ terms_refusal s
      go true e p = absurd (clash (cc))
      go false e p = rw (by_tests, p) refl

  module _ (n : ℕ) (e : Some n ≡ nodes_in s) where
    pub many_nodes : max_recipe_nodes < n → term_size_cause ≡ terms_refusal s
    many_nodes l = let (p, q) = counted n e in rw (by_tests, p, q, ltb_complete max_recipe_nodes n l) (or (all_shallow s))
      where
        or : (b : Bool) → ◌≡◌ {A = ℕ} term_size_cause (cond (not b || true) term_size_cause 0)
        or true = refl
        or false = refl

    pub terms_known : FileRule s → TableRule (type_table s) → n ≤ max_recipe_nodes → Terms s
    terms_known l r m = let (p, q) = counted n e in record { laid = l; rule = r; single = p; few = omega arith }

    module _ (m : n ≤ max_recipe_nodes) (t : Bool) (f : t ≡ all_shallow s) where
      pub too_deep : t ≡ false → term_size_cause ≡ terms_refusal s
      too_deep z = let (p, q) = counted n e in rw (by_tests, p, ← f, z) refl

      pub terms_pass : t ≡ true → 0 ≡ terms_refusal s
      terms_pass z = let (p, q) = counted n e in rw (by_tests, p, q, ← f, z, ltb_not max_recipe_nodes n m) refl

-- where neither fits
pub neither : (s : List ℕ) → FileRule s → TableRule (type_table s) → terms_refusal s ≡ 0 → Terms s × (all_shallow s ≡ true)
neither s l r e =
    let (p, (q, u)) = none_fits (tests s) tt (sym (by_tests s) ∙ e) in
    let (n, w) = or_parts (not (all_shallow s)) (ltb max_recipe_nodes (total s)) q in
    (record { laid = l; rule = r; single = not-false (single s) p; few = ltb_false max_recipe_nodes (total s) w }, not-false (all_shallow s) n)
