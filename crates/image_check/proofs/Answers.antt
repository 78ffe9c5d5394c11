-- The answer of the check: one law for each return.
use mathlib.Core.Path.{◌∙◌, ◌≡◌, ap, refl, sym}
use mathlib.Core.Bool.{Bool, ◌&&◌, false, false≢true, true}
use mathlib.Core.List.{List}
use Prim.Native.Nat.{◌<◌, ◌≤◌, ℕ}
use native.Mathlib.Omega.{arith}
use lib.Dec.{leb}
use lib.ListN.{length}
use Rattle.calculus.specs.Lists.{each_below, sum_below}
use Rattle.calculus.specs.Limits.{max_names, max_nodes}
use Rattle.calculus.specs.Image.{nodes_all}
use Rattle.calculus.proofs.Theory.Tests.{and_parts, and_true, leb_complete, leb_sound}
use Rattle.calculus.proofs.Theory.Tabulate.{each_below_sound, each_below_complete}
use Rattle.std.proofs.Common.{None, Some}
use Rattle.image_layout.specs.Slice.{names}
use Rattle.image_layout.specs.Layout.{heads_stand}
use Rattle.image_layout.proofs.Theory.Reading.{has_names}
use Rattle.image.specs.Configuration.{config_of}
use Rattle.image.specs.Stands.{image_stands}
use Rattle.image_check.specs.Answer.{checked, pick_checked}
use Rattle.image_check.specs.Parts.{all_part, expression_stands, nodes_of, pair_stands, pairs_stand}
use Rattle.image_check.proofs.Theory.Names.{config_nodes}
use Rattle.image_check.proofs.Theory.Whole.{Whole, whole_complete, whole_sound}
use Rattle.image_check.proofs.Picks.{picked, unpicked}

module _ (s : List ℕ) where
  broken : ¬ Whole s → None ≡ checked s
  unfolding checked
  broken h = go (image_stands s) refl
    where
      go : (b : Bool) → image_stands s ≡ b → None ≡ pick_checked b (nodes_all (config_of s))
      go true e = absurd (h (whole_sound s e))
      go false e = refl

  -- no room for m
  pub too_short : length s < 2 → None ≡ checked s
  too_short h = broken (λ w. absurd (omega (arith, has_names s w.heads)))

  pub too_many : {m : ℕ} → m ≡ names s → max_names < m → None ≡ checked s
  too_many e h = broken (λ w. absurd (omega (arith, w.few_names)))

  pub no_layout : heads_stand s ≡ false → None ≡ checked s
  no_layout f = broken (λ w. false≢true (sym f ∙ w.heads))

  -- all expressions stand, within the limit
  abbrev test : Bool
  test = each_below (names s) (expression_stands s (names s)) && leb (sum_below (names s) (nodes_of s)) max_nodes

  pub no_expressions : None ≡ all_part s → None ≡ checked s
  unfolding all_part
  no_expressions f = broken λ w.
      unpicked test (sum_below (names s) (nodes_of s)) f
      (and_true (each_below_complete (names s) (expression_stands s (names s)) w.expressions) (leb_complete (sum_below (names s) (nodes_of s)) max_nodes w.few_nodes))

  pub no_pairs : pairs_stand s ≡ false → None ≡ checked s
  unfolding pairs_stand
  no_pairs f = broken (λ w. false≢true (sym f ∙ each_below_complete (names s) (pair_stands s) w.pairs))

  pub all_stand : {m n : ℕ} → m ≡ names s → m ≤ max_names → heads_stand s ≡ true → Some n ≡ all_part s → pairs_stand s ≡ true → Some n ≡ checked s
  unfolding checked all_part pairs_stand
  all_stand {m} {n} e few heads q pairs =
      let (t, count) = picked test n (sum_below (names s) (nodes_of s)) q in
      let (each, nodes) = and_parts (each_below (names s) (expression_stands s (names s))) (leb (sum_below (names s) (nodes_of s)) max_nodes) t in
      let stands = whole_complete s record {
        heads = heads;
        few_names = omega arith;
        expressions = each_below_sound (names s) (expression_stands s (names s)) each;
        few_nodes = leb_sound (sum_below (names s) (nodes_of s)) max_nodes nodes;
        pairs = each_below_sound (names s) (pair_stands s) pairs;
      } in
      rw stands (ap Some (sym (config_nodes s ∙ count)))
