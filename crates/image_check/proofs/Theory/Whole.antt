-- Refusal 13 does not fit exactly where each part of the check passes.
use Rattle.std.proofs.Common.{◌∙◌, sym, arith}
use Rattle.std.specs.Prelude.{◌≡◌, refl, ◌&&◌, true, List, ◌≤◌, ◌<◌, ℕ, length}
use Rattle.std.proofs.Math.Path.{ap}
use Rattle.std.proofs.Math.Bool.{and-true as and_all}
use Rattle.image.proofs.Theory.Exactly.{length_config}
use Rattle.calculus.specs.Syntax.{Component, thread_of, holds, open_for, used, awaited, Config}
use Rattle.calculus.specs.Lists.{sum_below}
use Rattle.calculus.specs.Limits.{max_names, max_nodes}
use Rattle.calculus.specs.Step.{place}
use Rattle.calculus.specs.Image.{component_test, each_test, expression_test, image_test, is_settled, limits_test}
use Rattle.calculus.proofs.Theory.Tests.{and_parts, and_true}
use Rattle.calculus.proofs.Theory.Tabulate.{each_below_sound, each_below_complete}
use Rattle.calculus.proofs.Theory.ImageTest.{limits_test_iff}
use Rattle.image_layout.specs.Slice.{names}
use Rattle.image_layout.specs.Layout.{heads_stand}
use Rattle.image.specs.Configuration.{config_of}
use Rattle.image.specs.Stands.{terms_stand, image_stands}
use Rattle.image_check.specs.Parts.{component_of, expression_keeps, expression_stands, nodes_of, pair_stands, pair_keeps, term_stands}
use Rattle.image_check.proofs.Theory.Names.{config_nodes, config_tests}

-- what is asked of a component is asked of its expression or of its pair
component_keeps : (C : Config) (k : ℕ) (c : Component) → component_test C k c ≡ (expression_keeps (length C) c && pair_keeps C k c)
unfolding component_test expression_keeps pair_keeps
component_keeps C k (thread_of e) = sym (and_all (expression_test (length C) 0 e))
component_keeps C k (holds v) = sym (and_all (expression_test (length C) 0 v && is_settled (place v)))
component_keeps C k (open_for y) = refl
component_keeps C k used = refl
component_keeps C k awaited = refl

module _ (s : List ℕ) where
  -- the parts
  pub record Whole : Type 0 where
    pub heads : heads_stand s ≡ true
    pub few_names : names s ≤ max_names
    pub expressions : (k : ℕ) → k < names s → expression_stands s (names s) k ≡ true
    pub few_nodes : sum_below (names s) (nodes_of s) ≤ max_nodes
    pub pairs : (k : ℕ) → k < names s → pair_stands s k ≡ true

  -- the test of the component of name k
  named_keeps : (k : ℕ) → component_test (config_of s) k (component_of s k) ≡ (expression_keeps (names s) (component_of s k) && pair_stands s k)
  unfolding pair_stands
  named_keeps k =
      component_keeps (config_of s) k (component_of s k)
      ∙ ap (λ (m : ℕ). expression_keeps m (component_of s k) && pair_keeps (config_of s) k (component_of s k)) (length_config s)

  pub whole_sound : image_stands s ≡ true → Whole
  unfolding image_stands image_test limits_test terms_stand term_stands expression_stands
  whole_sound h =
      let (heads, rest) = and_parts (heads_stand s) (terms_stand s && image_test (config_of s)) h in
      let (terms, tests) = and_parts (terms_stand s) (image_test (config_of s)) rest in
      let (each, limits) = and_parts (each_test (component_test (config_of s)) 0 (config_of s)) (limits_test (config_of s)) tests in
      let within = (limits_test_iff (config_of s)).0 limits in
      let kept : (k : ℕ) → k < names s → (expression_keeps (names s) (component_of s k) ≡ true) × (pair_stands s k ≡ true) =
      λ k l. and_parts (expression_keeps (names s) (component_of s k)) (pair_stands s k)
      (sym (named_keeps k) ∙ each_below_sound (names s) (λ k. component_test (config_of s) k (component_of s k)) (sym (config_tests s (component_test (config_of s))) ∙ each) k l) in
      record {
        heads = heads;
        few_names = omega (arith, within.few_names, length_config s);
        expressions = λ k l. and_true (each_below_sound (names s) (term_stands s) terms k l) (kept k l).0;
        few_nodes = omega (arith, within.few_nodes, config_nodes s);
        pairs = λ k l. (kept k l).1;
      }

  pub whole_complete : Whole → image_stands s ≡ true
  unfolding image_stands image_test limits_test terms_stand term_stands expression_stands
  whole_complete w =
      let parts : (k : ℕ) → k < names s → (term_stands s k ≡ true) × (expression_keeps (names s) (component_of s k) ≡ true) =
      λ k l. and_parts (term_stands s k) (expression_keeps (names s) (component_of s k)) (w.expressions k l) in
      and_true w.heads
      (and_true (each_below_complete (names s) (term_stands s) (λ k l. (parts k l).0))
      (and_true
      (config_tests s (component_test (config_of s))
      ∙ each_below_complete (names s) (λ k. component_test (config_of s) k (component_of s k)) (λ k l. named_keeps k ∙ and_true (parts k l).1 (w.pairs k l)))
      ((limits_test_iff (config_of s)).1
      record { few_names = omega (arith, w.few_names, length_config s); few_nodes = omega (arith, w.few_nodes, config_nodes s) })))
