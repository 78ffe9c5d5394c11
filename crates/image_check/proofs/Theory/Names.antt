-- The configuration that a slice says, name by name.
use Rattle.std.proofs.Common.{◌∙◌, add-zero, add-suc, suc-add, zero-add, add-one, arith}
use Rattle.std.specs.Prelude.{◌≡◌, Bool, ◌&&◌, length}
use Rattle.std.proofs.Math.Path.{ap, ap₂, refl, sym}
use Rattle.std.proofs.Math.Bool.{and_assoc, and-true}
use Rattle.std.proofs.Math.Option.{none, some}
use mathlib.Core.List.{List, [], ◌++◌, ◌∷◌}
use Prim.Native.Nat.{◌+◌, ◌<◌, ◌≤◌, suc, zero, ℕ}
use Rattle.std.proofs.Math.Decide.{dec_lt}
use Rattle.std.proofs.Math.ListN.{get_or}
use Rattle.image.proofs.Theory.Exactly.{length_config}
use Rattle.calculus.specs.Syntax.{Component, thread_of, holds, open_for, used, awaited, Config, at, sum_all, sum_in}
use Rattle.calculus.specs.Lists.{tabulate, each_below, sum_below}
use Rattle.calculus.specs.Image.{each_test, handle_for, nodes, nodes_all}
use Rattle.calculus.proofs.Theory.Lists.{at_past}
use Rattle.calculus.proofs.Theory.Tabulate.{length_tabulate, map_tabulate, tabulate_at, tabulate_parts, sum_tabulated}
use Rattle.term.specs.Expressions.{term_at}
use Rattle.calculus.specs.Kinds.{thread_kind, cell_kind, open_handle_kind, used_handle_kind, future_kind}
use Rattle.image_layout.specs.Slice.{names, kind_at, companion_at, expression_at, encoded_at, encoded_all}
use Rattle.image.specs.Configuration.{components, config_of, decode}
use Rattle.image_check.specs.Parts.{component_of, handles_below, nodes_of}

-- ---- sums and tests over a list by index

module _ (test : ℕ → Component → Bool) where
  tests_append : (k : ℕ) (C : Config) (c : Component) → each_test test k (C ++ (c ∷ [])) ≡ (each_test test k C && test (k + length C) c)
  unfolding each_test
  tests_append k [] c = and-true (test k c) ∙ ap (λ (x : ℕ). test x c) (sym (add-zero k))
  tests_append k (d ∷ C) c =
      ap (λ (b : Bool). test k d && b) (tests_append (suc k) C c ∙ ap (λ (x : ℕ). each_test test (suc k) C && test x c) (suc-add k (length C) ∙ sym (add-suc k (length C))))
      ∙ sym (and_assoc (test k d) (each_test test (suc k) C) (test (k + suc (length C)) c))

  pub tests_tabulated : (n : ℕ) (f : ℕ → Component) → each_test test 0 (tabulate n f) ≡ each_below n (λ k. test k (f k))
  unfolding tabulate each_below each_test
  tests_tabulated zero f = refl
  tests_tabulated (suc n) f =
      tests_append 0 (tabulate n f) (f n)
      ∙ ap₂ (λ (b : Bool) (x : ℕ). b && test x (f n)) (tests_tabulated n f) (zero-add (length (tabulate n f)) ∙ length_tabulate n f)

-- fewer numbers sum up to no more
pub sum_below_most : (f : ℕ → ℕ) (n k : ℕ) → k ≤ n → sum_below k f ≤ sum_below n f
unfolding sum_below
sum_below_most f zero k h =
    let e : k ≡ 0 = omega arith in
    rw e (omega arith)
sum_below_most f (suc n) k h = go (dec_lt k (suc n)) (sum_below_most f n k)
  where
    go : Dec (k < suc n) → (k ≤ n → sum_below k f ≤ sum_below n f) → sum_below k f ≤ sum_below n f + f n
    go (yes l) earlier = omega (arith, earlier (omega arith))
    go (no l) earlier =
        let e : k ≡ suc n = omega arith in
        rw e (omega arith)

-- a turn
pub sum_below_next : (f : ℕ → ℕ) (k : ℕ) → sum_below (k + 1) f ≡ sum_below k f + f k
unfolding sum_below
sum_below_next f k = ap (λ (x : ℕ). sum_below x f) (add-one k)

pub each_below_next : (test : ℕ → Bool) (k : ℕ) → each_below (k + 1) test ≡ (each_below k test && test k)
unfolding each_below
each_below_next test k = ap (λ (x : ℕ). each_below x test) (add-one k)

-- ---- the configuration

module _ (s : List ℕ) where
  pub config_tabulated : config_of s ≡ tabulate (names s) (component_of s)
  unfolding config_of encoded_all component_of
  config_tabulated = map_tabulate decode (names s) (encoded_at s)

  -- each name below m has its component, and no other has one
  pub config_at : (k : ℕ) → k < names s → at (config_of s) k ≡ some (component_of s k)
  config_at k h = ap (λ (C : Config). at C k) config_tabulated ∙ tabulate_at (names s) (component_of s) k h

  pub config_past : (k : ℕ) → names s ≤ k → at (config_of s) k ≡ none
  config_past k h = at_past (config_of s) k (omega (arith, length_config s))

  pub config_parts : (k : ℕ) {c : Component} → at (config_of s) k ≡ some c → (k < names s) × (c ≡ component_of s k)
  config_parts k h = tabulate_parts (names s) (component_of s) k (ap (λ (C : Config). at C k) (sym config_tabulated) ∙ h)

  pub config_nodes : nodes_all (config_of s) ≡ sum_below (names s) (nodes_of s)
  unfolding nodes_of
  config_nodes = ap nodes_all config_tabulated ∙ sum_tabulated (sum_in nodes) (names s) (component_of s)

  pub config_handles : (y : ℕ) → sum_all (handle_for y) (config_of s) ≡ handles_below s (names s) y
  unfolding handles_below
  config_handles y = ap (sum_all (handle_for y)) config_tabulated ∙ sum_tabulated (handle_for y) (names s) (component_of s)

  pub config_tests : (test : ℕ → Component → Bool) → each_test test 0 (config_of s) ≡ each_below (names s) (λ k. test k (component_of s k))
  config_tests test = ap (each_test test 0) config_tabulated ∙ tests_tabulated test (names s) (component_of s)

  -- ---- a component by its kind

  module _ (k : ℕ) where
    pub component_kind : (n : ℕ) → kind_at s k ≡ n → component_of s k ≡ get_or (components (encoded_at s k)) n used
    unfolding component_of decode encoded_at
    component_kind n e = ap (λ (x : ℕ). get_or (components (encoded_at s k)) x used) e

    pub thread_component : kind_at s k ≡ thread_kind → component_of s k ≡ thread_of (term_at (expression_at s k) 0)
    unfolding components encoded_at
    thread_component e = component_kind thread_kind e

    pub cell_component : kind_at s k ≡ cell_kind → component_of s k ≡ holds (term_at (expression_at s k) 0)
    unfolding components encoded_at
    cell_component e = component_kind cell_kind e

    pub open_component : kind_at s k ≡ open_handle_kind → component_of s k ≡ open_for (companion_at s k)
    unfolding components encoded_at
    open_component e = component_kind open_handle_kind e

    pub used_component : kind_at s k ≡ used_handle_kind → component_of s k ≡ used
    unfolding components encoded_at
    used_component e = component_kind used_handle_kind e

    pub future_component : kind_at s k ≡ future_kind → component_of s k ≡ awaited
    unfolding components encoded_at
    future_component e = component_kind future_kind e
