-- The loop that counts what each bay owns, in names and in nodes: a column of numbers for each.
use mathlib.Core.Path.{◌∙◌, ◌≡◌, ap, ap₂, refl, sym}
use mathlib.Core.Bool.{Bool, cond, false, true}
use mathlib.Core.List.{List}
use Prim.Native.Nat.{◌+◌, ◌<◌, ◌≤◌, suc, zero, ℕ}
use native.Mathlib.Omega.{arith}
use borrow.Author.Tests.{eqb-false, eqb-true}
use lib.Dec.{eqb}
use lib.ListN.{get_or, get_or-replicate, length, length-replicate, length-set, replicate, set}
use lib.Seq.{get_or-set_other, get_or-set_same}
use Rattle.calculus.specs.Limits.{max_bays, max_names, max_nodes}
use Rattle.calculus.specs.Lists.{sum_below, tabulate}
use Rattle.calculus.specs.Syntax.{Component, Config, sum_all, sum_in}
use Rattle.calculus.specs.Image.{nodes, nodes_all}
use Rattle.calculus.specs.Shares.{bay_components, of_bay}
use Rattle.calculus.proofs.Theory.BaySums.{bay_tabulated, for_bay, length_sum}
use Rattle.image_layout.specs.Slice.{names, owner_at}
use Rattle.image.specs.Configuration.{owned_of, owners_of}
use Rattle.image.specs.Stands.{image_stands}
use Rattle.image_check.specs.Parts.{component_of, nodes_of}
use Rattle.image_check.proofs.Theory.Names.{config_tabulated, sum_below_most, sum_below_next}
use Rattle.image_check.proofs.Theory.Whole.{whole_sound}
use Rattle.step_shares.specs.Tallies.{Tallied}

-- of the first k names, what bay y has of f
unfoldable pub owned_below : List ℕ → (ℕ → ℕ) → ℕ → ℕ → ℕ
owned_below s f k y = sum_below k (λ i. for_bay y (owner_at s i) (f i))

-- no more than all have
owned_most : (s : List ℕ) (f : ℕ → ℕ) (k y : ℕ) → owned_below s f k y ≤ sum_below k f
unfolding owned_below sum_below
owned_most s f zero y = omega arith
owned_most s f (suc k) y = go (eqb (owner_at s k) y) (owned_most s f k y)
  where
    go : (b : Bool) → sum_below k (λ i. for_bay y (owner_at s i) (f i)) ≤ sum_below k f → sum_below k (λ i. for_bay y (owner_at s i) (f i)) + cond b (f k) 0 ≤ sum_below k f + f k
    go true h = omega arith
    go false h = omega arith

-- a number for each bay: what it has of f among the first k names
pub record Column (s : List ℕ) (f : ℕ → ℕ) (k : ℕ) (counts : List ℕ) : Type 0 where
  pub long : length counts ≡ max_bays
  pub each : (y : ℕ) → y < max_bays → get_or counts y 0 ≡ owned_below s f k y

column_none : (s : List ℕ) (f : ℕ → ℕ) → Column s f 0 (replicate max_bays 0)
unfolding owned_below sum_below
column_none s f = record { long = length-replicate {A = ℕ} max_bays 0; each = λ y l. get_or-replicate {A = ℕ} max_bays y 0 0 l }

module _ {s : List ℕ} {f : ℕ → ℕ} {k : ℕ} {counts : List ℕ} (c : Column s f k counts) where
  -- no number is above what the first k names have
  column_most : (y : ℕ) → y < max_bays → get_or counts y 0 ≤ sum_below k f
  column_most y l = omega (arith, c.each y l, owned_most s f k y)

  -- one name more
  column_next : {owner n : ℕ} → owner ≡ owner_at s k → owner < max_bays → n ≡ f k → Column s f (k + 1) (set counts owner (get_or counts owner 0 + n))
  unfolding owned_below
  column_next {owner} {n} is l n_is = record { long = length-set counts owner (get_or counts owner 0 + n) ∙ c.long; each = λ y b. go y b (eqb owner y) refl }
    where
      next : (y : ℕ) → owned_below s f (k + 1) y ≡ owned_below s f k y + for_bay y owner n
      next y = sum_below_next (λ i. for_bay y (owner_at s i) (f i)) k ∙ rw (is, n_is) refl

      go : (y : ℕ) → y < max_bays → (t : Bool) → eqb owner y ≡ t → get_or (set counts owner (get_or counts owner 0 + n)) y 0 ≡ owned_below s f (k + 1) y
      go y b true q =
          let same : owner ≡ y = eqb-true owner y q in
          ap (λ (i : ℕ). get_or (set counts owner (get_or counts owner 0 + n)) i 0) (sym same)
          ∙ get_or-set_same counts owner (get_or counts owner 0 + n) 0 (omega (arith, c.long))
          ∙ ap₂ ◌+◌ (ap (λ (i : ℕ). get_or counts i 0) same ∙ c.each y b) (sym (ap (λ (t : Bool). cond t n 0) q))
          ∙ sym (next y)
      go y b false q =
          get_or-set_other counts owner y (get_or counts owner 0 + n) 0 (λ r. eqb-false owner y q (sym r))
          ∙ omega (arith, c.each y b, next y, ap (λ (t : Bool). cond t n 0) q)

-- a name counts as one
abbrev one_each : ℕ → ℕ
one_each i = 1

sum_ones : (k : ℕ) → sum_below k one_each ≡ k
unfolding sum_below
sum_ones zero = refl
sum_ones (suc k) = omega (arith, sum_ones k)

-- what a column of all names says
module _ (s : List ℕ) (y : ℕ) where
  bay_sum : (measure : Component → ℕ) → sum_all measure (bay_components y (owned_of s)) ≡ sum_below (names s) (λ i. for_bay y (owner_at s i) (measure (component_of s i)))
  unfolding owners_of
  bay_sum measure = ap (λ (C : Config). sum_all measure (of_bay y (tabulate (names s) (owner_at s)) C)) (config_tabulated s) ∙ bay_tabulated measure y (names s) (owner_at s) (component_of s)

  bay_names_are : length (bay_components y (owned_of s)) ≡ owned_below s one_each (names s) y
  unfolding owned_below
  bay_names_are = length_sum (bay_components y (owned_of s)) ∙ bay_sum (λ c. 1)

  bay_nodes_are : nodes_all (bay_components y (owned_of s)) ≡ owned_below s (nodes_of s) (names s) y
  unfolding owned_below nodes_of
  bay_nodes_are = bay_sum (sum_in nodes)

-- k of m names have been counted
pub record Counting (s : List ℕ) (m k : ℕ) (its_names its_nodes : List ℕ) : Type 0 where
  pub few : k ≤ m
  pub all : m ≡ names s
  pub of_names : Column s one_each k its_names
  pub of_nodes : Column s (nodes_of s) k its_nodes

pub counting_none : (s : List ℕ) (m : ℕ) → m ≡ names s → Counting s m 0 (replicate max_bays 0) (replicate max_bays 0)
counting_none s m e = record { few = omega arith; all = e; of_names = column_none s one_each; of_nodes = column_none s (nodes_of s) }

module _ {s : List ℕ} {m k : ℕ} {its_names its_nodes : List ℕ} (p : Counting s m k its_names its_nodes) (stands : image_stands s ≡ true) where
  some_names : (y : ℕ) → y < max_bays → get_or its_names y 0 ≤ k
  some_names y l = omega (arith, column_most p.of_names y l, sum_ones k)

  -- what all names have so far
  abbrev so_far : ℕ → ℕ
  so_far i = sum_below i (nodes_of s)

  within_all : (i : ℕ) → i ≤ names s → so_far i ≤ max_nodes
  within_all i l = omega (arith, sum_below_most (nodes_of s) (names s) i l, (whole_sound s stands).few_nodes)

  pub few_names : (y : ℕ) → y < max_bays → get_or its_names y 0 ≤ max_names
  few_names y l = omega (arith, some_names y l, p.few, p.all, (whole_sound s stands).few_names)

  pub few_nodes : (y : ℕ) → y < max_bays → get_or its_nodes y 0 ≤ max_nodes
  few_nodes y l = omega (arith, column_most p.of_nodes y l, within_all k (omega (arith, p.few, p.all)))

  pub counting_all : m ≤ k → Tallied (owned_of s) (record { names = its_names; nodes = its_nodes })
  counting_all h =
      let e : k ≡ names s = omega (arith, p.few, p.all) in
      record {
        names_long = p.of_names.long;
        nodes_long = p.of_nodes.long;
        names_are = λ y l. p.of_names.each y l ∙ ap (λ (i : ℕ). owned_below s one_each i y) e ∙ sym (bay_names_are s y);
        nodes_are = λ y l. p.of_nodes.each y l ∙ ap (λ (i : ℕ). owned_below s (nodes_of s) i y) e ∙ sym (bay_nodes_are s y);
        few_names = few_names;
        few_nodes = few_nodes;
      }

  module _ (more : k < m) where
    pub next_below : k < names s
    next_below = omega (arith, p.all)

    pub few_found : {n : ℕ} → n ≡ nodes_of s k → n ≤ max_nodes
    few_found e = omega (arith, e, sum_below_next (nodes_of s) k, within_all (k + 1) (omega (arith, p.all)))

    pub counting_one : {owner n : ℕ} → owner ≡ owner_at s k → owner < max_bays → n ≡ nodes_of s k →
        Counting s m (k + 1) (set its_names owner (get_or its_names owner 0 + 1)) (set its_nodes owner (get_or its_nodes owner 0 + n))
    counting_one is l n_is = record {
      few = omega arith;
      all = p.all;
      of_names = column_next p.of_names is l refl;
      of_nodes = column_next p.of_nodes is l n_is;
    }
