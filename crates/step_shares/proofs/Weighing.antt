-- The loop over bays. One law for each way through it.
use mathlib.Core.Path.{◌∙◌, ◌≡◌, ap, ap₂, refl, sym}
use mathlib.Core.Bool.{Bool, ◌&&◌, cond, false, true}
use mathlib.Core.List.{List}
use Prim.Native.Nat.{◌+◌, ◌-◌, ◌<◌, ◌≤◌, ℕ}
use native.Mathlib.Omega.{arith}
use lib.Dec.{eqb, leb}
use lib.ListN.{get_or, length}
use Rattle.calculus.specs.Limits.{max_bays}
use Rattle.calculus.specs.Lists.{each_below}
use Rattle.calculus.specs.Owners.{Owned}
use Rattle.calculus.specs.Image.{nodes_all}
use Rattle.calculus.specs.Shares.{bay_components, bays_in, names_share, nodes_share, share_test, shares_test}
use Rattle.calculus.proofs.Theory.Tests.{and_true, clash, equal_from, false_of, leb_complete, leb_sound, true_of}
use Rattle.calculus.proofs.Theory.Tabulate.{each_below_same, each_below_sound}
use Rattle.image.specs.Configuration.{owned_of, owners_of}
use Rattle.image_check.proofs.Theory.Names.{each_below_next}
use Rattle.step_shares.specs.declared.Flow.{Flow}
use Rattle.step_shares.specs.declared.Tally.{Tally}
use Rattle.step_look.specs.Leaving.{left_by}
use Rattle.step_shares.specs.Leaving.{shares_after}
use Rattle.step_shares.specs.Tallies.{Changed, names_to, nodes_from, nodes_to, Tallied}

-- what counts for a bay is no more than all
pub at_most : (owner k : ℕ) {r n : ℕ} → r ≡ cond (eqb owner k) n 0 → r ≤ n
at_most owner k {r} {n} e = go (eqb owner k) e
  where
    go : (b : Bool) → r ≡ cond b n 0 → r ≤ n
    go true e = omega arith
    go false e = omega arith

-- whether bay k is not above its share then, from the numbers
unfoldable pub share_kept : Tally → Flow → ℕ → ℕ → Bool
share_kept t c bays k = leb (get_or t.names k 0 + names_to c k) (names_share bays) && leb (get_or t.nodes k 0 + nodes_to c k - nodes_from c k) (nodes_share bays)

-- as it is found out
pub kept_is : (t : Tally) (c : Flow) (bays k : ℕ) {names : ℕ} (nodes : ℕ) → names ≡ get_or t.names k 0 + names_to c k → nodes + nodes_from c k ≡ get_or t.nodes k 0 + nodes_to c k →
    (leb names (names_share bays) && leb nodes (nodes_share bays)) ≡ share_kept t c bays k
unfolding share_kept
kept_is t c bays k nodes n_is m_is =
    let q : nodes ≡ get_or t.nodes k 0 + nodes_to c k - nodes_from c k = omega arith in
    ap₂ (λ (i j : ℕ). leb i (names_share bays) && leb j (nodes_share bays)) n_is q

-- of the image and of what is left
module _ {I I' : Owned} {tally : Tally} {flow : Flow} (t : Tallied I tally) (c : Changed I I' flow) (k : ℕ) (l : k < max_bays) where
  pub enough : nodes_from flow k ≤ get_or tally.nodes k 0 + nodes_to flow k
  enough = omega (arith, t.nodes_are k l, c.nodes k)

  share_is : (bays : ℕ) → share_kept tally flow bays k ≡ share_test bays I' k
  unfolding share_kept share_test
  share_is bays =
      let p : get_or tally.names k 0 + names_to flow k ≡ length (bay_components k I') = omega (arith, t.names_are k l, c.names k) in
      let q : get_or tally.nodes k 0 + nodes_to flow k - nodes_from flow k ≡ nodes_all (bay_components k I') = omega (arith, t.nodes_are k l, c.nodes k) in
      ap₂ (λ (i j : ℕ). leb i (names_share bays) && leb j (nodes_share bays)) p q

-- k of so many bays are within their shares
pub record Passed (t : Tally) (c : Flow) (bays k : ℕ) : Type 0 where
  pub few : k ≤ bays
  pub passed : each_below k (share_kept t c bays) ≡ true

pub passed_none : (t : Tally) (c : Flow) (bays : ℕ) → Passed t c bays 0
unfolding each_below
passed_none t c bays = record { few = omega arith; passed = refl }

pub passed_one : {t : Tally} {c : Flow} {bays k : ℕ} → Passed t c bays k → k < bays → share_kept t c bays k ≡ true → Passed t c bays (k + 1)
passed_one {t} {c} {bays} {k} p more e = record { few = omega arith; passed = each_below_next (share_kept t c bays) k ∙ and_true p.passed e }

-- the image s, and what a step of thread x leaves
module _ (s : List ℕ) (x : ℕ) {tally : Tally} {flow : Flow} (t : Tallied (owned_of s) tally) (c : Changed (owned_of s) (left_by s x) flow) {bays : ℕ}
    (all : (bays ≡ bays_in (owners_of s)) × (bays ≤ max_bays)) where
  shares_are : each_below bays (share_kept tally flow bays) ≡ shares_after s x
  unfolding shares_after shares_test
  shares_are = each_below_same bays (share_kept tally flow bays) (share_test bays (left_by s x)) (λ k l. share_is t c k (omega (arith, all.1)) bays)
      ∙ ap (λ (b : ℕ). each_below b (share_test b (left_by s x))) all.0

  module _ {k : ℕ} (p : Passed tally flow bays k) where
    pub passed_all : bays ≤ k → true ≡ shares_after s x
    passed_all h = let e : bays ≡ k = omega (arith, p.few) in sym p.passed ∙ ap (λ (i : ℕ). each_below i (share_kept tally flow bays)) (sym e) ∙ shares_are

    pub passed_fault : k < bays → share_kept tally flow bays k ≡ false → false ≡ shares_after s x
    passed_fault more f = equal_from false (each_below bays (share_kept tally flow bays)) (λ z. absurd (clash (cc)))
        (λ z. sym f ∙ each_below_sound bays (share_kept tally flow bays) z k more) ∙ shares_are

-- both limits of a share, by the tests of the code
pub too_many : (names limit : ℕ) (rest : Bool) → limit < names → leb names limit ≡ (leb names limit && rest)
too_many names limit rest h = rw (le_leb_false names limit h) refl
  where
    le_leb_false : (m n : ℕ) → n < m → leb m n ≡ false
    le_leb_false m n l = false_of (leb m n) (λ t. let h : m ≤ n = leb_sound m n (true_of (leb m n) t) in omega arith)

pub few_enough : (names limit : ℕ) (rest : Bool) → names ≤ limit → rest ≡ (leb names limit && rest)
few_enough names limit rest h = rw (leb_complete names limit h) refl
