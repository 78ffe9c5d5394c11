-- What holds of every state of a run under the second profile: it is good, every bay's expressions name only the bay's names, b is the number of bays, no bay is above its
-- share, and setting k is a cell, the first name of bay k.
use Rattle.std.proofs.Common.{◌∙◌, arith}
use Rattle.std.specs.Prelude.{◌≡◌, refl, List, ◌<◌, ℕ, length, set}
use Rattle.std.proofs.Math.Option.{some}
use Rattle.std.proofs.Math.Decide.{ℕ_discrete}
use Rattle.calculus.specs.Types.{LinType}
use Rattle.calculus.specs.Syntax.{Exp, Component, thread_of, holds, open_for, used, Config, at}
use Rattle.calculus.specs.Typing.{TypeNumbers}
use Rattle.calculus.specs.Reduction.{plug, Rule, Reduces, beta, thread_new, future_deref, future_deref_exch, future_deref_case, handle_new, handle_bind, cell_new, cell_exch, case_both}
use Rattle.calculus.specs.Step.{rule}
use Rattle.calculus.specs.State.{State}
use Rattle.calculus.specs.Owners.{Owned, owners_after, grown}
use Rattle.calculus.specs.Shares.{bays_in, WithinShares}
use Rattle.calculus.specs.Profile.{separate, HasRoom}
use Rattle.calculus.proofs.Theory.Tests.{clash}
use Rattle.calculus.proofs.Theory.Lists.{at_bound, at_below, set_same, set_other, append_left}
use Rattle.calculus.proofs.Theory.Step.{step_rule}
use Rattle.calculus.proofs.Theory.Sound.{Sound}
use Rattle.calculus.proofs.Theory.Images.{Good, good_kept}
use Rattle.calculus.proofs.Theory.Owners.{goer_there}
use Rattle.calculus.proofs.Theory.ConfigRuns.{ConfigCall, state_grown, state_after}
use Rattle.calculus.proofs.Theory.Replies.{after_keeps}
use Rattle.bays_apart.specs.Same.{rank}
use Rattle.bays_apart.specs.Apart.{Apart}
use Rattle.bays_apart.proofs.Theory.OfBay.{rank_append}
use Rattle.bays_apart.proofs.Theory.Same.{component_absent}
use Rattle.bays_apart.proofs.Theory.Mirrors.{Mirrors, mirrors_at, mirrors_unmoved}
use Rattle.bays_apart.proofs.Theory.Both.{SameAnswer, same_rule, same_step}
use Rattle.bays_apart.proofs.Theory.Other.{other}
use Rattle.bays_apart.proofs.Theory.Shares.{bays_grown}

-- setting k: a cell, and the first name of bay k
pub record Setting (k : ℕ) (I : Owned) : Type 0 where
  pub held : Exp
  pub cell : at I.config k ≡ some (holds held)
  pub mine : at I.owners k ≡ some k
  pub first : rank k I.owners k ≡ 0

pub record Fine (τ : TypeNumbers) (b : ℕ) (s : State) : Type 0 where
  pub good : Good b τ s
  pub own : (j : ℕ) → Mirrors j τ τ s.owned s.owned
  pub bays : bays_in s.owned.owners ≡ b
  pub shares : WithinShares b s.owned
  pub settings : (k : ℕ) → k < b → Setting k s.owned

-- a cell stays a cell
cell_kept : (C : Config) (x k : ℕ) (c : Component) {v : Exp} → ¬ (k ≡ x) → at C k ≡ some (holds v) → at (set C x c) k ≡ some (holds v)
cell_kept C x k c n h = set_other C x k c n ∙ h

cell_stays : {τ : TypeNumbers} {S : List LinType} {C C' : Config} {x : ℕ} {r : Rule} → Sound τ S C → Reduces C x r C' → (k : ℕ) (u : Exp) → at C k ≡ some (holds u) →
    (w : Exp) × (at C' k ≡ some (holds w))
cell_stays {C = C} {x = x} s (beta F t e v wv g) k u h = (u, cell_kept C x k _ (λ q. clash (cc)) h)
cell_stays {C = C} {x = x} s (thread_new F t v wv g) k u h = (u, append_left (set C x _) _ k (cell_kept C x k _ (λ q. clash (cc)) h))
cell_stays {C = C} {x = x} s (future_deref F y v w wv ww g g') k u h = (u, cell_kept C x k _ (λ q. clash (cc)) h)
cell_stays {C = C} {x = x} s (future_deref_exch F t y v w wv ww g g') k u h = (u, cell_kept C x k _ (λ q. clash (cc)) h)
cell_stays {C = C} {x = x} s (future_deref_case F a y w e ww g g') k u h = (u, cell_kept C x k _ (λ q. clash (cc)) h)
cell_stays {C = C} {x = x} s (handle_new F t v wv g) k u h = (u, append_left (set C x _) _ k (cell_kept C x k _ (λ q. clash (cc)) h))
cell_stays {C = C} {x = x} s (handle_bind F z y v wv g g') k u h =
    let a = (s.fits z (open_for y) g').4 in
    (u, cell_kept (set (set C x _) y _) z k used (λ q. clash (cc)) (cell_kept (set C x _) y k _ (λ q. clash (cc)) (cell_kept C x k _ (λ q. clash (cc)) h)))
cell_stays {C = C} {x = x} s (cell_new F t v wv g) k u h = (u, append_left (set C x _) _ k (cell_kept C x k _ (λ q. clash (cc)) h))
cell_stays {C = C} {x = x} s (cell_exch F t y v w wv g g') k u h =
    let i = cell_kept C x k (thread_of (plug F w)) (λ q. clash (cc)) h in
    elim (ℕ_discrete k y) [
      | yes e ↦ (v, rw e (set_same (set C x (thread_of (plug F w))) y (holds v) (rw e at i)))
      | no n ↦ (u, cell_kept (set C x (thread_of (plug F w))) y k (holds v) n i)
    ]
cell_stays {C = C} {x = x} s (case_both F a t v₁ v₂ e w w' g) k u h = (u, cell_kept C x k _ (λ q. clash (cc)) h)

rule_mirrors : {k : ℕ} {τ σ : TypeNumbers} {I J : Owned} {x y : ℕ} {r r' : Rule} {C D : Config} → SameAnswer k τ σ I J x y (rule r C) (rule r' D) →
    Mirrors k τ σ (grown I x C) (grown J y D)
rule_mirrors (same_rule B) = B

module _ {τ : TypeNumbers} {b : ℕ} {s : State} (f : Fine τ b s) where
  pub sizes : length s.owned.owners ≡ length s.owned.config
  sizes = (f.own 0).sizes_left

  -- the owner of a name
  pub owned_name : (x : ℕ) → x < length s.owned.config → (j : ℕ) × (at s.owned.owners x ≡ some j)
  owned_name x l = at_below s.owned.owners x (omega (arith, sizes))

  module _ {x : ℕ} {r : Rule} {C' : Config} (d : Reduces s.owned.config x r C') where
    -- every bay's expressions name only its names, after a rule too
    own_after : (j : ℕ) → Mirrors j τ τ (grown s.owned x C') (grown s.owned x C')
    own_after j = let (k, h) = owned_name x (goer_there d) in elim (ℕ_discrete k j) [
      | yes e ↦ rw (← e) (mine_after k h)
      | no n ↦ let u = other n (f.own k) x h d in mirrors_unmoved (f.own j) u u
    ]
      where
        mine_after : (k : ℕ) → at s.owned.owners x ≡ some k → Mirrors k τ τ (grown s.owned x C') (grown s.owned x C')
        mine_after k h = rule_mirrors (rw (step_rule d) at (same_step (f.own k) (record { owned_left = h; owned_right = h; same_rank = refl })))

    bays_after : bays_in (owners_after s.owned.owners x C') ≡ b
    bays_after = bays_grown s.owned.owners x C' (omega (arith, sizes, goer_there d)) ∙ f.bays

    setting_after : (k : ℕ) → Setting k s.owned → Setting k (grown s.owned x C')
    unfolding owners_after
    setting_after k t = let (w, h) = cell_stays f.good.0 d k t.held t.cell in record {
      held = w;
      cell = h;
      mine = append_left s.owned.owners _ k t.mine;
      first = rank_append k s.owned.owners _ k (let l = at_bound s.owned.owners k t.mine in omega arith) ∙ t.first;
    }

-- every rule whose outcome has room keeps it
pub fine_kept : (b : ℕ) (τ : TypeNumbers) (s : State) → Fine τ b s → (x : ℕ) (r : Rule) (C' : Config) → Reduces s.owned.config x r C' →
    HasRoom separate s.owned (grown s.owned x C') → Fine τ b (state_grown τ s x C')
fine_kept b τ s f x r C' d w = record {
  good = good_kept separate b τ s f.good x r C' d w;
  own = own_after f d;
  bays = bays_after f d;
  shares = rw f.bays at w.1;
  settings = λ k l. setting_after f d k (f.settings k l);
}

-- what a step leaves is fine again
pub fine_after : {τ : TypeNumbers} {b : ℕ} {s : State} → Fine τ b s → (a : ConfigCall) → Fine τ b (state_after separate τ s a)
fine_after {τ} {b} {s} f a = after_keeps separate τ (Fine τ b) (fine_kept b τ) s f a

-- what is fine is apart
pub fine_apart : {τ : TypeNumbers} {b : ℕ} {s : State} → Fine τ b s → Apart b s.owned
fine_apart f = record {
  bays = f.bays;
  shares = f.shares;
  own_names = λ k x c o h n m.
      let (_, _, p) = mirrors_at (f.own k) (record { owned_left = o; owned_right = o; same_rank = refl }) c h in
      component_absent n (λ j q. m q.owned_left) p;
}
