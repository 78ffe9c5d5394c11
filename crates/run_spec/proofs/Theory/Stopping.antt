-- T-04, "takes up to k turns", "stops before k turns only when there is no such thread, and then says whether one lacked room; after k turns it looks no further".
use Rattle.std.specs.Prelude.{◌≡◌, refl, ◌↔◌, Bool, cond, false, true, ℕ, suc, ◌<◌, ◌≤◌, length}
use Rattle.std.proofs.Common.{ap, inl, inr, arith}
use Rattle.std.proofs.lemmas.Bool.{false≢true}
use Rattle.calculus.specs.Profile.{common}
use Rattle.calculus.specs.Typing.{TypeNumbers}
use Rattle.calculus.specs.State.{State}
use Rattle.calculus.proofs.Theory.Tests.{clash}
use Rattle.image_layout.specs.Slice.{names}
use Rattle.image.specs.Configuration.{image_of}
use Rattle.run_spec.specs.Course.{rests, look, going_round, all_turns, idle, no_room, Course}
use Rattle.run_spec.specs.HouseRunner.{CanStep, OutOfRoom}
use Rattle.run_spec.proofs.Theory.Searching.{In, Nobody, all_round}
use Rattle.run_spec.proofs.Theory.Looks.{goes_iff, lacks_iff}
use Rattle.demands.proofs.Theory.Reached.{Reached, reached_names}
use Rattle.run_spec.proofs.Theory.ReachedLooks.{not_resting}
use Rattle.run_spec.proofs.Theory.Chain.{Chain, all_taken, nobody_left, one_turn}

-- nobody goes, of all names
module _ {τ : TypeNumbers} {s : State} (r : Reached common τ s) (next : ℕ) {lacked : Bool} (n : Nobody (image_of s.owned) false (going_round (names (image_of s.owned)) next) lacked) where
  -- a name that does not rest comes round
  round : (x : ℕ) → ¬ (look (image_of s.owned) x ≡ rests) → In x (going_round (names (image_of s.owned)) next)
  round x f = all_round (names (image_of s.owned)) next x (omega (arith, not_resting r x f, reached_names r))

  nobody_goes : (x : ℕ) → ¬ CanStep (image_of s.owned) x
  nobody_goes x g =
      let (image', e) = (goes_iff (image_of s.owned) x).1 g in
      n.none x (round x (λ q. clash (cc))) (image', e)

  one_lacks : (lacked ≡ true) ↔ ((x : ℕ) × OutOfRoom (image_of s.owned) x)
  one_lacks = (there, back)
    where
      there : lacked ≡ true → (x : ℕ) × OutOfRoom (image_of s.owned) x
      there t = elim (n.one_lacked t) [ inl f ↦ absurd (false≢true f) | inr (z, e) ↦ (z, (lacks_iff (image_of s.owned) z).0 e) ]

      back : (x : ℕ) × OutOfRoom (image_of s.owned) x → lacked ≡ true
      back (x, f) =
          let g = (lacks_iff (image_of s.owned) x).1 f in
          n.lacked_here x (round x (λ q. clash (cc))) g

-- what it says then
says_room : (b : Bool) → (cond b no_room idle ≡ no_room) ↔ (b ≡ true)
says_room true = (λ e. refl, λ e. refl)
says_room false = (λ e. absurd (clash (cc)), λ e. absurd (false≢true e))

says_idle : (b : Bool) → (cond b no_room idle ≡ idle) ↔ (¬ (b ≡ true))
says_idle true = (λ e. absurd (clash (cc)), λ f. absurd (f refl))
says_idle false = (λ e. false≢true, λ f. refl)

says_less : (b : Bool) → ¬ (cond b no_room idle ≡ all_turns)
says_less true e = clash (cc)
says_less false e = clash (cc)

-- "takes up to k turns"
pub few_turns : {τ : TypeNumbers} {k next : ℕ} {s : State} {c : Course} → Chain τ k next s c → length c.turns ≤ k
few_turns (all_taken r) = omega arith
few_turns (nobody_left r n) = omega arith
few_turns (one_turn r f c) = omega (arith, few_turns c)

-- "after k turns it looks no further"
pub all_turns_iff : {τ : TypeNumbers} {k next : ℕ} {s : State} {c : Course} → Chain τ k next s c → (c.stop ≡ all_turns) ↔ (length c.turns ≡ k)
all_turns_iff (all_taken r) = (λ e. refl, λ e. refl)
all_turns_iff (nobody_left {lacked = lacked} r n) = (λ e. absurd (says_less lacked e), λ e. absurd (omega arith))
all_turns_iff (one_turn r f c) = let (there, back) = all_turns_iff c in (λ e. ap suc (there e), λ e. back (omega arith))

-- the last image of a run that stops before k turns
pub record Stopped (c : Course) : Type 0 where
  pub no_such : (x : ℕ) → ¬ CanStep c.last x
  pub lacked : (c.stop ≡ no_room) ↔ ((x : ℕ) × OutOfRoom c.last x)
  pub not_lacked : (c.stop ≡ idle) ↔ (¬ ((x : ℕ) × OutOfRoom c.last x))

pub stops_before : {τ : TypeNumbers} {k next : ℕ} {s : State} {c : Course} → Chain τ k next s c → length c.turns < k → Stopped c
stops_before (all_taken r) l = absurd (omega arith)
stops_before (nobody_left {next = next} {lacked = lacked} r n) l =
    let (there, back) = one_lacks r next n in
    record {
      no_such = nobody_goes r next n;
      lacked = (λ e. there ((says_room lacked).0 e), λ z. (says_room lacked).1 (back z));
      not_lacked = (λ e z. (says_idle lacked).0 e (back z), λ f. (says_idle lacked).1 (λ t. f (there t)));
    }
stops_before (one_turn r f c) l = let p = stops_before c (omega arith) in record { no_such = p.no_such; lacked = p.lacked; not_lacked = p.not_lacked }
