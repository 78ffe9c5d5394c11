-- The course of a run from a state that is reached, turn by turn: the chain of states that it goes along. What is proved of courses goes by it.
use Rattle.std.specs.Prelude.{◌≡◌, refl, Bool, cond, false, true, List, ℕ, zero, suc, ◌+◌}
use Rattle.std.proofs.Math.Path.{subst⁻¹}
use Rattle.std.proofs.Math.Option.{some}
use Rattle.std.proofs.Common.{arith}
use Rattle.calculus.specs.Profile.{common}
use Rattle.calculus.specs.Syntax.{at}
use Rattle.calculus.specs.Typing.{TypeNumbers}
use Rattle.calculus.specs.Limits.{max_image_length}
use Rattle.calculus.specs.State.{State}
use Rattle.calculus.proofs.Theory.ConfigRuns.{state_after}
use Rattle.calculus.proofs.Theory.Tests.{clash}
use Rattle.image_layout.specs.Slice.{names}
use Rattle.image.specs.Configuration.{image_of}
use Rattle.run_spec.specs.Course.{goes, look, going_round, Search, found, nobody, met, search_from, Turn, all_turns, idle, no_room, stopped_by, Course, stopped, after_turn, one_after, turning, take_turns}
use Rattle.run_spec.proofs.Theory.Searching.{First, Nobody, search_found, search_nobody}
use Rattle.demands.proofs.Theory.Reached.{Reached, reached_after, stepping}
use Rattle.run_spec.proofs.Theory.ReachedLooks.{goes_on, never_met}

-- what is found goes, and is the first that does
pub turn_first : (image : List ℕ) (next : ℕ) {x : ℕ} {image' : List ℕ} → search_from image next ≡ found x image' → First image (going_round (names image) next) x image'
unfolding search_from
turn_first image next e = search_found image false (going_round (names image) next) e

pub turn_goes : (image : List ℕ) (next : ℕ) {x : ℕ} {image' : List ℕ} → search_from image next ≡ found x image' → look image x ≡ goes image'
turn_goes image next e = (turn_first image next e).0

-- nobody is found where nobody goes
turn_nobody : (image : List ℕ) (next : ℕ) {lacked : Bool} → search_from image next ≡ nobody lacked → Nobody image false (going_round (names image) next) lacked
unfolding search_from
turn_nobody image next e = search_nobody image false (going_round (names image) next) e

-- the turn of thread x in a state
abbrev pub turn_in : State → ℕ → ℕ → Turn
turn_in s next x = record { image = image_of s.owned; next = next; thread = x }

-- a course of up to k turns from s, the first of which looks from `next` on: every state is reached, and there is no other end
pub data Chain (τ : TypeNumbers) : ℕ → ℕ → State → Course → Type 0 where
  all_taken : {next : ℕ} {s : State} → Reached common τ s → Chain τ zero next s (stopped (image_of s.owned) all_turns)
  nobody_left : {k next : ℕ} {s : State} {lacked : Bool} → Reached common τ s → Nobody (image_of s.owned) false (going_round (names (image_of s.owned)) next) lacked →
      Chain τ (suc k) next s (stopped (image_of s.owned) (cond lacked no_room idle))
  one_turn : {k next : ℕ} {s : State} {c : Course} {x : ℕ} {image' : List ℕ} → Reached common τ s → First (image_of s.owned) (going_round (names (image_of s.owned)) next) x image' →
      Chain τ k (one_after x) (state_after common τ s (stepping x)) c → Chain τ (suc k) next s (after_turn (turn_in s next x) c)

pub chain_of : {τ : TypeNumbers} (k next : ℕ) (s : State) → Reached common τ s → Chain τ k next s (take_turns k next (image_of s.owned))
unfolding take_turns turning
chain_of zero next s r = all_taken r
chain_of {τ} (suc k) next s r = go (search_from (image_of s.owned) next) refl (chain_of k)
  where
    go : (q : Search) → search_from (image_of s.owned) next ≡ q → ((next : ℕ) (s : State) → Reached common τ s → Chain τ k next s (take_turns k next (image_of s.owned))) →
        Chain τ (suc k) next s (turning (image_of s.owned) next q (take_turns k))
    go (found x image') e ih =
        let f = turn_first (image_of s.owned) next e in
        one_turn r f (subst⁻¹ (λ (i : List ℕ). Chain τ k (one_after x) (state_after common τ s (stepping x)) (take_turns k (one_after x) i)) (goes_on r x f.0 max_image_length (omega arith)) (ih (one_after x) (state_after common τ s (stepping x)) (reached_after r (stepping x))))
    go (nobody lacked) e ih = nobody_left r (turn_nobody (image_of s.owned) next e)
    go (met n) e ih = absurd (never_met r next n e)

-- no number ends it
pub never_refused : {τ : TypeNumbers} {k next : ℕ} {s : State} {c : Course} → Chain τ k next s c → (n : ℕ) → ¬ (c.stop ≡ stopped_by n)
never_refused (all_taken r) n e = clash (cc)
never_refused (nobody_left {lacked = true} r f) n e = clash (cc)
never_refused (nobody_left {lacked = false} r f) n e = clash (cc)
never_refused (one_turn r f t) n e = never_refused t n e

-- the first turn is handed the image of the first state, and looks from `next` on
pub first_turn : {τ : TypeNumbers} {k next : ℕ} {s : State} {c : Course} → Chain τ k next s c → (t : Turn) → at c.turns 0 ≡ some t → (t.image ≡ image_of s.owned) × (t.next ≡ next)
first_turn (all_taken r) t h = absurd (clash (cc))
first_turn (nobody_left r f) t h = absurd (clash (cc))
first_turn {next = next} {s = s} (one_turn {x = x} r f c) t h = let e : turn_in s next x ≡ t = cc in rw (← e) (refl, refl)

-- each later one from "the one after the last stepped"
pub later_turn : {τ : TypeNumbers} {k next : ℕ} {s : State} {c : Course} → Chain τ k next s c → (i : ℕ) (t u : Turn) →
    at c.turns i ≡ some t → at c.turns (suc i) ≡ some u → u.next ≡ t.thread + 1
unfolding one_after
later_turn (all_taken r) i t u h g = absurd (clash (cc))
later_turn (nobody_left r f) i t u h g = absurd (clash (cc))
later_turn {next = next} {s = s} (one_turn {x = x} r f c) zero t u h g = let e : turn_in s next x ≡ t = cc in rw (← e) (first_turn c u g).1
later_turn (one_turn r f c) (suc i) t u h g = later_turn c i t u h g

-- "A turn steps the first thread .. that a rule moves and that has room"
pub each_first : {τ : TypeNumbers} {k next : ℕ} {s : State} {c : Course} → Chain τ k next s c → (i : ℕ) (t : Turn) → at c.turns i ≡ some t →
    (image' : List ℕ) × First t.image (going_round (names t.image) t.next) t.thread image'
each_first (all_taken r) i t h = absurd (clash (cc))
each_first (nobody_left r f) i t h = absurd (clash (cc))
each_first {next = next} {s = s} (one_turn {x = x} {image' = image'} r f c) zero t h = let e : turn_in s next x ≡ t = cc in rw (← e) (image', f)
each_first (one_turn r f c) (suc i) t h = each_first c i t h
