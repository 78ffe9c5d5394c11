-- T-04, "the turns are the steps of that chain of images": of all calls that step the threads of the turns, whatever their buffers, if these are long enough.
use Rattle.std.proofs.Common.{◌∙◌, sym, arith}
use Rattle.std.specs.Prelude.{◌≡◌}
use Rattle.std.proofs.Math.Path.{ap, refl}
use Rattle.std.proofs.Math.Option.{some}
use mathlib.Core.List.{List, [], ◌∷◌, map}
use Prim.Native.Nat.{ℕ, zero, suc, ◌≤◌}
use Rattle.std.proofs.Math.ListN.{length}
use Rattle.calculus.specs.Profile.{common}
use Rattle.calculus.specs.Syntax.{at}
use Rattle.calculus.specs.Typing.{TypeNumbers}
use Rattle.calculus.specs.Limits.{max_image_length}
use Rattle.calculus.specs.State.{State}
use Rattle.calculus.proofs.Theory.ConfigRuns.{state_after, state_left}
use Rattle.calculus.proofs.Theory.Tests.{clash}
use Rattle.image.specs.Configuration.{image_of}
use Rattle.step_spec.specs.declared.Outcome.TheVariants.{Rule}
use Rattle.step_spec.specs.Stepping.{outcome_of_reply}
use Rattle.runs.specs.Run.{Call, Follows, Step, answer, left, types_left, steps}
use Rattle.runs.proofs.Theory.Steps.{call_of, answers, leaves_image, leaves_types}
use Rattle.run_spec.specs.Course.{goes, look, Turn, Stop, Course, stopped, after_turn}
use Rattle.run_spec.specs.HouseRunner.{chain, stepped}
use Rattle.demands.proofs.Theory.Reached.{Reached, reached_kept, stepping, long_reply}
use Rattle.run_spec.proofs.Theory.ReachedLooks.{goes_by}
use Rattle.run_spec.proofs.Theory.Chain.{Chain, all_taken, nobody_left, one_turn, turn_in}

-- step number i of calls answers a rule, and goes from image to image of a chain
abbrev InChain : List (List ℕ) → ℕ → Step → Type 0
InChain images i n = ((rule size : ℕ) × (answer n ≡ Rule rule size)) × ((at images i ≡ some n.image) × (at images (suc i) ≡ some (left n)))

-- the steps of calls from a state are the chain of a course
pub record AreSteps (τ : TypeNumbers) (s : State) (c : Course) (calls : List Call) : Type 0 where
  pub begins : at (chain c) 0 ≡ some (image_of s.owned)
  pub as_many : length (steps common τ (image_of s.owned) s.names calls) ≡ length c.turns
  pub each : (i : ℕ) (n : Step) → at (steps common τ (image_of s.owned) s.names calls) i ≡ some n → InChain (chain c) i n

module _ {τ : TypeNumbers} where
  -- no turn
  no_steps : (s : State) (stop : Stop) (calls : List Call) → Follows (stepped (stopped (image_of s.owned) stop)) calls → AreSteps τ s (stopped (image_of s.owned) stop) calls
  unfolding steps
  no_steps s stop [] f = record { begins = refl; as_many = refl; each = λ i n h. absurd (clash (cc)) }
  no_steps s stop (c ∷ calls) f = let e = f.threads in absurd (clash (cc))

  -- the state after a step does not depend on the buffer, if it is long enough
  long_after : {s : State} → Reached common τ s → (x b : ℕ) → max_image_length ≤ b → state_after common τ s (record { thread = x; buffer = b }) ≡ state_after common τ s (stepping x)
  long_after {s} r x b l = ap (state_left τ s x) (long_reply r x b l ∙ sym (long_reply r x max_image_length (omega arith)))

  -- one step more, that of call a: it leaves the state s'
  step_more : (s s' : State) (a : Call) (next x : ℕ) (c : Course) (calls : List Call) → let n : Step = record { profile = common; image = image_of s.owned; types = s.names; call = a } in
      (rule size : ℕ) × (answer n ≡ Rule rule size) → left n ≡ image_of s'.owned → types_left τ n ≡ s'.names → AreSteps τ s' c calls →
      AreSteps τ s (after_turn (turn_in s next x) c) (a ∷ calls)
  unfolding steps
  step_more s s' a next x c calls moves l ts onward = record { begins = refl; as_many = ap suc (rw (l, ts) onward.as_many); each = each }
    where
      each : (i : ℕ) (n : Step) → at (steps common τ (image_of s.owned) s.names (a ∷ calls)) i ≡ some n → InChain (chain (after_turn (turn_in s next x) c)) i n
      each zero n h =
          let e : record { profile = common; image = image_of s.owned; types = s.names; call = a } ≡ n = cc in
          rw (← e) (moves, (refl, onward.begins ∙ ap some (sym l)))
      each (suc i) n h = onward.each i n (rw (l, ts) at h)

  -- one turn more
  turn_more : {s : State} (r : Reached common τ s) (next x : ℕ) {image' : List ℕ} → look (image_of s.owned) x ≡ goes image' → (c : Course) →
      ((calls : List Call) → Follows (stepped c) calls → AreSteps τ (state_after common τ s (stepping x)) c calls) → (calls : List Call) →
      Follows (stepped (after_turn (turn_in s next x) c)) calls → AreSteps τ s (after_turn (turn_in s next x) c) calls
  unfolding outcome_of_reply
  turn_more r next x g c ih [] f = let e = f.threads in absurd (clash (cc))
  turn_more {s} r next x {image'} g c ih (a ∷ calls) f =
      let threads = f.threads in
      let same : a.thread ≡ x = cc in
      let rest : map (λ (a : Call). a.thread) calls ≡ map (λ (t : Turn). t.thread) c.turns = cc in
      let long = f.long 0 a refl in
      let after : state_after common τ s (call_of a) ≡ state_after common τ s (stepping x) = long_after r a.thread (length a.out) long ∙ ap (λ (y : ℕ). state_after common τ s (stepping y)) same in
      let g' : look (image_of s.owned) a.thread ≡ goes image' = ap (look (image_of s.owned)) same ∙ g in
      let (k, I', e, i) = goes_by r a.thread g' in
      let moves = answers common τ s (reached_kept r) a ∙ ap outcome_of_reply (long_reply r a.thread (length a.out) long ∙ e) in
      step_more s (state_after common τ s (stepping x)) a next x c calls (k, length (image_of I'), moves)
      (leaves_image common τ s (reached_kept r) a ∙ ap (λ (s' : State). image_of s'.owned) after)
      (leaves_types common τ s (reached_kept r) a ∙ ap (λ (s' : State). s'.names) after)
      (ih calls (record { threads = rest; long = λ i d h. f.long (suc i) d h }))

pub are_steps : {τ : TypeNumbers} {k next : ℕ} {s : State} {c : Course} → Chain τ k next s c → (calls : List Call) → Follows (stepped c) calls → AreSteps τ s c calls
are_steps {s = s} (all_taken r) calls f = no_steps s _ calls f
are_steps {s = s} (nobody_left r n) calls f = no_steps s _ calls f
are_steps {next = next} (one_turn {c = c} {x = x} r (g, only) h) calls f = turn_more r next x g c (λ calls f. are_steps h calls f) calls f
