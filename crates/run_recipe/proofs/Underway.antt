-- A run on its way: what the loop keeps, and a law for each way through it.
use mathlib.Core.Path.{◌∙◌, ◌≡◌, ap, ap₂, refl, subst, subst⁻¹, sym}
use mathlib.Core.Bool.{Bool, cond, false, true}
use mathlib.Core.List.{List}
use Prim.Native.Nat.{ℕ, suc, ◌%◌, ◌+◌, ◌-◌, ◌<◌, ◌≤◌}
use native.Mathlib.Decide.{dec_lt}
use native.Mathlib.Omega.{arith}
use Rattle.std.specs.Prelude.{Result, Ok, Err}
use lib.Dec.{eqb}
use lib.ListN.{length, take}
use lib.Seq.{take_all}
use Rattle.calculus.specs.Profile.{common}
use Rattle.calculus.specs.Owners.{Owned}
use Rattle.calculus.specs.Limits.{max_image_length}
use Rattle.calculus.specs.Image.{nodes_all}
use Rattle.calculus.specs.Reply.{Reply, moved, reply_to}
use Rattle.calculus.proofs.Theory.ConfigRuns.{state_after, state_left}
use Rattle.calculus.proofs.Theory.Tests.{eqb_complete, eqb_differ}
use Rattle.image_layout.specs.Slice.{names}
use Rattle.image.specs.Configuration.{image_of, owned_of}
use Rattle.step_look.specs.Looked.{Stands}
use Rattle.run_spec.specs.declared.Ending.TheVariants.{Turns, Refused}
use Rattle.run_spec.specs.Course.{Course, Search, Stop, all_turns, found, idle, met, no_room, nobody, one_after, stopped_by, search_from, stopped, take_turns, turning}
use Rattle.run_spec.specs.Ending.{ending_by, ending_of, ends_in_first}
use Rattle.demands.proofs.Theory.Reached.{long_reply, reached_after, reached_names, reached_owned, reached_reads, reached_stands, stepping}
use Rattle.run_spec.proofs.Theory.ReachedLooks.{grows}
use Rattle.run_spec.proofs.Theory.Chain.{turn_goes}
use Rattle.run_spec.proofs.Theory.Fair.{goes_below}
use Rattle.run_turn.specs.declared.At.{At}
use Rattle.run_turn.specs.declared.Halt.{Halt}
use Rattle.run_turn.specs.declared.Halt.TheVariants.{Met, Nobody}
use Rattle.run_turn.specs.Turning.{Took, Went, met_one, nobody_went, went}
use Rattle.run_recipe.specs.Running.{Holds, Present, Ready}

-- ---- parity

module _ {A : Type 0} (a b : A) where
  -- the first buffer, or the second
  parity : (t : ℕ) → cond (eqb (t % 2) 0) a b ≡ cond (eqb (t % 2) 1) b a
  parity t = elim (dec_lt (t % 2) 1) [
    | yes l ↦ rw (eqb_complete (t % 2) 0 (omega arith), eqb_differ (t % 2) 1 (omega arith)) refl
    | no l ↦ rw (eqb_differ (t % 2) 0 (omega arith), eqb_complete (t % 2) 1 (omega arith)) refl
  ]

  -- one turn on, the other
  parity_on : (t : ℕ) → cond (eqb ((t + 1) % 2) 1) b a ≡ cond (eqb (t % 2) 1) a b
  parity_on t = elim (dec_lt (t % 2) 1) [
    | yes l ↦ rw (eqb_complete ((t + 1) % 2) 1 (omega arith), eqb_differ (t % 2) 1 (omega arith)) refl
    | no l ↦ rw (eqb_differ ((t + 1) % 2) 1 (omega arith), eqb_complete (t % 2) 1 (omega arith)) refl
  ]

-- ---- the present image

-- a buffer that holds an image is as long
held_inside : (n : ℕ) (l image : List ℕ) → take n l ≡ image → n ≡ length image → n ≤ length l
held_inside n l image h e = elim (dec_lt (length l) n) [ yes p ↦ omega (arith, ap length (sym (take_all n l (omega arith)) ∙ h)) | no p ↦ omega arith ]

module _ {at : At} {buffer : List ℕ} (p : Present at buffer) where
  present_inside : at.length ≤ length buffer
  present_inside = held_inside at.length buffer (image_of p.state.owned) p.holds p.long

  present_stands : Stands (take at.length buffer) at.nodes
  present_stands = rw p.holds (record { stands = reached_stands p.reached; counted = ap nodes_all (reached_reads p.reached) ∙ sym p.nodes })

  present_below : at.next ≤ names (take at.length buffer)
  present_below = omega (arith, p.below, ap names p.holds, reached_names p.reached)

  -- what the turn's step replies, from what the image says
  moves_as : {at' : At} {out : List ℕ} (w : Went (take at.length buffer) at.next at' out) → reply_to common p.state.owned w.thread ≡ moved w.rule w.outcome
  moves_as w =
      ap (λ (I : Owned). reply_to common I w.thread) (sym (ap owned_of p.holds ∙ reached_owned p.reached)) ∙ w.moves

  -- after a turn
  present_on : {at' : At} {out : List ℕ} → Went (take at.length buffer) at.next at' out → Present at' out
  unfolding state_left one_after
  present_on {at'} {out} w =
      let r = p.reached in
      let s = p.state in
      let x = w.thread in
      let found_is : search_from (image_of s.owned) at.next ≡ found x (image_of w.outcome) = rw p.holds at w.found_is in
      let g = turn_goes (image_of s.owned) at.next found_is in
      let moves : reply_to common s.owned x ≡ moved w.rule w.outcome = moves_as w in
      let is : (state_after common p.numbers s (stepping x)).owned ≡ w.outcome = ap (λ (q : Reply). (state_left p.numbers s x q).owned) (long_reply r x max_image_length (omega arith) ∙ moves) in
      record {
        numbers = p.numbers;
        state = state_after common p.numbers s (stepping x);
        reached = reached_after r (stepping x);
        holds = w.holds ∙ ap image_of (sym is);
        long = w.long ∙ ap (λ (I : Owned). length (image_of I)) (sym is);
        nodes = w.nodes ∙ ap (λ (I : Owned). nodes_all I.config) (sym is);
        below = omega (arith, w.next_is, goes_below r x g, grows r x g max_image_length (omega arith));
      }

-- ---- what is left of the course

-- the turns that are left, and those taken, are those of the course
pub record Rest (c : Course) (taken : ℕ) (rest : Course) : Type 0 where
  pub turns : taken + length rest.turns ≡ length c.turns
  pub last : rest.last ≡ c.last
  pub stop : rest.stop ≡ c.stop

module _ (c : Course) (k taken next : ℕ) (image : List ℕ) where
  -- by what the search comes to
  rest_by : {q : Search} → taken < k → search_from image next ≡ q → Rest c taken (take_turns (k - taken) next image) → Rest c taken (turning image next q (take_turns (k - (taken + 1))))
  unfolding take_turns
  rest_by l e q = let n : k - taken ≡ suc (k - (taken + 1)) = omega arith in rw (n, e) at q

  rest_on : {x : ℕ} {image' : List ℕ} → taken < k → search_from image next ≡ found x image' →
      Rest c taken (take_turns (k - taken) next image) → Rest c (taken + 1) (take_turns (k - (taken + 1)) (one_after x) image')
  unfolding turning
  rest_on l e q = let q' = rest_by l e q in record { turns = omega (arith, q'.turns); last = q'.last; stop = q'.stop }

  rest_nobody : {lacked : Bool} → taken < k → search_from image next ≡ nobody lacked → Rest c taken (take_turns (k - taken) next image) → Rest c taken (stopped image (cond lacked no_room idle))
  unfolding turning
  rest_nobody l e q = rest_by l e q

  rest_met : {number : ℕ} → taken < k → search_from image next ≡ met number → Rest c taken (take_turns (k - taken) next image) → Rest c taken (stopped image (stopped_by number))
  unfolding turning
  rest_met l e q = rest_by l e q

  rest_none : ¬ (taken < k) → Rest c taken (take_turns (k - taken) next image) → Rest c taken (stopped image all_turns)
  unfolding take_turns
  rest_none l q = let n : k - taken ≡ 0 = omega arith in rw n at q

-- the run has stopped: how it ends, and the last image
module _ {c : Course} {taken : ℕ} {image : List ℕ} {stop : Stop} (q : Rest c taken (stopped image stop)) where
  taken_all : taken ≡ length c.turns
  taken_all = omega (arith, q.turns)

  ends : (size : ℕ) → size ≡ length image → ending_by stop taken size ≡ ending_of c
  ends size e = rw (taken_all, e, q.last, ← q.stop) refl

  holds_last : (first second : List ℕ) (size : ℕ) → size ≡ length image → take size (cond (eqb (taken % 2) 1) second first) ≡ image → Holds c first second
  unfolding ends_in_first
  holds_last first second size e h =
      let t = taken_all in
      let f : length c.last ≡ size = sym (ap length q.last) ∙ sym e in
      record {
        image =
            ap (λ (n : ℕ). take n (cond (eqb (length c.turns % 2) 0) first second)) f
            ∙ ap (λ (n : ℕ). take size (cond (eqb (n % 2) 0) first second)) (sym t)
            ∙ ap (take size) (parity first second taken)
            ∙ h
            ∙ q.last;
      }

-- what a turn says, by its variant
pub took_as : {s out : List ℕ} {next : ℕ} {t u : Result At Halt} → t ≡ u → Took s next t out → Took s next u out
took_as {s} {out} {next} e t = subst (λ (u : Result At Halt). Took s next u out) e t

went_of : {at' : At} {s out : List ℕ} {next : ℕ} → Took s next (Ok at') out → Went s next at' out
went_of (went w) = w

nobody_of : {s out : List ℕ} {next : ℕ} {lacked : Bool} → Took s next (Err (Nobody lacked)) out → search_from s next ≡ nobody lacked
nobody_of (nobody_went e) = e

met_of : {s out : List ℕ} {next number : ℕ} → Took s next (Err (Met number)) out → search_from s next ≡ met number
met_of (met_one e) = e

-- ---- the loop

pub record Underway (c : Course) (k : ℕ) (first second : List ℕ) (at : At) (taken : ℕ) : Type 0 where
  pub present : Present at (cond (eqb (taken % 2) 1) second first)
  pub first_long : max_image_length ≤ length first
  pub second_long : max_image_length ≤ length second
  pub few : taken ≤ k
  pub rest : Rest c taken (take_turns (k - taken) at.next (take at.length (cond (eqb (taken % 2) 1) second first)))

-- the buffer that is written is long enough
pub other_long : {odd : Bool} {at : At} {first second : List ℕ} → Ready odd at first second → max_image_length ≤ length (cond odd first second)
other_long {odd = true} r = r.first_long
other_long {odd = false} r = r.second_long

module _ {c : Course} {k : ℕ} {first second : List ℕ} {at : At} {taken : ℕ} (u : Underway c k first second at taken) where
  pub underway_ready : Ready (eqb (taken % 2) 1) at first second
  underway_ready =
      record {
        inside = present_inside u.present;
        stands = present_stands u.present;
        below = present_below u.present;
        first_long = u.first_long;
        second_long = u.second_long;
      }

  -- how long the present image is
  size_is : at.length ≡ length (take at.length (cond (eqb (taken % 2) 1) second first))
  size_is = u.present.long ∙ ap length (sym u.present.holds)

  -- it stops here, in buffers of which the one with the present image is as it was
  stops_here : {stop : Stop} (first' second' : List ℕ) → cond (eqb (taken % 2) 1) second' first' ≡ cond (eqb (taken % 2) 1) second first →
      Rest c taken (stopped (take at.length (cond (eqb (taken % 2) 1) second first)) stop) →
      (ending_by stop taken at.length ≡ ending_of c) × Holds c first' second'
  stops_here first' second' same q = (ends q at.length size_is, holds_last q first' second' at.length size_is (ap (take at.length) same))

  module _ (first' second' : List ℕ) (l : taken < k) where
    pub underway_on : {t : Result At Halt} {at' : At} → t ≡ Ok at' → length first' ≡ length first → length second' ≡ length second →
        Took (take at.length (cond (eqb (taken % 2) 1) second first)) at.next t (cond (eqb (taken % 2) 1) first' second') →
        Underway c k first' second' at' (taken + 1)
    underway_on {t} {at'} is a b took =
        let w = went_of (took_as is took) in
        let q = rest_on c k taken at.next (take at.length (cond (eqb (taken % 2) 1) second first)) l w.found_is u.rest in
        record {
          present = rw (parity_on first' second' taken) (present_on u.present w);
          first_long = omega (arith, a, u.first_long);
          second_long = omega (arith, b, u.second_long);
          few = omega arith;
          rest = subst⁻¹ (Rest c (taken + 1)) (ap₂ (take_turns (k - (taken + 1))) w.next_is (ap (take at'.length) (parity_on first' second' taken) ∙ w.holds)) q;
        }

    module _ (same : cond (eqb (taken % 2) 1) second' first' ≡ cond (eqb (taken % 2) 1) second first) {t : Result At Halt} {out : List ℕ} where
      pub underway_nobody : {lacked : Bool} → t ≡ Err (Nobody lacked) → Took (take at.length (cond (eqb (taken % 2) 1) second first)) at.next t out →
          (ending_by (cond lacked no_room idle) taken at.length ≡ ending_of c) × Holds c first' second'
      underway_nobody is took = stops_here first' second' same (rest_nobody c k taken at.next (take at.length (cond (eqb (taken % 2) 1) second first)) l (nobody_of (took_as is took)) u.rest)

      pub underway_met : {number : ℕ} → t ≡ Err (Met number) → Took (take at.length (cond (eqb (taken % 2) 1) second first)) at.next t out →
          (Refused number ≡ ending_of c) × Holds c first' second'
      unfolding ending_by
      underway_met is took = stops_here first' second' same (rest_met c k taken at.next (take at.length (cond (eqb (taken % 2) 1) second first)) l (met_of (took_as is took)) u.rest)

  pub underway_end : k ≤ taken → (Turns k at.length ≡ ending_of c) × Holds c first second
  unfolding ending_by
  underway_end l =
      let all : taken ≡ k = omega (arith, u.few) in
      let (value, holds) = stops_here first second refl (rest_none c k taken at.next (take at.length (cond (eqb (taken % 2) 1) second first)) (omega arith) u.rest) in
      (ap (λ (t : ℕ). Turns t at.length) (sym all) ∙ value, holds)
