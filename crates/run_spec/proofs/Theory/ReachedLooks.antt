-- What a look at a name of an image that a run comes to finds.
use Rattle.std.proofs.Common.{◌∙◌, sym, arith}
use Rattle.std.specs.Prelude.{◌≡◌, ◌↔◌, Bool, cond, true, List, ℕ, ◌<◌, ◌≤◌}
use Rattle.std.proofs.Math.Path.{ap, refl}
use Rattle.std.proofs.Math.Bool.{false}
use Rattle.std.proofs.Math.Decide.{dec_lt}
use Rattle.std.proofs.Math.ListN.{length}
use Rattle.calculus.specs.Profile.{common, room_test}
use Rattle.calculus.specs.Syntax.{Config}
use Rattle.calculus.specs.Owners.{Owned, grown}
use Rattle.calculus.specs.Typing.{TypeNumbers}
use Rattle.calculus.specs.Reduction.{Rule, number, Reduces}
use Rattle.calculus.specs.Step.{Answer, rule, waiting, done, no_thread, used_handle, wrong_kind, step_of}
use Rattle.calculus.specs.Limits.{max_image_length}
use Rattle.calculus.specs.Image.{limits_test, WithinLimits}
use Rattle.calculus.specs.State.{State}
use Rattle.calculus.specs.Reply.{Reply, moved, refuses, reply_of, reply_to}
use Rattle.calculus.specs.Causes.{room_cause, used_handle_cause, wrong_kind_cause}
use Rattle.calculus.proofs.Theory.Tests.{clash}
use Rattle.calculus.proofs.Theory.Lists.{at_past}
use Rattle.calculus.proofs.Theory.Step.{no_thread_iff}
use Rattle.calculus.proofs.Theory.Owners.{no_fewer}
use Rattle.calculus.proofs.Theory.Replies.{moved_answer}
use Rattle.calculus.proofs.Theory.ConfigRuns.{state_after, state_left}
use Rattle.image_layout.specs.Slice.{names}
use Rattle.image.specs.Configuration.{image_of}
use Rattle.step_spec.specs.Stepping.{outcome_of_reply}
use Rattle.step_spec.proofs.Theory.Exactly.{rule_exactly, step_is}
use Rattle.runs.proofs.Theory.Steps.{answered_refused}
use Rattle.demands.proofs.Theory.Second.{room_iff}
use Rattle.demands.proofs.Theory.Reached.{Reached, reached_kept, long_reply, no_cause}
use Rattle.run_spec.specs.Course.{goes, lacks_room, rests, passes_on, look_of, look, met, search_from, going_round}
use Rattle.run_spec.proofs.Theory.Searching.{search_met}
use Rattle.run_spec.proofs.Theory.Looks.{look_goes, look_lacks, no_thread_rests}

module _ {τ : TypeNumbers} {s : State} (r : Reached common τ s) where
  pub look_is : (x : ℕ) → look (image_of s.owned) x ≡ look_of (reply_to common s.owned x)
  unfolding look
  look_is x = ap look_of (step_is common s.owned (reached_kept r) x max_image_length (omega arith))

  -- a name that is none of the image's rests
  pub look_past : (x : ℕ) → length s.owned.config ≤ x → look (image_of s.owned) x ≡ rests
  unfolding reply_of
  look_past x l =
      let n : step_of s.owned.config x ≡ no_thread = (no_thread_iff s.owned.config x).1 (λ e h. let q = at_past s.owned.config x l in clash (cc)) in
      look_is x ∙ ap (λ (a : Answer). look_of (reply_of (room_test common s.owned) (grown s.owned x) a)) n ∙ no_thread_rests

  -- so one that does not rest is
  pub not_resting : (x : ℕ) → ¬ (look (image_of s.owned) x ≡ rests) → x < length s.owned.config
  not_resting x f = elim (dec_lt x (length s.owned.config)) [ yes l ↦ l | no l ↦ absurd (f (look_past x (omega arith))) ]

  module _ (x : ℕ) {image' : List ℕ} (g : look (image_of s.owned) x ≡ goes image') where
    -- the rule that moves it
    pub goes_by : (k : ℕ) × (I' : Owned) × (reply_to common s.owned x ≡ moved k I') × (image' ≡ image_of I')
    goes_by = look_goes (reply_to common s.owned x) (sym (look_is x) ∙ g)

    -- the state after its step, into any buffer that is long enough
    pub goes_on : (b : ℕ) → max_image_length ≤ b → image' ≡ image_of (state_after common τ s (record { thread = x; buffer = b })).owned
    unfolding state_left
    goes_on b l = let (k, I', e, i) = goes_by in i ∙ ap (λ (q : Reply). image_of (state_left τ s x q).owned) (sym (long_reply r x b l ∙ e))

    pub grows : (b : ℕ) → max_image_length ≤ b → length s.owned.config ≤ length (state_after common τ s (record { thread = x; buffer = b })).owned.config
    unfolding state_left
    grows b l =
        let (k, I', e, i) = goes_by in
        let (r', n, d, w, g) = moved_answer common s.owned x (step_of s.owned.config x) refl e in
        let p : (state_after common τ s (record { thread = x; buffer = b })).owned.config ≡ I'.config = ap (λ (q : Reply). (state_left τ s x q).owned.config) (long_reply r x b l ∙ e) in
        omega (arith, no_fewer d, ap length p)

  -- "that a rule moves and that has room": exactly where Fig. 5 has the move and its outcome is within the limits
  pub goes_exactly : (x : ℕ) (image' : List ℕ) →
      (look (image_of s.owned) x ≡ goes image') ↔ ((r : Rule) × (C' : Config) × Reduces s.owned.config x r C' × WithinLimits C' × (image' ≡ image_of (grown s.owned x C')))
  unfolding look look_of
  goes_exactly x image' = (
    λ g.
        let (k, I', e, i) = goes_by x g in
        let (r', n, d, w, o) = moved_answer common s.owned x (step_of s.owned.config x) refl e in
        (r', I'.config, d, w, i ∙ ap image_of o),
    λ (r', C', d, w, i). ap look_of ((rule_exactly common s.owned (reached_kept r) x max_image_length (omega arith) (number r') C').1 (r', refl, d, w)) ∙ ap goes (sym i),
  )

  -- "whether one lacked room": exactly where Fig. 5 has the move and its outcome is above a limit
  pub lacks_exactly : (x : ℕ) → (look (image_of s.owned) x ≡ lacks_room) ↔ ((r : Rule) × (C' : Config) × Reduces s.owned.config x r C' × (¬ WithinLimits C'))
  unfolding look_of outcome_of_reply
  lacks_exactly x =
      let q = reply_to common s.owned x in (
        λ e. (room_iff common s.owned x).0 (ap outcome_of_reply (look_lacks q (sym (look_is x) ∙ e))),
        λ l. look_is x ∙ ap look_of ((answered_refused q room_cause).0 ((room_iff common s.owned x).1 l)),
      )

  -- and so no look has a number to pass on: 14 rests, 15 lacks room, and a long buffer is not answered 12
  pub never_passes : (x n : ℕ) → ¬ (look (image_of s.owned) x ≡ passes_on n)
  unfolding reply_of look_of limits_test
  never_passes x n e = let (a, b, c) = no_cause r x in go (step_of s.owned.config x) b c (sym (look_is x) ∙ e)
    where
      told : Answer → Reply
      told a = reply_of (room_test common s.owned) (grown s.owned x) a

      room : (b : Bool) (k : ℕ) (I' : Owned) → ¬ (look_of (cond b (moved k I') (refuses room_cause)) ≡ passes_on n)
      room true k I' e = clash (cc)
      room false k I' e = clash (cc)

      go : (a : Answer) → ¬ (told a ≡ refuses used_handle_cause) → ¬ (told a ≡ refuses wrong_kind_cause) → ¬ (look_of (told a) ≡ passes_on n)
      go (rule r' C') p q e = room (limits_test C') (number r') (grown s.owned x C') e
      go (waiting y) p q e = clash (cc)
      go done p q e = clash (cc)
      go no_thread p q e = clash (cc)
      go used_handle p q e = p refl
      go wrong_kind p q e = q refl

  pub never_met : (next n : ℕ) → ¬ (search_from (image_of s.owned) next ≡ met n)
  unfolding search_from
  never_met next n e = let (z, q) = search_met (image_of s.owned) false (going_round (names (image_of s.owned)) next) e in never_passes z n q
