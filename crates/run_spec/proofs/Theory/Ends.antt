-- T-04: what the runner answers and leaves, from the first cause that fits and the course of its run.
use Rattle.std.proofs.Common.{◌∙◌, sym, inl, inr, arith}
use Rattle.std.specs.Prelude.{◌≡◌, ◌↔◌, ◌⊎◌, Bool, ◌||◌, List, ℕ, ◌%◌, ◌<◌, ◌≤◌, ltb, length, take}
use Rattle.std.proofs.Math.Path.{ap, refl}
use Rattle.std.proofs.Math.Bool.{cond, false, or-true, true}
use Rattle.std.proofs.Math.Decide.{dec_lt}
use Rattle.std.proofs.Math.Dec.{eqb}
use Rattle.std.proofs.Math.Seq.{take-append_seam}
use Rattle.calculus.specs.Profile.{common}
use Rattle.calculus.specs.Bytes.{Bytes}
use Rattle.calculus.specs.Limits.{max_image_length}
use Rattle.calculus.specs.Causes.{buffer_cause}
use Rattle.calculus.specs.Lowest.{first_cause}
use Rattle.calculus.specs.Table.{type_at}
use Rattle.calculus.proofs.Theory.Tests.{clash, eqb_complete, eqb_differ, eqb_sound, ltb_complete, ltb_not}
use Rattle.recipe_table.specs.Entries.{type_table}
use Rattle.check_spec.specs.Verdict.{check_causes, refusal}
use Rattle.check_spec.proofs.Theory.Answers.{not_12}
use Rattle.load_spec.specs.Starting.{starting_image, starting_state}
use Rattle.run_spec.specs.declared.Ending.{Ending}
use Rattle.run_spec.specs.declared.Ending.TheVariants.{Turns, Idle, Room, Refused}
use Rattle.run_spec.specs.Course.{Stop, all_turns, idle, no_room, stopped_by, course_of}
use Rattle.run_spec.specs.Ending.{Leaves, ending_by, ending_of, ends_in_first, ran, run_refusal, unless_refused}
use Rattle.demands.proofs.Theory.Reached.{reached_start}
use Rattle.run_spec.proofs.Theory.Chain.{Chain, chain_of, never_refused}

-- the course of an accepted recipe's run goes along reached states
pub recipe_chain : (file : List ℕ) → Bytes file → refusal file ≡ 0 → (k : ℕ) → Chain (type_at (type_table file)) k 0 (starting_state file) (course_of file k)
unfolding course_of starting_image
recipe_chain file b accepted k = chain_of k 0 (starting_state file) (reached_start common file b accepted)

-- an ending tells why the course stops
ends_refused : (stop : Stop) (turns size n : ℕ) → ending_by stop turns size ≡ Refused n → stop ≡ stopped_by n
unfolding ending_by
ends_refused all_turns turns size n e = absurd (clash (cc))
ends_refused idle turns size n e = absurd (clash (cc))
ends_refused no_room turns size n e = absurd (clash (cc))
ends_refused (stopped_by m) turns size n e = cc

pub ends_turns : (stop : Stop) (turns size : ℕ) → (ending_by stop turns size ≡ Turns turns size) ↔ (stop ≡ all_turns)
unfolding ending_by
ends_turns all_turns turns size = (λ e. refl, λ e. refl)
ends_turns idle turns size = (λ e. absurd (clash (cc)), λ e. absurd (clash (cc)))
ends_turns no_room turns size = (λ e. absurd (clash (cc)), λ e. absurd (clash (cc)))
ends_turns (stopped_by m) turns size = (λ e. absurd (clash (cc)), λ e. absurd (clash (cc)))

pub ends_idle : (stop : Stop) (turns size : ℕ) → (ending_by stop turns size ≡ Idle turns size) ↔ (stop ≡ idle)
unfolding ending_by
ends_idle all_turns turns size = (λ e. absurd (clash (cc)), λ e. absurd (clash (cc)))
ends_idle idle turns size = (λ e. refl, λ e. refl)
ends_idle no_room turns size = (λ e. absurd (clash (cc)), λ e. absurd (clash (cc)))
ends_idle (stopped_by m) turns size = (λ e. absurd (clash (cc)), λ e. absurd (clash (cc)))

pub ends_room : (stop : Stop) (turns size : ℕ) → (ending_by stop turns size ≡ Room turns size) ↔ (stop ≡ no_room)
unfolding ending_by
ends_room all_turns turns size = (λ e. absurd (clash (cc)), λ e. absurd (clash (cc)))
ends_room idle turns size = (λ e. absurd (clash (cc)), λ e. absurd (clash (cc)))
ends_room no_room turns size = (λ e. refl, λ e. refl)
ends_room (stopped_by m) turns size = (λ e. absurd (clash (cc)), λ e. absurd (clash (cc)))

-- one of two buffers is too short
either_short : (first second : ℕ) → (first < max_image_length) ⊎ (second < max_image_length) → (ltb first max_image_length || ltb second max_image_length) ≡ true
either_short first second (inl l) = rw (ltb_complete first max_image_length l) refl
either_short first second (inr l) = rw (ltb_complete second max_image_length l) (or-true (ltb first max_image_length))

module _ (file : List ℕ) (first second : ℕ) where
  -- "12 first and for either buffer", then the causes of the file
  pub run_short : (first < max_image_length) ⊎ (second < max_image_length) → run_refusal file first second ≡ buffer_cause
  unfolding run_refusal
  run_short l = ap (λ (b : Bool). cond b buffer_cause (first_cause (check_causes file))) (either_short first second l)

  pub run_long : max_image_length ≤ first → max_image_length ≤ second → run_refusal file first second ≡ refusal file
  unfolding run_refusal refusal
  run_long l m = rw (ltb_not first max_image_length l, ltb_not second max_image_length m) refl

  -- one of them is too short, or both are long enough
  short_or_long : ((first < max_image_length) ⊎ (second < max_image_length)) ⊎ ((max_image_length ≤ first) × (max_image_length ≤ second))
  short_or_long = go (dec_lt first max_image_length) (dec_lt second max_image_length)
    where
      go : Dec (first < max_image_length) → Dec (second < max_image_length) → ((first < max_image_length) ⊎ (second < max_image_length)) ⊎ ((max_image_length ≤ first) × (max_image_length ≤ second))
      go (yes l) m = inl (inl l)
      go (no l) (yes m) = inl (inr m)
      go (no l) (no m) = inr (omega arith, omega arith)

  pub run_12_iff : (run_refusal file first second ≡ buffer_cause) ↔ ((first < max_image_length) ⊎ (second < max_image_length))
  run_12_iff = (λ e. elim short_or_long [ inl l ↦ l | inr (l, m) ↦ absurd (not_12 file (sym (run_long l m) ∙ e)) ], run_short)

  -- where no cause fits, the recipe is accepted
  pub run_accepted : run_refusal file first second ≡ 0 → refusal file ≡ 0
  run_accepted e = elim short_or_long [ inl l ↦ absurd (let q = run_short l in omega arith) | inr (l, m) ↦ sym (run_long l m) ∙ e ]

  module _ (k : ℕ) where
    pub ran_course : run_refusal file first second ≡ 0 → ran file k first second ≡ ending_of (course_of file k)
    unfolding ran
    ran_course e = rw (eqb_complete (run_refusal file first second) 0 e) refl

    pub ran_refused : ¬ (run_refusal file first second ≡ 0) → ran file k first second ≡ Refused (run_refusal file first second)
    unfolding ran
    ran_refused n = rw (eqb_differ (run_refusal file first second) 0 n) refl

    -- it refuses with the number of the first cause that fits, and with no other
    pub ran_number : Bytes file → (n : ℕ) → (ran file k first second ≡ Refused n) ↔ ((¬ (n ≡ 0)) × (run_refusal file first second ≡ n))
    unfolding ran
    ran_number b n = (λ e. there (eqb (run_refusal file first second) 0) refl e, back)
      where
        there : (t : Bool) → eqb (run_refusal file first second) 0 ≡ t → cond t (ending_of (course_of file k)) (Refused (run_refusal file first second)) ≡ Refused n → (¬ (n ≡ 0)) × (run_refusal file first second ≡ n)
        there true q e =
            let h = recipe_chain file b (run_accepted (eqb_sound (run_refusal file first second) 0 q)) k in
            absurd (never_refused h n (ends_refused (course_of file k).stop (length (course_of file k).turns) (length (course_of file k).last) n e))
        there false q e = let p : run_refusal file first second ≡ n = cc in (λ z. clash (let w = eqb_complete (run_refusal file first second) 0 (p ∙ z) in cc), p)

        back : (¬ (n ≡ 0)) × (run_refusal file first second ≡ n) → ran file k first second ≡ Refused n
        back (z, p) = ran_refused (λ w. z (sym p ∙ w)) ∙ ap Refused p

-- what a buffer holds, by the ending
pub unless_unwritten : (e : Ending) (new before : List ℕ) (n : ℕ) → e ≡ Refused n → unless_refused e new before ≡ before
unfolding unless_refused
unless_unwritten e new before n q = rw q refl

pub unless_written : (e : Ending) (new before : List ℕ) → ((n : ℕ) → ¬ (e ≡ Refused n)) → unless_refused e new before ≡ new
unfolding unless_refused
unless_written (Turns turns size) new before f = refl
unless_written (Idle turns size) new before f = refl
unless_written (Room turns size) new before f = refl
unless_written (Refused n) new before f = absurd (f n refl)

module _ (file : List ℕ) (k : ℕ) (first second first' second' : List ℕ) (leaves : Leaves file k first second first' second') where
  -- a refusal "writes nothing"
  pub nothing_written : (n : ℕ) → ran file k (length first) (length second) ≡ Refused n → (first' ≡ first) × (second' ≡ second)
  nothing_written n e = (leaves.first_is ∙ unless_unwritten _ _ first n e, leaves.second_is ∙ unless_unwritten _ _ second n e)

  -- "the last image's buffer"
  module _ (f : (n : ℕ) → ¬ (ran file k (length first) (length second) ≡ Refused n)) where
    last_in : (t : Bool) → ends_in_first (course_of file k) ≡ t → take (length (course_of file k).last) (cond t first' second') ≡ (course_of file k).last
    last_in true e = rw (leaves.first_is ∙ unless_written _ _ first f, e) (take-append_seam (course_of file k).last leaves.beyond)
    last_in false e = rw (leaves.second_is ∙ unless_written _ _ second f, e) (take-append_seam (course_of file k).last leaves.beyond)

    pub even_held : length (course_of file k).turns % 2 ≡ 0 → take (length (course_of file k).last) first' ≡ (course_of file k).last
    unfolding ends_in_first
    even_held e = last_in true (eqb_complete (length (course_of file k).turns % 2) 0 e)

    pub odd_held : length (course_of file k).turns % 2 ≡ 1 → take (length (course_of file k).last) second' ≡ (course_of file k).last
    unfolding ends_in_first
    odd_held e = last_in false (eqb_differ (length (course_of file k).turns % 2) 0 (λ z. omega arith))
