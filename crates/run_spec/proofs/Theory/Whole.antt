-- What T-04 says of every run, proved.
use Rattle.std.proofs.Common.{◌∙◌, sym, arith}
use Rattle.std.specs.Prelude.{◌≡◌, ◌↔◌, List, ℕ, ◌≤◌, length}
use Rattle.calculus.specs.Bytes.{Bytes}
use Rattle.calculus.specs.Causes.{buffer_cause}
use Rattle.calculus.specs.Limits.{max_image_length}
use Rattle.check_spec.specs.Verdict.{refusal, verdict_of}
use Rattle.check_spec.proofs.Theory.Answers.{refusal_is}
use Rattle.load_spec.specs.Starting.{starting_image}
use Rattle.runs.specs.Run.{Call, Follows}
use Rattle.runs.proofs.Theory.Steps.{follows_into}
use Rattle.demands.proofs.Theory.Third.{loaded_is, accepted_demand}
use Rattle.run_spec.specs.Course.{Course, course_of}
use Rattle.run_spec.specs.Ending.{ran}
use Rattle.run_spec.specs.HouseRunner.{HouseRunner, IsChain, TurnsDemand, stepped}
use Rattle.run_spec.proofs.Theory.Looks.{goes_iff}
use Rattle.run_spec.proofs.Theory.Chain.{each_first, first_turn, later_turn}
use Rattle.run_spec.proofs.Theory.Stopping.{all_turns_iff, few_turns, stops_before}
use Rattle.run_spec.proofs.Theory.Fair.{fair_from}
use Rattle.run_spec.proofs.Theory.Steps.{are_steps}
use Rattle.run_spec.proofs.Theory.Ends.{ends_idle, ends_room, ends_turns, even_held, nothing_written, odd_held, ran_course, ran_number, recipe_chain, run_12_iff, run_long}

-- one equivalence after the other
both : {A B C : Type 0} → A ↔ B → B ↔ C → A ↔ C
both (there, back) (on, home) = (λ a. on (there a), λ c. back (home c))

module _ (file : List ℕ) (b : Bytes file) (v : (verdict_of file).refusal ≡ 0) (k : ℕ) where
  accepted : refusal file ≡ 0
  accepted = sym (refusal_is file) ∙ v

  is_chain : (out : List ℕ) → max_image_length ≤ length out → (calls : List Call) → Follows (stepped (course_of file k)) calls → IsChain file out (course_of file k) calls
  unfolding starting_image
  is_chain out long calls f =
      let i = loaded_is file out accepted long in
      let c = are_steps (recipe_chain file b accepted k) calls f in
      record { begins = rw i c.begins; as_many = rw i c.as_many; each = rw i c.each }

  turns_demand : (first second : ℕ) → max_image_length ≤ first → max_image_length ≤ second → TurnsDemand file k (course_of file k) (ran file k first second)
  turns_demand first second l m =
      let h = recipe_chain file b accepted k in
      let c : Course = course_of file k in
      let e = ran_course file first second k (run_long file first second l m ∙ accepted) in
      record {
        few = few_turns h;
        goes = λ i t e. let (image', (g, only)) = each_first h i t e in (goes_iff t.image t.thread).0 (image', g);
        first = λ i t e x r g. let (image', (_, only)) = each_first h i t e in only x r ((goes_iff t.image x).1 g);
        from_lowest = λ t e. (first_turn h t e).1;
        from_next = later_turn h;
        no_such = λ l. (stops_before h l).no_such;
        lacked = λ l. rw e (both (ends_room c.stop (length c.turns) (length c.last)) (stops_before h l).lacked);
        not_lacked = λ l. rw e (both (ends_idle c.stop (length c.turns) (length c.last)) (stops_before h l).not_lacked);
        all_taken = rw e (both (ends_turns c.stop (length c.turns) (length c.last)) (all_turns_iff h));
        followed = λ out long. follows_into out long (stepped c);
        chained = is_chain;
        demanded = λ out long calls f. accepted_demand file b v out long calls;
        fair = fair_from h (omega arith);
      }

pub house_runner : HouseRunner
house_runner = record {
  twelve = λ file b k first second.
      let (there, back) = ran_number file first second k b buffer_cause in
      let (short, refused) = run_12_iff file first second in
      (λ e. short (there e).1, λ l. back (λ z. omega arith, refused l));
  number = λ file b k first second l m n.
      let (there, back) = ran_number file first second k b n in
      let same = run_long file first second l m ∙ sym (refusal_is file) in
      (λ e. let (z, q) = there e in (z, sym same ∙ q), λ (z, q). back (z, same ∙ q));
  turns = turns_demand;
  buffers = λ file k first second first' second' leaves.
      record {
        unwritten = nothing_written file k first second first' second' leaves;
        in_the_first = even_held file k first second first' second' leaves;
        in_the_second = odd_held file k first second first' second' leaves;
      };
}
