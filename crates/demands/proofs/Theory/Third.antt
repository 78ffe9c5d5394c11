-- The third demand, of every run of every accepted recipe: from the calculus's claim, step by step.
use Rattle.std.proofs.Common.{◌∙◌, subst, sym, arith}
use Rattle.std.specs.Prelude.{◌≡◌, refl, ◌↔◌, List, map, ◌≤◌, ℕ, drop, length}
use Rattle.std.proofs.Math.Decide.{dec_lt}
use Rattle.std.proofs.Math.Seq.{take-append_seam}
use Rattle.calculus.specs.Profile.{Profile, common}
use Rattle.calculus.specs.Owners.{Owned}
use Rattle.calculus.specs.Reduction.{HANDLE_BIND, number}
use Rattle.calculus.specs.Typing.{TypeNumbers}
use Rattle.calculus.specs.Limits.{max_bays, max_image_length}
use Rattle.calculus.specs.Causes.{buffer_cause, image_cause, no_thread_cause, used_handle_cause, wrong_kind_cause}
use Rattle.calculus.proofs.Theory.ConfigRuns as calculus
use Rattle.calculus.specs.State.{State, ValuesTyped}
use Rattle.calculus.specs.Reply.{refuses}
use Rattle.calculus.proofs.Theory.ConfigRuns.{state_after, config_reply}
use Rattle.calculus.specs.Bytes.{Bytes}
use Rattle.calculus.specs.Table.{type_at}
use Rattle.calculus.proofs.Theory.Images.{Kept, kept_more}
use Rattle.calculus.proofs.Theory.Claim.{demand, images}
use Rattle.recipe_table.specs.Entries.{type_table}
use Rattle.check_spec.specs.Verdict.{refusal, verdict_of}
use Rattle.check_spec.proofs.Theory.Accepted.{admitted}
use Rattle.load_spec.specs.Starting.{starting_image, starting_state}
use Rattle.load_spec.specs.Loading.{load_refusal, loaded_of, out_after_load}
use Rattle.load_spec.proofs.Theory.Image.{says}
use Rattle.load_spec.proofs.Theory.Answers.{profile_parts, short, long, long_common, load_refusal_is}
use Rattle.image.specs.Configuration.{image_of, config_of}
use Rattle.image.proofs.Theory.Exactly.{owned_again, read_again}
use Rattle.step_spec.specs.declared.Outcome.TheVariants.{Rule, Refused}
use Rattle.runs.specs.Run.{Call, Step, answer, left, types_left, Applies, Binds, IsThread, Goes, ValuesTypedIn, image_loaded, types_loaded}
use Rattle.check_spec.proofs.Theory.Answers.{refusal_is}
use Rattle.demands.specs.Demands.{RunDemand, ThirdDemand}
use Rattle.runs.proofs.Theory.Steps.{call_of, answered_rule, answered_refused, answered_goes, answers, leaves_image, leaves_types}
use Rattle.runs.proofs.Theory.Binding.{rule_5}
use Rattle.runs.proofs.Theory.Simulates.{AllKept, kept_first, Simulates, same, simulates}

-- an image says its configuration
reads : {I : Owned} → Kept max_bays I → config_of (image_of I) ≡ I.config
reads {I} k = read_again I k

-- and that its names have values of their types
typed_in : {τ : TypeNumbers} (s : State) → Kept max_bays s.owned → ValuesTyped τ s → ValuesTypedIn τ (image_of s.owned) s.names
typed_in {τ} s k v = subst (λ (I : Owned). ValuesTyped τ (record { names = s.names; owned = I })) (sym (owned_again s.owned k)) v

-- what is said of a step in bytes and of the calculus's
module _ {p : Profile} {τ : TypeNumbers} where
  applies : {n : Step} {m : calculus.ConfigStep} → Simulates p τ n m → {z : ℕ} → Applies n z → calculus.ConfigApplies p m z
  applies (same s c k l) (size, e, f) =
      let (I', g) = answered_rule (config_reply p s.owned (call_of c)) (sym (answers p τ s k c) ∙ e) in
      (I', g, rw (reads k) at f)

  binds : {n : Step} {m : calculus.ConfigStep} → Simulates p τ n m → {y : ℕ} → Binds n y → calculus.ConfigBinds p m y
  binds (same s c k l) (z, a, h) = (z, applies (same s c k l) a, rw (reads k) at h)

  binding : {n : Step} {m : calculus.ConfigStep} → Simulates p τ n m → (size : ℕ) → answer n ≡ Rule (number HANDLE_BIND) size → (z y : ℕ) × Applies n z × Binds n y
  binding (same s c k l) = rule_5 p τ s k c

  refused : {n : Step} {m : calculus.ConfigStep} → Simulates p τ n m → (number : ℕ) → (answer n ≡ Refused number) ↔ (calculus.config_replied p m ≡ refuses number)
  refused (same s c k l) number =
      let a = answers p τ s k c in
      let (there, back) = answered_refused (config_reply p s.owned (call_of c)) number in
      (λ e. there (sym a ∙ e), λ e. a ∙ back e)

  is_thread : {n : Step} {m : calculus.ConfigStep} → Simulates p τ n m → IsThread n ↔ calculus.ConfigIsThread m
  is_thread (same s c k l) = (λ (e, h). (e, rw (reads k) at h), λ (e, h). (e, rw (reads k) h))

  buffer : {n : Step} {m : calculus.ConfigStep} → Simulates p τ n m → m.call.buffer ≡ length n.call.out
  buffer (same s c k l) = refl

  goes : {n : Step} {m : calculus.ConfigStep} → Simulates p τ n m → calculus.ReplyGoes (calculus.config_replied p m) → Goes (answer n)
  goes (same s c k l) g = rw (answers p τ s k c) (answered_goes (config_reply p s.owned (call_of c)) g)

  typed_left : {n : Step} {m : calculus.ConfigStep} → Simulates p τ n m → ValuesTyped τ (state_after p τ m.before m.call) → ValuesTypedIn τ (left n) (types_left τ n)
  typed_left (same s c k l) v =
      rw (leaves_image p τ s k c, leaves_types p τ s k c) (typed_in (state_after p τ s (call_of c)) l v)

module _ (p : Profile) (τ : TypeNumbers) (s : State) (kept : AllKept p τ s) (claim : (run : List calculus.ConfigCall) → calculus.ConfigDemand p τ s run) (calls : List Call) where
  run_demand : RunDemand p τ (image_of s.owned) s.names calls
  run_demand = record {
    applies = λ i n size h e. let (n', p', u) = simulates p τ s kept calls i n h in binding u size e;
    one_application = λ z i j m n h q am an.
        let (m', p', u) = simulates p τ s kept calls i m h in
        let (n', q', v) = simulates p τ s kept calls j n q in
        (claim (map call_of calls)).one_application z i j m' n' p' q' (applies u am) (applies v an);
    one_binding = λ y i j m n h q bm bn.
        let (m', p', u) = simulates p τ s kept calls i m h in
        let (n', q', v) = simulates p τ s kept calls j n q in
        (claim (map call_of calls)).one_binding y i j m' n' p' q' (binds u bm) (binds v bn);
    no_13_16_17 = λ i n h.
        let (n', p', u) = simulates p τ s kept calls i n h in
        let (a, b, c) = (claim (map call_of calls)).no_13_16_17 i n' p' in
        (λ e. a ((refused u image_cause).0 e), λ e. b ((refused u used_handle_cause).0 e), λ e. c ((refused u wrong_kind_cause).0 e));
    twelve = λ i n h.
        let (n', p', u) = simulates p τ s kept calls i n h in
        let (there, back) = (claim (map call_of calls)).twelve i n' p' in
        (λ e. rw (buffer u) at (there ((refused u buffer_cause).0 e)), λ l. (refused u buffer_cause).1 (back (rw (buffer u) l)));
    fourteen = λ i n h long.
        let (n', p', u) = simulates p τ s kept calls i n h in
        let (there, back) = (claim (map call_of calls)).fourteen i n' p' (rw (buffer u) long) in
        (λ e t. there ((refused u no_thread_cause).0 e) ((is_thread u).0 t), λ no. (refused u no_thread_cause).1 (back (λ t. no ((is_thread u).1 t))));
    otherwise = λ i n h long t.
        let (n', p', u) = simulates p τ s kept calls i n h in
        goes u ((claim (map call_of calls)).otherwise i n' p' (rw (buffer u) long) ((is_thread u).0 t));
    typed_loaded = typed_in s (kept_first p τ s (record { thread = 0; buffer = 0 }) kept).0 (claim (map call_of calls)).typed_loaded;
    typed_after = λ i n h.
        let (n', p', u) = simulates p τ s kept calls i n h in
        typed_left u ((claim (map call_of calls)).typed_after i n' p');
  }

-- every step of a run from what is loaded is handed an image that keeps its rules, and leaves one
module _ (p : Profile) (file : List ℕ) (b : Bytes file) (accepted : refusal file ≡ 0) where
  pub all_kept : AllKept p (type_at (type_table file)) (starting_state file)
  all_kept run i n h =
      let a = admitted (says file b accepted) in
      let (k, l) = images a p run i n h in
      (kept_more a.bays k, kept_more a.bays l)

-- the load leaves the starting image in the first bytes, as many as it answers
pub loaded_image_is : (p : Profile) (file out : List ℕ) → load_refusal p file (length out) ≡ 0 → image_loaded p file out ≡ starting_image file
unfolding loaded_of out_after_load
loaded_image_is p file out e = rw e (take-append_seam (starting_image file) (drop (length (starting_image file)) out))

-- with a buffer that is long enough document 01's loader loads every accepted recipe
module _ (file out : List ℕ) (accepted : refusal file ≡ 0) (long : max_image_length ≤ length out) where
  pub loaded_common : load_refusal common file (length out) ≡ 0
  loaded_common = long_common file (length out) long ∙ accepted

  pub loaded_is : image_loaded common file out ≡ starting_image file
  loaded_is = loaded_image_is common file out loaded_common

-- a recipe that is loaded is accepted, into a buffer that is long enough
pub loaded_accepted : (p : Profile) (file out : List ℕ) → load_refusal p file (length out) ≡ 0 → (refusal file ≡ 0) × (max_image_length ≤ length out)
loaded_accepted p file out e = elim (dec_lt (length out) max_image_length) [
  | yes l ↦ absurd (let s = short p file (length out) l in omega arith)
  | no l ↦ ((profile_parts p file (sym (long p file (length out) (omega arith)) ∙ e)).0, omega arith)
]

pub third_demand : (p : Profile) → ThirdDemand p
unfolding starting_image
third_demand p file b out v calls =
    let e = sym (load_refusal_is p file (length out)) ∙ v in
    let (a, l) = loaded_accepted p file out e in
    rw (loaded_image_is p file out e) (run_demand p (type_at (type_table file)) (starting_state file) (all_kept p file b a) (demand (admitted (says file b a)) p) calls)

-- of document 01's loader: of every accepted recipe, loaded into a buffer that is long enough
pub accepted_demand : (file : List ℕ) → Bytes file → (verdict_of file).refusal ≡ 0 → (out : List ℕ) → max_image_length ≤ length out → (calls : List Call) →
    RunDemand common (type_at (type_table file)) (image_loaded common file out) (types_loaded file) calls
accepted_demand file b v out long calls = third_demand common file b out (load_refusal_is common file (length out) ∙ loaded_common file out (sym (refusal_is file) ∙ v) long) calls
