-- The second demand.
use Rattle.std.proofs.Common.{◌∙◌, arith}
use Rattle.std.specs.Prelude.{◌≡◌, ◌↔◌, Bool, cond, ℕ, ◌<◌, ◌≤◌, suc, zero, eqb}
use Rattle.std.proofs.Math.Path.{ap, refl, sym}
use Rattle.std.proofs.Math.Bool.{false, true}
use Rattle.std.proofs.Math.Option.{some}
use mathlib.Core.List.{List, [], ◌∷◌}
use Rattle.std.proofs.Math.Decide.{dec_lt}
use Rattle.std.proofs.Math.ListN.{get_or, length}
use Rattle.calculus.specs.Bytes.{Bytes}
use Rattle.calculus.specs.Lists.{tabulate}
use Rattle.calculus.specs.Limits.{max_bays, max_image_length}
use Rattle.calculus.specs.Causes.{buffer_cause, image_cause, no_thread_cause, room_cause, used_handle_cause, wrong_kind_cause}
use Rattle.calculus.specs.Types.{LinType}
use Rattle.calculus.specs.Syntax.{Exp, Value, thread_of, Config, at}
use Rattle.calculus.specs.Owners.{Owned, grown}
use Rattle.calculus.specs.Typing.{Derivation}
use Rattle.calculus.specs.Reduction.{Rule as RuleName, number, Reduces}
use Rattle.calculus.specs.Step.{Answer, rule, waiting, done, no_thread, used_handle, wrong_kind, step_of, Needs, Unready, AppliesUsed}
use Rattle.calculus.specs.Image.{ImageRule}
use Rattle.calculus.specs.Profile.{Profile, HasRoom, room_test, Suits}
use Rattle.calculus.specs.Reply.{moved, refuses, reply_of, reply_to}
use Rattle.calculus.specs.Table.{Table, type_at}
use Rattle.calculus.specs.Recipe.{setting_types, start}
use Rattle.calculus.proofs.Theory.Tests.{clash, ltb_not}
use Rattle.calculus.proofs.Theory.Lists.{get_d_at}
use Rattle.calculus.proofs.Theory.Tabulate.{length_tabulate, tabulate_at}
use Rattle.calculus.proofs.Theory.OneType.{closed_one_type}
use Rattle.calculus.proofs.Theory.Step.{rule_iff, done_iff, waiting_iff, no_thread_iff, used_handle_iff, wrong_kind_iff}
use Rattle.calculus.proofs.Theory.Shares.{room_iff as has_room_iff, room_limits}
use Rattle.calculus.proofs.Theory.Images.{Kept, image_fits}
use Rattle.recipe_file.specs.File.{bays}
use Rattle.check_spec.specs.Verdict.{accepted, refusal, refused, bay_type_number, bay_type_numbers, verdict_of}
use Rattle.check_spec.specs.Recipe.{Recipe}
use Rattle.check_spec.proofs.Theory.Answers.{refusal_is, accepted_is}
use Rattle.check_spec.proofs.Theory.Accepted.{accepted_exactly, no_cause, no_cause_iff, one_recipe, table_is, nums_are, terms_are, type_answered}
use Rattle.image.specs.Configuration.{image_of, config_of, owned_of}
use Rattle.image.specs.Stands.{image_stands}
use Rattle.image.proofs.Theory.Exactly.{image_exactly, image_written}
use Rattle.image.proofs.Theory.Lengths.{length_image_of}
use Rattle.load_spec.specs.Starting.{starting_image}
use Rattle.load_spec.specs.Loading.{loaded_of, load_refusal, out_after_load}
use Rattle.load_spec.proofs.Theory.Answers.{profile_refusal, checked_then, profile_parts, short, long, load_refusal_is, loaded_is, left_loaded}
use Rattle.load_spec.proofs.Theory.Suited.{suits_iff}
use Rattle.load_spec.proofs.Theory.Image.{starting_fits}
use Rattle.step_spec.specs.declared.Outcome.{Outcome}
use Rattle.step_spec.specs.declared.Outcome.TheVariants.{Rule, Done, Waiting, Refused}
use Rattle.step_spec.specs.Stepping.{step_reply, outcome_of_reply, out_after_reply, outcome_of, out_after_step}
use Rattle.step_spec.proofs.Theory.Exactly.{step_is}
use Rattle.step_spec.proofs.Theory.Replies.{reply_short, reply_broken, reply_stands, Told, told_moved, told_room, told_waiting, told_done, told_no_thread, told_used, told_wrong, tells}
use Rattle.demands.specs.Demands.{Accepted, ImageOf, LacksRoom, Means, Moves, RecipeDemand, SecondDemand, StepDemand, Taken, Written, WrongKind}

-- ---- a check

recipe_accepted : {file : List ℕ} {T : Table} {ns : List ℕ} {es : List Exp} → Recipe file T ns es → refusal file ≡ 0
recipe_accepted {file} r = (no_cause_iff file).1 (no_cause r)

accepts : (file : List ℕ) → Bytes file → ((verdict_of file).refusal ≡ 0) ↔ Accepted file
accepts file b = (λ e. (accepted_exactly file b).0 (sym (refusal_is file) ∙ e), λ (T, ns, es, r). refusal_is file ∙ recipe_accepted r)

past_end : (l : List ℕ) (k : ℕ) → length l ≤ k → get_or l k 0 ≡ 0
past_end [] k h = refl
past_end (n ∷ l) zero h = absurd (omega arith)
past_end (n ∷ l) (suc k) h = past_end l k (omega arith)

module _ {file : List ℕ} {T : Table} {ns : List ℕ} {es : List Exp} (r : Recipe file T ns es) where
  verdict_is : verdict_of file ≡ accepted file
  verdict_is = accepted_is file (recipe_accepted r)

  bays_are : (verdict_of file).bays ≡ length es
  bays_are = rw verdict_is (sym r.count)

  types_are : (bay : ℕ) (e : Exp) → at es bay ≡ some e → (α : LinType) →
      (type_at T (get_or (verdict_of file).types bay 0) ≡ some α) ↔ Derivation (type_at T) (setting_types (length es)) [] e α
  types_are bay e h α =
      let (β, t, d, m) = type_answered r bay e h in
      let u : type_at T (get_or (verdict_of file).types bay 0) ≡ some β = rw verdict_is t in (
        λ q. let p : β ≡ α = cc in rw (← p) d,
        λ c. let p : β ≡ α = closed_one_type d c in u ∙ ap some p,
      )

  types_beyond : (bay : ℕ) → length es ≤ bay → get_or (verdict_of file).types bay 0 ≡ 0
  unfolding bay_type_numbers bay_type_number
  types_beyond bay l = rw verdict_is (beyond (dec_lt bay max_bays))
    where
      beyond : Dec (bay < max_bays) → get_or (tabulate max_bays (bay_type_number file)) bay 0 ≡ 0
      beyond (yes m) =
          get_d_at (tabulate max_bays (bay_type_number file)) bay (tabulate_at max_bays (bay_type_number file) bay m)
          ∙ rw (ltb_not bay (bays file) (omega (arith, r.count))) refl
      beyond (no m) = past_end (tabulate max_bays (bay_type_number file)) bay (omega (arith, length_tabulate max_bays (bay_type_number file)))

types_length : (file : List ℕ) → length (verdict_of file).types ≡ max_bays
unfolding verdict_of bay_type_numbers
types_length file = go (eqb (refusal file) 0)
  where
    go : (b : Bool) → length (cond b (accepted file) (refused (refusal file))).types ≡ max_bays
    go true = length_tabulate max_bays (bay_type_number file)
    go false = refl

-- ---- a load

-- a file that a profile takes
taken : (p : Profile) (file : List ℕ) → Bytes file → (profile_refusal p file ≡ 0) ↔ Taken p file
taken p file b = (
  λ e.
      let (z, w) = profile_parts p file e in
      let (T, ns, es, r) = (accepted_exactly file b).0 z in
      (T, ns, es, r, (suits_iff p r).0 w),
  λ (T, ns, es, r, w). checked_then p file (recipe_accepted r) ∙ (suits_iff p r).1 w,
)

loads : (p : Profile) (file out : List ℕ) → Bytes file → ((loaded_of p file (length out)).refusal ≡ 0) ↔ (Taken p file × (max_image_length ≤ length out))
loads p file out b = (
  λ e.
      let z : load_refusal p file (length out) ≡ 0 = sym (load_refusal_is p file (length out)) ∙ e in
      elim (dec_lt (length out) max_image_length) [
        | yes l ↦ absurd (let s = short p file (length out) l in omega arith)
        | no l ↦ ((taken p file b).0 (sym (long p file (length out) (omega arith)) ∙ z), omega arith)
      ],
  λ (a, l). load_refusal_is p file (length out) ∙ long p file (length out) l ∙ (taken p file b).1 a,
)

module _ (p : Profile) {file : List ℕ} {T : Table} {ns : List ℕ} {es : List Exp} (r : Recipe file T ns es) (w : Suits p es (start T ns es).owned) (out : List ℕ)
    (l : max_image_length ≤ length out) where
  no_refusal : load_refusal p file (length out) ≡ 0
  no_refusal = long p file (length out) l ∙ checked_then p file (recipe_accepted r) ∙ (suits_iff p r).1 w

  starting_is : starting_image file ≡ image_of (start T ns es).owned
  unfolding starting_image
  starting_is = rw (table_is r, nums_are r, terms_are r) refl

  loaded_answer : loaded_of p file (length out) ≡ record { refusal = 0; bays = length es; types = (verdict_of file).types; length = length (image_of (start T ns es).owned) }
  loaded_answer = rw (loaded_is p file (length out) no_refusal, verdict_is r, starting_is, r.count) refl

  loaded_image : Bytes file → Written (image_of (start T ns es).owned) out (out_after_load p file out)
  loaded_image b =
      let f = starting_fits file b (recipe_accepted r) in
      let f' : length (image_of (start T ns es).owned) ≤ max_image_length = rw starting_is at f in
      (left_loaded p file out no_refusal ∙ rw starting_is refl, omega arith)

-- ---- a step

-- a slice is the image of what keeps every rule and can be written
pub image_kept : {s : List ℕ} {I : Owned} → s ≡ image_of I → Kept max_bays I → ImageOf s I
image_kept e k = record { bytes = e; rule = k.keeps; owners = k.owns; writable = k.writable }

pub kept_image : {s : List ℕ} {I : Owned} → ImageOf s I → Kept max_bays I
kept_image i = record { keeps = i.rule; writable = i.writable; owns = i.owners }

-- what is asked of an answer: neither 12 nor 13
pub record Later (A : Outcome) : Type 0 where
  pub not_12 : ¬ (A ≡ Refused buffer_cause)
  pub not_13 : ¬ (A ≡ Refused image_cause)

module _ (p : Profile) (s : List ℕ) (b : Bytes s) (x : ℕ) (out : List ℕ) where
  -- an answer to a slice is the calculus's answer to the configuration that it is the image of
  means : (A : Outcome) (P : Owned → Type 0) → Later A → ((I : Owned) → ImageRule I.config → (outcome_of_reply (reply_to p I x) ≡ A) ↔ P I) →
      (outcome_of p s x out ≡ A) ↔ Means s out P
  unfolding outcome_of outcome_of_reply
  means A P later iff = (there, back)
    where
      standing : max_image_length ≤ length out → outcome_of p s x out ≡ A → (t : Bool) → image_stands s ≡ t → Means s out P
      standing l e false q = absurd (later.not_13 (sym e ∙ ap outcome_of_reply (reply_broken p s x (length out) l q)))
      standing l e true q =
          let (I, i, k) = (image_exactly s b).0 q in
          let h : outcome_of_reply (reply_to p I x) ≡ A =
          sym (ap outcome_of_reply (step_is p I k x (length out) l)) ∙ ap (λ (t : List ℕ). outcome_of_reply (step_reply p t x (length out))) (sym i) ∙ e in
          (l, I, image_kept i k, (iff I k.keeps).0 h)

      there : outcome_of p s x out ≡ A → Means s out P
      there e =
          elim (dec_lt (length out) max_image_length) [
            | yes l ↦ absurd (later.not_12 (sym e ∙ ap outcome_of_reply (reply_short p s x (length out) l)))
            | no l ↦ standing (omega arith) e (image_stands s) refl
          ]

      back : Means s out P → outcome_of p s x out ≡ A
      back (l, I, i, h) =
          ap (λ (t : List ℕ). outcome_of_reply (step_reply p t x (length out))) i.bytes
          ∙ ap outcome_of_reply (step_is p I (kept_image i) x (length out) l)
          ∙ (iff I i.rule).1 h

  thirteen : (outcome_of p s x out ≡ Refused image_cause) ↔ ((max_image_length ≤ length out) × ((I : Owned) → ¬ ImageOf s I))
  unfolding outcome_of outcome_of_reply
  thirteen = (there, back)
    where
      standing : max_image_length ≤ length out → outcome_of p s x out ≡ Refused image_cause → (t : Bool) → image_stands s ≡ t → (I : Owned) → ¬ ImageOf s I
      standing l e true q I i =
          let h = sym (ap outcome_of_reply (reply_stands p s x (length out) l q)) ∙ e in
          not_told (rw h at (tells (room_test p (owned_of s)) (grown (owned_of s) x) (step_of (config_of s) x)))
        where
          not_told : {room : Owned → Bool} {left : Config → Owned} {a : Answer} → ¬ Told room left a (Refused image_cause)
          not_told t = elim t [ ]
      standing l e false q I i = clash (let h = ap image_stands i.bytes ∙ image_written I (kept_image i) in cc)

      there : outcome_of p s x out ≡ Refused image_cause → (max_image_length ≤ length out) × ((I : Owned) → ¬ ImageOf s I)
      there e =
          elim (dec_lt (length out) max_image_length) [
            | yes l ↦ absurd (let h = sym (ap outcome_of_reply (reply_short p s x (length out) l)) ∙ e in let q : buffer_cause ≡ image_cause = cc in omega arith)
            | no l ↦ (omega arith, standing (omega arith) e (image_stands s) refl)
          ]

      back : (max_image_length ≤ length out) × ((I : Owned) → ¬ ImageOf s I) → outcome_of p s x out ≡ Refused image_cause
      back (l, n) = broken (image_stands s) refl
        where
          broken : (t : Bool) → image_stands s ≡ t → outcome_of p s x out ≡ Refused image_cause
          broken true q = let (I, i, k) = (image_exactly s b).0 q in absurd (n I (image_kept i k))
          broken false q = ap outcome_of_reply (reply_broken p s x (length out) l q)

-- each answer of the calculus, from how it is told
module _ (p : Profile) (I : Owned) (x : ℕ) where
  abbrev pub told_of : Answer → Outcome
  told_of a = outcome_of_reply (reply_of (room_test p I) (grown I x) a)

  moves_there : {a : Answer} {k size : ℕ} → step_of I.config x ≡ a → Told (room_test p I) (grown I x) a (Rule k size) → Moves p x k size I
  moves_there q (told_moved {r} {C'} l) = (r, C', (rule_iff I.config C' x r).0 q, (has_room_iff p I (grown I x C')).0 l, refl, refl)

  moves_iff : (k size : ℕ) → (told_of (step_of I.config x) ≡ Rule k size) ↔ Moves p x k size I
  unfolding outcome_of_reply reply_of
  moves_iff k size = (
    λ e. moves_there refl (rw e at (tells (room_test p I) (grown I x) (step_of I.config x))),
    λ (r, C', m, w, k_is, size_is). rw ((rule_iff I.config C' x r).1 m, (has_room_iff p I (grown I x C')).1 w, k_is, size_is) refl,
  )

  pub room_iff : (told_of (step_of I.config x) ≡ Refused room_cause) ↔ LacksRoom p x I
  unfolding outcome_of_reply reply_of
  room_iff = (
    λ e. there (step_of I.config x) refl (rw e at (tells (room_test p I) (grown I x) (step_of I.config x))),
    λ (r, C', m, n). rw ((rule_iff I.config C' x r).1 m) (above r C' (room_test p I (grown I x C')) refl n),
  )
    where
      there : (a : Answer) → step_of I.config x ≡ a → Told (room_test p I) (grown I x) a (Refused room_cause) → LacksRoom p x I
      there (rule r C') q (told_room l) = (r, C', (rule_iff I.config C' x r).0 q, λ w. clash (let h = (has_room_iff p I (grown I x C')).1 w in cc))
      there (waiting _) q x4 = elim x4 [ ]
      there done q x4 = elim x4 [ ]
      there no_thread q x5 = elim x5 [ ]
      there used_handle q x6 = elim x6 [ ]
      there wrong_kind q x7 = elim x7 [ ]

      above : (r : RuleName) (C' : Config) (t : Bool) → room_test p I (grown I x C') ≡ t → ¬ HasRoom p I (grown I x C') →
          outcome_of_reply (cond t (moved (number r) (grown I x C')) (refuses room_cause)) ≡ Refused room_cause
      above r C' true e n = absurd (n ((has_room_iff p I (grown I x C')).0 e))
      above r C' false e n = refl

  done_told : (told_of (step_of I.config x) ≡ Done) ↔ ((v : Exp) × Value v × (at I.config x ≡ some (thread_of v)))
  unfolding outcome_of_reply reply_of
  done_told = (λ e. (done_iff I.config x).0 (only (rw e at (tells (room_test p I) (grown I x) (step_of I.config x)))), λ d. rw ((done_iff I.config x).1 d) refl)
    where
      only : {a : Answer} → Told (room_test p I) (grown I x) a Done → a ≡ done
      only told_done = refl

  waiting_told : (y : ℕ) → (told_of (step_of I.config x) ≡ Waiting y) ↔ (Needs I.config x y × Unready I.config y)
  unfolding outcome_of_reply reply_of
  waiting_told y = (λ e. (waiting_iff I.config x y).0 (only (rw e at (tells (room_test p I) (grown I x) (step_of I.config x)))), λ d. rw ((waiting_iff I.config x y).1 d) refl)
    where
      only : {a : Answer} → Told (room_test p I) (grown I x) a (Waiting y) → a ≡ waiting y
      only told_waiting = refl

  no_thread_told : (told_of (step_of I.config x) ≡ Refused no_thread_cause) ↔ ((e : Exp) → ¬ (at I.config x ≡ some (thread_of e)))
  unfolding outcome_of_reply reply_of
  no_thread_told = (λ e. (no_thread_iff I.config x).0 (only (rw e at (tells (room_test p I) (grown I x) (step_of I.config x)))), λ d. rw ((no_thread_iff I.config x).1 d) refl)
    where
      only : {a : Answer} → Told (room_test p I) (grown I x) a (Refused no_thread_cause) → a ≡ no_thread
      only told_no_thread = refl

  used_told : (told_of (step_of I.config x) ≡ Refused used_handle_cause) ↔ AppliesUsed I.config x
  unfolding outcome_of_reply reply_of
  used_told = (λ e. (used_handle_iff I.config x).0 (only (rw e at (tells (room_test p I) (grown I x) (step_of I.config x)))), λ d. rw ((used_handle_iff I.config x).1 d) refl)
    where
      only : {a : Answer} → Told (room_test p I) (grown I x) a (Refused used_handle_cause) → a ≡ used_handle
      only told_used = refl

  wrong_told : ImageRule I.config → (told_of (step_of I.config x) ≡ Refused wrong_kind_cause) ↔ WrongKind x I
  unfolding outcome_of_reply reply_of
  wrong_told k = (
    λ e. (wrong_kind_iff I.config x (λ e h. k.bound x (thread_of e) h)).0 (only (rw e at (tells (room_test p I) (grown I x) (step_of I.config x)))),
    λ w. rw ((wrong_kind_iff I.config x (λ e h. k.bound x (thread_of e) h)).1 w) refl,
  )
    where
      only : {a : Answer} → Told (room_test p I) (grown I x) a (Refused wrong_kind_cause) → a ≡ wrong_kind
      only told_wrong = refl

-- the image that a rule leaves
rule_image : (p : Profile) (s : List ℕ) (x : ℕ) (out : List ℕ) (I : Owned) (C' : Config) (by : RuleName) → ImageOf s I → Reduces I.config x by C' → HasRoom p I (grown I x C') → max_image_length ≤ length out →
    Written (image_of (grown I x C')) out (out_after_step p s x out)
unfolding out_after_step out_after_reply reply_of
rule_image p s x out I C' by i m w l = (
  ap (λ (t : List ℕ). out_after_reply (step_reply p t x (length out)) out) i.bytes
      ∙ rw (step_is p I (kept_image i) x (length out) l, (rule_iff I.config C' x by).1 m, (has_room_iff p I (grown I x C')).1 w) refl,
  omega (arith, length_image_of (grown I x C'), image_fits C' (room_limits p I (grown I x C') w)),
)

step_demand : (p : Profile) (s : List ℕ) → Bytes s → (x : ℕ) (out : List ℕ) → StepDemand p s x out
step_demand p s b x out = record {
  rule = λ k size. means p s b x out (Rule k size) (Moves p x k size) (record { not_12 = λ e. clash (cc); not_13 = λ e. clash (cc) }) (λ I r. moves_iff p I x k size);
  rule_image = rule_image p s x out;
  done = means p s b x out Done _ (record { not_12 = λ e. clash (cc); not_13 = λ e. clash (cc) }) (λ I r. done_told p I x);
  waiting = λ y. means p s b x out (Waiting y) _ (record { not_12 = λ e. clash (cc); not_13 = λ e. clash (cc) }) (λ I r. waiting_told p I x y);
  thirteen = thirteen p s b x out;
  fourteen = means p s b x out (Refused no_thread_cause) _ (later no_thread_cause (omega arith)) (λ I r. no_thread_told p I x);
  fifteen = means p s b x out (Refused room_cause) (LacksRoom p x) (later room_cause (omega arith)) (λ I r. room_iff p I x);
  sixteen = means p s b x out (Refused used_handle_cause) _ (later used_handle_cause (omega arith)) (λ I r. used_told p I x);
  seventeen = means p s b x out (Refused wrong_kind_cause) (WrongKind x) (later wrong_kind_cause (omega arith)) (λ I r. wrong_told p I x r);
}
  where
    later : (n : ℕ) → image_cause < n → Later (Refused n)
    later n l = record { not_12 = λ e. let q : n ≡ buffer_cause = cc in omega arith; not_13 = λ e. let q : n ≡ image_cause = cc in omega arith }

recipe_demand : (p : Profile) (file : List ℕ) → Bytes file → (T : Table) (ns : List ℕ) (es : List Exp) → Recipe file T ns es → RecipeDemand p file T ns es
recipe_demand p file b T ns es r = record {
  bays = bays_are r;
  types = types_are r;
  types_beyond = types_beyond r;
  loaded_answer = loaded_answer p r;
  loaded_image = λ w out l. loaded_image p r w out l b;
}

pub second_demand : (p : Profile) → SecondDemand p
second_demand p = record {
  accepted = accepts;
  one_recipe = λ file T T' ns ns' es es' r r'. one_recipe r r';
  types_length = types_length;
  loaded = loads p;
  recipe = recipe_demand p;
  step = step_demand p;
}
