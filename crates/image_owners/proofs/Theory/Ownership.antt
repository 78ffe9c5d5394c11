-- Every name knows its bay.
use Rattle.std.proofs.Common.{◌∙◌, ap, sym, subst, arith}
use Rattle.std.specs.Prelude.{◌≡◌, Bool, List, map, ℕ, ◌+◌, ◌<◌, ◌≤◌, drop, length, take}
use Rattle.std.proofs.Math.Option.{some}
use Rattle.std.proofs.Math.Decide.{dec_lt}
use Rattle.std.proofs.Math.Seq.{take-append_seam}
use Rattle.calculus.specs.Profile.{Profile, room_test}
use Rattle.calculus.specs.Bytes.{Bytes}
use Rattle.calculus.specs.Causes.{buffer_cause, image_cause}
use Rattle.calculus.specs.Kinds.{open_handle_kind}
use Rattle.calculus.specs.Limits.{max_bays, max_image_length}
use Rattle.calculus.specs.Syntax.{open_for, Config, at, EachAll}
use Rattle.calculus.specs.Owners.{Owned, owner, grown, OwnersRule}
use Rattle.calculus.specs.Reduction.{Rule as RuleName, Reduces}
use Rattle.calculus.specs.Image.{ImageRule, Writable}
use Rattle.calculus.specs.Step.{Answer, step_of}
use Rattle.calculus.specs.Table.{type_at}
use Rattle.calculus.specs.Recipe.{loaded}
use Rattle.calculus.proofs.Theory.Lists.{at_below, at_bound}
use Rattle.calculus.proofs.Theory.Images.{Kept, kept_more}
use Rattle.calculus.proofs.Theory.Owners.{companions_kept, goer_there, length_first_owners, new_owner, no_fewer, old_owner, owners_kept, setting_owner, thread_owner}
use Rattle.calculus.proofs.Theory.ConfigRuns as calculus
use Rattle.calculus.proofs.Theory.Claim.{images, image_loaded as claim_loaded}
use Rattle.recipe_file.specs.File.{bays}
use Rattle.recipe_table.specs.Entries.{type_table}
use Rattle.check_spec.specs.Bays.{bay_terms}
use Rattle.check_spec.specs.Verdict.{refusal}
use Rattle.check_spec.proofs.Theory.Accepted.{admitted}
use Rattle.image_layout.specs.Slice.{names, kind_at, companion_at, owner_at}
use Rattle.image_layout.proofs.Theory.Slice.{owner_of_other}
use Rattle.image.specs.Configuration.{image_of}
use Rattle.image.proofs.Theory.Exactly.{names_are, one_image, owner_again, read_again}
use Rattle.load_spec.specs.Starting.{starting_image, starting_state}
use Rattle.load_spec.specs.Loading.{load_refusal, loaded_of}
use Rattle.load_spec.proofs.Theory.Answers.{load_refusal_is}
use Rattle.load_spec.proofs.Theory.Image.{says as file_says}
use Rattle.step_spec.specs.declared.Outcome.TheVariants.{Rule, Refused}
use Rattle.step_spec.specs.Stepping.{outcome_of, outcome_of_reply, out_after_step}
use Rattle.step_spec.proofs.Theory.Exactly.{step_is}
use Rattle.step_spec.proofs.Theory.Replies.{Told, tells}
use Rattle.runs.specs.Run.{Call, Step, left, image_loaded, steps_of}
use Rattle.runs.proofs.Theory.Steps.{call_of, leaves_image}
use Rattle.runs.proofs.Theory.Simulates.{Simulates, same, simulates}
use Rattle.demands.proofs.Theory.First.{first_demand}
use Rattle.demands.proofs.Theory.Second.{kept_image, second_demand}
use Rattle.demands.proofs.Theory.Third.{all_kept, loaded_accepted, loaded_image_is, third_demand}
use Rattle.image_owners.specs.Ownership.{KeepsOwners, OwnedBy, Ownership, SaysOwners}
use Rattle.image_owners.proofs.Theory.Sixteen.{says_owners, sixteen}

-- ---- a step by a rule

module _ (I : Owned) (k : Kept max_bays I) (x : ℕ) (C' : Config) {by : RuleName} (d : Reduces I.config x by C') where
  abbrev after : Owned
  after = grown I x C'

  rule_after : OwnersRule max_bays after
  rule_after = owners_kept k.owns (λ z y h. at_bound I.config y (k.keeps.companions z y h)) d

  told_after : (z : ℕ) → z < length C' → owner_at (image_of after) z ≡ owner after.owners z
  told_after z l = let (c, h) = at_below C' z l in owner_again after rule_after (companions_kept k.keeps d) z c h

  told_before : (z : ℕ) → z < length I.config → owner_at (image_of I) z ≡ owner I.owners z
  told_before z l = (says_owners I k).told z (omega (arith, names_are I))

  size : length I.owners ≡ length I.config
  size = k.owns.sizes

  old_kept : (z : ℕ) → z < length I.config → owner_at (image_of after) z ≡ owner_at (image_of I) z
  old_kept z l = told_after z (omega (arith, no_fewer d)) ∙ old_owner I.owners x C' z (omega (arith, size)) ∙ sym (told_before z l)

  keeps_owners : KeepsOwners (image_of I) x (image_of after)
  keeps_owners = record {
    new_name = λ z l m.
        told_after z (omega (arith, names_are after))
        ∙ new_owner I.owners x C' z (omega (arith, size, names_are I)) (omega (arith, names_are after))
        ∙ sym (told_before x (goer_there d));
    old_name = λ z l. old_kept z (omega (arith, names_are I));
    no_fewer = omega (arith, names_are I, names_are after, no_fewer d);
    used_handle = λ z y h n.
        let g : at I.config z ≡ some (open_for y) = ap (λ (C : Config). at C z) (sym (read_again I k)) ∙ h in
        sym (owner_of_other (image_of after) z n)
        ∙ old_kept z (at_bound I.config z g)
        ∙ told_before z (at_bound I.config z g)
        ∙ sym ((says_owners I k).future_byte z y g).1;
  }

-- the image that a rule leaves in the first bytes
steps : (p : Profile) (s : List ℕ) → Bytes s → (x : ℕ) (out : List ℕ) (rule size : ℕ) → outcome_of p s x out ≡ Rule rule size → KeepsOwners s x (take size (out_after_step p s x out))
steps p s b x out rule size e =
    let demand = (second_demand p).step s b x out in
    let (long, I, io, (by, C', d, w, n, z)) = (demand.rule rule size).0 e in
    let (written, fits) = demand.rule_image I C' by io d w long in
    let J = grown I x C' in
    let is : take size (out_after_step p s x out) ≡ image_of J = ap (λ (i : ℕ). take i (out_after_step p s x out)) z ∙ ap (take (length (image_of J))) written ∙ take-append_seam (image_of J) (drop (length (image_of J)) out) in
    subst (KeepsOwners s x) (sym is) (subst (λ (t : List ℕ). KeepsOwners t x (image_of J)) (sym io.bytes) (keeps_owners I (kept_image io) x C' d))

-- ---- 13

any_owners : (p : Profile) (I : Owned) → ImageRule I.config → EachAll Writable I.config → OwnersRule max_bays I → (x : ℕ) (out : List ℕ) → ¬ (outcome_of p (image_of I) x out ≡ Refused image_cause)
unfolding outcome_of
any_owners p I rule writable owners x out e = elim (dec_lt (length out) max_image_length) [
  | yes l ↦ let s = ((first_demand p).step_12 (image_of I) x out).1 l in let q : buffer_cause ≡ image_cause = cc in omega (arith, q)
  | no l ↦
      let k : Kept max_bays I = record { keeps = rule; writable = writable; owns = owners } in
      let h = sym (ap outcome_of_reply (step_is p I k x (length out) (omega arith))) ∙ e in
      not_told (rw h at (tells (room_test p I) (grown I x) (step_of I.config x)))
]
  where
    not_told : {room : Owned → Bool} {left : Config → Owned} {a : Answer} → ¬ Told room left a (Refused image_cause)
    not_told t = elim t [ ]

-- ---- a run

-- the image of a state whose names belong to b bays
owned_by : {b : ℕ} (I : Owned) → Kept b I → Kept max_bays I → OwnedBy b (image_of I)
owned_by I k m = record {
  below = λ x l. rw ((says_owners I m).told x l) (k.owns.below x (omega (arith, names_are I)));
  handles = λ z y h.
      let g : at I.config z ≡ some (open_for y) = ap (λ (C : Config). at C z) (sym (read_again I m)) ∙ h in
      let a = k.keeps.companions z y g in
      (says_owners I m).told z (omega (arith, names_are I, at_bound I.config z g)) ∙ k.owns.handles z y g
      ∙ sym ((says_owners I m).told y (omega (arith, names_are I, at_bound I.config y a)));
}

module _ (p : Profile) (file : List ℕ) (b : Bytes file) (out : List ℕ) (is : load_refusal p file (length out) ≡ 0) where
  accepted : refusal file ≡ 0
  accepted = (loaded_accepted p file out is).0

  is_loaded : image_loaded p file out ≡ image_of (starting_state file).owned
  unfolding starting_image
  is_loaded = loaded_image_is p file out is

  few : length (bay_terms file) ≤ max_bays
  few = (admitted (file_says file b accepted)).bays

  count : length (bay_terms file) ≡ bays file
  count = (file_says file b accepted).count

  start_kept : Kept (length (bay_terms file)) (starting_state file).owned
  start_kept = claim_loaded (admitted (file_says file b accepted))

  start_says : SaysOwners (image_of (starting_state file).owned) (starting_state file).owned
  start_says = says_owners (starting_state file).owned (kept_more few start_kept)

  start_names : names (image_of (starting_state file).owned) ≡ bays file + bays file
  unfolding loaded
  start_names = start_says.each_has ∙ length_first_owners (length (bay_terms file)) ∙ omega (arith, count)

  loaded_names : names (image_loaded p file out) ≡ bays file + bays file
  loaded_names = ap names is_loaded ∙ start_names

  settings : (bay : ℕ) → bay < bays file → owner_at (image_loaded p file out) bay ≡ bay
  unfolding loaded
  settings bay l = rw is_loaded (start_says.told bay (omega (arith, start_names)) ∙ setting_owner (length (bay_terms file)) bay (omega (arith, count)))

  first_threads : (bay : ℕ) → bay < bays file → owner_at (image_loaded p file out) (bays file + bay) ≡ bay
  unfolding loaded
  first_threads bay l =
      rw is_loaded
      (start_says.told (bays file + bay) (omega (arith, start_names))
      ∙ thread_owner (length (bay_terms file)) (bays file + bay) (omega (arith, count)) (omega (arith, count))
      ∙ omega (arith, count))

  run_loaded : OwnedBy (bays file) (image_loaded p file out)
  run_loaded = subst (λ (n : ℕ). OwnedBy n (image_loaded p file out)) count (rw is_loaded (owned_by (starting_state file).owned start_kept (kept_more few start_kept)))

  module _ (calls : List Call) (i : ℕ) (n : Step) (h : at (steps_of p file out calls) i ≡ some n) where
    both : OwnedBy (length (bay_terms file)) n.image × OwnedBy (length (bay_terms file)) (left n)
    both =
        let τ = type_at (type_table file) in
        let a = admitted (file_says file b accepted) in
        let (m, q, u) = simulates p τ (starting_state file) (all_kept p file b accepted) calls i n (rw is_loaded at h) in
        go u (images a p (map call_of calls) i m q)
      where
        go : {n : Step} {m : calculus.ConfigStep} → Simulates p (type_at (type_table file)) n m →
            Kept (length (bay_terms file)) m.before.owned × Kept (length (bay_terms file)) (calculus.state_after p (type_at (type_table file)) m.before m.call).owned →
            OwnedBy (length (bay_terms file)) n.image × OwnedBy (length (bay_terms file)) (left n)
        go (same s c k l) (before, after) =
            (owned_by s.owned before k, rw (leaves_image p (type_at (type_table file)) s k c) (owned_by (calculus.state_after p (type_at (type_table file)) s (call_of c)).owned after l))

    run_owners : OwnedBy (bays file) n.image × OwnedBy (bays file) (left n)
    run_owners = subst (λ (m : ℕ). OwnedBy m n.image × OwnedBy m (left n)) count both

    one_bay : bays file ≡ 1 → (k : ℕ) → k < names (left n) → ¬ (kind_at (left n) k ≡ open_handle_kind) → companion_at (left n) k ≡ 0
    one_bay e k l d = omega (arith, sym (owner_of_other (left n) k d), run_owners.1.below k l, e)

pub ownership : (p : Profile) → Ownership p
ownership p = record {
  says = λ s I io. rw io.bytes (says_owners I (kept_image io));
  one_image = λ s I J i j. one_image I J (kept_image i) (kept_image j) (sym i.bytes ∙ j.bytes);
  loaded_names = λ file b out v. loaded_names p file b out (told file out v);
  settings = λ file b out v. settings p file b out (told file out v);
  first_threads = λ file b out v. first_threads p file b out (told file out v);
  steps = steps p;
  sixteen = sixteen p;
  any_owners = any_owners p;
  run_loaded = λ file b out v. run_loaded p file b out (told file out v);
  run_owners = λ file b out v. run_owners p file b out (told file out v);
  one_bay = λ file b e out v calls i n h. one_bay p file b out (told file out v) calls i n h e;
  demanded = third_demand p;
}
  where
    told : (file out : List ℕ) → (loaded_of p file (length out)).refusal ≡ 0 → load_refusal p file (length out) ≡ 0
    told file out v = sym (load_refusal_is p file (length out)) ∙ v
