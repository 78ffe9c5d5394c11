-- An image that a run of an accepted recipe comes to: what the claim about every run says of it.
use Rattle.std.proofs.Common.{◌∙◌, arith}
use Rattle.std.specs.Prelude.{◌≡◌, true, List, [], ◌∷◌, ℕ, suc, ◌≤◌, length}
use Rattle.std.proofs.Math.Path.{refl}
use Rattle.calculus.specs.Bytes.{Bytes}
use Rattle.calculus.specs.Typing.{TypeNumbers}
use Rattle.calculus.specs.Limits.{max_bays, max_image_length}
use Rattle.calculus.specs.Image.{ImageRule}
use Rattle.calculus.specs.Profile.{Profile}
use Rattle.calculus.specs.State.{State}
use Rattle.calculus.specs.Reply.{refuses, reply_to}
use Rattle.calculus.specs.Causes.{image_cause, used_handle_cause, wrong_kind_cause}
use Rattle.calculus.specs.Table.{type_at}
use Rattle.calculus.proofs.Theory.Tests.{ltb_not}
use Rattle.calculus.proofs.Theory.ImageTest.{image_test_iff}
use Rattle.calculus.proofs.Theory.ConfigRuns.{ConfigCall, ConfigDemand, config_reply, config_steps, state_after}
use Rattle.calculus.proofs.Theory.Images.{Kept}
use Rattle.calculus.proofs.Theory.Claim.{demand}
use Rattle.recipe_table.specs.Entries.{type_table}
use Rattle.check_spec.specs.Verdict.{refusal}
use Rattle.check_spec.proofs.Theory.Accepted.{admitted}
use Rattle.load_spec.specs.Starting.{starting_state}
use Rattle.load_spec.proofs.Theory.Image.{says}
use Rattle.image_layout.specs.Slice.{names}
use Rattle.image.specs.Configuration.{config_of, image_of, owned_of}
use Rattle.image.specs.Stands.{image_stands}
use Rattle.image.proofs.Theory.Exactly.{image_written, names_are, owned_again, read_again}
use Rattle.runs.proofs.Theory.Simulates.{AllKept, kept_first, kept_after}
use Rattle.demands.proofs.Theory.Third.{all_kept}

-- a state that a run comes to: every run from it is of images that keep their rules, and meets the third demand
pub record Reached (p : Profile) (τ : TypeNumbers) (s : State) : Type 0 where
  pub kept : AllKept p τ s
  pub claim : (run : List ConfigCall) → ConfigDemand p τ s run

-- the claim about a run, from its second step on
demand_after : {p : Profile} {τ : TypeNumbers} {s : State} {a : ConfigCall} {run : List ConfigCall} → ConfigDemand p τ s (a ∷ run) → ConfigDemand p τ (state_after p τ s a) run
unfolding config_steps
demand_after {τ} {s} {a} d = record {
  one_application = λ z i j m n h q u v. let e = d.one_application z (suc i) (suc j) m n h q u v in omega arith;
  one_binding = λ y i j m n h q u v. let e = d.one_binding y (suc i) (suc j) m n h q u v in omega arith;
  no_13_16_17 = λ i n h. d.no_13_16_17 (suc i) n h;
  twelve = λ i n h. d.twelve (suc i) n h;
  fourteen = λ i n h. d.fourteen (suc i) n h;
  otherwise = λ i n h. d.otherwise (suc i) n h;
  typed_loaded = d.typed_after 0 (record { before = s; call = a }) refl;
  typed_after = λ i n h. d.typed_after (suc i) n h;
}

pub reached_after : {p : Profile} {τ : TypeNumbers} {s : State} → Reached p τ s → (a : ConfigCall) → Reached p τ (state_after p τ s a)
reached_after {p} {τ} {s} r a = record { kept = kept_after p τ s a r.kept; claim = λ run. demand_after (r.claim (a ∷ run)) }

-- a step of thread x into a buffer that is long enough for any image
abbrev pub stepping : ℕ → ConfigCall
stepping x = record { thread = x; buffer = max_image_length }

module _ {p : Profile} {τ : TypeNumbers} {s : State} (r : Reached p τ s) where
  pub reached_kept : Kept max_bays s.owned
  reached_kept = (kept_first p τ s (stepping 0) r.kept).0

  pub reached_rules : ImageRule s.owned.config
  reached_rules = reached_kept.keeps

  pub reached_stands : image_stands (image_of s.owned) ≡ true
  reached_stands = image_written s.owned reached_kept

  pub reached_reads : config_of (image_of s.owned) ≡ s.owned.config
  reached_reads = read_again s.owned reached_kept

  pub reached_owned : owned_of (image_of s.owned) ≡ s.owned
  reached_owned = owned_again s.owned reached_kept

  pub reached_names : names (image_of s.owned) ≡ length s.owned.config
  reached_names = names_are s.owned

  -- with a buffer that is long enough the calculus's reply is the step's
  pub long_reply : (x b : ℕ) → max_image_length ≤ b → config_reply p s.owned (record { thread = x; buffer = b }) ≡ reply_to p s.owned x
  unfolding config_reply
  long_reply x b l = rw (ltb_not b max_image_length l, (image_test_iff s.owned.config).1 reached_rules) refl

  -- no step answers 13, 16 or 17
  pub no_cause : (x : ℕ) → (¬ (reply_to p s.owned x ≡ refuses image_cause)) × (¬ (reply_to p s.owned x ≡ refuses used_handle_cause)) × (¬ (reply_to p s.owned x ≡ refuses wrong_kind_cause))
  unfolding config_steps
  no_cause x =
      let q = long_reply x max_image_length (omega arith) in
      let (a, b, c) = (r.claim (stepping x ∷ [])).no_13_16_17 0 (record { before = s; call = stepping x }) refl in
      (λ e. a (q ∙ e), λ e. b (q ∙ e), λ e. c (q ∙ e))

-- the state that an accepted recipe is loaded to
pub reached_start : (p : Profile) (file : List ℕ) → Bytes file → refusal file ≡ 0 → Reached p (type_at (type_table file)) (starting_state file)
reached_start p file b accepted = record { kept = all_kept p file b accepted; claim = demand (admitted (says file b accepted)) p }
