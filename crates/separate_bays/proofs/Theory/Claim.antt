-- T-09's claim on bytes, from the claim on configurations.
use Rattle.std.proofs.Common.{◌∙◌, ap, ap₂, subst, sym}
use Rattle.std.specs.Prelude.{◌≡◌, false, List, map, ℕ, length}
use Rattle.std.proofs.Math.Option.{some}
use Rattle.calculus.specs.Bytes.{Bytes}
use Rattle.calculus.specs.Owners.{Owned}
use Rattle.calculus.specs.Profile.{separate, Suits}
use Rattle.calculus.specs.Recipe.{Admitted}
use Rattle.calculus.specs.Reply.{Reply}
use Rattle.calculus.specs.Shares.{bay_components}
use Rattle.calculus.specs.Syntax.{at}
use Rattle.calculus.specs.Table.{type_at}
use Rattle.calculus.specs.Typing.{TypeNumbers}
use Rattle.calculus.proofs.Theory.ConfigRuns as calculus
use Rattle.recipe_file.specs.File.{bays}
use Rattle.recipe_file.specs.Starting.{starting_nums}
use Rattle.recipe_table.specs.Entries.{type_table}
use Rattle.check_spec.specs.Bays.{bay_terms}
use Rattle.check_spec.specs.Recipe.{Recipe}
use Rattle.check_spec.specs.Verdict.{refusal}
use Rattle.check_spec.proofs.Theory.Accepted.{admitted}
use Rattle.image.specs.Configuration.{image_of, owned_of, owners_of}
use Rattle.image.proofs.Theory.Exactly.{owned_again}
use Rattle.image.proofs.Theory.Maps.{map_at}
use Rattle.load_spec.specs.Starting.{starting_image, starting_state}
use Rattle.load_spec.specs.Loading.{load_refusal, loaded_of}
use Rattle.load_spec.proofs.Theory.Answers.{load_refusal_is, long, profile_parts}
use Rattle.load_spec.proofs.Theory.Image.{says}
use Rattle.load_spec.proofs.Theory.Suited.{suits_iff}
use Rattle.step_spec.specs.Stepping.{outcome_of_reply}
use Rattle.runs.specs.Run.{Call, Step, left, steps, image_loaded}
use Rattle.runs.proofs.Theory.Steps.{call_of, answers, leaves_image}
use Rattle.runs.proofs.Theory.Simulates.{Simulates, same, simulates}
use Rattle.demands.proofs.Theory.Third.{all_kept, loaded_accepted, loaded_image_is}
use Rattle.bays_apart.specs.Same.{Alike, Names}
use Rattle.bays_apart.specs.Turns.{is_turn, whose_turn}
use Rattle.bays_apart.specs.Apart.{Apart}
use Rattle.bays_apart.proofs.Theory.Alike.{alike_passing, alike_map, alike_through}
use Rattle.bays_apart.proofs.Theory.ConfigTurns as apart
use Rattle.bays_apart.proofs.Theory.Claim.{apart as claim_apart, images_apart, others_stay}
use Rattle.separate_bays.specs.Histories.{history, turn_by, Long, SameAnswer, same_rule, same_done, same_waiting, same_room, SameTurn}
use Rattle.separate_bays.specs.SeparateBays.{BothAccepted, SameTurns}
use Rattle.separate_bays.proofs.Theory.Lists.{simulate_all, handed_same}

-- a recipe that the second loader accepts
module _ (file out : List ℕ) (b : Bytes file) (v : (loaded_of separate file (length out)).refusal ≡ 0) where
  is : load_refusal separate file (length out) ≡ 0
  is = sym (load_refusal_is separate file (length out)) ∙ v

  accepted : refusal file ≡ 0
  accepted = (loaded_accepted separate file out is).0

  recipe : Recipe file (type_table file) (starting_nums file) (bay_terms file)
  recipe = says file b accepted

  admits : Admitted (type_table file) (starting_nums file) (bay_terms file)
  admits = admitted recipe

  suits : Suits separate (bay_terms file) (starting_state file).owned
  suits = (suits_iff separate recipe).0 (profile_parts separate file (sym (long separate file (length out) (loaded_accepted separate file out is).1) ∙ is)).1

  count : length (bay_terms file) ≡ bays file
  count = recipe.count

  module _ (calls : List Call) where
    -- its steps are the calculus's
    simulated : Alike (Simulates separate (type_at (type_table file))) (steps separate (type_at (type_table file)) (image_loaded separate file out) (starting_state file).names calls)
        (calculus.config_steps separate (type_at (type_table file)) (starting_state file) (map call_of calls))
    unfolding starting_image
    simulated = rw (loaded_image_is separate file out is) (simulate_all separate (type_at (type_table file)) (starting_state file) (all_kept separate file b accepted) calls)

    -- and so are the turns of a bay
    turns : (k : ℕ) → Alike (Simulates separate (type_at (type_table file))) (history k file out calls) (apart.history k (type_at (type_table file)) (starting_state file) (map call_of calls))
    turns k = alike_passing (λ n. is_turn k (owned_of n.image) n.call.thread) (λ m. is_turn k m.before.owned m.call.thread) (λ n m u. let (p, q) = handed_same u in ap₂ (is_turn k) p q) simulated

    by_turn : (k : ℕ) → map (turn_by k) (history k file out calls) ≡ map (apart.turn_by k) (apart.history k (type_at (type_table file)) (starting_state file) (map call_of calls))
    by_turn k = alike_map (turn_by k) (apart.turn_by k) (λ n m u. let (p, q) = handed_same u in ap₂ (whose_turn k) p q) (turns k)

    module _ (i : ℕ) (n : Step) (h : at (steps separate (type_at (type_table file)) (image_loaded separate file out) (starting_state file).names calls) i ≡ some n) where
      found : (m : calculus.ConfigStep) × (at (calculus.config_steps separate (type_at (type_table file)) (starting_state file) (map call_of calls)) i ≡ some m) × Simulates separate (type_at (type_table file)) n m
      unfolding starting_image
      found = simulates separate (type_at (type_table file)) (starting_state file) (all_kept separate file b accepted) calls i n (rw (loaded_image_is separate file out is) at h)

      pub stays_apart : Apart (bays file) (owned_of n.image) × Apart (bays file) (owned_of (left n))
      stays_apart =
          let (m, q, u) = found in
          subst (λ (c : ℕ). Apart c (owned_of n.image) × Apart c (owned_of (left n))) count (go u (images_apart admits suits (map call_of calls) i m q))
        where
          go : {n : Step} {m : calculus.ConfigStep} → Simulates separate (type_at (type_table file)) n m →
              Apart (length (bay_terms file)) m.before.owned × Apart (length (bay_terms file)) (calculus.state_after separate (type_at (type_table file)) m.before m.call).owned →
              Apart (length (bay_terms file)) (owned_of n.image) × Apart (length (bay_terms file)) (owned_of (left n))
          go (same s c k l) (before, after) = (rw (owned_again s.owned k) before, rw (leaves_image separate (type_at (type_table file)) s k c, owned_again _ l) after)

      pub out_of_reach : (k : ℕ) → is_turn k (owned_of n.image) n.call.thread ≡ false → bay_components k (owned_of (left n)) ≡ bay_components k (owned_of n.image)
      out_of_reach k t =
          let (m, q, u) = found in
          go u (others_stay admits suits (map call_of calls) i m q k) t
        where
          go : {n : Step} {m : calculus.ConfigStep} → Simulates separate (type_at (type_table file)) n m →
              (is_turn k m.before.owned m.call.thread ≡ false →
              bay_components k (calculus.state_after separate (type_at (type_table file)) m.before m.call).owned ≡ bay_components k m.before.owned) →
              is_turn k (owned_of n.image) n.call.thread ≡ false → bay_components k (owned_of (left n)) ≡ bay_components k (owned_of n.image)
          go (same s c f l) stay t =
              let e = owned_again s.owned f in
              let g = owned_again (calculus.state_after separate (type_at (type_table file)) s (call_of c)).owned l in
              let t' : is_turn k s.owned c.thread ≡ false = ap (λ (I : Owned). is_turn k I c.thread) (sym e) ∙ t in
              ap (λ (i : List ℕ). bay_components k (owned_of i)) (leaves_image separate (type_at (type_table file)) s f c) ∙ ap (bay_components k) g ∙ stay t' ∙ ap (bay_components k) (sym e)

-- calls on bytes with long buffers are calls of the calculus with long buffers
long_calls : (calls : List Call) → Long calls → apart.Long (map call_of calls)
long_calls calls l i a h = let (c, g, e) = map_at call_of calls i h in rw e (l i c g)

-- what the answers and settings of two steps show, from the calculus's
answer_same : {N : Names} (q r : Reply) → apart.SameReply N q r → SameAnswer N (outcome_of_reply q) (outcome_of_reply r)
unfolding outcome_of_reply
answer_same q r apart.same_moved = same_rule
answer_same q r (apart.same_waits n) = same_waiting n
answer_same q r apart.same_finished = same_done
answer_same q r apart.same_room = same_room

module _ {τ σ : TypeNumbers} (k : ℕ) where
  turn_same : {n m : Step} {a b : calculus.ConfigStep} → Simulates separate τ n a → Simulates separate σ m b → apart.SameTurn k τ σ a b → SameTurn k τ σ n m
  turn_same (same s c f l) (same t d g o) r = record {
    same_answer =
        let p : owners_of (image_of s.owned) ≡ s.owned.owners = ap (λ (I : Owned). I.owners) (owned_again s.owned f) in
        let q : owners_of (image_of t.owned) ≡ t.owned.owners = ap (λ (I : Owned). I.owners) (owned_again t.owned g) in
        rw (p, q, answers separate τ s f c, answers separate σ t g d) (answer_same _ _ r.same_reply);
    same_setting =
        let p = owned_again (calculus.state_after separate τ s (call_of c)).owned l in
        let q = owned_again (calculus.state_after separate σ t (call_of d)).owned o in
        rw (leaves_image separate τ s f c, leaves_image separate σ t g d, p, q) r.same_setting;
  }

pub claim : (k : ℕ) (file file' out out' : List ℕ) → BothAccepted k file file' out out' → (calls calls' : List Call) → SameTurns k file file' out out' calls calls' →
    Alike (SameTurn k (type_at (type_table file)) (type_at (type_table file'))) (history k file out calls) (history k file' out' calls')
claim k file file' out out' a calls calls' t =
    let b = a.bytes_left in
    let b' = a.bytes_right in
    let v = a.accepts_left in
    let v' = a.accepts_right in
    let same_bays : length (bay_terms file) ≡ length (bay_terms file') = count file out b v ∙ a.same_bays ∙ sym (count file' out' b' v') in
    let same_turns : apart.SameTurns k (type_at (type_table file)) (type_at (type_table file')) (starting_state file) (starting_state file') (map call_of calls) (map call_of calls') = record {
      long_left = long_calls calls t.long_left;
      long_right = long_calls calls' t.long_right;
      same_turns = sym (by_turn file out b v calls k) ∙ t.same_turns ∙ by_turn file' out' b' v' calls' k;
    } in
    alike_through (λ n m c d p q r. turn_same k p q r) (turns file out b v calls k) (turns file' out' b' v' calls' k)
    (claim_apart (admits file out b v) (admits file' out' b' v') (suits file out b v) (suits file' out' b' v') same_bays k a.same_bay (map call_of calls) (map call_of calls') same_turns)
