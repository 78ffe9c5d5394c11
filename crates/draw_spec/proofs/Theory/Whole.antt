-- All that T-06 says of every input.
use Rattle.std.proofs.Common.{◌∙◌, ap, sym, arith, get_or-drop}
use Rattle.std.specs.Prelude.{◌≡◌, refl, ◌↔◌, Bool, cond, false, true, List, [], ◌∷◌, ◌++◌, map, ℕ, zero, suc, ◌%◌, ◌+◌, ◌<◌, ◌≤◌, eqb, get_or, replicate}
use Rattle.std.proofs.lemmas.Bool.{false≢true}
use Rattle.std.proofs.Math.Option.{some}
use Rattle.std.proofs.Math.Decide.{dec_lt}
use Rattle.std.proofs.Math.Nat.{mod-lt}
use Rattle.std.proofs.Math.ListN.{length}
use Rattle.calculus.specs.Bytes.{Bytes, word}
use Rattle.calculus.specs.Causes.{seed_cause}
use Rattle.calculus.specs.Limits.{front_length, seed_length}
use Rattle.calculus.specs.Syntax.{Config, Exp, at, thread_of}
use Rattle.calculus.specs.Table.{type_at}
use Rattle.calculus.proofs.Theory.Tests.{eqb_complete, eqb_differ, eqb_sound}
use Rattle.text.proofs.Theory.Digits.{length_verdict_line}
use Rattle.recipe_table.specs.Entries.{type_table}
use Rattle.check_spec.specs.Verdict.{refusal, verdict_of}
use Rattle.check_spec.proofs.Theory.Answers.{refusal_is, not_18}
use Rattle.image_layout.specs.Slice.{names}
use Rattle.image.specs.Configuration.{config_of}
use Rattle.load_spec.specs.Starting.{starting_image}
use Rattle.runs.specs.Run.{types_loaded}
use Rattle.runs.proofs.Theory.Steps.{answered_goes, follows_into}
use Rattle.demands.proofs.Theory.Reached.{reached_reads}
use Rattle.demands.proofs.Theory.Third.{loaded_is, accepted_demand}
use Rattle.draw_spec.specs.Draws.{Draw, picked, reply, thread, threads, threads_below}
use Rattle.draw_spec.specs.Lines.{draw_refusal, draws_in, max_text_length, number_in, recipe_in, seed_in, text_of}
use Rattle.draw_spec.specs.TestLoad.{DrawsDemand, TestLoad}
use Rattle.draw_spec.proofs.Theory.States.{drawn_not_zero, drawn_within, first_draw}
use Rattle.draw_spec.proofs.Theory.Threads.{in_order, kind_1_iff, so_many_below}
use Rattle.draw_spec.proofs.Theory.Alive.{Alive, alive_some, alive_start, picked_goes, picked_thread}
use Rattle.draw_spec.proofs.Theory.Steps.{kept_image}
use Rattle.draw_spec.proofs.Theory.Chain.{are_steps, each_alive, first_is, next_is}
use Rattle.draw_spec.proofs.Theory.Lines.{length_drawn, length_draws, recipe_accepted, recipe_refused, text_drawn, text_refused}

-- zeros behind change no byte
padded : (s : List ℕ) (n i : ℕ) → get_or (s ++ replicate n 0) i 0 ≡ get_or s i 0
padded (x ∷ s) n zero = refl
padded (x ∷ s) n (suc i) = padded s n i
padded [] zero i = refl
padded [] (suc n) zero = refl
padded [] (suc n) (suc i) = padded [] n i

padded_word : (s : List ℕ) (n i : ℕ) → word (s ++ replicate n 0) i ≡ word s i
unfolding word
padded_word s n i = rw (padded s n i, padded s n (i + 1)) refl

-- a recipe's number, then 18 for a seed of zero
by_18 : (r s : ℕ) → ¬ (r ≡ seed_cause) → (cond (eqb r 0) (cond (eqb s 0) seed_cause 0) r ≡ seed_cause) ↔ ((r ≡ 0) × (s ≡ 0))
by_18 zero zero l = (λ e. (refl, refl), λ p. refl)
by_18 zero (suc s) l = rw (eqb_differ (suc s) 0 (omega arith)) (λ e. absurd (omega arith), λ (p, q). absurd (omega arith))
by_18 (suc r) s l = rw (eqb_differ (suc r) 0 (omega arith)) (λ e. absurd (l e), λ (p, q). absurd (omega arith))

by_0 : (r s : ℕ) → (cond (eqb r 0) (cond (eqb s 0) seed_cause 0) r ≡ 0) ↔ ((r ≡ 0) × (¬ (s ≡ 0)))
by_0 zero zero = (λ e. absurd (omega arith), λ (p, q). absurd (q refl))
by_0 zero (suc s) = rw (eqb_differ (suc s) 0 (omega arith)) (λ e. (refl, λ q. omega arith), λ p. refl)
by_0 (suc r) s = rw (eqb_differ (suc r) 0 (omega arith)) (λ e. absurd (omega arith), λ (p, q). absurd (omega arith))

module _ (input : List ℕ) where
  -- the verdict's number
  told : (verdict_of (recipe_in input)).refusal ≡ refusal (recipe_in input)
  told = refusal_is (recipe_in input)

  -- 18 is tried after the recipe's causes
  by_recipe : (b : Bool) → eqb (refusal (recipe_in input)) 0 ≡ b → draw_refusal input ≡ cond b (cond (eqb (seed_in input) 0) seed_cause 0) (refusal (recipe_in input))
  by_recipe true e = recipe_accepted input (eqb_sound (refusal (recipe_in input)) 0 e)
  by_recipe false e = recipe_refused input (λ z. let q = eqb_complete (refusal (recipe_in input)) 0 z in false≢true (sym e ∙ q))

  refusal_by : draw_refusal input ≡ cond (eqb (refusal (recipe_in input)) 0) (cond (eqb (seed_in input) 0) seed_cause 0) (refusal (recipe_in input))
  refusal_by = by_recipe (eqb (refusal (recipe_in input)) 0) refl

  is_18 : (draw_refusal input ≡ seed_cause) ↔ ((refusal (recipe_in input) ≡ 0) × (seed_in input ≡ 0))
  is_18 = rw refusal_by (by_18 (refusal (recipe_in input)) (seed_in input) (not_18 (recipe_in input)))

  is_0 : (draw_refusal input ≡ 0) ↔ ((refusal (recipe_in input) ≡ 0) × (¬ (seed_in input ≡ 0)))
  is_0 = rw refusal_by (by_0 (refusal (recipe_in input)) (seed_in input))

  length_text : length (text_of input) ≤ max_text_length
  length_text = elim (dec_lt 0 (draw_refusal input)) [
    | yes l ↦ rw (text_refused input (omega arith)) (omega (arith, length_verdict_line (draw_refusal input)))
    | no l ↦ rw (text_drawn input (omega arith)) (length_drawn input)
  ]

-- the draws of an input that is not refused
module _ (input : List ℕ) (b : Bytes input) (z : draw_refusal input ≡ 0) where
  file_bytes : Bytes (recipe_in input)
  file_bytes i = rw (get_or-drop front_length input i 0) (b (front_length + i))

  accepted : refusal (recipe_in input) ≡ 0
  accepted = ((is_0 input).0 z).0

  alive : (i : ℕ) (d : Draw) → at (draws_in input) i ≡ some d → Alive d.image
  alive = each_alive (number_in input) (seed_in input) (starting_image (recipe_in input)) (alive_start (recipe_in input) file_bytes accepted)

  reads : {image : List ℕ} (a : Alive image) → config_of image ≡ a.state.owned.config
  reads a = ap config_of a.is ∙ reached_reads a.reached

  is_thread_of : {image : List ℕ} → Alive image → (state : ℕ) → (e : Exp) × (at (config_of image) (picked image state) ≡ some (thread_of e))
  is_thread_of a state = let t = picked_thread a state in (t.expression, ap (λ (C : Config). at C (picked _ state)) (reads a) ∙ t.there)

  counted : {image : List ℕ} → Alive image → (state : ℕ) → (0 < length (threads image)) × (length (threads_below image (picked image state)) ≡ state % length (threads image))
  unfolding picked
  counted {image} a state = (alive_some a, so_many_below image (names image) (state % length (threads image)) (omega (arith, mod-lt state (alive_some a))))

  drawn_demand : DrawsDemand input (draws_in input)
  drawn_demand = record {
    as_many = length_draws (number_in input) (seed_in input) (starting_image (recipe_in input));
    from_seed = λ d h. ap (λ (d : Draw). d.state) (first_is (number_in input) (seed_in input) (starting_image (recipe_in input)) d h);
    from_state = λ i d e h g. ap (λ (d : Draw). d.state) (next_is (number_in input) (seed_in input) (starting_image (recipe_in input)) i d e h g);
    picks = λ i d h. is_thread_of (alive i d h) d.state;
    counts = λ i d h. counted (alive i d h) d.state;
    goes = λ i d h. answered_goes (reply d) (picked_goes (alive i d h) d.state);
    keeps = λ i d e h g n.
        ap (λ (d : Draw). d.image) (next_is (number_in input) (seed_in input) (starting_image (recipe_in input)) i d e h g) ∙ kept_image (reply d) d.image n;
    followed = λ out long. follows_into out long (map thread (draws_in input));
    stepped = λ out long calls f.
        rw (loaded_is (recipe_in input) out accepted long)
        (are_steps (type_at (type_table (recipe_in input))) (number_in input) (seed_in input) (starting_image (recipe_in input)) (types_loaded (recipe_in input)) calls f);
    demanded = λ out long calls. accepted_demand (recipe_in input) file_bytes (told input ∙ accepted) out long calls;
  }

pub test_load : TestLoad
unfolding seed_in number_in word
test_load = record {
  within = drawn_within;
  first_draw = first_draw;
  never_zero = drawn_not_zero;
  of_kind_1 = kind_1_iff;
  ascending = λ image i j x y h g l. in_order image (names image) i j h g l;
  front = λ a b c d e f recipe. (omega arith, (omega arith, refl));
  absent = λ input n. (
    rw (padded_word input n 0, padded_word input n 2) refl,
    rw (padded_word input n seed_length) refl,
  );
  number = λ input l. omega arith;
  number_above = λ input l. omega arith;
  recipe_first = λ input n. rw (told input) (recipe_refused input (λ e. n (told input ∙ e)));
  eighteen = λ input. rw (told input) (is_18 input);
  accepted = λ input. rw (told input) (is_0 input);
  refusal = text_refused;
  otherwise = text_drawn;
  draws = drawn_demand;
  short = length_text;
}
