-- The text by the refusal; how long lines are; the text of an input that is longer than any.
use Rattle.std.proofs.Common.{◌∙◌, ap, sym, length-append, length-drop, length-take-le, take_all}
use Rattle.std.specs.Prelude.{◌≡◌, cond, List, [], ◌∷◌, ◌++◌, map, ℕ, zero, suc, ◌+◌, ◌*◌, ◌<◌, ◌≤◌, eqb, length, take}
use Rattle.std.proofs.Math.Path.{refl}
use Rattle.std.proofs.Math.Decide.{dec_lt}
use native.Mathlib.Omega.{arith}
use Rattle.calculus.specs.Causes.{file_length_cause, seed_cause}
use Rattle.calculus.specs.Limits.{front_length, max_draws, max_file_length}
use Rattle.calculus.specs.Lowest.{cause}
use Rattle.calculus.proofs.Theory.Lowest.{first_cause_front, first_cause_rest, none_fits}
use Rattle.calculus.proofs.Theory.Tests.{eqb_differ}
use Rattle.text.specs.Ascii.{decimal, verdict_line}
use Rattle.text.proofs.Theory.Digits.{length_decimal}
use Rattle.check_spec.specs.Verdict.{check_causes, refusal}
use Rattle.check_spec.proofs.Theory.Answers.{long_refused}
use Rattle.step_spec.specs.declared.Outcome.{Outcome}
use Rattle.step_spec.specs.declared.Outcome.TheVariants.{Rule, Done, Waiting, Refused}
use Rattle.load_spec.specs.Starting.{starting_image}
use Rattle.draw_spec.specs.Draws.{Draw, draws, outcome, thread}
use Rattle.draw_spec.specs.Lines.{max_outcome_length, draw_refusal, draws_in, line, lines, max_line_length, max_text_length, number_in, number_of, outcome_text, recipe_in, seed_in, text_of, word_of}

-- "3 waiting 12", "12 refused 15"
lines_row : map (λ (p : ℕ × Outcome). line p.0 p.1) ((3, Waiting 12) ∷ (12, Refused 15) ∷ [])
    ≡ (0x33 ∷ 0x20 ∷ 0x77 ∷ 0x61 ∷ 0x69 ∷ 0x74 ∷ 0x69 ∷ 0x6E ∷ 0x67 ∷ 0x20 ∷ 0x31 ∷ 0x32 ∷ 0x0A ∷ [])
    ∷ (0x31 ∷ 0x32 ∷ 0x20 ∷ 0x72 ∷ 0x65 ∷ 0x66 ∷ 0x75 ∷ 0x73 ∷ 0x65 ∷ 0x64 ∷ 0x20 ∷ 0x31 ∷ 0x35 ∷ 0x0A ∷ []) ∷ []
unfolding line outcome_text word_of number_of decimal
lines_row = refl

-- the first draw's line is the first
first_line : (d e : Draw) → lines (d ∷ e ∷ []) ≡ line (thread d) (outcome d) ++ (line (thread e) (outcome e) ++ [])
unfolding lines
first_line d e = refl

-- as many draws as are asked for
pub length_draws : (n state : ℕ) (image : List ℕ) → length (draws n state image) ≡ n
unfolding draws
length_draws zero state image = refl
length_draws (suc n) state image = ap suc (length_draws n _ _)

length_word : (o : Outcome) → length (word_of o) ≤ 7
unfolding word_of
length_word (Rule rule size) = omega arith
length_word Done = omega arith
length_word (Waiting y) = omega arith
length_word (Refused number) = omega arith

pub length_outcome : (o : Outcome) → length (outcome_text o) ≤ max_outcome_length
unfolding outcome_text
length_outcome o = simp length-append (omega (arith, length_word o, length_decimal (number_of o)))

pub length_line : (x : ℕ) (o : Outcome) → length (line x o) ≤ max_line_length
unfolding line
length_line x o = simp length-append (omega (arith, length_decimal x, length_outcome o))

pub length_lines : (ds : List Draw) → length (lines ds) ≤ max_line_length * length ds
unfolding lines
length_lines [] = omega arith
length_lines (d ∷ ds) = rw length-append (omega (arith, length_line (thread d) (outcome d), length_lines ds))

module _ (input : List ℕ) where
  -- the recipe's causes come first
  pub recipe_refused : ¬ (refusal (recipe_in input) ≡ 0) → draw_refusal input ≡ refusal (recipe_in input)
  unfolding draw_refusal refusal
  recipe_refused n = first_cause_front (check_causes (recipe_in input)) (cause seed_cause (eqb (seed_in input) 0) ∷ []) n

  pub recipe_accepted : refusal (recipe_in input) ≡ 0 → draw_refusal input ≡ cond (eqb (seed_in input) 0) seed_cause 0
  unfolding draw_refusal refusal
  recipe_accepted e =
      first_cause_rest (check_causes (recipe_in input)) (cause seed_cause (eqb (seed_in input) 0) ∷ []) (none_fits (check_causes (recipe_in input)) tt e)

  -- "A refusal prints only its verdict line. Otherwise .. one line for each draw"
  pub text_refused : ¬ (draw_refusal input ≡ 0) → text_of input ≡ verdict_line (draw_refusal input)
  unfolding text_of
  text_refused n = rw (eqb_differ (draw_refusal input) 0 n) refl

  pub text_drawn : draw_refusal input ≡ 0 → text_of input ≡ lines (draws_in input)
  unfolding text_of
  text_drawn e = rw e refl

  -- "a number above 10,000 as 10,000"
  pub few_draws : number_in input ≤ max_draws
  unfolding number_in
  few_draws = omega arith

  -- so no text is longer than the longest lines of the most draws
  pub length_drawn : length (lines (draws_in input)) ≤ max_text_length
  length_drawn = omega (arith, length_lines (draws_in input), length_draws (number_in input) (seed_in input) (starting_image (recipe_in input)), few_draws)

-- one byte more than the longest input is enough to read: the text of a longer one is that of its first bytes
pub text_of_longer : (input : List ℕ) (n : ℕ) → front_length + max_file_length < n → text_of (take n input) ≡ text_of input
text_of_longer input n l =
    elim (dec_lt (length input) n) [
      | yes h ↦ ap text_of (take_all n input (omega arith))
      | no h ↦
          let size : length (take n input) ≡ n = length-take-le n input (omega arith) in
          let short : draw_refusal (take n input) ≡ file_length_cause = too_long (take n input) (omega arith) in
          let whole : draw_refusal input ≡ file_length_cause = too_long input (omega arith) in
          text_refused (take n input) (omega arith) ∙ ap verdict_line (short ∙ sym whole) ∙ sym (text_refused input (omega arith))
    ]
  where
    too_long : (s : List ℕ) → front_length + max_file_length < length s → draw_refusal s ≡ file_length_cause
    too_long s h =
        let e : refusal (recipe_in s) ≡ file_length_cause = long_refused (recipe_in s) (omega (arith, length-drop front_length s)) in
        recipe_refused s (omega arith) ∙ e
