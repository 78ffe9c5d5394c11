-- The text by the verdict, and the text of an input that is longer than any recipe.
use Rattle.std.specs.Prelude.{◌≡◌, List, ◌++◌, ℕ, ◌<◌, length, take}
use Rattle.std.proofs.Common.{◌∙◌, ap, sym, append-nil, arith, length-take-le, take_all}
use Rattle.std.proofs.Math.Path.{refl}
use Rattle.std.proofs.Math.Decide.{dec_lt}
use Rattle.calculus.specs.Causes.{file_length_cause}
use Rattle.calculus.specs.Limits.{max_file_length}
use Rattle.calculus.proofs.Theory.Tests.{eqb_differ}
use Rattle.check_spec.specs.Verdict.{refusal}
use Rattle.check_spec.proofs.Theory.Answers.{long_refused, refusal_is}
use Rattle.load_spec.specs.Starting.{starting_image}
use Rattle.text.specs.Ascii.{verdict_line}
use Rattle.recipe_text.specs.Text.{image_line, text_of}

module _ (s : List ℕ) where
  -- "if accepted"
  pub text_accepted : refusal s ≡ 0 → text_of s ≡ verdict_line 0 ++ image_line (starting_image s)
  unfolding text_of
  text_accepted e = rw (refusal_is s, e) refl

  pub text_refused : ¬ (refusal s ≡ 0) → text_of s ≡ verdict_line (refusal s)
  unfolding text_of
  text_refused n = rw (refusal_is s, eqb_differ (refusal s) 0 n, append-nil) refl

-- one byte more than the longest file is enough to read: the text of a longer input is that of its first bytes
pub text_of_longer : (s : List ℕ) (n : ℕ) → max_file_length < n → text_of (take n s) ≡ text_of s
text_of_longer s n l =
    elim (dec_lt (length s) n) [
      | yes h ↦ ap text_of (take_all n s (omega arith))
      | no h ↦
          let size : length (take n s) ≡ n = length-take-le n s (omega arith) in
          let short : refusal (take n s) ≡ file_length_cause = long_refused (take n s) (omega arith) in
          let whole : refusal s ≡ file_length_cause = long_refused s (omega arith) in
          text_refused (take n s) (omega arith) ∙ ap verdict_line (short ∙ sym whole) ∙ sym (text_refused s (omega arith))
    ]
