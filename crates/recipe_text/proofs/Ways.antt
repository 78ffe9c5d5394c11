-- What `put_text` has put, by the tests that lead to each return.
use mathlib.Core.Path.{◌∙◌, ◌≡◌, ap, sym}
use mathlib.Core.List.{List}
use Prim.Native.Nat.{ℕ, ◌<◌, ◌≤◌}
use native.Mathlib.Omega.{arith}
use lib.ListN.{length, length-append, take}
use Rattle.calculus.specs.Limits.{max_file_length, max_image_length}
use Rattle.buffer.specs.Written.{Wrote}
use Rattle.buffer.proofs.Theory.Writes.{known_as, then}
use Rattle.text.specs.Ascii.{verdict_line}
use Rattle.text.specs.Put.{Puts, Read}
use Rattle.text.proofs.Theory.Digits.{length_accepted, length_verdict_line}
use Rattle.text.proofs.Theory.Put.{puts}
use Rattle.check_spec.specs.Verdict.{refusal}
use Rattle.load_spec.specs.Starting.{starting_image}
use Rattle.recipe_text.specs.Text.{image_line, max_text_length, text_of}
use Rattle.recipe_text.proofs.Theory.Digits.{length_image_line}
use Rattle.recipe_text.proofs.Theory.Lines.{text_accepted, text_of_longer, text_refused}

module _ (s text : List ℕ) (long : max_text_length ≤ length text) where
  pub puts_refusal : ¬ (refusal s ≡ 0) → {text' : List ℕ} {r : ℕ} → Wrote text 0 (verdict_line (refusal s)) text' r → Puts max_text_length (text_of s) text r text'
  puts_refusal n w =
      let e = text_refused s n in
      puts max_text_length (text_of s) text long (known_as w (sym e)) (rw e (omega (arith, length_verdict_line (refusal s))))

  pub puts_image : refusal s ≡ 0 → length (starting_image s) ≤ max_image_length → {middle text' : List ℕ} {next r : ℕ} →
      Wrote text 0 (verdict_line 0) middle next → Wrote middle next (image_line (starting_image s)) text' r → Puts max_text_length (text_of s) text r text'
  puts_image z fits w v =
      let e = text_accepted s z in
      puts max_text_length (text_of s) text long (known_as (then w v) (sym e)) (rw (e, length-append) (omega (arith, length_accepted, length_image_line (starting_image s))))

-- what was read of an input has the input's text
pub same_text : (input buffer : List ℕ) (n : ℕ) → max_file_length < length buffer → Read input buffer n → text_of (take n buffer) ≡ text_of input
same_text input buffer n long read = ap text_of read ∙ text_of_longer input (length buffer) long
