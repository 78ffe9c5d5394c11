-- Document 02, T-06: the input, and the lines that the program prints for it. Characters are bytes of ASCII.
use Rattle.std.specs.Prelude.{cond, List, [], ◌∷◌, ◌++◌, ℕ, ◌+◌, ◌*◌, min, eqb, drop}
use Rattle.calculus.specs.Bytes.{two_byte_values, word}
use Rattle.calculus.specs.Causes.{seed_cause}
use Rattle.calculus.specs.Limits.{front_length, max_draws, seed_length}
use Rattle.calculus.specs.Lowest.{Cause, cause, first_cause}
use Rattle.text.specs.Ascii.{decimal, line_end, verdict_line}
use Rattle.check_spec.specs.Verdict.{check_causes}
use Rattle.load_spec.specs.Starting.{starting_image}
use Rattle.step_spec.specs.declared.Outcome.{Outcome}
use Rattle.step_spec.specs.declared.Outcome.TheVariants.{Rule, Done, Waiting, Refused}
use Rattle.draw_spec.specs.Draws.{Draw, draws, outcome, thread}

-- "the seed in four bytes .., little-endian"; "absent bytes of these six count as 0"
unfoldable pub seed_in : List ℕ → ℕ
seed_in input = word input 0 + two_byte_values * word input 2

-- "the number of draws in two"; "a number above 10,000 as 10,000"
unfoldable pub number_in : List ℕ → ℕ
number_in input = min (word input seed_length) max_draws

-- "then the recipe"
abbrev pub recipe_in : List ℕ → List ℕ
recipe_in input = drop front_length input

-- the causes of a check, then "a seed of zero with 18, tried after the recipe is accepted"
abbrev pub draw_causes : List ℕ → List Cause
draw_causes input = check_causes (recipe_in input) ++ (cause seed_cause (eqb (seed_in input) 0) ∷ [])

-- the number of the first that fits, 0 where none does
unfoldable pub draw_refusal : List ℕ → ℕ
draw_refusal input = first_cause (draw_causes input)

-- "single spaces"
abbrev pub space : List ℕ
space = 0x20 ∷ []

-- "the word step, done, waiting or refused"
unfoldable pub word_of : Outcome → List ℕ
word_of (Rule rule size) = 0x73 ∷ 0x74 ∷ 0x65 ∷ 0x70 ∷ []
word_of Done = 0x64 ∷ 0x6F ∷ 0x6E ∷ 0x65 ∷ []
word_of (Waiting y) = 0x77 ∷ 0x61 ∷ 0x69 ∷ 0x74 ∷ 0x69 ∷ 0x6E ∷ 0x67 ∷ []
word_of (Refused number) = 0x72 ∷ 0x65 ∷ 0x66 ∷ 0x75 ∷ 0x73 ∷ 0x65 ∷ 0x64 ∷ []

-- "the rule, 0, the awaited name or the refusal's number"
unfoldable pub number_of : Outcome → ℕ
number_of (Rule rule size) = rule
number_of Done = 0
number_of (Waiting y) = y
number_of (Refused number) = number

-- "then the word .., then the rule, 0, .., in decimal with single spaces"
unfoldable pub outcome_text : Outcome → List ℕ
outcome_text o = space ++ word_of o ++ space ++ decimal (number_of o)

-- "the thread's name, then the word .., then the rule, 0, .."
unfoldable pub line : ℕ → Outcome → List ℕ
line x o = decimal x ++ outcome_text o ++ line_end

-- "one line for each draw and no other"
unfoldable pub lines : List Draw → List ℕ
lines [] = []
lines (d ∷ ds) = line (thread d) (outcome d) ++ lines ds

-- the draws of an input
abbrev pub draws_in : List ℕ → List Draw
draws_in input = draws (number_in input) (seed_in input) (starting_image (recipe_in input))

-- what the program prints: "A refusal prints only its verdict line. Otherwise the program prints one line for each draw"
unfoldable pub text_of : List ℕ → List ℕ
text_of input = cond (eqb (draw_refusal input) 0) (lines (draws_in input)) (verdict_line (draw_refusal input))

-- the longest line: a name of three digits, a word of seven letters, a number of three digits, two spaces and the end
abbrev pub max_line_length : ℕ
max_line_length = 16

-- the longest text
abbrev pub max_text_length : ℕ
max_text_length = max_line_length * max_draws

-- a word of seven letters, a number of three digits, two spaces
abbrev pub max_outcome_length : ℕ
max_outcome_length = 12
