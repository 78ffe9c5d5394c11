-- Document 02, T-06, "A repeatable test load": what it says of every input, a field for each sentence. What is printed is `text_of`, as in the contracts of crate draw_text;
-- what a step answers is `outcome_of`, and a run `steps`, as in the demands. Quoted is the request.
use Rattle.std.specs.Prelude.{◌≡◌, ◌↔◌, List, ◌∷◌, ◌++◌, map, ℕ, suc, ◌%◌, ◌*◌, ◌+◌, ◌<◌, ◌≤◌, length, replicate}
use Rattle.std.proofs.Math.Option.{some}
use Rattle.calculus.specs.Profile.{common}
use Rattle.calculus.specs.Bytes.{Bytes, word}
use Rattle.calculus.specs.Causes.{seed_cause}
use Rattle.calculus.specs.Kinds.{thread_kind}
use Rattle.calculus.specs.Limits.{max_draws, max_image_length, seed_length}
use Rattle.calculus.specs.Syntax.{Exp, at, thread_of}
use Rattle.calculus.specs.Table.{type_at}
use Rattle.text.specs.Ascii.{verdict_line}
use Rattle.recipe_table.specs.Entries.{type_table}
use Rattle.check_spec.specs.Verdict.{verdict_of}
use Rattle.image_layout.specs.Slice.{kind_at, names}
use Rattle.image.specs.Configuration.{config_of}
use Rattle.step_spec.specs.declared.Outcome.TheVariants.{Rule}
use Rattle.runs.specs.Run.{Call, Follows, Goes, Step, answer, image_loaded, steps_of, types_loaded}
use Rattle.demands.specs.Demands.{RunDemand}
use Rattle.draw_spec.specs.State.{drawn, states}
use Rattle.draw_spec.specs.Draws.{Draw, outcome, thread, threads, threads_below}
use Rattle.draw_spec.specs.Lines.{draw_refusal, draws_in, lines, max_text_length, number_in, recipe_in, seed_in, text_of}

-- a draw is this step of a run of document 01: the same image, thread and answer
pub record IsStep (d : Draw) (n : Step) : Type 0 where
  pub image_is : n.image ≡ d.image
  pub thread_is : n.call.thread ≡ thread d
  pub answer_is : answer n ≡ outcome d

-- what is said of the draws of an input that is not refused
pub record DrawsDemand (input : List ℕ) (ds : List Draw) : Type 0 where
  -- "one line for each draw and no other"
  pub as_many : length ds ≡ number_in input
  -- "a draw replaces it": the first is drawn from the seed, each later one from the state before
  pub from_seed : (d : Draw) → at ds 0 ≡ some d → d.state ≡ drawn (seed_in input)
  pub from_state : (i : ℕ) (d e : Draw) → at ds i ≡ some d → at ds (suc i) ≡ some e → e.state ≡ drawn d.state
  -- "modulo the present number of threads picks a thread, counted in ascending number from 0": so many are below it
  pub picks : (i : ℕ) (d : Draw) → at ds i ≡ some d → (e : Exp) × (at (config_of d.image) (thread d) ≡ some (thread_of e))
  pub counts : (i : ℕ) (d : Draw) → at ds i ≡ some d →
      (0 < length (threads d.image)) × (length (threads_below d.image (thread d)) ≡ d.state % length (threads d.image))
  -- "the word step, done, waiting or refused": a refused draw lacks room
  pub goes : (i : ℕ) (d : Draw) → at ds i ≡ some d → Goes (outcome d)
  -- "A refused or idle draw keeps the image"
  pub keeps : (i : ℕ) (d e : Draw) → at ds i ≡ some d → at ds (suc i) ≡ some e → ((rule size : ℕ) → ¬ (outcome d ≡ Rule rule size)) → e.image ≡ d.image
  -- "that thread is stepped": the draws are the steps of a run; there are calls that step them; the third demand holds along it
  pub followed : (out : List ℕ) → max_image_length ≤ length out → (calls : List Call) × Follows (map thread ds) calls
  pub stepped : (out : List ℕ) → max_image_length ≤ length out → (calls : List Call) → Follows (map thread ds) calls →
      (i : ℕ) (d : Draw) → at ds i ≡ some d → (n : Step) × (at (steps_of common (recipe_in input) out calls) i ≡ some n) × IsStep d n
  pub demanded : (out : List ℕ) → max_image_length ≤ length out → (calls : List Call) →
      RunDemand common (type_at (type_table (recipe_in input))) (image_loaded common (recipe_in input) out) (types_loaded (recipe_in input)) calls

-- of every input
pub record TestLoad : Type 0 where
  -- "The state is 32 bits"; "from 1 the first draw is 270,369"; from a seed that is not zero no state is
  pub within : (state : ℕ) → state < states → drawn state < states
  pub first_draw : drawn 1 ≡ 270369
  pub never_zero : (state : ℕ) → state < states → ¬ (state ≡ 0) → ¬ (drawn state ≡ 0)
  -- "the present number of threads", "in ascending number": of every image, the names of kind 1, those that are done too
  pub of_kind_1 : (image : List ℕ) (x : ℕ) → ((i : ℕ) × (at (threads image) i ≡ some x)) ↔ ((x < names image) × (kind_at image x ≡ thread_kind))
  pub ascending : (image : List ℕ) (i j x y : ℕ) → at (threads image) i ≡ some x → at (threads image) j ≡ some y → i < j → x < y
  -- "the seed in four bytes and the number of draws in two, little-endian, then the recipe"
  pub front : (a b c d e f : ℕ) (recipe : List ℕ) → let input = a ∷ b ∷ c ∷ d ∷ e ∷ f ∷ recipe in
      (seed_in input ≡ a + 256 * b + 65536 * c + 16777216 * d) × ((word input seed_length ≡ e + 256 * f) × (recipe_in input ≡ recipe))
  -- "absent bytes of these six count as 0": more zeros change nothing
  pub absent : (input : List ℕ) (n : ℕ) → (seed_in (input ++ replicate n 0) ≡ seed_in input) × (number_in (input ++ replicate n 0) ≡ number_in input)
  -- "a number above 10,000 as 10,000"
  pub number : (input : List ℕ) → word input seed_length ≤ max_draws → number_in input ≡ word input seed_length
  pub number_above : (input : List ℕ) → max_draws < word input seed_length → number_in input ≡ max_draws
  -- "It refuses a seed of zero with 18, tried after the recipe is accepted"
  pub recipe_first : (input : List ℕ) → ¬ ((verdict_of (recipe_in input)).refusal ≡ 0) → draw_refusal input ≡ (verdict_of (recipe_in input)).refusal
  pub eighteen : (input : List ℕ) → (draw_refusal input ≡ seed_cause) ↔ (((verdict_of (recipe_in input)).refusal ≡ 0) × (seed_in input ≡ 0))
  pub accepted : (input : List ℕ) → (draw_refusal input ≡ 0) ↔ (((verdict_of (recipe_in input)).refusal ≡ 0) × (¬ (seed_in input ≡ 0)))
  -- "A refusal prints only its verdict line"
  pub refusal : (input : List ℕ) → ¬ (draw_refusal input ≡ 0) → text_of input ≡ verdict_line (draw_refusal input)
  -- "Otherwise the program prints one line for each draw and no other"
  pub otherwise : (input : List ℕ) → draw_refusal input ≡ 0 → text_of input ≡ lines (draws_in input)
  pub draws : (input : List ℕ) → Bytes input → draw_refusal input ≡ 0 → DrawsDemand input (draws_in input)
  -- all lines fit into a buffer of this length
  pub short : (input : List ℕ) → length (text_of input) ≤ max_text_length
