-- Document 02, T-04, "A house runner": what it says of every run, a field for each sentence. What is answered is `ran`, what is left in the buffers `Leaves`, as in the
-- contract of fikarehu_run; what a step answers is `outcome_of`, and a run `steps`, as in the demands. Quoted is the request.
use Rattle.std.specs.Prelude.{◌≡◌, ◌↔◌, ◌⊎◌, cond, List, [], ◌∷◌, ◌++◌, map, ℕ, suc, ◌%◌, ◌+◌, ◌<◌, ◌≤◌, eqb, length, take}
use Rattle.std.proofs.Math.Option.{some}
use Rattle.calculus.specs.Profile.{common}
use Rattle.calculus.specs.Bytes.{Bytes}
use Rattle.calculus.specs.Causes.{buffer_cause, room_cause}
use Rattle.calculus.specs.Limits.{max_image_length, max_names}
use Rattle.calculus.specs.Table.{type_at}
use Rattle.calculus.specs.Syntax.{at}
use Rattle.recipe_table.specs.Entries.{type_table}
use Rattle.check_spec.specs.Verdict.{verdict_of}
use Rattle.image_layout.specs.Slice.{names}
use Rattle.step_spec.specs.declared.Outcome.TheVariants.{Rule, Refused}
use Rattle.step_spec.specs.Stepping.{outcome_of}
use Rattle.runs.specs.Run.{Call, Step, Follows, answer, left, steps_of, image_loaded, types_loaded}
use Rattle.demands.specs.Demands.{RunDemand}
use Rattle.run_spec.specs.declared.Ending.{Ending}
use Rattle.run_spec.specs.declared.Ending.TheVariants.{Turns, Idle, Room, Refused as RunRefused}
use Rattle.run_spec.specs.Course.{Course, Turn, course_of, going_round}
use Rattle.run_spec.specs.Ending.{Leaves, ran}

-- "that a rule moves and that has room": a step of x, into any buffer that is long enough, answers a rule
abbrev pub CanStep : List ℕ → ℕ → Type 0
CanStep image x = (rule size : ℕ) × ((out : List ℕ) → max_image_length ≤ length out → outcome_of common image x out ≡ Rule rule size)

-- a rule moves it, and it lacks room: the step answers 15
abbrev pub OutOfRoom : List ℕ → ℕ → Type 0
OutOfRoom image x = (out : List ℕ) → max_image_length ≤ length out → outcome_of common image x out ≡ Refused room_cause

-- the numbers of a list up to x
unfoldable pub up_to : ℕ → List ℕ → List ℕ
up_to x [] = []
up_to x (y ∷ ys) = y ∷ cond (eqb y x) [] (up_to x ys)

-- number x comes round in a turn: it is looked at, at the latest as the thread that is stepped
abbrev pub ComesRound : Turn → ℕ → Type 0
ComesRound t x = (i : ℕ) × (at (up_to t.thread (going_round (names t.image) t.next)) i ≡ some x)

-- the images that the turns are handed, and the last one
abbrev pub chain : Course → List (List ℕ)
chain c = map (λ (t : Turn). t.image) c.turns ++ (c.last ∷ [])

-- the threads of the turns
abbrev pub stepped : Course → List ℕ
stepped c = map (λ (t : Turn). t.thread) c.turns

-- they are the turns: as many; each answers a rule, is handed the image of its place in the chain, and leaves the next one
pub record IsChain (file out : List ℕ) (c : Course) (calls : List Call) : Type 0 where
  pub begins : at (chain c) 0 ≡ some (image_loaded common file out)
  pub as_many : length (steps_of common file out calls) ≡ length c.turns
  pub each : (i : ℕ) (n : Step) → at (steps_of common file out calls) i ≡ some n →
      ((rule size : ℕ) × (answer n ≡ Rule rule size)) × ((at (chain c) i ≡ some n.image) × (at (chain c) (suc i) ≡ some (left n)))

-- n turns on end from turn i on, each the step of another than x; wherever x's number comes round in them, a rule moves it and it has room. In between it may wait; a turn
-- in which it is looked at and lacks room is in no such stretch: from there it starts anew.
pub record Sees (turns : List Turn) (x i n : ℕ) : Type 0 where
  pub there : (t : Turn) → at turns i ≡ some t → x < names t.image
  pub others : (j : ℕ) → j < n → (t : Turn) × (at turns (i + j) ≡ some t) × ((¬ (t.thread ≡ x)) × (ComesRound t x → CanStep t.image x))

-- what is said of the course of an accepted recipe's run of up to k turns, and of its ending
pub record TurnsDemand (file : List ℕ) (k : ℕ) (c : Course) (e : Ending) : Type 0 where
  -- "takes up to k turns"
  pub few : length c.turns ≤ k
  -- "A turn steps the first thread, going round by number .., that a rule moves and that has room"
  pub goes : (i : ℕ) (t : Turn) → at c.turns i ≡ some t → CanStep t.image t.thread
  pub first : (i : ℕ) (t : Turn) → at c.turns i ≡ some t → (x : ℕ) → ComesRound t x → CanStep t.image x → x ≡ t.thread
  -- "The first turn starts from the lowest number", each later one "from the one after the last stepped"
  pub from_lowest : (t : Turn) → at c.turns 0 ≡ some t → t.next ≡ 0
  pub from_next : (i : ℕ) (t u : Turn) → at c.turns i ≡ some t → at c.turns (suc i) ≡ some u → u.next ≡ t.thread + 1
  -- "It stops before k turns only when there is no such thread"
  pub no_such : length c.turns < k → (x : ℕ) → ¬ CanStep c.last x
  -- "and then says whether one lacked room"; "It answers the turns taken and the last image's .. length"
  pub lacked : length c.turns < k → (e ≡ Room (length c.turns) (length c.last)) ↔ ((x : ℕ) × OutOfRoom c.last x)
  pub not_lacked : length c.turns < k → (e ≡ Idle (length c.turns) (length c.last)) ↔ (¬ ((x : ℕ) × OutOfRoom c.last x))
  -- "after k turns it looks no further"
  pub all_taken : (e ≡ Turns (length c.turns) (length c.last)) ↔ (length c.turns ≡ k)
  -- "the turns are the steps of that chain of images"; there are calls that step them; the third demand holds along it
  pub followed : (out : List ℕ) → max_image_length ≤ length out → (calls : List Call) × Follows (stepped c) calls
  pub chained : (out : List ℕ) → max_image_length ≤ length out → (calls : List Call) → Follows (stepped c) calls → IsChain file out c calls
  pub demanded : (out : List ℕ) → max_image_length ≤ length out → (calls : List Call) → Follows (stepped c) calls →
      RunDemand common (type_at (type_table file)) (image_loaded common file out) (types_loaded file) calls
  -- "No thread that a rule moves, and that finds room when its number comes round, sees more than 255 steps of others before its own"
  pub fair : (x i n : ℕ) → Sees c.turns x i n → n < max_names

-- what is said of the buffers, where they held `first` and `second`, and hold first' and second' then
pub record BuffersDemand (c : Course) (e : Ending) (first second first' second' : List ℕ) : Type 0 where
  -- a refusal "writes nothing" (the first demand)
  pub unwritten : (n : ℕ) → e ≡ RunRefused n → (first' ≡ first) × (second' ≡ second)
  -- "the last image's buffer": "The load goes to the first buffer and steps alternate"
  pub in_the_first : ((n : ℕ) → ¬ (e ≡ RunRefused n)) → length c.turns % 2 ≡ 0 → take (length c.last) first' ≡ c.last
  pub in_the_second : ((n : ℕ) → ¬ (e ≡ RunRefused n)) → length c.turns % 2 ≡ 1 → take (length c.last) second' ≡ c.last

-- of every file, every k and every two buffers
pub record HouseRunner : Type 0 where
  -- "12 first and for either buffer, whatever k"
  pub twelve : (file : List ℕ) → Bytes file → (k first second : ℕ) →
      (ran file k first second ≡ RunRefused buffer_cause) ↔ ((first < max_image_length) ⊎ (second < max_image_length))
  -- "It passes on the numbers": those of the recipe, and no other one arises
  pub number : (file : List ℕ) → Bytes file → (k first second : ℕ) → max_image_length ≤ first → max_image_length ≤ second → (n : ℕ) →
      (ran file k first second ≡ RunRefused n) ↔ ((¬ (n ≡ 0)) × ((verdict_of file).refusal ≡ n))
  -- "takes up to k turns"
  pub turns : (file : List ℕ) → Bytes file → (verdict_of file).refusal ≡ 0 → (k first second : ℕ) → max_image_length ≤ first → max_image_length ≤ second →
      TurnsDemand file k (course_of file k) (ran file k first second)
  -- "between two lent buffers"
  pub buffers : (file : List ℕ) (k : ℕ) (first second first' second' : List ℕ) → Leaves file k first second first' second' →
      BuffersDemand (course_of file k) (ran file k (length first) (length second)) first second first' second'
