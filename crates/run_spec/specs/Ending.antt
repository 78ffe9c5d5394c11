-- Document 02, T-04, "A house runner": what it answers, and what it leaves in the two buffers.
use Rattle.std.specs.Prelude.{◌≡◌, Bool, ◌||◌, cond, List, ◌∷◌, ◌++◌, ℕ, ◌%◌, eqb, ltb, length}
use Rattle.calculus.specs.Limits.{max_image_length}
use Rattle.calculus.specs.Causes.{buffer_cause}
use Rattle.calculus.specs.Lowest.{Cause, cause, first_cause}
use Rattle.check_spec.specs.Verdict.{check_causes}
use Rattle.run_spec.specs.declared.Ending.{Ending}
use Rattle.run_spec.specs.declared.Ending.TheVariants.{Turns, Idle, Room, Refused}
use Rattle.run_spec.specs.Course.{Course, Stop, all_turns, idle, no_room, stopped_by, course_of}

-- "12 first and for either buffer, whatever k", then the causes of a check; `first` and `second` are the lengths of the buffers
abbrev pub run_causes : List ℕ → ℕ → ℕ → List Cause
run_causes file first second = cause buffer_cause (ltb first max_image_length || ltb second max_image_length) ∷ check_causes file

-- the number of the first that fits, 0 where none does
unfoldable pub run_refusal : List ℕ → ℕ → ℕ → ℕ
run_refusal file first second = first_cause (run_causes file first second)

-- "It answers the turns taken and the last image's .. length"
unfoldable pub ending_by : Stop → ℕ → ℕ → Ending
ending_by all_turns turns size = Turns turns size
ending_by idle turns size = Idle turns size
ending_by no_room turns size = Room turns size
ending_by (stopped_by number) turns size = Refused number

abbrev pub ending_of : Course → Ending
ending_of c = ending_by c.stop (length c.turns) (length c.last)

-- what the runner answers
unfoldable pub ran : List ℕ → ℕ → ℕ → ℕ → Ending
ran file k first second = cond (eqb (run_refusal file first second) 0) (ending_of (course_of file k)) (Refused (run_refusal file first second))

-- "The load goes to the first buffer and steps alternate": whether the last image's buffer is the first
unfoldable pub ends_in_first : Course → Bool
ends_in_first c = eqb (length c.turns % 2) 0

-- what a buffer holds after a run that ends so: what it held before, on a refusal
unfoldable pub unless_refused : Ending → List ℕ → List ℕ → List ℕ
unless_refused (Turns turns size) new before = new
unless_refused (Idle turns size) new before = new
unless_refused (Room turns size) new before = new
unless_refused (Refused number) new before = before

-- what the runner leaves in the buffers, where they held `first` and `second`, and hold first' and second' then
pub record Leaves (file : List ℕ) (k : ℕ) (first second first' second' : List ℕ) : Type 0 where
  -- "what the other buffer and the bytes beyond the last image hold is left free, and named so"
  pub other : List ℕ
  pub beyond : List ℕ
  pub first_is : first' ≡ unless_refused (ran file k (length first) (length second)) (cond (ends_in_first (course_of file k)) ((course_of file k).last ++ beyond) other) first
  pub second_is : second' ≡ unless_refused (ran file k (length first) (length second)) (cond (ends_in_first (course_of file k)) other ((course_of file k).last ++ beyond)) second
