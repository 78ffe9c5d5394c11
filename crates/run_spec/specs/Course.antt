-- Document 02, T-04, "A house runner": its turns, "k from 0 to 65,535". What a step would answer is said by `step_reply`, of which the contract of step is made.
use Rattle.std.specs.Prelude.{Bool, cond, false, true, List, [], ◌∷◌, ◌++◌, ℕ, zero, suc, ◌+◌, ◌-◌, eqb}
use Rattle.calculus.specs.Profile.{common}
use Rattle.calculus.specs.Limits.{max_image_length}
use Rattle.calculus.specs.Causes.{no_thread_cause, room_cause}
use Rattle.calculus.specs.Reply.{Reply, moved, waits, finished, refuses}
use Rattle.image_layout.specs.Slice.{names}
use Rattle.image.specs.Configuration.{image_of}
use Rattle.load_spec.specs.Starting.{starting_image}
use Rattle.step_spec.specs.Stepping.{step_reply}

-- what a look at a name finds: a thread "that a rule moves and that has room", with the image that its step makes; one that a rule moves and that lacks room; nothing
-- to do; a number to be passed on
pub data Look : Type 0 where
  goes : List ℕ → Look
  lacks_room rests : Look
  passes_on : ℕ → Look

-- by the reply to its step: "lack of room only passes a thread over"; done, waiting and no thread are passed over; "It passes on the numbers .. where they arise"
unfoldable pub look_of : Reply → Look
look_of (moved rule I') = goes (image_of I')
look_of (waits y) = rests
look_of finished = rests
look_of (refuses number) = cond (eqb number room_cause) lacks_room (cond (eqb number no_thread_cause) rests (passes_on number))

-- a look at name x, into a buffer that is long enough for any image
unfoldable pub look : List ℕ → ℕ → Look
look image x = look_of (step_reply common image x max_image_length)

-- n numbers from x up
unfoldable pub upward : ℕ → ℕ → List ℕ
upward x zero = []
upward x (suc n) = x ∷ upward (x + 1) n

-- "going round by number": of m names, from `next` up to m − 1, then from 0 up to the one before `next`
unfoldable pub going_round : ℕ → ℕ → List ℕ
going_round m next = upward next (m - next) ++ upward 0 next

-- what looking along some names comes to: the first that goes, with the image that its step makes; nobody, and whether one lacked room; or a number to be passed on
pub data Search : Type 0 where
  found : ℕ → List ℕ → Search
  nobody : Bool → Search
  met : ℕ → Search

-- after a look at x; `lacked` says whether one before it lacked room
unfoldable pub looking_on : Look → ℕ → Bool → (Bool → Search) → Search
looking_on (goes image') x lacked onward = found x image'
looking_on lacks_room x lacked onward = onward true
looking_on rests x lacked onward = onward lacked
looking_on (passes_on number) x lacked onward = met number

unfoldable pub look_along : List ℕ → Bool → List ℕ → Search
look_along image lacked [] = nobody lacked
look_along image lacked (x ∷ xs) = looking_on (look image x) x lacked (λ l. look_along image l xs)

-- "the first thread, going round by number .., that a rule moves and that has room"; there are as many names as this image has
unfoldable pub search_from : List ℕ → ℕ → Search
search_from image next = look_along image false (going_round (names image) next)

-- a turn that was taken: the image that it was handed, the name that was looked at first, and the thread that it stepped
pub record Turn : Type 0 where
  pub image : List ℕ
  pub next : ℕ
  pub thread : ℕ

-- why it stops
pub data Stop : Type 0 where
  all_turns idle no_room : Stop
  stopped_by : ℕ → Stop

-- the course of a run: the turns that were taken, the last image, and why it stops
pub record Course : Type 0 where
  pub turns : List Turn
  pub last : List ℕ
  pub stop : Stop

abbrev pub stopped : List ℕ → Stop → Course
stopped image stop = record { turns = []; last = image; stop = stop }

abbrev pub after_turn : Turn → Course → Course
after_turn t c = record { turns = t ∷ c.turns; last = c.last; stop = c.stop }

-- "the one after the last stepped"
unfoldable pub one_after : ℕ → ℕ
one_after x = x + 1

-- "It stops before k turns only when there is no such thread, and then says whether one lacked room"
unfoldable pub turning : List ℕ → ℕ → Search → (ℕ → List ℕ → Course) → Course
turning image next (found x image') onward = after_turn (record { image = image; next = next; thread = x }) (onward (one_after x) image')
turning image next (nobody lacked) onward = stopped image (cond lacked no_room idle)
turning image next (met number) onward = stopped image (stopped_by number)

-- up to k turns from this image; "after k turns it looks no further"
unfoldable pub take_turns : ℕ → ℕ → List ℕ → Course
take_turns zero next image = stopped image all_turns
take_turns (suc k) next image = turning image next (search_from image next) (take_turns k)

-- the course of a recipe's run of up to k turns: "The first turn starts from the lowest number"
unfoldable pub course_of : List ℕ → ℕ → Course
course_of file k = take_turns k 0 (starting_image file)
