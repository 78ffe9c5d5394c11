-- What a sight, a search and a turn say of the definitions of the runner.
use Rattle.std.specs.Prelude.{◌≡◌, Bool, cond, List, ℕ, Result, Ok, Err, eqb, length, take}
use Rattle.calculus.specs.Causes.{no_thread_cause, room_cause}
use Rattle.calculus.specs.Owners.{Owned}
use Rattle.calculus.specs.Image.{nodes_all}
use Rattle.calculus.specs.Reply.{moved}
use Rattle.image.specs.Configuration.{image_of}
use Rattle.step_rules.specs.Moves.{image_after}
use Rattle.step_spec.specs.declared.Outcome.{Outcome}
use Rattle.step_spec.specs.declared.Outcome.TheVariants.{Rule, Done, Waiting, Refused}
use Rattle.step_look.specs.declared.Going.{Going}
use Rattle.step_look.specs.Looked.{Goes, reply_in}
use Rattle.run_spec.specs.Course as course
use Rattle.run_spec.specs.Course.{Search, found, look, met, nobody, one_after, search_from}
use Rattle.run_turn.specs.declared.Sight.{Sight}
use Rattle.run_turn.specs.declared.Sight.TheVariants.{Goes as SightGoes, LacksRoom, Rests, PassesOn}
use Rattle.run_turn.specs.declared.Halt.{Halt}
use Rattle.run_turn.specs.declared.Halt.TheVariants.{Nobody, Met}
use Rattle.run_turn.specs.declared.At.{At}

-- what is seen of a thread whose step is refused
unfoldable pub sight_of_refusal : ℕ → Sight
sight_of_refusal number = cond (eqb number room_cause) LacksRoom (cond (eqb number no_thread_cause) Rests (PassesOn number))

-- what is seen of a thread that stays
unfoldable pub sight_of : Outcome → Sight
sight_of (Rule rule size) = Rests
sight_of Done = Rests
sight_of (Waiting y) = Rests
sight_of (Refused number) = sight_of_refusal number

-- what is seen of name x
pub data Seen (s : List ℕ) (x : ℕ) : Sight → Type 0 where
  goes : {going : Going} → Goes s x going → look s x ≡ course.goes (image_after s going.step) → Seen s x (SightGoes going)
  lacks_room : look s x ≡ course.lacks_room → Seen s x LacksRoom
  rests : look s x ≡ course.rests → Seen s x Rests
  passes_on : {number : ℕ} → look s x ≡ course.passes_on number → Seen s x (PassesOn number)

-- what a search comes to
pub data Finds (s : List ℕ) (q : Search) : Result Going Halt → Type 0 where
  finds : {x : ℕ} {going : Going} → Goes s x going → q ≡ found x (image_after s going.step) → Finds s q (Ok going)
  finds_nobody : {lacked : Bool} → q ≡ nobody lacked → Finds s q (Err (Nobody lacked))
  meets : {number : ℕ} → q ≡ met number → Finds s q (Err (Met number))

-- a turn from the image s: what the thread's step makes of it, where the run is then, and the new image in the first bytes of the out buffer
pub record Went (s : List ℕ) (next : ℕ) (at : At) (out : List ℕ) : Type 0 where
  pub thread : ℕ
  pub rule : ℕ
  pub outcome : Owned
  pub found_is : search_from s next ≡ found thread (image_of outcome)
  pub moves : reply_in s thread ≡ moved rule outcome
  pub next_is : at.next ≡ one_after thread
  pub long : at.length ≡ length (image_of outcome)
  pub holds : take at.length out ≡ image_of outcome
  pub nodes : at.nodes ≡ nodes_all outcome.config

pub data Took (s : List ℕ) (next : ℕ) : Result At Halt → List ℕ → Type 0 where
  went : {at : At} {out : List ℕ} → Went s next at out → Took s next (Ok at) out
  nobody_went : {lacked : Bool} {out : List ℕ} → search_from s next ≡ nobody lacked → Took s next (Err (Nobody lacked)) out
  met_one : {number : ℕ} {out : List ℕ} → search_from s next ≡ met number → Took s next (Err (Met number)) out
