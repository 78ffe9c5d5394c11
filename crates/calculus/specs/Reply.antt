-- Document 01, "A step": what a step answers, with document 01's numbers, a limit of names and nodes among them.
use Rattle.std.specs.Prelude.{Bool, cond, ℕ}
use Rattle.calculus.specs.Syntax.{Config}
use Rattle.calculus.specs.Owners.{Owned, grown}
use Rattle.calculus.specs.Reduction.{number}
use Rattle.calculus.specs.Step.{Answer, rule, waiting, done, no_thread, used_handle, wrong_kind, step_of}
use Rattle.calculus.specs.Causes.{no_thread_cause, room_cause, used_handle_cause, wrong_kind_cause}
use Rattle.calculus.specs.Profile.{Profile, room_test}

-- what a step answers, with document 01's numbers: a rule's number and the new image (its length is
-- `image_length`), waiting with a name, done, a cause's number
pub data Reply : Type 0 where
  moved : ℕ → Owned → Reply
  waits : ℕ → Reply
  finished : Reply
  refuses : ℕ → Reply

-- causes 14 to 17. 15: "a rule applies, outcome above 256 names or 4,096 nodes", by a test of the outcome; `left` is what an outcome is with its owners
unfoldable pub reply_of : (Owned → Bool) → (Config → Owned) → Answer → Reply
reply_of room left (rule r C') = cond (room (left C')) (moved (number r) (left C')) (refuses room_cause)
reply_of room left (waiting y) = waits y
reply_of room left done = finished
reply_of room left no_thread = refuses no_thread_cause
reply_of room left used_handle = refuses used_handle_cause
reply_of room left wrong_kind = refuses wrong_kind_cause

-- a step of thread x; T-08: a new name has that thread's owner; T-09: the profile's limit decides 15
abbrev pub reply_to : Profile → Owned → ℕ → Reply
reply_to p I x = reply_of (room_test p I) (grown I x) (step_of I.config x)
