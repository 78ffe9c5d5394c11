-- Document 01, "A step", for every slice, thread number and out buffer: the image is read as a configuration with owners, the calculus makes the step, and the outcome
-- is written.
use Rattle.std.specs.Prelude.{cond, List, ◌++◌, ℕ, ltb, drop, length}
use Rattle.calculus.specs.Limits.{max_image_length}
use Rattle.calculus.specs.Profile.{Profile}
use Rattle.calculus.specs.Causes.{buffer_cause, image_cause}
use Rattle.calculus.specs.Reply.{Reply, moved, waits, finished, refuses, reply_to}
use Rattle.image.specs.Configuration.{image_of, owned_of}
use Rattle.image.specs.Stands.{image_stands}
use Rattle.step_spec.specs.declared.Outcome.{Outcome}
use Rattle.step_spec.specs.declared.Outcome.TheVariants.{Rule, Done, Waiting, Refused}

-- document 01, "loading and stepping try 12 first", then 13, then 14 to 17 as the calculus has them, 15 by the profile's limit; `room` is the length of the out buffer
unfoldable pub step_reply : Profile → List ℕ → ℕ → ℕ → Reply
step_reply p s x room = cond (ltb room max_image_length) (refuses buffer_cause) (cond (image_stands s) (reply_to p (owned_of s) x) (refuses image_cause))

-- what is answered: "A step answers with its rule and the new image's length"
unfoldable pub outcome_of_reply : Reply → Outcome
outcome_of_reply (moved rule I') = Rule rule (length (image_of I'))
outcome_of_reply (waits y) = Waiting y
outcome_of_reply finished = Done
outcome_of_reply (refuses number) = Refused number

-- what the out buffer holds then: "the image in its first bytes and is unchanged beyond"; "Nothing is written on done or waiting", nor on a refusal
unfoldable pub out_after_reply : Reply → List ℕ → List ℕ
out_after_reply (moved rule I') out = image_of I' ++ drop (length (image_of I')) out
out_after_reply (waits y) out = out
out_after_reply finished out = out
out_after_reply (refuses number) out = out

-- a step of thread x of the image s with the out buffer `out`, under a profile (T-09)
unfoldable pub outcome_of : Profile → List ℕ → ℕ → List ℕ → Outcome
outcome_of p s x out = outcome_of_reply (step_reply p s x (length out))

unfoldable pub out_after_step : Profile → List ℕ → ℕ → List ℕ → List ℕ
out_after_step p s x out = out_after_reply (step_reply p s x (length out)) out
