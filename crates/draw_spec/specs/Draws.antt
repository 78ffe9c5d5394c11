-- Document 02, T-06: the draws. What a step answers is said by `step_reply`, of which the contract of step is made.
use Rattle.std.specs.Prelude.{Bool, cond, List, [], ◌∷◌, ◌++◌, ℕ, zero, suc, ◌%◌, eqb, get_or, length}
use Rattle.calculus.specs.Profile.{common}
use Rattle.calculus.specs.Kinds.{thread_kind}
use Rattle.calculus.specs.Limits.{max_image_length}
use Rattle.calculus.specs.Reply.{Reply, moved, waits, finished, refuses}
use Rattle.image_layout.specs.Slice.{kind_at, names}
use Rattle.image.specs.Configuration.{image_of}
use Rattle.step_spec.specs.declared.Outcome.{Outcome}
use Rattle.step_spec.specs.Stepping.{outcome_of_reply, step_reply}
use Rattle.draw_spec.specs.State.{drawn}

-- document 01, "Kinds: 1 thread": one that is done is a thread too
unfoldable pub has_thread_kind : List ℕ → ℕ → Bool
has_thread_kind image x = eqb (kind_at image x) thread_kind

-- the threads among the first n names, "in ascending number"
unfoldable pub threads_below : List ℕ → ℕ → List ℕ
threads_below image zero = []
threads_below image (suc n) = threads_below image n ++ cond (has_thread_kind image n) (n ∷ []) []

-- the threads of an image; there are "the present number of threads"
abbrev pub threads : List ℕ → List ℕ
threads image = threads_below image (names image)

-- "Each draw modulo the present number of threads picks a thread, counted in ascending number from 0"
unfoldable pub picked : List ℕ → ℕ → ℕ
picked image state = get_or (threads image) (state % length (threads image)) 0

-- a draw: the present image, and the state drawn
pub record Draw : Type 0 where
  pub image : List ℕ
  pub state : ℕ

-- the thread that it picks, and what comes of its step, into a buffer that is long enough for any image: "that thread is stepped"
abbrev pub thread : Draw → ℕ
thread d = picked d.image d.state

abbrev pub reply : Draw → Reply
reply d = step_reply common d.image (thread d) max_image_length

abbrev pub outcome : Draw → Outcome
outcome d = outcome_of_reply (reply d)

-- the image after a step: "A refused or idle draw keeps the image"
unfoldable pub image_after : Reply → List ℕ → List ℕ
image_after (moved rule I') image = image_of I'
image_after (waits y) image = image
image_after finished image = image
image_after (refuses number) image = image

-- so many draws from this state and this image
unfoldable pub draws : ℕ → ℕ → List ℕ → List Draw
draws zero state image = []
draws (suc n) state image =
    let d : Draw = record { image = image; state = drawn state } in
    d ∷ draws n (drawn state) (image_after (reply d) image)
