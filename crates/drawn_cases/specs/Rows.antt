-- The shapes of the rows. Written by `cargo run --bin write_rows` in model/, and not by hand.
use Rattle.std.proofs.Common.{◌∙◌, ap}
use Rattle.std.specs.Prelude.{◌≡◌, refl, Bool, cond, false, true, List, [], ◌++◌, ◌∷◌, map, ℕ, eqb, drop, length, replicate}
use Rattle.calculus.specs.Profile.{common}
use Rattle.calculus.specs.Limits.{max_bays}
use Rattle.calculus.specs.Reply.{Reply, moved, waits, finished, refuses}
use Rattle.check_spec.specs.declared.Verdict.{Verdict}
use Rattle.check_spec.specs.Verdict.{verdict_of}
use Rattle.image.specs.Configuration.{image_of}
use Rattle.load_spec.specs.declared.Loaded.{Loaded}
use Rattle.load_spec.specs.Starting.{starting_image}
use Rattle.load_spec.specs.Loading.{load_refusal, loaded_of, out_after_load}
use Rattle.step_spec.specs.declared.Outcome.{Outcome}
use Rattle.step_spec.specs.Stepping.{step_reply, outcome_of_reply, out_after_reply, outcome_of, out_after_step}

-- a property of every row of a table
abbrev pub Every : {A : Type 0} → (A → Type 0) → List A → Type 0
Every P [] = Unit {0}
Every P (x ∷ xs) = P x × Every P xs

abbrev first_or : {A : Type 0} → A → List A → A
first_or x [] = x
first_or x (y ∷ ys) = y

abbrev others : {A : Type 0} → List A → List A
others [] = []
others (y ∷ ys) = ys

-- rows that are computed again, all at once, each hold
pub each_holds : {A : Type 0} (P : A → Type 0) (f : A → A) → ((x : A) → f x ≡ x → P x) → (xs : List A) → map f xs ≡ xs → Every P xs
each_holds P f holds [] e = tt
each_holds P f holds (x ∷ xs) e = (holds x (ap (first_or x) e), each_holds P f holds xs (ap others e))

-- an out buffer with some bytes written to its front
abbrev pub written_to : List ℕ → List ℕ → List ℕ
written_to out new = new ++ drop (length new) out

-- the type numbers of the bays, with 0 where there is no bay
abbrev pub sixteen : List ℕ → List ℕ
sixteen types = types ++ drop (length types) (replicate max_bays 0)

-- a check: a file; what is answered
pub record CheckRow : Type 0 where
  pub file : List ℕ
  pub verdict : Verdict

abbrev pub check_row : List ℕ → ℕ → List ℕ → CheckRow
check_row file refusal types = record { file = file; verdict = record { refusal = refusal; bays = length types; types = sixteen types } }

unfoldable pub rechecked : CheckRow → CheckRow
rechecked r = record { file = r.file; verdict = verdict_of r.file }

-- a load: a file and the length of the out buffer; what is answered, and the bytes written
pub record LoadRow : Type 0 where
  pub file : List ℕ
  pub room : ℕ
  pub loaded : Loaded
  pub image : List ℕ

abbrev pub load_row : List ℕ → ℕ → ℕ → List ℕ → List ℕ → LoadRow
load_row file room refusal types image = record {
  file = file;
  room = room;
  loaded = record { refusal = refusal; bays = length types; types = sixteen types; length = length image };
  image = image;
}

unfoldable pub reloaded : LoadRow → LoadRow
reloaded r = record {
  file = r.file;
  room = r.room;
  loaded = loaded_of common r.file r.room;
  image = cond (eqb (load_refusal common r.file r.room) 0) (starting_image r.file) [];
}

-- what a row says of a load into any buffer of its length, whatever that holds
pub record Loads (r : LoadRow) : Type 0 where
  pub answers : (out : List ℕ) → length out ≡ r.room → loaded_of common r.file (length out) ≡ r.loaded
  pub leaves : (out : List ℕ) → length out ≡ r.room → out_after_load common r.file out ≡ written_to out r.image

image_or_none : (b : Bool) (image out : List ℕ) → cond b (written_to out image) out ≡ written_to out (cond b image [])
image_or_none false image out = refl
image_or_none true image out = refl

-- a row that is computed again holds
pub loads : (r : LoadRow) → reloaded r ≡ r → Loads r
unfolding reloaded out_after_load
loads r e = record {
  answers = λ out h. ap (loaded_of common r.file) h ∙ ap (λ q. q.loaded) e;
  leaves = λ out h.
      ap (λ room. cond (eqb (load_refusal common r.file room) 0) (written_to out (starting_image r.file)) out) h
      ∙ image_or_none (eqb (load_refusal common r.file r.room) 0) (starting_image r.file) out
      ∙ ap (λ q. written_to out q.image) e;
}

-- a step: an image, a thread and the length of the out buffer; what is answered, and the bytes written
pub record StepRow : Type 0 where
  pub image : List ℕ
  pub thread : ℕ
  pub room : ℕ
  pub outcome : Outcome
  pub new : List ℕ

abbrev pub step_row : List ℕ → ℕ → ℕ → Outcome → List ℕ → StepRow
step_row image thread room outcome new = record { image = image; thread = thread; room = room; outcome = outcome; new = new }

-- the bytes that a reply writes
unfoldable pub new_image : Reply → List ℕ
new_image (moved rule I') = image_of I'
new_image (waits y) = []
new_image finished = []
new_image (refuses number) = []

unfoldable pub restepped : StepRow → StepRow
restepped r = record {
  image = r.image;
  thread = r.thread;
  room = r.room;
  outcome = outcome_of_reply (step_reply common r.image r.thread r.room);
  new = new_image (step_reply common r.image r.thread r.room);
}

-- what a row says of a step into any buffer of its length, whatever that holds
pub record Steps (r : StepRow) : Type 0 where
  pub answers : (out : List ℕ) → length out ≡ r.room → outcome_of common r.image r.thread out ≡ r.outcome
  pub leaves : (out : List ℕ) → length out ≡ r.room → out_after_step common r.image r.thread out ≡ written_to out r.new

new_or_none : (reply : Reply) (out : List ℕ) → out_after_reply reply out ≡ written_to out (new_image reply)
unfolding out_after_reply new_image
new_or_none (moved rule I') out = refl
new_or_none (waits y) out = refl
new_or_none finished out = refl
new_or_none (refuses number) out = refl

-- a row that is computed again holds
pub steps : (r : StepRow) → restepped r ≡ r → Steps r
unfolding restepped outcome_of out_after_step
steps r e = record {
  answers = λ out h. ap (λ room. outcome_of_reply (step_reply common r.image r.thread room)) h ∙ ap (λ q. q.outcome) e;
  leaves = λ out h.
      ap (λ room. out_after_reply (step_reply common r.image r.thread room) out) h
      ∙ new_or_none (step_reply common r.image r.thread r.room) out
      ∙ ap (λ q. written_to out q.new) e;
}
