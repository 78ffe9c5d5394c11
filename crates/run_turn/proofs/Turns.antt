-- A turn: what is found, and what is written.
use mathlib.Core.Path.{◌∙◌, ◌≡◌, ap, refl, subst, subst⁻¹, sym}
use mathlib.Core.Bool.{true}
use mathlib.Core.List.{List}
use Prim.Native.Nat.{ℕ, ◌+◌, ◌<◌, ◌≤◌}
use native.Mathlib.Decide.{dec_lt}
use native.Mathlib.Omega.{arith}
use Rattle.std.specs.Prelude.{Result, Ok, Err, IsErrAnd}
use lib.ListN.{drop, length, take}
use lib.Seq.{take-append_seam}
use Rattle.calculus.specs.Owners.{grown}
use Rattle.calculus.specs.Reduction.{number}
use Rattle.calculus.specs.Limits.{max_image_length, max_names}
use Rattle.calculus.specs.Image.{limits_test}
use Rattle.calculus.specs.Reply.{reply_of}
use Rattle.calculus.proofs.Theory.Tests.{clash}
use Rattle.calculus.proofs.Theory.Lists.{at_past}
use Rattle.calculus.proofs.Theory.Step.{no_thread_iff}
use Rattle.calculus.proofs.Theory.ImageTest.{limits_test_iff}
use Rattle.buffer.specs.Written.{Wrote}
use Rattle.buffer.proofs.Theory.Writes.{beyond}
use Rattle.image_layout.specs.Slice.{names}
use Rattle.image.specs.Configuration.{config_of, image_of, owned_of}
use Rattle.image.specs.Stands.{image_stands}
use Rattle.image.proofs.Theory.Exactly.{length_config}
use Rattle.image.proofs.Theory.Lengths.{within_length}
use Rattle.image_check.proofs.Theory.Whole.{whole_sound}
use Rattle.step_rules.specs.Effects.{rule_of}
use Rattle.step_rules.specs.Moves.{image_after}
use Rattle.step_look.specs.declared.Going.{Going}
use Rattle.step_look.specs.Looked.{Goes}
use Rattle.run_spec.specs.Course.{Search, found, one_after, search_from}
use Rattle.run_turn.specs.declared.At.{At}
use Rattle.run_turn.specs.declared.Halt.{Halt}
use Rattle.run_turn.specs.Turning.{Finds, Took, Went, finds, finds_nobody, meets, met_one, nobody_went}

-- what a search says: the thread that goes, or why a turn stops
pub found_goes : {s : List ℕ} {q : Search} {going : Going} → Finds s q (Ok going) → Goes s going.step.thread going × (q ≡ found going.step.thread (image_after s going.step))
found_goes {s} {q} {going} (finds {x = x} g e) =
    let is : x ≡ going.step.thread = sym g.stepped.carries.goer in
    (subst (λ (y : ℕ). Goes s y going) is g, e ∙ ap (λ (y : ℕ). found y (image_after s going.step)) is)

pub turn_stops : {s out : List ℕ} {next : ℕ} {taken : Result At Halt} {halt : Halt} → IsErrAnd taken (λ e. e ≡ halt) → Finds s (search_from s next) (Err halt) → Took s next taken out
turn_stops {s} {out} {next} {taken = Ok at} p f = absurd p
turn_stops {s} {out} {next} {taken = Err h} p f = subst⁻¹ (λ (i : Halt). Took s next (Err i) out) p (stops f)
  where
    stops : {halt : Halt} → Finds s (search_from s next) (Err halt) → Took s next (Err halt) out
    stops (finds_nobody e) = nobody_went e
    stops (meets e) = met_one e

-- the thread that goes is a name of the image
pub goes_below : {s : List ℕ} {x : ℕ} {going : Going} → Goes s x going → x < names s
goes_below {s} {x} g = elim (dec_lt x (names s)) [
  | yes l ↦ l
  | no l ↦ absurd (
      let e = (no_thread_iff (config_of s) x).1 (λ u h. let p = at_past (config_of s) x (omega (arith, length_config s)) in clash (cc)) in
      let q = g.stepped.steps in
      clash (cc)
      )
]

pub few_names : (s : List ℕ) → image_stands s ≡ true → names s ≤ max_names
few_names s stands = (whole_sound s stands).few_names

-- the thread's step is written
pub turn_went : {s : List ℕ} {next x : ℕ} {going : Going} (g : Goes s x going) → search_from s next ≡ found x (image_after s going.step) →
    (out : List ℕ) → max_image_length ≤ length out → (out' : List ℕ) (size : ℕ) → Wrote out 0 (image_after s going.step) out' size →
    Went s next (record { next = x + 1; length = size; nodes = going.after.nodes }) out'
unfolding reply_of limits_test one_after
turn_went {s} {x = x} {going = going} g e out long out' size w =
    let S = g.stepped in
    let I' = grown (owned_of s) x S.outcome in
    let v : Wrote out 0 (image_of I') out' size = rw S.written at w in
    let long_is : size ≡ length (image_of I') = omega (arith, v.ends) in
    let b = beyond v (omega (arith, within_length I' ((limits_test_iff S.outcome).0 g.fits))) in
    record {
      thread = x;
      rule = number (rule_of going.step.by);
      outcome = I';
      found_is = e ∙ ap (found x) S.written;
      moves = rw (S.steps, g.fits) refl;
      next_is = refl;
      long = long_is;
      holds = ap (λ (i : ℕ). take i out') long_is ∙ ap (take (length (image_of I'))) b ∙ take-append_seam (image_of I') (drop (length (image_of I')) out);
      nodes = g.counted;
    }
