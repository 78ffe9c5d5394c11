-- A run in bytes is the calculus's run, image for configuration, where every image of the run keeps its rules and can be written.
use Rattle.std.specs.Prelude.{◌≡◌, refl, List, [], ◌∷◌, map, suc, zero, ℕ}
use Rattle.std.proofs.Math.Option.{some}
use Rattle.calculus.specs.Profile.{Profile}
use Rattle.calculus.specs.Limits.{max_bays}
use Rattle.calculus.specs.Syntax.{at}
use Rattle.calculus.specs.Typing.{TypeNumbers}
use Rattle.calculus.proofs.Theory.ConfigRuns as calculus
use Rattle.calculus.specs.State.{State}
use Rattle.calculus.proofs.Theory.ConfigRuns.{state_after}
use Rattle.calculus.proofs.Theory.Images.{Kept}
use Rattle.calculus.proofs.Theory.Tests.{clash}
use Rattle.image.specs.Configuration.{image_of}
use Rattle.runs.specs.Run.{Call, Step, steps}
use Rattle.runs.proofs.Theory.Steps.{call_of, leaves_image, leaves_types}

-- every image that a step of a run from s is handed or leaves keeps its rules and can be written
abbrev pub AllKept : Profile → TypeNumbers → State → Type 0
AllKept p τ s = (run : List calculus.ConfigCall) (i : ℕ) (n : calculus.ConfigStep) → at (calculus.config_steps p τ s run) i ≡ some n →
    Kept max_bays n.before.owned × Kept max_bays (state_after p τ n.before n.call).owned

pub kept_first : (p : Profile) (τ : TypeNumbers) (s : State) (a : calculus.ConfigCall) → AllKept p τ s → Kept max_bays s.owned × Kept max_bays (state_after p τ s a).owned
unfolding calculus.config_steps
kept_first p τ s a k = k (a ∷ []) 0 (record { before = s; call = a }) refl

pub kept_after : (p : Profile) (τ : TypeNumbers) (s : State) (a : calculus.ConfigCall) → AllKept p τ s → AllKept p τ (state_after p τ s a)
unfolding calculus.config_steps
kept_after p τ s a k run i n h = k (a ∷ run) (suc i) n h

-- the step of the calculus's run at the same place
pub data Simulates (p : Profile) (τ : TypeNumbers) : Step → calculus.ConfigStep → Type 0 where
  same : (s : State) (c : Call) → Kept max_bays s.owned → Kept max_bays (state_after p τ s (call_of c)).owned →
      Simulates p τ (record { profile = p; image = image_of s.owned; types = s.names; call = c }) (record { before = s; call = call_of c })

pub simulates : (p : Profile) (τ : TypeNumbers) (s : State) → AllKept p τ s → (calls : List Call) (i : ℕ) (n : Step) →
    at (steps p τ (image_of s.owned) s.names calls) i ≡ some n →
    (m : calculus.ConfigStep) × (at (calculus.config_steps p τ s (map call_of calls)) i ≡ some m) × Simulates p τ n m
unfolding steps calculus.config_steps
simulates p τ s k [] i n h = absurd (clash (cc))
simulates p τ s k (c ∷ calls) zero n h =
    let e : record { profile = p; image = image_of s.owned; types = s.names; call = c } ≡ n = cc in
    let (f, g) = kept_first p τ s (call_of c) k in
    (record { before = s; call = call_of c }, refl, rw (← e) (same s c f g))
simulates p τ s k (c ∷ calls) (suc i) n h =
    let (f, g) = kept_first p τ s (call_of c) k in
    let e = leaves_image p τ s f c in
    let q = leaves_types p τ s f c in
    simulates p τ (state_after p τ s (call_of c)) (kept_after p τ s (call_of c) k) calls i n (rw (e, q) at h)
