-- The steps of a list of calls on bytes are the calculus's, list for list.
use Rattle.std.specs.Prelude.{◌≡◌, refl, List, [], ◌∷◌, map}
use Rattle.calculus.specs.Profile.{Profile}
use Rattle.calculus.specs.State.{State}
use Rattle.calculus.specs.Typing.{TypeNumbers}
use Rattle.calculus.proofs.Theory.ConfigRuns as calculus
use Rattle.image.specs.Configuration.{image_of, owned_of}
use Rattle.image.proofs.Theory.Exactly.{owned_again}
use Rattle.runs.specs.Run.{Call, Step, left, types_left, steps}
use Rattle.runs.proofs.Theory.Steps.{call_of, leaves_image, leaves_types}
use Rattle.runs.proofs.Theory.Simulates.{AllKept, kept_first, kept_after, Simulates, same}
use Rattle.bays_apart.specs.Same.{Alike, alike_nil, alike_cons}

pub simulate_all : (p : Profile) (τ : TypeNumbers) (s : State) → AllKept p τ s → (calls : List Call) →
    Alike (Simulates p τ) (steps p τ (image_of s.owned) s.names calls) (calculus.config_steps p τ s (map call_of calls))
unfolding steps calculus.config_steps
simulate_all p τ s k [] = alike_nil
simulate_all p τ s k (c ∷ calls) =
    let (f, g) = kept_first p τ s (call_of c) k in
    let n : Step = record { profile = p; image = image_of s.owned; types = s.names; call = c } in
    let e = leaves_image p τ s f c in
    let q = leaves_types p τ s f c in
    let rest : Alike (Simulates p τ) (steps p τ (left n) (types_left τ n) calls) (calculus.config_steps p τ (calculus.state_after p τ s (call_of c)) (map call_of calls)) =
    rw (e, q) (simulate_all p τ (calculus.state_after p τ s (call_of c)) (kept_after p τ s (call_of c) k) calls) in
    alike_cons (same s c f g) rest

-- a step on bytes is handed the image of what the calculus's is
pub handed_same : {p : Profile} {τ : TypeNumbers} {n : Step} {m : calculus.ConfigStep} → Simulates p τ n m → (owned_of n.image ≡ m.before.owned) × (n.call.thread ≡ m.call.thread)
handed_same (same s c k l) = (owned_again s.owned k, refl)
