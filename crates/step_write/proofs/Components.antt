-- The component that comes of a step for a name, by what the step makes of it; the image of all.
use mathlib.Core.Path.{◌≡◌, refl, sym, ap}
use mathlib.Core.List.{List}
use Prim.Native.Nat.{ℕ, ◌+◌, ◌-◌, ◌<◌, ◌≤◌}
use native.Mathlib.Omega.{arith}
use lib.ListN.{length, length-append}
use Rattle.calculus.specs.Bytes.{two_byte_values}
use Rattle.calculus.specs.Lists.{tabulate}
use Rattle.image_layout.specs.Encoded.{Encoded, image_bytes}
use Rattle.image_layout.specs.declared.Head.{Head}
use Rattle.image_layout.specs.Heads.{Says}
use Rattle.image_layout.specs.Room.{Room}
use Rattle.step_rules.specs.declared.Step.{Step}
use Rattle.step_rules.specs.Positions.{application_length, name_length}
use Rattle.step_rules.specs.Effects.{started_bytes}
use Rattle.step_rules.specs.Moves.{component_after, names_after, components_after, image_after}
use Rattle.step_reduct.specs.CanWrite.{CanWrite}
use Rattle.step_rules.proofs.Theory.Lengths.{argument_length}
use Rattle.step_write.specs.declared.Change.{Change}
use Rattle.step_write.specs.Changes.{Becomes}

-- what is known once the change is
pub becomes_as : {s : List ℕ} {step : Step} {k : ℕ} {change known : Change} {component : Encoded} → Becomes s step k change component → change ≡ known → Becomes s step k known component
becomes_as b e = rw e at b

-- the head of a component that is known
pub as_head : {x y : Encoded} {h : Head} → x ≡ y → Says h y → Says h x
as_head e h = rw e h

-- its expression
pub same_expression : {x y : Encoded} → x ≡ y → y.expression ≡ x.expression
same_expression e = ap (λ (z : Encoded). z.expression) (sym e)

-- the new thread of rule 2
pub started_length : {s : List ℕ} {step : Step} → CanWrite s step → length (started_bytes s step.meeting) ≡ step.meeting.end - step.meeting.second + (application_length + name_length)
started_length w = simp (length-append, argument_length w.movable) (omega arith)

-- room for the image, and its three writes
pub image_room : (s : List ℕ) (step : Step) {out : List ℕ} → length (image_after s step) ≤ length out → length (image_after s step) < two_byte_values → Room (names_after s step) (component_after s step) out
unfolding image_after components_after
image_room s step fits small = record { fits_in = fits; small = small }

pub image_is : (s : List ℕ) (step : Step) → image_bytes (tabulate (names_after s step) (component_after s step)) ≡ image_after s step
unfolding image_after components_after
image_is s step = refl
