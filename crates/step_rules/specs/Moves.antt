-- The image after a step: the components, one for each name, and how many nodes there are then. All of it is taken from the move's effect.
use Rattle.std.specs.Prelude.{cond, List, [], ◌∷◌, ◌++◌, ℕ, ◌+◌, ◌-◌, eqb, ltb, length}
use Rattle.calculus.specs.Lists.{tabulate}
use Rattle.image_layout.specs.Encoded.{Encoded, image_bytes}
use Rattle.image_layout.specs.Slice.{names, owner_at, offset_at, length_at, encoded_at}
use Rattle.image.specs.Holding.{thread_holding}
use Rattle.step_rules.specs.declared.Carried.{Carried}
use Rattle.step_rules.specs.declared.Step.{Step}
use Rattle.step_rules.specs.Effects.{bytes_between, Unowned, Named, named, Effect, effect_of, carried_of}

-- what a step makes of the image s
abbrev pub effect : List ℕ → Step → Effect
effect s step = effect_of s step.meeting step.by

-- what it carries into another name
abbrev pub carried : List ℕ → Step → Carried
carried s step = carried_of s step.thread step.meeting step.by

-- the thread's expression: what stands in place of the application or case, the rest of it as it was
unfoldable pub expression_after : List ℕ → Step → List ℕ
expression_after s step =
    bytes_between s (offset_at s step.thread) step.meeting.at
    ++ (effect s step).redex
    ++ bytes_between s step.meeting.end (offset_at s step.thread + length_at s step.thread)

-- T-08, "a new name to the creating thread's bay, and a future or handle keeps its owner when used": the owner of name k after a step of thread x
unfoldable pub owner_after : List ℕ → ℕ → ℕ → ℕ
owner_after s x k = cond (ltb k (names s)) (owner_at s k) (owner_at s x)

-- the component that a list has for name k of this owner, and c where it has none
unfoldable pub look_up : List Named → ℕ → ℕ → Encoded → Encoded
look_up [] k owner c = c
look_up (n ∷ l) k owner c = cond (eqb k n.name) (n.component owner) (look_up l k owner c)

-- components with their names, from m on
unfoldable pub from_name : ℕ → List Unowned → List Named
from_name m [] = []
from_name m (c ∷ l) = named m c ∷ from_name (m + 1) l

-- the component of any name k but the thread's: changed, new, or as it was
unfoldable pub other_after : List ℕ → Step → ℕ → Encoded
other_after s step k =
    look_up (effect s step).changed k (owner_after s step.thread k) (look_up (from_name (names s) (effect s step).new) k (owner_after s step.thread k) (encoded_at s k))

-- the component of name k after the step
unfoldable pub component_after : List ℕ → Step → ℕ → Encoded
component_after s step k = cond (eqb k step.thread) (thread_holding (expression_after s step) (owner_after s step.thread k)) (other_after s step k)

-- the names after the step
unfoldable pub names_after : List ℕ → Step → ℕ
names_after s step = names s + length (effect s step).new

-- the components after the step
unfoldable pub components_after : List ℕ → Step → List Encoded
components_after s step = tabulate (names_after s step) (component_after s step)

-- the image after the step
unfoldable pub image_after : List ℕ → Step → List ℕ
image_after s step = image_bytes (components_after s step)

-- the nodes after the step, where there were n before
unfoldable pub nodes_after : ℕ → List ℕ → Step → ℕ
nodes_after n s step = n + (effect s step).gained - (effect s step).lost
