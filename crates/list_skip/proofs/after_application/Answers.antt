-- `list_skip::after_application` meets its contract.
use mathlib.Core.Path.{refl}
use Rattle.list_skip.specs.Jumps.{applications_end}
use Rattle.list_skip.proofs.after_application.Goals as goal

pub returns-then-not-has_leaf_room : goal.returns-then-not-has_leaf_room
unfolding applications_end
returns-then-not-has_leaf_room c = rw (← c.has_leaf_room.ensures, c.if-not-has_leaf_room.true) refl

pub returns : goal.returns
unfolding applications_end
returns c = rw (← c.has_leaf_room.ensures, c.if-not-has_leaf_room.false) refl
