-- `recipe_table::is_new` meets its contract. The loop's invariant: the keys passed and those still to come decide together.
use mathlib.Core.Path.{◌≡◌}
use mathlib.Core.Bool.{◌&&◌}
use Prim.Native.Nat.{◌-◌}
use Rattle.recipe_table.specs.Keys.{absent}
use Rattle.recipe_table.proofs.is_new.Given as goal

abbrev pub invariant-loop-j : goal.invariant-loop-j
invariant-loop-j l = (l.fresh && absent l.key l.keys l.j (l.count - l.j)) ≡ absent l.key l.keys l.from (l.count - l.from)
