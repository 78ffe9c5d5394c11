-- `check_prescan::glance` meets its contract. The loop's invariant: the terms still to come give the answer (proofs/Glancing.antt). The measure: a node takes a byte.
use Prim.Native.Nat.{◌-◌}
use lib.ListN.{length}
use Rattle.recipe_table.specs.Entries.{table_of}
use Rattle.check_prescan.proofs.Glancing.{Glancing}
use Rattle.check_prescan.proofs.glance.Given as goal

abbrev pub invariant-loop-frames : goal.invariant-loop-frames
invariant-loop-frames l = Glancing l.forms (table_of l.table) l.names l.s l.here l.nodes l.frames

abbrev pub decreases-loop-frames : goal.decreases-loop-frames
decreases-loop-frames l = length l.s - l.here
