-- The nodes of the image that a step leaves.
use Rattle.std.specs.Prelude.{ℕ}
use Rattle.calculus.specs.Image.{nodes_all}
use Rattle.calculus.specs.Reply.{Reply, moved, waits, finished, refuses}

-- those of the new image after a rule, else those that there were
unfoldable pub nodes_after : Reply → ℕ → ℕ
nodes_after (moved rule I') nodes = nodes_all I'.config
nodes_after (waits y) nodes = nodes
nodes_after finished nodes = nodes
nodes_after (refuses number) nodes = nodes
