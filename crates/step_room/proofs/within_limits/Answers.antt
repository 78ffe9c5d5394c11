-- `step_room::within_limits` meets its contract.
use Rattle.step_room.proofs.Limits.{by_nodes, too_many_names}
use Rattle.step_room.proofs.within_limits.Goals as goal

pub returns-then-names-le-MAX_NAMES : goal.returns-then-names-le-MAX_NAMES
returns-then-names-le-MAX_NAMES c = let a = c.args in by_nodes a.names a.nodes c.if-names-le-MAX_NAMES.true

pub returns-else-names-le-MAX_NAMES : goal.returns-else-names-le-MAX_NAMES
returns-else-names-le-MAX_NAMES c = let a = c.args in too_many_names a.names a.nodes c.if-names-le-MAX_NAMES.false
