-- `term_redex::known_node` meets its contract: a good term has a node at its front.
use mathlib.Core.Path.{sym, ◌∙◌}
use Rattle.term.proofs.Views.{node_good}
use Rattle.term_redex.proofs.known_node.Goals as goal

pub node_at-requires : goal.node_at-requires
node_at-requires c = c.requires.inside

pub unwrap-requires : goal.unwrap-requires
unwrap-requires c = rw c.node_at.ensures (node_good c.requires)

pub returns : goal.returns
returns c = sym c.node_at.ensures ∙ c.unwrap.ensures
