-- `term::node_at` meets its contract: the part from the position to the end is what is left when so many bytes are dropped.
use mathlib.Core.Path.{ap, ◌∙◌}
use borrow.Author.Rules.{part_to_end}
use Rattle.term.specs.Reader.{node_at, node_of}
use Rattle.term.proofs.node_at.Goals as goal

pub returns : goal.returns
unfolding node_at
returns c = let a = c.args in c.node_of.ensures ∙ ap node_of (part_to_end a.s.now a.at)
