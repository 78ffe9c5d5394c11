-- `term_walk::Frames::waits` meets its contract.
use mathlib.Core.Path.{ap, sym, ◌∙◌}
use lib.ListN.{length}
use Rattle.term_walk.proofs.Stack.{length_stack}
use Rattle.term_walk.proofs.Frames.waits.Goals as goal

pub returns : goal.returns
returns g c = sym (length_stack _ c.self.inside.frames) ∙ ap length c.self.view_is
