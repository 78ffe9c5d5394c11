-- `term_walk::Frames::restart` meets its contract.
use mathlib.Core.Path.{ap}
use mathlib.Core.List.{[], ◌∷◌}
use lib.Seq.{get_or-set_same}
use Rattle.std.proofs.Common.{rules}
use Rattle.term_walk.specs.Frames.{stack_of}
use Rattle.term_walk.proofs.Frames.restart.Goals as goal

pub returns : goal.returns
unfolding stack_of
returns g c = ap (λ d. d ∷ []) (get_or-set_same c.self.inside.frames 0 0 0 (search rules))
