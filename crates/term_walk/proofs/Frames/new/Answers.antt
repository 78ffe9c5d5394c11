-- `term_walk::Frames::new` meets its contract: an array of zeros.
use mathlib.Core.Path.{ap}
use mathlib.Core.List.{[], ◌∷◌}
use Rattle.std.proofs.lemmas.List.{get_or-replicate}
use Rattle.term_walk.specs.Frames.{stack_of}
use Rattle.term_walk.proofs.Frames.new.Goals as goal

pub returns : goal.returns
unfolding stack_of
returns g c = ap (λ d. d ∷ []) (get_or-replicate g.row.N 0 0 0 c.requires)
