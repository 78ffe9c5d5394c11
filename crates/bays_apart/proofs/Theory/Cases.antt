-- Turns of a bay's threads, computed.
use Rattle.std.specs.Prelude.{◌≡◌, refl, false, true, [], ◌∷◌}
use Rattle.calculus.specs.Syntax.{unit, name, const, app, lam, var, Component, thread_of, used}
use Rattle.calculus.specs.Owners.{Owned}
use Rattle.calculus.specs.Shares.{of_bay}
use Rattle.calculus.specs.Recipe.{setting_with}
use Rattle.bays_apart.specs.Same.{rank}
use Rattle.bays_apart.specs.Turns.{is_bay, is_thread, is_turn, threads_below, whose_turn}

-- (λ. 0) unit
abbrev goes : Component
goes = thread_of (app (lam 0 (var 0)) (const unit))

-- a house of three bays: bay 1's names are 1, 3, 4 and 6, its threads 3 and 6
abbrev house : Owned
house = record { owners = 0 ∷ 1 ∷ 0 ∷ 1 ∷ 1 ∷ 2 ∷ 1 ∷ []; config = setting_with 0 ∷ setting_with 0 ∷ goes ∷ goes ∷ used ∷ goes ∷ thread_of (name 4) ∷ [] }

-- a thread, done or not, of the bay; no thread of another, no cell, nothing past the names. Threads are counted among the bay's threads, names among all its names.
turns :
    (is_turn 1 house 3 ≡ true) ×
    (is_turn 1 house 6 ≡ true) ×
    (is_turn 1 house 2 ≡ false) ×
    (is_turn 1 house 1 ≡ false) ×
    (is_turn 1 house 7 ≡ false) ×
    (whose_turn 1 house 3 ≡ 0) ×
    (whose_turn 1 house 6 ≡ 1) ×
    (whose_turn 2 house 5 ≡ 0) ×
    (rank 1 house.owners 6 ≡ 3) ×
    (rank 1 house.owners 1 ≡ 0)
unfolding is_turn is_bay is_thread whose_turn threads_below rank of_bay
turns = (refl, refl, refl, refl, refl, refl, refl, refl, refl, refl)
