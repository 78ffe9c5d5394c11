-- The turns of one bay in a run on configurations, and what T-09 says of two such runs: a lemma of the claim on bytes.
use Rattle.std.specs.Prelude.{◌≡◌, List, map, ◌≤◌, ℕ}
use Rattle.std.proofs.Math.Option.{some}
use Rattle.calculus.specs.Syntax.{at}
use Rattle.calculus.specs.Limits.{max_image_length}
use Rattle.calculus.specs.Typing.{TypeNumbers}
use Rattle.calculus.specs.Owners.{Owned}
use Rattle.calculus.specs.State.{State}
use Rattle.calculus.specs.Profile.{separate}
use Rattle.calculus.specs.Reply.{Reply, moved, waits, finished, refuses}
use Rattle.calculus.proofs.Theory.ConfigRuns.{ConfigCall, state_after, ConfigStep, config_steps, config_replied}
use Rattle.bays_apart.specs.Same.{Names, SamePlace}
use Rattle.bays_apart.specs.Turns.{is_turn, whose_turn, passing, SameSetting}

-- the steps that are turns of bay k
abbrev pub turns_of : ℕ → List ConfigStep → List ConfigStep
turns_of k ns = passing (λ n. is_turn k n.before.owned n.call.thread) ns

-- which of the bay's threads takes its turn
abbrev pub turn_by : ℕ → ConfigStep → ℕ
turn_by k n = whose_turn k n.before.owned n.call.thread

-- the turns of bay k in a run from state s
abbrev pub history : ℕ → TypeNumbers → State → List ConfigCall → List ConfigStep
history k τ s run = turns_of k (config_steps separate τ s run)

-- "each step with a buffer long enough"
abbrev pub Long : List ConfigCall → Type 0
Long run = (i : ℕ) (a : ConfigCall) → at run i ≡ some a → max_image_length ≤ a.buffer

-- "two step orders .. that give that bay's threads, counted within the bay, the same turns", from states s and t
pub record SameTurns (k : ℕ) (τ σ : TypeNumbers) (s t : State) (run run' : List ConfigCall) : Type 0 where
  pub long_left : Long run
  pub long_right : Long run'
  pub same_turns : map (turn_by k) (history k τ s run) ≡ map (turn_by k) (history k σ t run')

-- "rules, done, waiting and room answers" are the same, and there are no others; an awaited name by its place among the bay's names
pub data SameReply (N : Names) : Reply → Reply → Type 0 where
  same_moved : {r : ℕ} {I J : Owned} → SameReply N (moved r I) (moved r J)
  same_waits : {y z : ℕ} → N y z → SameReply N (waits y) (waits z)
  same_finished : SameReply N finished finished
  same_room : SameReply N (refuses 15) (refuses 15)

-- two turns of bay k show the same: the answer, and "its setting after each of them"
pub record SameTurn (k : ℕ) (τ σ : TypeNumbers) (n m : ConfigStep) : Type 0 where
  pub same_reply : SameReply (SamePlace k n.before.owned.owners m.before.owned.owners) (config_replied separate n) (config_replied separate m)
  pub same_setting : SameSetting k τ σ (state_after separate τ n.before n.call).owned (state_after separate σ m.before m.call).owned
