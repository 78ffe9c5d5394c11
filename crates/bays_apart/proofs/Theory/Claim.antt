-- T-09's claim on configurations, from the verdict: of every two runs of recipes that suit the second profile and have a bay in common; and what holds all through a run.
use Rattle.std.specs.Prelude.{◌≡◌, refl, false, List, ℕ, length}
use Rattle.std.proofs.Math.Option.{some}
use Rattle.calculus.specs.Syntax.{Exp, at}
use Rattle.calculus.specs.Table.{Table, type_at}
use Rattle.calculus.specs.Shares.{bay_components}
use Rattle.calculus.specs.Profile.{separate, Suits}
use Rattle.calculus.specs.Recipe.{start, Admitted}
use Rattle.calculus.proofs.Theory.Lists.{at_bound}
use Rattle.calculus.proofs.Theory.ConfigRuns.{ConfigCall, state_after, ConfigStep, config_steps}
use Rattle.calculus.proofs.Theory.Replies.{run_keeps}
use Rattle.bays_apart.specs.Same.{Alike, SameBay}
use Rattle.bays_apart.specs.Turns.{is_turn}
use Rattle.bays_apart.specs.Apart.{Apart}
use Rattle.bays_apart.proofs.Theory.ConfigTurns.{history, SameTurns, SameTurn}
use Rattle.bays_apart.proofs.Theory.Fine.{Fine, fine_kept, fine_after, fine_apart}
use Rattle.bays_apart.proofs.Theory.Turns.{other_after}
use Rattle.bays_apart.proofs.Theory.Runs.{runs_same}
use Rattle.bays_apart.proofs.Theory.Start.{start_mirrors, start_fine}

module _ {T : Table} {ns : List ℕ} {es : List Exp} (a : Admitted T ns es) (w : Suits separate es (start T ns es).owned) where
  -- the image loaded is apart
  pub loaded_apart : Apart (length es) (start T ns es).owned
  loaded_apart = fine_apart (start_fine a w)

  module _ (run : List ConfigCall) (i : ℕ) (n : ConfigStep) (h : at (config_steps separate (type_at T) (start T ns es) run) i ≡ some n) where
    fine : Fine (type_at T) (length es) n.before
    fine = run_keeps separate (type_at T) (Fine (type_at T) (length es)) (fine_kept (length es) (type_at T)) (start T ns es) (start_fine a w) run i n h

    -- every step is handed an image that is apart, and leaves one
    pub images_apart : Apart (length es) n.before.owned × Apart (length es) (state_after separate (type_at T) n.before n.call).owned
    images_apart = (fine_apart fine, fine_apart (fine_after fine n.call))

    -- a step that is no turn of bay k leaves all that bay k owns as it is
    pub others_stay : (k : ℕ) → is_turn k n.before.owned n.call.thread ≡ false →
        bay_components k (state_after separate (type_at T) n.before n.call).owned ≡ bay_components k n.before.owned
    others_stay k t = (other_after fine k n.call t).same_part

-- "Take two recipes that this loader accepts, with the same number of bays"
module _ {T T' : Table} {ns ns' : List ℕ} {es es' : List Exp} (a : Admitted T ns es) (a' : Admitted T' ns' es')
    (w : Suits separate es (start T ns es).owned) (w' : Suits separate es' (start T' ns' es').owned) (same_bays : length es ≡ length es') where
  -- "Its sequence of rules, done, waiting and room answers is the same in both, and so is its setting after each of them"
  pub apart : (k : ℕ) → SameBay k T T' ns ns' es es' → (run run' : List ConfigCall) → SameTurns k (type_at T) (type_at T') (start T ns es) (start T' ns' es') run run' →
      Alike (SameTurn k (type_at T) (type_at T')) (history k (type_at T) (start T ns es) run) (history k (type_at T') (start T' ns' es') run')
  apart k s run run' t =
      let g : Fine (type_at T') (length es) (start T' ns' es') = rw same_bays (start_fine a' w') in
      runs_same (at_bound es k s.there_left) (history k (type_at T) (start T ns es) run) (start T ns es) (start T' ns' es') (start_fine a w) g
      (start_mirrors a a' w k s) run run' t.long_left t.long_right refl t.same_turns
