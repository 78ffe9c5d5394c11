-- Document 01's third demand, from the verdict: it holds of every run of every recipe that is accepted.
use Rattle.std.specs.Prelude.{◌≡◌, refl, List, [], ◌∷◌, suc, ℕ, length}
use Rattle.std.proofs.Math.Option.{some}
use Rattle.calculus.specs.Types.{many, LinType, multiplicity}
use Rattle.calculus.specs.Syntax.{Exp, at}
use Rattle.calculus.specs.Typing.{NameTypes, Derivation}
use Rattle.calculus.specs.Profile.{Profile}
use Rattle.calculus.proofs.Theory.ConfigRuns.{ConfigCall, state_after, ConfigStep, config_steps, ConfigDemand}
use Rattle.calculus.specs.Table.{Table, TableRule, type_at}
use Rattle.calculus.specs.Verdict.{type_number, verdict}
use Rattle.calculus.specs.Recipe.{with_type, bay_types, start, Bays, no_bay, bay, BaysTyped, Admitted}
use Rattle.calculus.proofs.Theory.Images.{Kept}
use Rattle.calculus.proofs.Theory.Recipes.{recipe_loaded, recipe_images, recipe_demand}
use Rattle.calculus.proofs.Theory.Verdict.{accepted_iff, verdict_iff}

-- terms whose numbers have types with derivations have the types computed
found_typed : (T : Table) {Σ : NameTypes} (es : List Exp) →
    ((i : ℕ) (e : Exp) → at es i ≡ some e → (n : ℕ) × (α : LinType) × (type_number T [] e ≡ some n) × (type_at T n ≡ some α) × Derivation (type_at T) Σ [] e α × (multiplicity α ≡ many)) →
    Bays (type_at T) Σ es (bay_types T es)
unfolding bay_types with_type
found_typed T [] h = no_bay
found_typed T (e ∷ es) h = let (n, α, p, q, d, m) = h 0 e refl in rw (p, q) (bay d m (found_typed T es (λ i. h (suc i))))

pub bays_typed : {T : Table} → TableRule T → (es : List Exp) → verdict T es ≡ 0 → BaysTyped (type_at T) es (bay_types T es)
bays_typed {T} R es accepted = found_typed T es λ i e h.
    let (n, a) = (verdict_iff T es).0 accepted i e h in
    let (α, q, d, m) = (accepted_iff R (length es) e n).0 a in
    (n, α, a.no_cause_9, q, d, m)

module _ {T : Table} {ns : List ℕ} {es : List Exp} (a : Admitted T ns es) where
  -- every image, that loaded and those that steps are handed and leave, breaks no rule and no limit, the node forms can write its indices, type
  -- numbers and nums, and its owners are bays of the recipe
  pub image_loaded : Kept (length es) (start T ns es).owned
  image_loaded = recipe_loaded (bays_typed a.table es a.accepted) a.starts a.written a.bays a.size

  module _ (profile : Profile) (run : List ConfigCall) where
    pub images : (i : ℕ) (n : ConfigStep) → at (config_steps profile (type_at T) (start T ns es) run) i ≡ some n →
        Kept (length es) n.before.owned × Kept (length es) (state_after profile (type_at T) n.before n.call).owned
    images = recipe_images (bays_typed a.table es a.accepted) a.starts a.written a.bays a.size profile run

    -- the third demand
    pub demand : ConfigDemand profile (type_at T) (start T ns es) run
    demand = recipe_demand (bays_typed a.table es a.accepted) a.starts a.written a.bays a.size profile run
