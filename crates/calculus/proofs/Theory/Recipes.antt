-- The state that a recipe with typed terms is loaded to is sound, so the third demand holds of every run from it.
use Rattle.std.proofs.Common.{◌∙◌, ap, sym, arith, length-append}
use Rattle.std.specs.Prelude.{◌≡◌, refl, ◌⊎◌, List, [], ◌++◌, ◌∷◌, map, ◌+◌, ◌-◌, ◌<◌, ◌≤◌, suc, zero, ℕ}
use Rattle.std.proofs.Math.Logic.{inl, inr}
use Rattle.std.proofs.Math.Option.{some}
use Rattle.std.proofs.Math.Decide.{dec_lt}
use Rattle.std.proofs.Math.ListN.{length, length-replicate}
use Rattle.std.proofs.lemmas.List.{length-map}
use Rattle.calculus.specs.Types.{many, LinType, num_type, ref, multiplicity}
use Rattle.calculus.specs.Syntax.{num, Exp, is_const, Component, thread_of, holds, open_for, used, at, Allowed, Each, each_const, EachAll, sum_in, sum_all}
use Rattle.calculus.specs.Typing.{TypeNumbers, NameTypes, of_num, no_once_nil, Derivation, d_const}
use Rattle.calculus.specs.Names.{OnceName}
use Rattle.calculus.specs.Owners.{OwnersRule}
use Rattle.calculus.specs.Profile.{Profile}
use Rattle.calculus.proofs.Theory.ConfigRuns.{ConfigCall, state_after, ConfigStep, config_steps, ConfigDemand}
use Rattle.calculus.specs.Recipe.{setting_types, setting_with, loaded, Starts, Bays, no_bay, bay, BaysTyped}
use Rattle.calculus.specs.Limits.{max_bays, max_recipe_nodes}
use Rattle.calculus.specs.Image.{nodes, nodes_all, WithinLimits, Writable}
use Rattle.calculus.proofs.Theory.Tests.{clash}
use Rattle.calculus.proofs.Theory.Lists.{append_below, append_right, append_cases, at_bound, replicate_at}
use Rattle.calculus.proofs.Theory.Expressions.{more_names}
use Rattle.calculus.proofs.Theory.Configurations.{types_more, sum_append}
use Rattle.calculus.proofs.Theory.Sound.{Fits}
use Rattle.calculus.proofs.Theory.Runs.{SoundState, run_demand}
use Rattle.calculus.proofs.Theory.Each.{each_append}
use Rattle.calculus.proofs.Theory.Owners.{first_owners_rule}
use Rattle.calculus.proofs.Theory.Images.{Good, Kept, good_image, run_images}

bays_length : {τ : TypeNumbers} {Σ : NameTypes} {es : List Exp} {αs : List LinType} → Bays τ Σ es αs → length αs ≡ length es
bays_length no_bay = refl
bays_length (bay d m b) = ap suc (bays_length b)

bay_at : {τ : TypeNumbers} {Σ : NameTypes} {es : List Exp} {αs : List LinType} → Bays τ Σ es αs → (i : ℕ) (c : Component) → at (map thread_of es) i ≡ some c →
    (e : Exp) × (α : LinType) × (c ≡ thread_of e) × (at αs i ≡ some α) × (multiplicity α ≡ many) × Derivation τ Σ [] e α
bay_at no_bay i c h = absurd (clash (cc))
bay_at (bay {e = e} {α = α} d m b) zero c h = (e, α, cc, refl, m, d)
bay_at (bay d m b) (suc i) c h = bay_at b i c h

bays_many : {τ : TypeNumbers} {Σ : NameTypes} {es : List Exp} {αs : List LinType} → Bays τ Σ es αs → (i : ℕ) (α : LinType) → at αs i ≡ some α → multiplicity α ≡ many
bays_many no_bay i α h = absurd (clash (cc))
bays_many (bay {α = β} d m b) zero α h = let e : β ≡ α = cc in rw e at m
bays_many (bay d m b) (suc i) α h = bays_many b i α h

each_at : (Q : Allowed) (es : List Exp) → ((i : ℕ) (e : Exp) → at es i ≡ some e → Each Q e) → EachAll Q (map thread_of es)
each_at Q [] f i c h = absurd (clash (cc))
each_at Q (e ∷ es) f zero c h = let q : thread_of e ≡ c = cc in rw (← q) (f zero e refl)
each_at Q (e ∷ es) f (suc i) c h = each_at Q es (λ i. f (suc i)) i c h

-- the setting of a bay
setting_at : (ns : List ℕ) (k : ℕ) {c : Component} → at (map setting_with ns) k ≡ some c → (n : ℕ) × (c ≡ setting_with n) × (at ns k ≡ some n)
setting_at [] k h = absurd (clash (cc))
setting_at (n ∷ ns) zero h = (n, cc, refl)
setting_at (n ∷ ns) (suc k) h = setting_at ns k h

start_each : (Q : Allowed) (ns : List ℕ) → ((i n : ℕ) → at ns i ≡ some n → Q.constant (num n)) → (es : List Exp) (αs : List LinType) → ((i : ℕ) (e : Exp) → at es i ≡ some e → Each Q e) →
    EachAll Q (loaded ns es αs).owned.config
unfolding loaded
start_each Q ns nums es αs f = each_append Q (map setting_with ns) (map thread_of es)
    (λ k c h. let (n, p, q) = setting_at ns k h in rw p (each_const (nums k n q))) (each_at Q es f)

-- what is loaded is within the limits
nodes_settings : (ns : List ℕ) → nodes_all (map setting_with ns) ≡ length ns
unfolding sum_all sum_in nodes
nodes_settings [] = refl
nodes_settings (n ∷ ns) = omega (arith, nodes_settings ns)

start_within : (ns : List ℕ) (es : List Exp) (αs : List LinType) → length ns ≡ length es → length es ≤ max_bays → nodes_all (map thread_of es) ≤ max_recipe_nodes →
    WithinLimits (loaded ns es αs).owned.config
unfolding loaded
start_within ns es αs m p q = record {
  few_names = rw (length-append (map setting_with ns) (map thread_of es), length-map, length-map) (omega arith);
  few_nodes = rw (sum_append (sum_in nodes) (map setting_with ns) (map thread_of es), nodes_settings ns) (omega arith);
}

module _ {τ : TypeNumbers} {ns : List ℕ} {es : List Exp} {αs : List LinType} (b : BaysTyped τ es αs) (starts : Starts ns (length es)) where
  no_once_name : (k : ℕ) → ¬ OnceName (setting_types (length es) ++ αs) k
  no_once_name k (α, t, m) = elim (dec_lt k (length es)) [
    | yes l ↦
        let p : at (setting_types (length es) ++ αs) k ≡ some (ref num_type) =
        append_below (setting_types (length es)) αs k (rw length-replicate l) ∙ replicate_at (length es) (ref num_type) k l in
        clash (cc)
    | no l ↦
        let e : k ≡ length (setting_types (length es)) + (k - length es) = rw length-replicate (omega arith) in
        let p : at (setting_types (length es) ++ αs) k ≡ at αs (k - length es) =
        ap (at (setting_types (length es) ++ αs)) e ∙ append_right (setting_types (length es)) αs (k - length es) in
        let q : multiplicity α ≡ many = bays_many b (k - length es) α (sym p ∙ t) in
        clash (cc)
  ]

  start_at : (k : ℕ) (c : Component) → at (loaded ns es αs).owned.config k ≡ some c →
      ((k < length es) × (n : ℕ) × (c ≡ setting_with n)) ⊎
      ((i : ℕ) × (e : Exp) × (α : LinType) × (c ≡ thread_of e) × (k ≡ length es + i) × (at αs i ≡ some α) × (multiplicity α ≡ many) × Derivation τ (setting_types (length es)) [] e α)
  unfolding loaded
  start_at k c h = elim (append_cases (map setting_with ns) (map thread_of es) k h) [
    | inl q ↦ let (n, p, a) = setting_at ns k q in inl (omega (arith, at_bound ns k a, starts.one_each), n, p)
    | inr q ↦ let r = bay_at b q.0 c q.2 in
        inr (q.0, r.0, r.1, r.2, (q.1 ∙ rw (length-map, starts.one_each)), r.3, r.4, r.5)
  ]

  start_fits : (k : ℕ) (c : Component) → at (loaded ns es αs).owned.config k ≡ some c → Fits τ (setting_types (length es) ++ αs) (loaded ns es αs).owned.config k c
  start_fits k c h = elim (start_at k c h) [
    | inl q ↦ rw q.2 (
      num_type,
      append_below (setting_types (length es)) αs k (rw length-replicate q.0) ∙ replicate_at (length es) (ref num_type) k q.0,
      is_const,
      d_const no_once_nil of_num,
    )
    | inr q ↦ rw q.3 (
      q.2,
      ap (at (setting_types (length es) ++ αs)) (let e : k ≡ length (setting_types (length es)) + q.0 = rw length-replicate q.4 in e) ∙
          append_right (setting_types (length es)) αs q.0 ∙ q.5,
      q.6,
      more_names (types_more (setting_types (length es)) αs) q.7,
    )
  ]

  start_plain : (k : ℕ) (c : Component) → at (loaded ns es αs).owned.config k ≡ some c → ((v : Exp) × (c ≡ holds v)) ⊎ ((e : Exp) × (c ≡ thread_of e))
  start_plain k c h = elim (start_at k c h) [ inl q ↦ inl (_, q.2) | inr q ↦ inr (q.1, q.3) ]

  no_handle : (z y : ℕ) → ¬ (at (loaded ns es αs).owned.config z ≡ some (open_for y))
  no_handle z y h = elim (start_plain z (open_for y) h) [
    | inl q ↦ let e = q.1 in clash (cc)
    | inr q ↦ let e = q.1 in clash (cc)
  ]

  none_used : (z : ℕ) → ¬ (at (loaded ns es αs).owned.config z ≡ some used)
  none_used z h = elim (start_plain z used h) [
    | inl q ↦ let e = q.1 in clash (cc)
    | inr q ↦ let e = q.1 in clash (cc)
  ]

  pub start_sound : SoundState τ (loaded ns es αs)
  unfolding loaded
  start_sound = record {
    sizes = simp (length-append, length-replicate, length-map) (rw starts.one_each (ap (λ n. length es + n) (bays_length b)));
    fits = start_fits;
    one_handle = λ y z z' p q. absurd (no_handle z y p);
    linear = λ k o. absurd (no_once_name k o);
    outside = λ k o. absurd (no_once_name k o);
    gone = λ k h. absurd (none_used k h);
  }

  pub start_owners : OwnersRule (length es) (loaded ns es αs).owned
  unfolding loaded
  start_owners = first_owners_rule (length es) (loaded ns es αs).owned.config (simp (length-append, length-map) (rw starts.one_each refl)) no_handle

  -- document 01's third demand, of terms that can be written and are not too many; and every step is handed an image that breaks no rule and that can
  -- be written
  module _ (written : (i : ℕ) (e : Exp) → at es i ≡ some e → Each Writable e) (bays : length es ≤ max_bays) (size : nodes_all (map thread_of es) ≤ max_recipe_nodes) where
    pub start_good : Good (length es) τ (loaded ns es αs)
    start_good = (start_sound, start_each Writable ns starts.two_byte es αs written, start_within ns es αs starts.one_each bays size, start_owners)

    pub recipe_loaded : Kept (length es) (loaded ns es αs).owned
    recipe_loaded = good_image start_good

    module _ (profile : Profile) (run : List ConfigCall) where
      pub recipe_images : (i : ℕ) (n : ConfigStep) → at (config_steps profile τ (loaded ns es αs) run) i ≡ some n →
          Kept (length es) n.before.owned × Kept (length es) (state_after profile τ n.before n.call).owned
      recipe_images = run_images profile (length es) τ (loaded ns es αs) start_good run

      pub recipe_demand : ConfigDemand profile τ (loaded ns es αs) run
      recipe_demand = run_demand profile (loaded ns es αs) start_sound run (λ i n h. (recipe_images i n h).0.keeps)
