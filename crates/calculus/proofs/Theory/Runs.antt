-- The third demand, of every run from a sound state: the one claim about the whole list of steps.
use Rattle.std.proofs.Common.{◌∙◌, subst, inl, inr, arith}
use Rattle.std.specs.Prelude.{◌≡◌, refl, ◌⊎◌, List, [], ◌++◌, ◌∷◌, ◌<◌, suc, zero, ℕ, set}
use Rattle.std.proofs.Math.Option.{some}
use Rattle.std.proofs.Math.Decide.{dec_lt, ℕ_discrete}
use Rattle.calculus.proofs.Theory.Configurations.{sum_part}
use Rattle.calculus.specs.Types.{LinType}
use Rattle.calculus.specs.Syntax.{Exp, name, is_name, Component, thread_of, holds, open_for, used, awaited, Config, at, In, sum_in, pair, list}
use Rattle.calculus.specs.Typing.{TypeNumbers}
use Rattle.calculus.specs.Reduction.{plug, Rule, number, Reduces, beta, thread_new, future_deref, future_deref_exch, handle_new, handle_bind, cell_new, cell_exch, future_deref_case, case_both}
use Rattle.calculus.specs.Names.{count, Outside, OnceNamesOnce}
use Rattle.calculus.specs.Step.{step_of, application}
use Rattle.calculus.specs.NewTypes.{function_at}
use Rattle.calculus.specs.Image.{ImageRule}
use Rattle.calculus.specs.Owners.{grown}
use Rattle.calculus.specs.Profile.{Profile, HasRoom}
use Rattle.calculus.specs.State.{State, ValuesTyped}
use Rattle.calculus.proofs.Theory.ConfigRuns.{ConfigCall, state_grown, state_left, state_after, ConfigStep, config_steps, ConfigApplies, ConfigBinds, ConfigDemand}
use Rattle.calculus.proofs.Theory.Tests.{clash}
use Rattle.calculus.proofs.Theory.Lists.{set_same, set_other, append_left}
use Rattle.calculus.proofs.Theory.Step.{function_meet}
use Rattle.calculus.proofs.Theory.Sound.{Sound}
use Rattle.calculus.proofs.Theory.Preservation.{preservation}
use Rattle.calculus.proofs.Theory.Progress.{Proper, progress}
use Rattle.calculus.proofs.Theory.Replies.{moved_means, after_keeps, run_keeps, only_causes, twelve_iff, fourteen_iff, goes}

abbrev pub SoundState : TypeNumbers → State → Type 0
SoundState τ s = Sound τ s.names s.owned.config

-- the names of a sound state have values of their types
once_names_once : {τ : TypeNumbers} {S : List LinType} {C : Config} → Sound τ S C → (x : ℕ) (c : Component) (v : Exp) → at C x ≡ some c →
    ((k : ℕ) → sum_in (count k) c ≡ count k v) → ((k : ℕ) → In (Outside τ k) c → Outside τ k v) → OnceNamesOnce τ S v
once_names_once {C = C} s x c v h n o = record {
  at_most_once = λ k q. omega (arith, n k, sum_part (sum_in (count k)) C x h, s.linear k q);
  outside = λ k q. o k (s.outside k q x c h);
}

pub sound_typed : {τ : TypeNumbers} {s : State} → SoundState τ s → ValuesTyped τ s
unfolding sum_in
sound_typed {s} d = record {
  cells = λ x v h. let f = d.fits x (holds v) h in
      (f.0, f.1, record { value = f.2; derivation = f.3; names = once_names_once d x (holds v) v h (λ k. refl) (λ k o. o) });
  finished = λ x v h u. let f = d.fits x (thread_of v) h in
      (f.0, f.1, record { value = u; derivation = f.3; names = once_names_once d x (thread_of v) v h (λ k. refl) (λ k o. o) });
}

-- a used handle stays used, and a thread a thread
pub record Later (C C' : Config) : Type 0 where
  pub used_stays : (k : ℕ) → at C k ≡ some used → at C' k ≡ some used
  pub thread_stays : (k : ℕ) (e : Exp) → at C k ≡ some (thread_of e) → (e' : Exp) × (at C' k ≡ some (thread_of e'))

later_same : {C : Config} → Later C C
later_same = record { used_stays = λ k h. h; thread_stays = λ k e h. (e, h) }

later_trans : {C C' C'' : Config} → Later C C' → Later C' C'' → Later C C''
later_trans p q = record {
  used_stays = λ k h. q.used_stays k (p.used_stays k h);
  thread_stays = λ k e h. let r = p.thread_stays k e h in q.thread_stays k r.0 r.1;
}

later_set : (C : Config) (x : ℕ) (c c' : Component) → at C x ≡ some c → (c ≡ used → c' ≡ used) →
    ((e : Exp) → c ≡ thread_of e → (e' : Exp) × (c' ≡ thread_of e')) → Later C (set C x c')
later_set C x c c' h u t = record {
  used_stays = λ k g. elim (ℕ_discrete k x) [
    | yes e ↦ let q : c ≡ used = cc in rw (e, ← (u q)) (set_same C x c' h)
    | no n ↦ set_other C x k c' n ∙ g
  ];
  thread_stays = λ k e g. elim (ℕ_discrete k x) [
    | yes i ↦ let q : c ≡ thread_of e = cc in let r = t e q in (r.0, rw (i, ← r.1) (set_same C x c' h))
    | no n ↦ (e, set_other C x k c' n ∙ g)
  ];
}

later_append : (C D : Config) → Later C (C ++ D)
later_append C D = record { used_stays = λ k h. append_left C D k h; thread_stays = λ k e h. (e, append_left C D k h) }

later_thread : (C : Config) (x : ℕ) (e e' : Exp) → at C x ≡ some (thread_of e) → Later C (set C x (thread_of e'))
later_thread C x e e' h = later_set C x (thread_of e) (thread_of e') h (λ q. absurd (clash (cc))) (λ f q. (e', refl))

-- what a handle leaves when it is applied
module _ {τ : TypeNumbers} {S : List LinType} {C : Config} (s : Sound τ S C) (x y z : ℕ) (e e' v : Exp)
    (h : at C x ≡ some (thread_of e)) (g : at C z ≡ some (open_for y)) where
  awaits : at C y ≡ some awaited
  awaits = (s.fits z (open_for y) g).4

  awaits₁ : at (set C x (thread_of e')) y ≡ some awaited
  awaits₁ = set_other C x y (thread_of e') (λ q. clash (cc awaits)) ∙ awaits

  opens₁ : at (set C x (thread_of e')) z ≡ some (open_for y)
  opens₁ = set_other C x z (thread_of e') (λ q. clash (cc)) ∙ g

  opens₂ : at (set (set C x (thread_of e')) y (thread_of v)) z ≡ some (open_for y)
  opens₂ = set_other (set C x (thread_of e')) y z (thread_of v) (λ q. clash (cc awaits)) ∙ opens₁

  is_used : at (set (set (set C x (thread_of e')) y (thread_of v)) z used) z ≡ some used
  is_used = set_same (set (set C x (thread_of e')) y (thread_of v)) z used opens₂

  is_bound : at (set (set (set C x (thread_of e')) y (thread_of v)) z used) y ≡ some (thread_of v)
  is_bound = set_other (set (set C x (thread_of e')) y (thread_of v)) z y used (λ q. clash (cc awaits)) ∙ set_same (set C x (thread_of e')) y (thread_of v) awaits₁

  later_bind : Later C (set (set (set C x (thread_of e')) y (thread_of v)) z used)
  later_bind = later_trans (later_thread C x e e' h)
      (later_trans (later_set _ y awaited (thread_of v) awaits₁ (λ q. absurd (clash (cc))) (λ f q. (v, refl)))
      (later_set _ z (open_for y) used opens₂ (λ q. refl) (λ f q. absurd (clash (cc)))))

pub later : {τ : TypeNumbers} {S : List LinType} {C C' : Config} {x : ℕ} {r : Rule} → Sound τ S C → Reduces C x r C' → Later C C'
later {C = C} {x = x} s (beta F t e v wv h) = later_thread C x _ _ h
later {C = C} {x = x} s (thread_new F t v wv h) = later_trans (later_thread C x _ _ h) (later_append _ _)
later {C = C} {x = x} s (future_deref F y v w wv ww h g) = later_thread C x _ _ h
later {C = C} {x = x} s (future_deref_exch F t y v w wv ww h g) = later_thread C x _ _ h
later {C = C} {x = x} s (future_deref_case F s' y w e ww h g) = later_thread C x _ _ h
later {C = C} {x = x} s (handle_new F t v wv h) = later_trans (later_thread C x _ _ h) (later_append _ _)
later {C = C} {x = x} s (handle_bind F z y v wv h g) = later_bind s x y z _ _ v h g
later {C = C} {x = x} s (cell_new F t v wv h) = later_trans (later_thread C x _ _ h) (later_append _ _)
later {C = C} {x = x} s (cell_exch F t y v w wv h g) = later_trans (later_thread C x _ (plug F w) h)
    (later_set _ y (holds w) (holds v) (set_other C x y _ (λ q. clash (cc)) ∙ g)
    (λ q. absurd (clash (cc))) (λ f q. absurd (clash (cc))))
later {C = C} {x = x} s (case_both F s' t v₁ v₂ e w₁ w₂ h) = later_thread C x _ _ h

-- every state of a run is sound, and later than the first
module _ (profile : Profile) {τ : TypeNumbers} (s : State) (d : SoundState τ s) where
  SoundLater : State → Type 0
  SoundLater u = SoundState τ u × Later s.owned.config u.owned.config

  kept : (u : State) → SoundLater u → (x : ℕ) (r : Rule) (C' : Config) → Reduces u.owned.config x r C' → HasRoom profile u.owned (grown u.owned x C') → SoundLater (state_grown τ u x C')
  unfolding SoundLater
  kept u p x r C' q w = (preservation p.0 q, later_trans p.1 (later p.0 q))

  after_sound_later : (a : ConfigCall) → SoundState τ (state_after profile τ s a) × Later s.owned.config (state_after profile τ s a).owned.config
  unfolding SoundLater
  after_sound_later a = after_keeps profile τ SoundLater kept s (d, later_same) a

  sound_later : (run : List ConfigCall) (i : ℕ) (n : ConfigStep) → at (config_steps profile τ s run) i ≡ some n → SoundState τ n.before × Later s.owned.config n.before.owned.config
  unfolding SoundLater
  sound_later run i n h = run_keeps profile τ SoundLater kept s (d, later_same) run i n h

pub step_sound_state : (profile : Profile) (τ : TypeNumbers) (s : State) → SoundState τ s → (run : List ConfigCall) (i : ℕ) (n : ConfigStep) → at (config_steps profile τ s run) i ≡ some n → SoundState τ n.before
step_sound_state profile τ s d run i n h = (sound_later profile s d run i n h).0

after_sound : (profile : Profile) {τ : TypeNumbers} (s : State) → SoundState τ s → (a : ConfigCall) → SoundState τ (state_after profile τ s a)
after_sound profile s d a = (after_sound_later profile s d a).0

-- of two, the second is handed something later than the first leaves
steps_later : (profile : Profile) (τ : TypeNumbers) (s : State) → SoundState τ s → (run : List ConfigCall) (i j : ℕ) (m n : ConfigStep) → i < j →
    at (config_steps profile τ s run) i ≡ some m → at (config_steps profile τ s run) j ≡ some n → Later (state_after profile τ m.before m.call).owned.config n.before.owned.config
unfolding config_steps
steps_later profile τ s d [] i j m n l p q = absurd (clash (cc))
steps_later profile τ s d (a ∷ run) i zero m n l p q = absurd (omega arith)
steps_later profile τ s d (a ∷ run) zero (suc j) m n l p q =
    let e : record { before = s; call = a } ≡ m = cc in
    subst (λ (b : ConfigStep). Later (state_after profile τ b.before b.call).owned.config n.before.owned.config) e
    (sound_later profile (state_after profile τ s a) (after_sound profile s d a) run j n q).1
steps_later profile τ s d (a ∷ run) (suc i) (suc j) m n l p q = steps_later profile τ (state_after profile τ s a) (after_sound profile s d a) run i j m n (omega arith) p q

-- a step by rule 5 uses up the handle at its place, and makes its future a thread
binding : {τ : TypeNumbers} {S : List LinType} {C C' : Config} {x : ℕ} {r : Rule} → Sound τ S C → Reduces C x r C' → number r ≡ 5 →
    (z y : ℕ) × (v : Exp) × (function_at C x ≡ some (name z)) × (at C z ≡ some (open_for y)) × (at C' z ≡ some used) × (at C' y ≡ some (thread_of v))
binding s (beta F t e v wv h) r = absurd (omega arith)
binding s (thread_new F t v wv h) r = absurd (omega arith)
binding s (future_deref F y v w wv ww h g) r = absurd (omega arith)
binding s (future_deref_exch F t y v w wv ww h g) r = absurd (omega arith)
binding s (future_deref_case F s' y w e ww h g) r = absurd (omega arith)
binding s (handle_new F t v wv h) r = absurd (omega arith)
binding {C = C} {x = x} s (handle_bind F z y v wv h g) r =
    (z, y, v, function_meet C x F (application is_name wv) (λ n. elim n [ ]) h, g, is_used s x y z _ _ v h g, is_bound s x y z _ _ v h g)
binding s (cell_new F t v wv h) r = absurd (omega arith)
binding s (cell_exch F t y v w wv h g) r = absurd (omega arith)
binding s (case_both F pair t v₁ v₂ e w₁ w₂ h) r = absurd (omega arith)
binding s (case_both F list t v₁ v₂ e w₁ w₂ h) r = absurd (omega arith)

applied_uses_up : (profile : Profile) (τ : TypeNumbers) (n : ConfigStep) → SoundState τ n.before → (z : ℕ) → ConfigApplies profile n z →
    (y : ℕ) × (v : Exp) × (at n.before.owned.config z ≡ some (open_for y)) ×
    (at (state_after profile τ n.before n.call).owned.config z ≡ some used) × (at (state_after profile τ n.before n.call).owned.config y ≡ some (thread_of v))
unfolding state_left
applied_uses_up profile τ n d z (I', e, f) =
    let (r, k, q, w, g) = moved_means profile n.before.owned n.call e in
    let b = binding d q k in
    let q : b.0 ≡ z = let f' = b.3 in cc in
    let c : (state_after profile τ n.before n.call).owned.config ≡ I'.config = rw e in
    (b.1, b.2, rw q at b.4, rw c (rw q at b.5), rw c b.6)

compare_at : (i j : ℕ) → (i ≡ j) ⊎ ((i < j) ⊎ (j < i))
compare_at i j = elim (dec_lt i j) [ yes p ↦ inr (inl p) | no q ↦ elim (dec_lt j i) [ yes p ↦ inr (inr p) | no r ↦ inl (omega arith) ] ]

module _ (profile : Profile) {τ : TypeNumbers} (s : State) (d : SoundState τ s) (run : List ConfigCall) where
  applied_then_not : (z i j : ℕ) (m n : ConfigStep) → at (config_steps profile τ s run) i ≡ some m → at (config_steps profile τ s run) j ≡ some n →
      i < j → ConfigApplies profile m z → ConfigApplies profile n z → ⊥
  applied_then_not z i j m n p q l am an =
      let a = applied_uses_up profile τ m (step_sound_state profile τ s d run i m p) z am in
      let b = applied_uses_up profile τ n (step_sound_state profile τ s d run j n q) z an in
      let u = (steps_later profile τ s d run i j m n l p q).used_stays z a.3 in
      let o = b.2 in
      clash (cc)

  bound_then_not : (y i j : ℕ) (m n : ConfigStep) → at (config_steps profile τ s run) i ≡ some m → at (config_steps profile τ s run) j ≡ some n →
      i < j → ConfigBinds profile m y → ConfigBinds profile n y → ⊥
  bound_then_not y i j m n p q l bm bn =
      let a = applied_uses_up profile τ m (step_sound_state profile τ s d run i m p) bm.0 bm.1 in
      let e : a.0 ≡ y = let g = bm.2 in let g' = a.2 in cc in
      let t = (steps_later profile τ s d run i j m n l p q).thread_stays y a.1 (rw e at a.4) in
      let u = t.1 in
      let w = ((step_sound_state profile τ s d run j n q).fits bn.0 (open_for y) bn.2).4 in
      clash (cc)

  -- no step meets a used handle or a wrong kind, whatever the contents of cells
  run_proper : (i : ℕ) (n : ConfigStep) → at (config_steps profile τ s run) i ≡ some n → Proper (step_of n.before.owned.config n.call.thread)
  run_proper i n p = progress (step_sound_state profile τ s d run i n p) n.call.thread

  -- the claim about the whole list, where every step is handed an image that keeps its rules
  pub run_demand : ((i : ℕ) (n : ConfigStep) → at (config_steps profile τ s run) i ≡ some n → ImageRule n.before.owned.config) → ConfigDemand profile τ s run
  run_demand kept = record {
    one_application = λ z i j m n p q am an. elim (compare_at i j) [
      | inl e ↦ e
      | inr (inl l) ↦ absurd (applied_then_not z i j m n p q l am an)
      | inr (inr l) ↦ absurd (applied_then_not z j i n m q p l an am)
    ];
    one_binding = λ y i j m n p q bm bn. elim (compare_at i j) [
      | inl e ↦ e
      | inr (inl l) ↦ absurd (bound_then_not y i j m n p q l bm bn)
      | inr (inr l) ↦ absurd (bound_then_not y j i n m q p l bn bm)
    ];
    no_13_16_17 = λ i n p. (
      (λ e. none_of 13 (only_causes profile n.before.owned (kept i n p) n.call (run_proper i n p) 13 e) (omega arith) (omega arith) (omega arith)),
      (λ e. none_of 16 (only_causes profile n.before.owned (kept i n p) n.call (run_proper i n p) 16 e) (omega arith) (omega arith) (omega arith)),
      (λ e. none_of 17 (only_causes profile n.before.owned (kept i n p) n.call (run_proper i n p) 17 e) (omega arith) (omega arith) (omega arith)),
    );
    twelve = λ i n p. twelve_iff profile n.before.owned (kept i n p) n.call (run_proper i n p);
    fourteen = λ i n p. fourteen_iff profile n.before.owned (kept i n p) n.call (run_proper i n p);
    otherwise = λ i n p. goes profile n.before.owned (kept i n p) n.call (run_proper i n p);
    typed_loaded = sound_typed d;
    typed_after = λ i n p. sound_typed (after_sound profile n.before (step_sound_state profile τ s d run i n p) n.call);
  }
    where
      none_of : (k : ℕ) → (k ≡ 12) ⊎ ((k ≡ 14) ⊎ (k ≡ 15)) → ¬ (k ≡ 12) → ¬ (k ≡ 14) → ¬ (k ≡ 15) → ⊥
      none_of k (inl q) a b c = a q
      none_of k (inr (inl q)) a b c = b q
      none_of k (inr (inr q)) a b c = c q
