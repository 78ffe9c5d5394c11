-- Every step of a run is handed an image that keeps its rules and limits, and that the node forms can write.
use Rattle.std.specs.Prelude.{◌≡◌, refl, ◌⊎◌, List, [], ◌∷◌, ◌*◌, ◌<◌, ◌≤◌, ℕ, length}
use Rattle.std.proofs.Common.{inl, inr, arith}
use Rattle.std.proofs.Math.Option.{some}
use Rattle.calculus.specs.Types.{once, LinType, multiplicity, list_type}
use Rattle.calculus.specs.Syntax.{Const, unit, num, op, Exp, var, name, const, lam, app, Component, thread_of, holds, open_for, used, awaited, Config, at, EachAll, In, sum_in, sum_all, both, case_of, Value, is_name, is_const, is_lam, is_exch, is_both}
use Rattle.calculus.specs.Typing.{TypeNumbers, of_op, fig10_list, split_nil, Derivation, d_const, d_name, d_app, d_both}
use Rattle.calculus.specs.Reduction.{Rule, Reduces}
use Rattle.calculus.specs.Names.{OnceName}
use Rattle.calculus.specs.Owners.{Owned, grown, OwnersRule}
use Rattle.calculus.specs.Profile.{Profile, HasRoom}
use Rattle.calculus.specs.State.{State}
use Rattle.calculus.proofs.Theory.ConfigRuns.{ConfigCall, state_grown, state_after, ConfigStep, config_steps}
use Rattle.calculus.specs.Limits.{max_image_length}
use Rattle.calculus.specs.Image.{nodes, const_size, size, image_length, WithinLimits, ImageRule, Writable, Closed}
use Rattle.calculus.proofs.Theory.Tests.{clash}
use Rattle.calculus.proofs.Theory.Lists.{at_bound, at_below}
use Rattle.calculus.proofs.Theory.Expressions.{derivation_closed}
use Rattle.calculus.proofs.Theory.Sound.{Fits, Sound, absent_of}
use Rattle.calculus.proofs.Theory.Owners.{more_bays, owners_kept}
use Rattle.calculus.proofs.Theory.Shares.{room_limits}
use Rattle.calculus.proofs.Theory.Replies.{after_keeps, run_keeps}
use Rattle.calculus.proofs.Theory.Runs.{SoundState}
use Rattle.calculus.proofs.Theory.Each.{each_step}
use Rattle.calculus.proofs.Theory.Preservation.{preservation}

fits_closed : (τ : TypeNumbers) (S : List LinType) (C : Config) (x : ℕ) (c : Component) → Fits τ S C x c → In (Closed 0) c
fits_closed τ S C x (thread_of e) f = derivation_closed f.3
fits_closed τ S C x (holds e) f = derivation_closed f.3
fits_closed τ S C x (open_for y) f = tt
fits_closed τ S C x used f = tt
fits_closed τ S C x awaited f = tt

pub sound_image : {τ : TypeNumbers} {S : List LinType} {C : Config} → Sound τ S C → WithinLimits C → ImageRule C
sound_image {τ} {S} {C} s w = record {
  bound = λ x c h. fits_closed τ S C x c (s.fits x c h);
  names_below = λ x c h k l. absent_of s k l x c (s.fits x c h);
  cells = λ x v h. (s.fits x (holds v) h).2;
  companions = λ z y h. (s.fits z (open_for y) h).4;
  futures = λ y h. let f = s.fits y awaited h in (f.0, f.1, λ z' g. s.one_handle y z' f.0 g f.1);
  limits = w;
}

-- every name of a once type is a handle
pub once_is_handle : {τ : TypeNumbers} {S : List LinType} {C : Config} → Sound τ S C → (k : ℕ) → OnceName S k →
    ((y : ℕ) × (at C k ≡ some (open_for y))) ⊎ (at C k ≡ some used)
once_is_handle {τ} {S} {C} s k o = let c = at_below C k (omega (arith, at_bound S k o.1, s.sizes)) in go c.0 c.1
  where
    t : at S k ≡ some o.0
    t = o.1

    m : multiplicity o.0 ≡ once
    m = o.2

    go : (c : Component) → at C k ≡ some c → ((y : ℕ) × (at C k ≡ some (open_for y))) ⊎ (at C k ≡ some used)
    go (thread_of e) h = let f = s.fits k (thread_of e) h in let p = f.1 in let q = f.2 in absurd (clash (cc (t, m)))
    go (holds e) h = let f = s.fits k (holds e) h in let p = f.1 in absurd (clash (cc (t, m)))
    go (open_for y) h = inl (y, h)
    go used h = inr h
    go awaited h = let f = s.fits k awaited h in let g = s.fits f.0 (open_for k) f.1 in
        let p = g.2 in let q = g.3 in absurd (clash (cc (t, m)))

-- there is no empty list, and no name has a once list's type: so nothing is a value of such a type
pub no_once_list : {τ : TypeNumbers} {S : List LinType} {C : Config} → Sound τ S C → {v : Exp} {α : LinType} → Value v → ¬ Derivation τ S [] v (list_type once α)
no_once_list {S = S} {C = C} s {α = α} (is_name {k = k}) (d_name n t) = elim (once_is_handle s k (list_type once α, t, refl)) [
  | inl (y, h) ↦ let f = s.fits k (open_for y) h in let q = f.1 in clash (cc)
  | inr h ↦ let f = s.fits k used h in let q = f.1 in clash (cc)
]
no_once_list s is_lam d = elim d [ ]
no_once_list s is_const (d_const n (of_op p f)) = elim f [ ]
no_once_list s (is_exch w) (d_app split_nil (d_const n (of_op p f)) d) = elim f [ ]
no_once_list s (is_both w w') (d_both p (fig10_list h) split_nil d d') = no_once_list s w' d'

-- no image is longer than 13,826 bytes: a node takes at most three
const_size_bound : (c : Const) → const_size c ≤ 3
unfolding const_size
const_size_bound unit = omega arith
const_size_bound (num n) = omega arith
const_size_bound (op o t) = omega arith

pub size_bound : (e : Exp) → size e ≤ 3 * nodes e
unfolding size nodes
size_bound (var i) = omega arith
size_bound (name k) = omega arith
size_bound (const c) = omega (arith, const_size_bound c)
size_bound (lam t e) = omega (arith, size_bound e)
size_bound (app f a) = omega (arith, size_bound f, size_bound a)
size_bound (both s t e₁ e₂) = omega (arith, size_bound e₁, size_bound e₂)
size_bound (case_of s e₁ e₂) = omega (arith, size_bound e₁, size_bound e₂)

sum_in_bound : (c : Component) → sum_in size c ≤ 3 * sum_in nodes c
unfolding sum_in
sum_in_bound (thread_of e) = size_bound e
sum_in_bound (holds e) = size_bound e
sum_in_bound (open_for y) = omega arith
sum_in_bound used = omega arith
sum_in_bound awaited = omega arith

sum_bound : (C : Config) → sum_all (sum_in size) C ≤ 3 * sum_all (sum_in nodes) C
unfolding sum_all
sum_bound [] = omega arith
sum_bound (c ∷ C) = omega (arith, sum_in_bound c, sum_bound C)

pub image_fits : (C : Config) → WithinLimits C → image_length C ≤ max_image_length
image_fits C w = omega (arith, sum_bound C, w.few_names, w.few_nodes)

-- an image of a house of b bays that keeps its rules and can be written
pub record Kept (b : ℕ) (I : Owned) : Type 0 where
  pub keeps : ImageRule I.config
  pub writable : EachAll Writable I.config
  pub owns : OwnersRule b I

pub kept_more : {b d : ℕ} {I : Owned} → b ≤ d → Kept b I → Kept d I
kept_more l k = record { keeps = k.keeps; writable = k.writable; owns = more_bays l k.owns }

-- what is kept all through a run
abbrev pub Good : ℕ → TypeNumbers → State → Type 0
Good b τ s = SoundState τ s × EachAll Writable s.owned.config × WithinLimits s.owned.config × OwnersRule b s.owned

pub good_image : {b : ℕ} {τ : TypeNumbers} {s : State} → Good b τ s → Kept b s.owned
good_image (d, a, w, o) = record { keeps = sound_image d w; writable = a; owns = o }

-- the future of an open handle is a name
futures_there : {τ : TypeNumbers} {S : List LinType} {C : Config} → Sound τ S C → WithinLimits C → (z y : ℕ) → at C z ≡ some (open_for y) → y < length C
futures_there {C = C} d w z y h = at_bound C y ((sound_image d w).companions z y h)

pub good_kept : (profile : Profile) (b : ℕ) (τ : TypeNumbers) (s : State) → Good b τ s → (x : ℕ) (r : Rule) (C' : Config) → Reduces s.owned.config x r C' → HasRoom profile s.owned (grown s.owned x C') → Good b τ (state_grown τ s x C')
good_kept profile b τ s (sound, each, within, owns) x r C' d w = (preservation sound d, each_step Writable tt each d, room_limits profile s.owned (grown s.owned x C') w, owners_kept owns (futures_there sound within) d)

-- every step of a run is handed an image that keeps its rules, which can be written, and leaves one
pub run_images : (profile : Profile) (b : ℕ) (τ : TypeNumbers) (s : State) → Good b τ s → (run : List ConfigCall) (i : ℕ) (n : ConfigStep) → at (config_steps profile τ s run) i ≡ some n →
    Kept b n.before.owned × Kept b (state_after profile τ n.before n.call).owned
run_images profile b τ s g run i n h =
    let p = run_keeps profile τ (Good b τ) (good_kept profile b τ) s g run i n h in
    (good_image p, good_image (after_keeps profile τ (Good b τ) (good_kept profile b τ) n.before p n.call))
