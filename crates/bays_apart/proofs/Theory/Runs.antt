-- Two runs from states that are the same to bay k, with the same turns for its threads: turn by turn they show the same.
use Rattle.std.proofs.Common.{◌∙◌, ap, sym, arith}
use Rattle.std.specs.Prelude.{◌≡◌, Bool, cond}
use Rattle.std.proofs.Math.Path.{refl}
use Rattle.std.proofs.Math.Bool.{false, true}
use Rattle.std.proofs.Math.Option.{Option, none, some}
use mathlib.Core.List.{List, [], ◌∷◌, map}
use Prim.Native.Nat.{◌<◌, ◌≤◌, suc, zero, ℕ}
use Rattle.calculus.specs.Syntax.{Exp, Component, thread_of, holds, open_for, used, awaited, Config, at}
use Rattle.calculus.specs.Typing.{TypeNumbers}
use Rattle.calculus.specs.Limits.{max_image_length}
use Rattle.calculus.specs.Owners.{Owned}
use Rattle.calculus.specs.State.{State}
use Rattle.calculus.specs.Shares.{bay_components}
use Rattle.calculus.specs.Profile.{separate}
use Rattle.calculus.proofs.Theory.Tests.{clash, and_parts, eqb_sound}
use Rattle.calculus.proofs.Theory.ConfigRuns.{ConfigCall, state_after, ConfigStep, config_steps}
use Rattle.bays_apart.specs.Same.{Names, Same, SameComponent, same_thread, same_holds, same_open, same_used, same_awaited, rank, Alike, alike_nil, alike_cons}
use Rattle.bays_apart.specs.Turns.{is_bay, is_thread, is_turn, threads_below, whose_turn, passing, SameSetting}
use Rattle.bays_apart.proofs.Theory.ConfigTurns.{turn_by, history, Long, SameTurn}
use Rattle.bays_apart.proofs.Theory.OfBay.{of_bay_at}
use Rattle.bays_apart.proofs.Theory.Alike.{alike_at}
use Rattle.bays_apart.proofs.Theory.Mirrors.{Mine, Mirrors, mirrors_at, Unmoved, unmoved, unmoved_trans, mirrors_unmoved}
use Rattle.bays_apart.proofs.Theory.Fine.{Fine, sizes, fine_after}
use Rattle.bays_apart.proofs.Theory.Turns.{other_after, same_turn}

-- the next turn of bay k in a run, after steps that move nothing of it
data Skips (τ : TypeNumbers) (b k : ℕ) (s : State) (run : List ConfigCall) : Type 0 where
  no_turn : history k τ s run ≡ [] → Skips τ b k s run
  turn : (s' : State) (a : ConfigCall) (rest : List ConfigCall) → Fine τ b s' → Unmoved k s.owned s'.owned → is_turn k s'.owned a.thread ≡ true →
      max_image_length ≤ a.buffer → Long rest → history k τ s run ≡ record { before = s'; call = a } ∷ history k τ (state_after separate τ s' a) rest → Skips τ b k s run

module _ {τ : TypeNumbers} {b k : ℕ} where
  skip_one : {s : State} → Fine τ b s → (a : ConfigCall) (run : List ConfigCall) → Long (a ∷ run) → (t : Bool) → is_turn k s.owned a.thread ≡ t →
      Skips τ b k (state_after separate τ s a) run → Skips τ b k s (a ∷ run)
  unfolding config_steps passing
  skip_one {s} f a run l true e n = turn s a run f (unmoved (sizes f)) e (l 0 a refl) (λ i. l (suc i)) (rw e)
  skip_one {s} f a run l false e (no_turn q) = no_turn (rw e q)
  skip_one {s} f a run l false e (turn s' a' rest f' u t m n q) = turn s' a' rest f' (unmoved_trans (other_after f k a e) u) t m n (rw e q)

  skip : {s : State} → Fine τ b s → (run : List ConfigCall) → Long run → Skips τ b k s run
  unfolding config_steps passing
  skip f [] l = no_turn refl
  skip {s} f (a ∷ run) l = skip_one f a run l (is_turn k s.owned a.thread) refl (skip {s = state_after separate τ s a} (fine_after f a) run (λ i. l (suc i)))

-- threads counted among a bay's components
threads_injective : (C : Config) (r s : ℕ) (e f : Exp) → at C r ≡ some (thread_of e) → at C s ≡ some (thread_of f) → threads_below C r ≡ threads_below C s → r ≡ s
unfolding threads_below is_thread
threads_injective [] r s e f p q h = absurd (clash (cc))
threads_injective (c ∷ C) zero zero e f p q h = refl
threads_injective (c ∷ C) zero (suc s) e f p q h = let g : c ≡ thread_of e = cc in absurd (let i : 0 ≡ suc (threads_below C s) = rw g at h in omega arith)
threads_injective (c ∷ C) (suc r) zero e f p q h = let g : c ≡ thread_of f = cc in absurd (let i : suc (threads_below C r) ≡ 0 = rw g at h in omega arith)
threads_injective (c ∷ C) (suc r) (suc s) e f p q h = ap suc (threads_injective C r s e f p q (go (is_thread (some c)) h))
  where
    go : (t : Bool) → cond t (suc (threads_below C r)) (threads_below C r) ≡ cond t (suc (threads_below C s)) (threads_below C s) → threads_below C r ≡ threads_below C s
    go true h = omega (arith, h)
    go false h = h

module _ {N : Names} {τ σ : TypeNumbers} where
  same_kind : {c d : Component} → SameComponent N τ σ c d → is_thread (some c) ≡ is_thread (some d)
  unfolding is_thread
  same_kind (same_thread s) = refl
  same_kind (same_holds s) = refl
  same_kind (same_open p) = refl
  same_kind same_used = refl
  same_kind same_awaited = refl

  alike_threads : {C D : Config} → Alike (SameComponent N τ σ) C D → (r : ℕ) → threads_below C r ≡ threads_below D r
  unfolding threads_below
  alike_threads alike_nil r = refl
  alike_threads (alike_cons s t) zero = refl
  alike_threads (alike_cons s t) (suc r) = rw (same_kind s, alike_threads t r)

  thread_there : {e : Exp} {d : Component} → SameComponent N τ σ (thread_of e) d → (f : Exp) × (d ≡ thread_of f)
  thread_there (same_thread s) = (_, refl)

  held_same : {v w : Exp} → SameComponent N τ σ (holds v) (holds w) → Same N τ σ v w
  held_same (same_holds s) = s

-- a turn of bay k is by a thread that it owns
bay_there : (k : ℕ) (o : Option ℕ) → is_bay k o ≡ true → o ≡ some k
unfolding is_bay
bay_there k none h = absurd (clash (cc))
bay_there k (some o) h = ap some (eqb_sound o k h)

expression_there : (c : Option Component) → is_thread c ≡ true → (e : Exp) × (c ≡ some (thread_of e))
unfolding is_thread
expression_there (some (thread_of e)) h = (e, refl)
expression_there (some (holds e)) h = absurd (clash (cc))
expression_there (some (open_for y)) h = absurd (clash (cc))
expression_there (some used) h = absurd (clash (cc))
expression_there (some awaited) h = absurd (clash (cc))
expression_there none h = absurd (clash (cc))

pub turn_parts : (k : ℕ) (I : Owned) (x : ℕ) → is_turn k I x ≡ true → (at I.owners x ≡ some k) × (e : Exp) × (at I.config x ≡ some (thread_of e))
unfolding is_turn
turn_parts k I x h = let (p, q) = and_parts (is_bay k (at I.owners x)) (is_thread (at I.config x)) h in
    let (e, g) = expression_there (at I.config x) q in (bay_there k (at I.owners x) p, e, g)

module _ {τ σ : TypeNumbers} {b k : ℕ} (l : k < b) {s t : State} (f : Fine τ b s) (g : Fine σ b t) where
  -- two states that are the same to bay k have the same setting
  setting_place : Mine k s.owned t.owned k k
  setting_place = record { owned_left = (f.settings k l).mine; owned_right = (g.settings k l).mine; same_rank = (f.settings k l).first ∙ sym (g.settings k l).first }

  same_setting : Mirrors k τ σ s.owned t.owned → SameSetting k τ σ s.owned t.owned
  same_setting B =
      let m = f.settings k l in
      let n = g.settings k l in
      let (d, h, c) = mirrors_at B setting_place (holds m.held) m.cell in
      let h' = n.cell in
      let e : d ≡ holds n.held = cc in
      record { held_left = m.held; held_right = n.held; cell_left = m.cell; cell_right = n.cell; same_held = held_same (rw e at c) }

-- the same turn is taken by threads with the same place
turn_place : {τ σ : TypeNumbers} {k : ℕ} {I J : Owned} → Mirrors k τ σ I J → (x y : ℕ) → is_turn k I x ≡ true → is_turn k J y ≡ true → whose_turn k I x ≡ whose_turn k J y → Mine k I J x y
unfolding whose_turn
turn_place {k = k} {I = I} {J = J} B x y t t' h =
    let (o, e, p) = turn_parts k I x t in
    let (o', e', p') = turn_parts k J y t' in
    let there_left : at (bay_components k I) (rank k I.owners x) ≡ some (thread_of e) = of_bay_at k I.owners I.config x B.sizes_left o ∙ p in
    let there_right : at (bay_components k J) (rank k J.owners y) ≡ some (thread_of e') = of_bay_at k J.owners J.config y B.sizes_right o' ∙ p' in
    let (d, q, s) = alike_at B.parts (rank k I.owners x) (thread_of e) there_left in
    let (f, g) = thread_there s in
    record {
      owned_left = o;
      owned_right = o';
      same_rank = threads_injective (bay_components k J) (rank k I.owners x) (rank k J.owners y) f e' (q ∙ ap some g) there_right
          (sym (alike_threads B.parts (rank k I.owners x)) ∙ h);
    }

-- runs from states that are the same to bay k, where the turns in the first are ms
abbrev pub Onward : TypeNumbers → TypeNumbers → ℕ → ℕ → List ConfigStep → Type 0
Onward τ σ b k ms = (s t : State) → Fine τ b s → Fine σ b t → Mirrors k τ σ s.owned t.owned → (run run' : List ConfigCall) → Long run → Long run' →
    history k τ s run ≡ ms → map (turn_by k) (history k τ s run) ≡ map (turn_by k) (history k σ t run') → Alike (SameTurn k τ σ) (history k τ s run) (history k σ t run')

module _ {τ σ : TypeNumbers} {b k : ℕ} (l : k < b) where
  none_left : (ns ns' : List ConfigStep) → ns ≡ [] → map (turn_by k) ns ≡ map (turn_by k) ns' → Alike (SameTurn k τ σ) ns ns'
  none_left [] [] e h = alike_nil
  none_left [] (n ∷ ns) e h = absurd (clash (cc))
  none_left (n ∷ ns) ns' e h = absurd (clash (cc))

  onward : (s t : State) → Mirrors k τ σ s.owned t.owned → (run run' : List ConfigCall) (m : ConfigStep) (ms : List ConfigStep) → Onward τ σ b k ms →
      Skips τ b k s run → Skips σ b k t run' → history k τ s run ≡ m ∷ ms → map (turn_by k) (history k τ s run) ≡ map (turn_by k) (history k σ t run') →
      Alike (SameTurn k τ σ) (history k τ s run) (history k σ t run')
  onward s t B run run' m ms K (no_turn q) n e h = absurd (clash (cc))
  onward s t B run run' m ms K (turn s' a rest f u i n o q) (no_turn q') e h = absurd (let z = rw (q, q') at h in clash (cc))
  onward s t B run run' m ms K (turn s' a rest f u i n o q) (turn t' a' rest' g w i' n' o' q') e h =
      let B' : Mirrors k τ σ s'.owned t'.owned = mirrors_unmoved B u w in
      let z : turn_by k (record { before = s'; call = a }) ∷ map (turn_by k) (history k τ (state_after separate τ s' a) rest) ≡
      turn_by k (record { before = t'; call = a' }) ∷ map (turn_by k) (history k σ (state_after separate σ t' a') rest') = rw (q, q') at h in
      let p = turn_place B' a.thread a'.thread i i' (cc) in
      let (_, x, j) = turn_parts k s'.owned a.thread i in
      let (r, M) = same_turn f g B' l p a.buffer a'.buffer x n n' j in
      rw (q, q') (alike_cons (record { same_reply = r; same_setting = same_setting l (fine_after f a) (fine_after g a') M })
      (K (state_after separate τ s' a) (state_after separate σ t' a') (fine_after f a) (fine_after g a') M rest rest' o o' (cc) (cc)))

  -- the claim, from any two states that are the same to bay k
  pub runs_same : (ms : List ConfigStep) → Onward τ σ b k ms
  runs_same [] s t f g B run run' o o' e h = none_left _ _ e h
  runs_same (m ∷ ms) s t f g B run run' o o' e h = onward s t B run run' m ms (runs_same ms) (skip f run o) (skip g run' o') e h
