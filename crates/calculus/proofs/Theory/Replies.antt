-- What the answers of a step say, and what a step leaves: the same, or what a rule of Fig. 5 makes of it, with room under the profile.
use Rattle.std.specs.Prelude.{◌≡◌, ◌↔◌, ◌⊎◌, Bool, cond, false, true, ltb}
use Rattle.std.proofs.Math.Path.{refl, subst}
use Rattle.std.proofs.Common.{sym, inl, inr, arith}
use Rattle.std.proofs.Math.Option.{some}
use mathlib.Core.List.{List, [], ◌∷◌}
use Prim.Native.Nat.{◌<◌, suc, zero, ℕ}
use Rattle.std.proofs.Math.Decide.{dec_lt}
use Rattle.calculus.specs.Syntax.{Exp, thread_of, Config, at}
use Rattle.calculus.specs.Owners.{Owned, grown}
use Rattle.calculus.specs.Typing.{TypeNumbers}
use Rattle.calculus.specs.Reduction.{Rule, number, Reduces}
use Rattle.calculus.specs.Step.{Answer, rule, waiting, done, no_thread, used_handle, wrong_kind, step_of}
use Rattle.calculus.specs.Limits.{max_image_length}
use Rattle.calculus.specs.Image.{ImageRule, image_test}
use Rattle.calculus.specs.Profile.{Profile, HasRoom, room_test}
use Rattle.calculus.specs.State.{State}
use Rattle.calculus.specs.Reply.{Reply, moved, waits, finished, refuses, reply_of, reply_to}
use Rattle.calculus.proofs.Theory.ConfigRuns.{ConfigCall, config_reply, state_with, state_grown, state_left, state_after, ConfigStep, config_steps, ReplyGoes}
use Rattle.calculus.proofs.Theory.Tests.{ltb_less_not, clash, ltb_complete}
use Rattle.calculus.proofs.Theory.Step.{rule_iff, no_thread_iff}
use Rattle.calculus.proofs.Theory.ImageTest.{image_test_iff}
use Rattle.calculus.proofs.Theory.Shares.{room_iff}
use Rattle.calculus.proofs.Theory.Progress.{Proper}

-- a rule is answered where Fig. 5 lets the thread go, and its outcome has room
abbrev pub Moves : Profile → Owned → ℕ → ℕ → Owned → Type 0
Moves profile I x k I' = (r : Rule) × (number r ≡ k) × Reduces I.config x r I'.config × HasRoom profile I I' × (I' ≡ grown I x I'.config)

moved_room : (b : Bool) {I J : Owned} {k n : ℕ} → cond b (moved k I) (refuses 15) ≡ moved n J → (b ≡ true) × (k ≡ n) × (I ≡ J)
moved_room true e = (refl, cc, cc)
moved_room false e = absurd (clash (cc))

pub moved_answer : (profile : Profile) (I : Owned) (x : ℕ) (a : Answer) {k : ℕ} {I' : Owned} → step_of I.config x ≡ a → reply_of (room_test profile I) (grown I x) a ≡ moved k I' → Moves profile I x k I'
unfolding reply_of
moved_answer profile I x (rule r D) {k} {I'} h e =
    let (t, p, q) = moved_room (room_test profile I (grown I x D)) e in
    subst (λ (J : Owned). Moves profile I x k J) q (r, p, (rule_iff I.config D x r).0 h, (room_iff profile I (grown I x D)).0 t, refl)
moved_answer profile I x (waiting y) h e = absurd (clash (cc))
moved_answer profile I x done h e = absurd (clash (cc))
moved_answer profile I x no_thread h e = absurd (clash (cc))
moved_answer profile I x used_handle h e = absurd (clash (cc))
moved_answer profile I x wrong_kind h e = absurd (clash (cc))

pub moved_means : (profile : Profile) (I : Owned) (a : ConfigCall) {k : ℕ} {I' : Owned} → config_reply profile I a ≡ moved k I' → Moves profile I a.thread k I'
unfolding config_reply
moved_means profile I a {k} {I'} = go (ltb a.buffer max_image_length) (image_test I.config)
  where
    go : (b w : Bool) → cond b (refuses 12) (cond w (reply_to profile I a.thread) (refuses 13)) ≡ moved k I' → Moves profile I a.thread k I'
    go true w e = absurd (clash (cc))
    go false true e = moved_answer profile I a.thread (step_of I.config a.thread) refl e
    go false false e = absurd (clash (cc))

-- what holds of a state, and is kept by every rule whose outcome has room, holds of what a step leaves
pub by_rule : (profile : Profile) (τ : TypeNumbers) (P : State → Type 0) (s : State) (a : ConfigCall) → P s →
    ((r : Rule) (C' : Config) → Reduces s.owned.config a.thread r C' → HasRoom profile s.owned (grown s.owned a.thread C') → P (state_grown τ s a.thread C')) →
    P (state_after profile τ s a)
unfolding state_left
by_rule profile τ P s a p f = go (config_reply profile s.owned a) refl
  where
    go : (q : Reply) → config_reply profile s.owned a ≡ q → P (state_left τ s a.thread q)
    go (moved k I') e =
        let (r, n, d, w, g) = moved_means profile s.owned a e in
        subst (λ (J : Owned). P (state_with τ s a.thread J)) (sym g) (f r I'.config d (subst (HasRoom profile s.owned) g w))
    go (waits y) e = p
    go finished e = p
    go (refuses k) e = p

-- and so of every state of a run, handed to a step or left by it
module _ (profile : Profile) (τ : TypeNumbers) (P : State → Type 0)
    (kept : (s : State) → P s → (x : ℕ) (r : Rule) (C' : Config) → Reduces s.owned.config x r C' → HasRoom profile s.owned (grown s.owned x C') → P (state_grown τ s x C')) where
  pub after_keeps : (s : State) → P s → (a : ConfigCall) → P (state_after profile τ s a)
  after_keeps s p a = by_rule profile τ P s a p (kept s p a.thread)

  pub run_keeps : (s : State) → P s → (run : List ConfigCall) (i : ℕ) (n : ConfigStep) → at (config_steps profile τ s run) i ≡ some n → P n.before
  unfolding config_steps
  run_keeps s p [] i n h = absurd (clash (cc))
  run_keeps s p (a ∷ run) zero n h = let e : record { before = s; call = a } ≡ n = cc in subst (λ (b : ConfigStep). P b.before) e p
  run_keeps s p (a ∷ run) (suc i) n h = run_keeps (state_after profile τ s a) (after_keeps s p a) run i n h

-- the causes that an answer comes to
Causes : Reply → Type 0
Causes (moved k I') = Unit {0}
Causes (waits y) = Unit {0}
Causes finished = Unit {0}
Causes (refuses k) = (k ≡ 14) ⊎ (k ≡ 15)

reply_causes : (room : Owned → Bool) (left : Config → Owned) (a : Answer) → Proper a → Causes (reply_of room left a)
unfolding reply_of Causes
reply_causes room left (rule r D) p = go (room (left D))
  where
    go : (b : Bool) → Causes (cond b (moved (number r) (left D)) (refuses 15))
    go true = tt
    go false = inr refl
reply_causes room left (waiting y) p = tt
reply_causes room left done p = tt
reply_causes room left no_thread p = inl refl
reply_causes room left used_handle p = absurd p
reply_causes room left wrong_kind p = absurd p

reply_goes : (room : Owned → Bool) (left : Config → Owned) (a : Answer) → Proper a → ¬ (a ≡ no_thread) → ReplyGoes (reply_of room left a)
unfolding reply_of
reply_goes room left (rule r D) p n = go (room (left D))
  where
    go : (b : Bool) → ReplyGoes (cond b (moved (number r) (left D)) (refuses 15))
    go true = tt
    go false = refl
reply_goes room left (waiting y) p n = tt
reply_goes room left done p n = tt
reply_goes room left no_thread p n = absurd (n refl)
reply_goes room left used_handle p n = absurd p
reply_goes room left wrong_kind p n = absurd p

goes_not_14 : (q : Reply) → ReplyGoes q → ¬ (q ≡ refuses 14)
goes_not_14 (moved k I') g e = clash (cc)
goes_not_14 (waits y) g e = clash (cc)
goes_not_14 finished g e = clash (cc)
goes_not_14 (refuses k) g e = clash (cc)

refused_cause : (q : Reply) (k : ℕ) → Causes q → q ≡ refuses k → (k ≡ 14) ⊎ (k ≡ 15)
unfolding Causes
refused_cause (moved n I') k c e = absurd (clash (cc))
refused_cause (waits y) k c e = absurd (clash (cc))
refused_cause finished k c e = absurd (clash (cc))
refused_cause (refuses n) k c e = let q : n ≡ k = cc in rw q at c

-- what a step answers on an image that keeps its rules where no thread goes wrong
module _ (profile : Profile) (I : Owned) (w : ImageRule I.config) (a : ConfigCall) (p : Proper (step_of I.config a.thread)) where
  -- with a buffer that is long enough, what the step of the calculus answers
  pub reply_long : ¬ (a.buffer < max_image_length) → config_reply profile I a ≡ reply_to profile I a.thread
  unfolding config_reply
  reply_long l = rw (ltb_less_not a.buffer max_image_length l, (image_test_iff I.config).1 w) refl

  reply_short : a.buffer < max_image_length → config_reply profile I a ≡ refuses 12
  unfolding config_reply
  reply_short l = rw (ltb_complete a.buffer max_image_length l) refl

  long : (k : ℕ) → ¬ (a.buffer < max_image_length) → config_reply profile I a ≡ refuses k → (k ≡ 14) ⊎ (k ≡ 15)
  long k l e = refused_cause (reply_to profile I a.thread) k (reply_causes (room_test profile I) (grown I a.thread) (step_of I.config a.thread) p) (let q = reply_long l in cc)

  pub only_causes : (k : ℕ) → config_reply profile I a ≡ refuses k → (k ≡ 12) ⊎ ((k ≡ 14) ⊎ (k ≡ 15))
  only_causes k e = elim (dec_lt a.buffer max_image_length) [ yes l ↦ inl (let q = reply_short l in cc) | no l ↦ inr (long k l e) ]

  pub twelve_iff : (config_reply profile I a ≡ refuses 12) ↔ (a.buffer < max_image_length)
  twelve_iff = (λ e. elim (dec_lt a.buffer max_image_length) [ yes l ↦ l | no l ↦ absurd (elim (long 12 l e) [ inl q ↦ omega arith | inr q ↦ omega arith ]) ], reply_short)

  pub goes : ¬ (a.buffer < max_image_length) → (e : Exp) × (at I.config a.thread ≡ some (thread_of e)) → ReplyGoes (config_reply profile I a)
  goes l (u, h) = rw (reply_long l) (reply_goes (room_test profile I) (grown I a.thread) (step_of I.config a.thread) p (λ q. (no_thread_iff I.config a.thread).0 q u h))

  pub fourteen_iff : ¬ (a.buffer < max_image_length) → (config_reply profile I a ≡ refuses 14) ↔ (¬ ((e : Exp) × (at I.config a.thread ≡ some (thread_of e))))
  unfolding reply_of
  fourteen_iff l = (there, back)
    where
      there : config_reply profile I a ≡ refuses 14 → ¬ ((e : Exp) × (at I.config a.thread ≡ some (thread_of e)))
      there e (u, h) = goes_not_14 (config_reply profile I a) (goes l (u, h)) e

      back : ¬ ((e : Exp) × (at I.config a.thread ≡ some (thread_of e))) → config_reply profile I a ≡ refuses 14
      back n = rw (reply_long l, (no_thread_iff I.config a.thread).1 (λ u h. n (u, h))) refl
