-- A step under the second profile: nothing of another bay moves, 15 depends on the bay alone, and a turn of bay k in two states that are the same to it shows the same.
use Rattle.std.proofs.Common.{◌∙◌, sym, arith}
use Rattle.std.specs.Prelude.{◌≡◌, refl, Bool, cond, ◌<◌, ◌≤◌, ℕ}
use Rattle.std.proofs.Math.Bool.{false, false≢true, true}
use Rattle.std.proofs.Math.Option.{some}
use Rattle.std.proofs.Math.Decide.{ℕ_discrete}
use Rattle.calculus.specs.Syntax.{Exp, thread_of, Config, at}
use Rattle.calculus.specs.Typing.{TypeNumbers}
use Rattle.calculus.specs.Limits.{max_image_length}
use Rattle.calculus.specs.Reduction.{Rule, number, Reduces}
use Rattle.calculus.specs.Step.{Answer, no_thread, step_of}
use Rattle.calculus.specs.Owners.{Owned, grown}
use Rattle.calculus.specs.State.{State}
use Rattle.calculus.specs.Shares.{Share, WithinShares, share_test}
use Rattle.calculus.specs.Profile.{separate, room_test}
use Rattle.calculus.specs.Reply.{Reply, moved, refuses, reply_of, reply_to}
use Rattle.calculus.proofs.Theory.Tests.{equal_from, eqb_complete}
use Rattle.calculus.proofs.Theory.Step.{rule_iff, no_thread_iff}
use Rattle.calculus.proofs.Theory.Images.{good_image}
use Rattle.calculus.proofs.Theory.Progress.{Proper, progress}
use Rattle.calculus.proofs.Theory.Owners.{goer_thread, goer_there}
use Rattle.calculus.proofs.Theory.Shares.{share_test_iff, room_iff}
use Rattle.calculus.proofs.Theory.ConfigRuns.{ConfigCall, config_reply, state_left, state_after}
use Rattle.calculus.proofs.Theory.Replies.{by_rule, reply_long}
use Rattle.bays_apart.specs.Turns.{is_bay, is_thread, is_turn}
use Rattle.bays_apart.proofs.Theory.ConfigTurns.{SameReply, same_moved, same_waits, same_finished, same_room}
use Rattle.bays_apart.proofs.Theory.Alike.{alike_length}
use Rattle.bays_apart.proofs.Theory.Same.{alike_nodes}
use Rattle.bays_apart.proofs.Theory.Mirrors.{Mine, Mirrors, Unmoved, unmoved}
use Rattle.bays_apart.proofs.Theory.Both.{SameAnswer, same_rule, same_waiting, same_done, same_no_thread, same_used_handle, same_wrong_kind, same_step}
use Rattle.bays_apart.proofs.Theory.Other.{other}
use Rattle.bays_apart.proofs.Theory.Shares.{room_shares}
use Rattle.bays_apart.proofs.Theory.Fine.{Fine, sizes, owned_name}

module _ {τ : TypeNumbers} {b : ℕ} {s : State} (f : Fine τ b s) where
  -- a step that is no turn of bay k moves nothing of it
  pub other_after : (k : ℕ) (a : ConfigCall) → is_turn k s.owned a.thread ≡ false → Unmoved k s.owned (state_after separate τ s a).owned
  unfolding is_turn is_bay is_thread
  other_after k a h = by_rule separate τ (λ u. Unmoved k s.owned u.owned) s a (unmoved (sizes f)) λ r C' d w.
      let (j, o) = owned_name f a.thread (goer_there d) in
      let (e, g) = goer_thread d in
      other (λ q. false≢true (sym h ∙ rw (o, g, eqb_complete j k q))) (f.own j) a.thread o d

  -- with a buffer long enough a step comes to what the calculus says
  pub reply_is : (a : ConfigCall) → max_image_length ≤ a.buffer → config_reply separate s.owned a ≡ reply_to separate s.owned a.thread
  reply_is a l = reply_long separate s.owned (good_image f.good).keeps a (progress f.good.0 a.thread) (omega arith)

  -- whether a rule of bay k has room depends on bay k alone
  module _ {k x : ℕ} (h : at s.owned.owners x ≡ some k) (l : k < b) {r : Rule} {C' : Config} (d : Reduces s.owned.config x r C') where
    share_other : (j : ℕ) → j < b → ¬ (k ≡ j) → Share b (grown s.owned x C') j
    share_other j m n =
        let u = other n (f.own k) x h d in
        let w = f.shares j m in
        record { few_names = rw u.same_part w.few_names; few_nodes = rw u.same_part w.few_nodes }

    all_shares : Share b (grown s.owned x C') k → WithinShares b (grown s.owned x C')
    all_shares w j m = elim (ℕ_discrete k j) [ yes e ↦ rw (← e) w | no n ↦ share_other j m n ]

    pub room_own : room_test separate s.owned (grown s.owned x C') ≡ share_test b (grown s.owned x C') k
    room_own = equal_from _ _
        (λ t. let (_, w) = (room_iff separate s.owned (grown s.owned x C')).0 t in (share_test_iff b (grown s.owned x C') k).1 ((rw f.bays at w) k l))
        (λ t. let w = all_shares ((share_test_iff b (grown s.owned x C') k).0 t) in
        (room_iff separate s.owned (grown s.owned x C')).1 ((room_shares s.owned (sizes f) d).1 (rw f.bays w)))

-- a turn of bay k in two states that are the same to it
module _ {τ σ : TypeNumbers} {b k : ℕ} {s t : State} (f : Fine τ b s) (g : Fine σ b t) (B : Mirrors k τ σ s.owned t.owned) (l : k < b) {x y : ℕ}
    (p : Mine k s.owned t.owned x y) where
  -- the answers are the same, and what they leave is the same to the bay
  abbrev pub Shown : Reply → Reply → Type 0
  Shown q q' = SameReply (Mine k s.owned t.owned) q q' × Mirrors k τ σ (state_left τ s x q).owned (state_left σ t y q').owned

  same_share : {C D : Config} → Mirrors k τ σ (grown s.owned x C) (grown t.owned y D) → share_test b (grown s.owned x C) k ≡ share_test b (grown t.owned y D) k
  unfolding share_test
  same_share M = rw (alike_length M.parts, alike_nodes M.parts)

  room : (n : ℕ) {I J : Owned} → Mirrors k τ σ I J → (r : Bool) → Shown (cond r (moved n I) (refuses 15)) (cond r (moved n J) (refuses 15))
  unfolding state_left
  room n M true = (same_moved, M)
  room n M false = (same_room, B)

  shown : {a a' : Answer} → SameAnswer k τ σ s.owned t.owned x y a a' → step_of s.owned.config x ≡ a → step_of t.owned.config y ≡ a' → Proper a → ¬ (a ≡ no_thread) →
      Shown (reply_of (room_test separate s.owned) (grown s.owned x) a) (reply_of (room_test separate t.owned) (grown t.owned y) a')
  unfolding reply_of state_left
  shown (same_rule {r = r} {C = C} {D = D} M) e e' q n =
      rw (room_own f p.owned_left l ((rule_iff s.owned.config C x r).0 e), room_own g p.owned_right l ((rule_iff t.owned.config D y r).0 e'), same_share M)
      (room (number r) M (share_test b (grown t.owned y D) k))
  shown (same_waiting m) e e' q n = (same_waits m, B)
  shown same_done e e' q n = (same_finished, B)
  shown same_no_thread e e' q n = absurd (n refl)
  shown same_used_handle e e' q n = absurd q
  shown same_wrong_kind e e' q n = absurd q

  pub same_turn : (m m' : ℕ) (e : Exp) → max_image_length ≤ m → max_image_length ≤ m' → at s.owned.config x ≡ some (thread_of e) →
      Shown (config_reply separate s.owned (record { thread = x; buffer = m })) (config_reply separate t.owned (record { thread = y; buffer = m' }))
  same_turn m m' e n n' h = rw (reply_is f (record { thread = x; buffer = m }) n, reply_is g (record { thread = y; buffer = m' }) n')
      (shown (same_step B p) refl refl (progress f.good.0 x) (λ q. (no_thread_iff s.owned.config x).0 q e h))
