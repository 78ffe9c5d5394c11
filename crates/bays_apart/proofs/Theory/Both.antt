-- A turn of bay k in two images that are the same to it: the same answer, and after a rule the images are the same to the bay again.
use Rattle.std.specs.Prelude.{◌≡◌, ◌<◌, ℕ, length, set}
use Rattle.std.proofs.Math.Path.{refl}
use Rattle.std.proofs.Math.Option.{some}
use Rattle.std.proofs.Common.{add-zero, arith}
use Rattle.calculus.specs.Syntax.{cell, exch, thread, handle, Shape, pair, list, Exp, Value, is_name, is_const, is_lam, is_exch, is_both, Component, thread_of, Config, at, on_thread}
use Rattle.calculus.specs.Typing.{TypeNumbers}
use Rattle.calculus.specs.Reduction.{Context, plug, Rule}
use Rattle.calculus.specs.Step.{Redex, application, subject, Place, Answer, rule, waiting, done, no_thread, used_handle, wrong_kind, when_done, step_call, step_exchange, step_meeting, step_subject, step_case, step_redex, step_place, step_of, place}
use Rattle.calculus.specs.Owners.{Owned, grown}
use Rattle.calculus.proofs.Theory.Lists.{at_bound, at_below}
use Rattle.bays_apart.specs.Same.{same_unit, same_num, same_op, Same, same_var, same_name, same_const, same_lam, same_app, same_both, same_case, SameComponent, same_thread, same_holds, same_open, same_used, same_awaited, alike_nil, alike_cons}
use Rattle.bays_apart.proofs.Theory.Same.{same_more, same_substitute, same_substitute_both, SameContext, context_more, SameMeeting, same_settled, same_meet, same_loose, same_plug, same_meeting}
use Rattle.bays_apart.proofs.Theory.Mirrors.{Mine, Mirrors, mirrors_at, mirrors_set, Wide, widen, fresh, mirrors_grow, mirrors_grown}

-- what the calculus answers of thread x of I and of thread y of J is the same to bay k
pub data SameAnswer (k : ℕ) (τ σ : TypeNumbers) (I J : Owned) (x y : ℕ) : Answer → Answer → Type 0 where
  same_rule : {r : Rule} {C D : Config} → Mirrors k τ σ (grown I x C) (grown J y D) → SameAnswer k τ σ I J x y (rule r C) (rule r D)
  same_waiting : {n m : ℕ} → Mine k I J n m → SameAnswer k τ σ I J x y (waiting n) (waiting m)
  same_done : SameAnswer k τ σ I J x y done done
  same_no_thread : SameAnswer k τ σ I J x y no_thread no_thread
  same_used_handle : SameAnswer k τ σ I J x y used_handle used_handle
  same_wrong_kind : SameAnswer k τ σ I J x y wrong_kind wrong_kind

module _ {k : ℕ} {τ σ : TypeNumbers} {I J : Owned} (B : Mirrors k τ σ I J) {x y : ℕ} (p : Mine k I J x y) where
  -- a rule that changes the thread alone: BETA, FUTURE.DEREF, and what else is pure
  pure : {r : Rule} {F G : Context} {e f : Exp} → SameContext (Mine k I J) τ σ F G → Same (Mine k I J) τ σ e f →
      SameAnswer k τ σ I J x y (rule r (set I.config x (thread_of (plug F e)))) (rule r (set J.config y (thread_of (plug G f))))
  pure c s = same_rule (mirrors_grown I J _ _ x y (mirrors_set B p (same_thread (same_plug c s))))

  -- the first and the second of a new names
  first : (a : ℕ) → 0 < a → Wide B a (length I.config) (length J.config)
  first a l = simp add-zero at (fresh B a 0 l)

  same_when_done : {n m : ℕ} {q q' : Place} {a b : Answer} → Mine k I J n m → SameMeeting (Mine k I J) τ σ q q' →
      SameAnswer k τ σ I J x y a b → SameAnswer k τ σ I J x y (when_done n q a) (when_done m q' b)
  unfolding when_done
  same_when_done n (same_settled s) a = a
  same_when_done n (same_meet c r) a = same_waiting n
  same_when_done n same_loose a = same_waiting n

  -- F[n v]
  same_call_of : {F G : Context} {n m : ℕ} {v w : Exp} {c d : Component} → SameContext (Mine k I J) τ σ F G →
      Mine k I J n m → Same (Mine k I J) τ σ v w → SameComponent (Mine k I J) τ σ c d →
      SameAnswer k τ σ I J x y (step_call I.config x F n v (some c)) (step_call J.config y G m w (some d))
  unfolding step_call
  same_call_of c n v (same_thread s) = same_when_done n (same_meeting s) (pure c (same_app s v))
  same_call_of c n v same_awaited = same_waiting n
  same_call_of {v = v} {w = w} c n s (same_open q) = same_rule (mirrors_grown I J _ _ x y (mirrors_set (mirrors_set (mirrors_set B p (same_thread (same_plug c (same_const same_unit)))) q (same_thread s)) n same_used))
  same_call_of c n v same_used = same_used_handle
  same_call_of c n v (same_holds s) = same_wrong_kind

  -- F[exch n v]
  same_exchange_of : {F G : Context} {t u n m : ℕ} {v w : Exp} {c d : Component} → SameContext (Mine k I J) τ σ F G → τ t ≡ σ u →
      Mine k I J n m → Same (Mine k I J) τ σ v w → SameComponent (Mine k I J) τ σ c d →
      SameAnswer k τ σ I J x y (step_exchange I.config x F t n v (some c)) (step_exchange J.config y G u m w (some d))
  unfolding step_exchange
  same_exchange_of c t n v (same_thread s) = same_when_done n (same_meeting s) (pure c (same_app (same_app (same_const (same_op t)) s) v))
  same_exchange_of c t n v same_awaited = same_waiting n
  same_exchange_of c t n v (same_holds s) = same_rule (mirrors_grown I J _ _ x y (mirrors_set (mirrors_set B p (same_thread (same_plug c s))) n (same_holds v)))
  same_exchange_of c t n v (same_open q) = same_wrong_kind
  same_exchange_of c t n v same_used = same_wrong_kind

  -- what stands behind two names in the same place
  behind : {n m : ℕ} → Mine k I J n m → (c d : Component) × (at I.config n ≡ some c) × (at J.config m ≡ some d) ×
      SameComponent (Mine k I J) τ σ c d
  behind {n} q =
      let (c, h) = at_below I.config n (let l = at_bound I.owners n q.owned_left in omega (arith, B.sizes_left)) in
      let (d, g, s) = mirrors_at B q c h in (c, d, h, g, s)

  -- F[f v]
  same_meeting_of : {F G : Context} {f g v w : Exp} → SameContext (Mine k I J) τ σ F G →
      Same (Mine k I J) τ σ f g → Same (Mine k I J) τ σ v w → (wf : Value f) (wg : Value g) →
      SameAnswer k τ σ I J x y (step_meeting I.config x F wf v) (step_meeting J.config y G wg w)
  unfolding step_meeting
  same_meeting_of c (same_lam t s) v is_lam is_lam = pure c (same_substitute 0 v s)
  same_meeting_of c (same_name n) v is_name is_name = let (_, _, h, g, s) = behind n in rw (h, g) (same_call_of c n v s)
  same_meeting_of c (same_app (same_const (same_op t)) (same_name n)) v (is_exch is_name) (is_exch is_name) =
      let (_, _, h, g, s) = behind n in rw (h, g) (same_exchange_of c t n v s)
  same_meeting_of c (same_const (same_op {o = thread} t)) v is_const is_const = same_rule (mirrors_grow B p 1 refl
      (same_thread (same_plug (context_more (widen B 1) c) (same_name (first 1 (omega arith)))))
      (alike_cons (same_thread (same_app (same_more (widen B 1) v) (same_name (first 1 (omega arith))))) alike_nil))
  same_meeting_of c (same_const (same_op {o = handle} t)) v is_const is_const = same_rule (mirrors_grow B p 2 refl
      (same_thread (same_plug (context_more (widen B 2) c) (same_app (same_app (same_more (widen B 2) v) (same_name (first 2 (omega arith)))) (same_name (fresh B 2 1 (omega arith))))))
      (alike_cons same_awaited (alike_cons (same_open (first 2 (omega arith))) alike_nil)))
  same_meeting_of c (same_const (same_op {o = cell} t)) v is_const is_const = same_rule (mirrors_grow B p 1 refl
      (same_thread (same_plug (context_more (widen B 1) c) (same_name (first 1 (omega arith))))) (alike_cons (same_holds (same_more (widen B 1) v)) alike_nil))
  same_meeting_of c (same_const (same_op {o = exch} t)) v is_const is_const = same_wrong_kind
  same_meeting_of c (same_const same_unit) v is_const is_const = same_wrong_kind
  same_meeting_of c (same_const same_num) v is_const is_const = same_wrong_kind
  same_meeting_of c (same_app s same_var) v (is_exch u) wg = elim u [ ]
  same_meeting_of c (same_app s (same_case e f)) v (is_exch u) wg = elim u [ ]
  same_meeting_of c (same_app s (same_const d)) v (is_exch is_const) (is_exch is_const) = same_wrong_kind
  same_meeting_of c (same_app s (same_lam t e)) v (is_exch is_lam) (is_exch is_lam) = same_wrong_kind
  same_meeting_of c (same_app s (same_app e f)) v (is_exch (is_exch u)) (is_exch (is_exch u')) = same_wrong_kind
  same_meeting_of c (same_app s (same_both t e f)) v (is_exch (is_both u u')) (is_exch (is_both w w')) = same_wrong_kind
  same_meeting_of c (same_both t e f) v (is_both u u') (is_both w w') = same_wrong_kind
  same_meeting_of c same_var v wf wg = elim wf [ ]
  same_meeting_of c (same_app same_var (same_name n)) v wf wg = elim wf [ ]
  same_meeting_of c (same_app (same_name _) (same_name n)) v wf wg = elim wf [ ]
  same_meeting_of c (same_app (same_const same_unit) (same_name n)) v wf wg = elim wf [ ]
  same_meeting_of c (same_app (same_const same_num) (same_name n)) v wf wg = elim wf [ ]
  same_meeting_of c (same_app (same_lam _ _) (same_name n)) v wf wg = elim wf [ ]
  same_meeting_of c (same_app (same_app _ _) (same_name n)) v wf wg = elim wf [ ]
  same_meeting_of c (same_app (same_both _ _ _) (same_name n)) v wf wg = elim wf [ ]
  same_meeting_of c (same_app (same_case _ _) (same_name n)) v wf wg = elim wf [ ]
  same_meeting_of c (same_case _ _) v wf wg = elim wf [ ]

  -- F[case n of .. ⇒ e]
  same_subject_of : {F G : Context} (s : Shape) {n m : ℕ} {e f : Exp} {c d : Component} → SameContext (Mine k I J) τ σ F G →
      Mine k I J n m → Same (Mine k I J) τ σ e f → SameComponent (Mine k I J) τ σ c d →
      SameAnswer k τ σ I J x y (step_subject I.config x F s n e (some c)) (step_subject J.config y G s m f (some d))
  unfolding step_subject
  same_subject_of s c n e (same_thread w) = same_when_done n (same_meeting w) (pure c (same_case w e))
  same_subject_of s c n e same_awaited = same_waiting n
  same_subject_of s c n e (same_holds w) = same_wrong_kind
  same_subject_of s c n e (same_open q) = same_wrong_kind
  same_subject_of s c n e same_used = same_wrong_kind

  -- F[case v of .. ⇒ e]
  same_case_of : {F G : Context} (s : Shape) {v w e f : Exp} → SameContext (Mine k I J) τ σ F G →
      Same (Mine k I J) τ σ v w → Same (Mine k I J) τ σ e f → (wv : Value v) (ww : Value w) →
      SameAnswer k τ σ I J x y (step_case I.config x F s wv e) (step_case J.config y G s ww f)
  unfolding step_case
  same_case_of pair c (same_both {s = pair} t p q) e (is_both u u') (is_both w w') = pure c (same_substitute_both p q e)
  same_case_of list c (same_both {s = list} t p q) e (is_both u u') (is_both w w') = pure c (same_substitute_both p q e)
  same_case_of pair c (same_both {s = list} t p q) e (is_both u u') (is_both w w') = same_wrong_kind
  same_case_of list c (same_both {s = pair} t p q) e (is_both u u') (is_both w w') = same_wrong_kind
  same_case_of s c (same_name n) e is_name is_name = let (_, _, h, g, d) = behind n in rw (h, g) (same_subject_of s c n e d)
  same_case_of s c (same_const d) e is_const is_const = same_wrong_kind
  same_case_of s c (same_lam t d) e is_lam is_lam = same_wrong_kind
  same_case_of s c (same_app d d') e (is_exch u) (is_exch w) = same_wrong_kind
  same_case_of s c same_var e wv ww = elim wv [ ]
  same_case_of s c (same_case _ _) e wv ww = elim wv [ ]

  same_redex_of : {F G : Context} {r q : Exp} → SameContext (Mine k I J) τ σ F G → Same (Mine k I J) τ σ r q → (d : Redex r) (d' : Redex q) →
      SameAnswer k τ σ I J x y (step_redex I.config x F d) (step_redex J.config y G d')
  unfolding step_redex
  same_redex_of c (same_app f v) (application wf wv) (application wg ww) = same_meeting_of c f v wf wg
  same_redex_of c (same_case {s = s} v e) (subject wv) (subject ww) = same_case_of s c v e wv ww
  same_redex_of c same_var d _ = elim d [ ]
  same_redex_of c (same_name _) d _ = elim d [ ]
  same_redex_of c (same_const _) d' _ = elim d' [ ]
  same_redex_of c (same_lam _ _) d _ = elim d [ ]
  same_redex_of c (same_both _ _ _) d _ = elim d [ ]

  same_place_of : {q q' : Place} → SameMeeting (Mine k I J) τ σ q q' → SameAnswer k τ σ I J x y (step_place I.config x q) (step_place J.config y q')
  unfolding step_place
  same_place_of (same_settled s) = same_done
  same_place_of (same_meet {d = d} {d' = d'} c r) = same_redex_of c r d d'
  same_place_of same_loose = same_wrong_kind

  -- the answer is the same
  pub same_step : SameAnswer k τ σ I J x y (step_of I.config x) (step_of J.config y)
  unfolding step_of
  same_step = let (_, _, h, g, s) = behind p in rw (h, g) (go s)
    where
      go : {c d : Component} → SameComponent (Mine k I J) τ σ c d →
          SameAnswer k τ σ I J x y (on_thread (some c) no_thread (λ e. step_place I.config x (place e))) (on_thread (some d) no_thread (λ e. step_place J.config y (place e)))
      go (same_thread s) = same_place_of (same_meeting s)
      go (same_holds s) = same_no_thread
      go (same_open q) = same_no_thread
      go same_used = same_no_thread
      go same_awaited = same_no_thread
