-- Expressions that are the same but for the numbers of names and types: substitution, contexts, nodes, the place where two values meet.
use Rattle.std.specs.Prelude.{◌≡◌, Bool, cond, eqb}
use Rattle.std.proofs.Math.Path.{ap, refl}
use Rattle.std.proofs.Math.Bool.{false, true}
use Prim.Native.Nat.{suc, ℕ}
use Rattle.std.proofs.Common.{arith}
use Rattle.calculus.specs.Syntax.{cell, exch, thread, handle, Shape, Exp, var, Value, is_name, is_const, is_lam, is_exch, is_both, Component, Config, sum_in, sum_all}
use Rattle.calculus.specs.Typing.{TypeNumbers}
use Rattle.calculus.specs.Reduction.{substitute, substitute_both, Context, hole, in_function, in_argument, in_first, in_second, in_subject, plug}
use Rattle.calculus.specs.Step.{Redex, Place, settled, meet, loose, beside, within, place}
use Rattle.calculus.specs.Names.{count}
use Rattle.calculus.specs.Image.{nodes, nodes_all}
use Rattle.calculus.proofs.Theory.Tests.{eqb_differ}
use Rattle.bays_apart.specs.Same.{Names, same_unit, same_num, same_op, Same, same_var, same_name, same_const, same_lam, same_app, same_both, same_case, SameComponent, same_thread, same_holds, same_open, same_used, same_awaited, Alike, alike_nil, alike_cons}

-- where more names count as the same
module _ {N M : Names} {τ σ : TypeNumbers} (f : (n m : ℕ) → N n m → M n m) where
  pub same_more : {e g : Exp} → Same N τ σ e g → Same M τ σ e g
  same_more same_var = same_var
  same_more (same_name p) = same_name (f _ _ p)
  same_more (same_const c) = same_const c
  same_more (same_lam t s) = same_lam t (same_more s)
  same_more (same_app s u) = same_app (same_more s) (same_more u)
  same_more (same_both t s u) = same_both t (same_more s) (same_more u)
  same_more (same_case s u) = same_case (same_more s) (same_more u)

  pub component_more : (c d : Component) → SameComponent N τ σ c d → SameComponent M τ σ c d
  component_more c d (same_thread s) = same_thread (same_more s)
  component_more c d (same_holds s) = same_holds (same_more s)
  component_more c d (same_open p) = same_open (f _ _ p)
  component_more c d same_used = same_used
  component_more c d same_awaited = same_awaited

module _ {N : Names} {τ σ : TypeNumbers} where
  -- e[v/x]
  pub same_substitute : (depth : ℕ) {v w e f : Exp} → Same N τ σ v w → Same N τ σ e f → Same N τ σ (substitute depth v e) (substitute depth w f)
  unfolding substitute
  same_substitute depth {v} {w} p (same_var {i = i}) = go (eqb i depth)
    where
      go : (b : Bool) → Same N τ σ (cond b v (var i)) (cond b w (var i))
      go true = p
      go false = same_var
  same_substitute depth p (same_name n) = same_name n
  same_substitute depth p (same_const c) = same_const c
  same_substitute depth p (same_lam t s) = same_lam t (same_substitute (suc depth) p s)
  same_substitute depth p (same_app s u) = same_app (same_substitute depth p s) (same_substitute depth p u)
  same_substitute depth p (same_both t s u) = same_both t (same_substitute depth p s) (same_substitute depth p u)
  same_substitute depth p (same_case s u) = same_case (same_substitute depth p s) (same_substitute (suc (suc depth)) p u)

  -- e[v₁/x][v₂/y]
  pub same_substitute_both : {v₁ w₁ v₂ w₂ e f : Exp} → Same N τ σ v₁ w₁ → Same N τ σ v₂ w₂ → Same N τ σ e f → Same N τ σ (substitute_both v₁ v₂ e) (substitute_both w₁ w₂ f)
  same_substitute_both p q s = same_substitute 0 q (same_substitute 1 p s)

  -- nodes
  pub same_nodes : {e f : Exp} → Same N τ σ e f → nodes e ≡ nodes f
  unfolding nodes
  same_nodes same_var = refl
  same_nodes (same_name n) = refl
  same_nodes (same_const c) = refl
  same_nodes (same_lam t s) = ap suc (same_nodes s)
  same_nodes (same_app s u) = omega (arith, same_nodes s, same_nodes u)
  same_nodes (same_both t s u) = omega (arith, same_nodes s, same_nodes u)
  same_nodes (same_case s u) = omega (arith, same_nodes s, same_nodes u)

  component_nodes : {c d : Component} → SameComponent N τ σ c d → sum_in nodes c ≡ sum_in nodes d
  unfolding sum_in
  component_nodes (same_thread s) = same_nodes s
  component_nodes (same_holds s) = same_nodes s
  component_nodes (same_open p) = refl
  component_nodes same_used = refl
  component_nodes same_awaited = refl

  pub alike_nodes : {C D : Config} → Alike (SameComponent N τ σ) C D → nodes_all C ≡ nodes_all D
  unfolding sum_all
  alike_nodes alike_nil = refl
  alike_nodes (alike_cons r s) = omega (arith, component_nodes r, alike_nodes s)

-- a name that does not count as the same as any does not stand there
module _ {N : Names} {τ σ : TypeNumbers} (n : ℕ) (h : (m : ℕ) → ¬ N n m) where
  absent : {e f : Exp} → Same N τ σ e f → count n e ≡ 0
  unfolding count
  absent same_var = refl
  absent (same_name {n = i} {m = m} p) = rw (eqb_differ i n (λ q. h m (rw q at p)))
  absent (same_const c) = refl
  absent (same_lam t s) = absent s
  absent (same_app s u) = omega (arith, absent s, absent u)
  absent (same_both t s u) = omega (arith, absent s, absent u)
  absent (same_case s u) = omega (arith, absent s, absent u)

  pub component_absent : {c d : Component} → SameComponent N τ σ c d → sum_in (count n) c ≡ 0
  unfolding sum_in
  component_absent (same_thread s) = absent s
  component_absent (same_holds s) = absent s
  component_absent (same_open p) = refl
  component_absent same_used = refl
  component_absent same_awaited = refl

-- contexts that are the same
pub data SameContext (N : Names) (τ σ : TypeNumbers) : Context → Context → Type 0 where
  same_hole : SameContext N τ σ hole hole
  same_in_function : {F G : Context} {a b : Exp} → SameContext N τ σ F G → Same N τ σ a b → SameContext N τ σ (in_function F a) (in_function G b)
  same_in_argument : {F G : Context} {v w : Exp} {wv : Value v} {ww : Value w} → Same N τ σ v w → SameContext N τ σ F G →
      SameContext N τ σ (in_argument v wv F) (in_argument w ww G)
  same_in_first : {s : Shape} {t u : ℕ} {F G : Context} {a b : Exp} → τ t ≡ σ u → SameContext N τ σ F G → Same N τ σ a b →
      SameContext N τ σ (in_first s t F a) (in_first s u G b)
  same_in_second : {s : Shape} {t u : ℕ} {F G : Context} {v w : Exp} {wv : Value v} {ww : Value w} → τ t ≡ σ u → Same N τ σ v w → SameContext N τ σ F G →
      SameContext N τ σ (in_second s t v wv F) (in_second s u w ww G)
  same_in_subject : {s : Shape} {F G : Context} {a b : Exp} → SameContext N τ σ F G → Same N τ σ a b → SameContext N τ σ (in_subject s F a) (in_subject s G b)

pub context_more : {N M : Names} {τ σ : TypeNumbers} → ((n m : ℕ) → N n m → M n m) → {F G : Context} → SameContext N τ σ F G → SameContext M τ σ F G
context_more f same_hole = same_hole
context_more f (same_in_function c a) = same_in_function (context_more f c) (same_more f a)
context_more f (same_in_argument v c) = same_in_argument (same_more f v) (context_more f c)
context_more f (same_in_first t c a) = same_in_first t (context_more f c) (same_more f a)
context_more f (same_in_second t v c) = same_in_second t (same_more f v) (context_more f c)
context_more f (same_in_subject c a) = same_in_subject (context_more f c) (same_more f a)

-- places where values meet that are the same
pub data SameMeeting (N : Names) (τ σ : TypeNumbers) : Place → Place → Type 0 where
  same_settled : {v w : Exp} {wv : Value v} {ww : Value w} → Same N τ σ v w → SameMeeting N τ σ (settled v wv) (settled w ww)
  same_meet : {F G : Context} {r q : Exp} {d : Redex r} {d' : Redex q} → SameContext N τ σ F G → Same N τ σ r q → SameMeeting N τ σ (meet F r d) (meet G q d')
  same_loose : SameMeeting N τ σ loose loose

module _ {N : Names} {τ σ : TypeNumbers} where
  pub same_plug : {F G : Context} {e f : Exp} → SameContext N τ σ F G → Same N τ σ e f → Same N τ σ (plug F e) (plug G f)
  unfolding plug
  same_plug same_hole s = s
  same_plug (same_in_function c a) s = same_app (same_plug c s) a
  same_plug (same_in_argument v c) s = same_app v (same_plug c s)
  same_plug (same_in_first t c a) s = same_both t (same_plug c s) a
  same_plug (same_in_second t v c) s = same_both t v (same_plug c s)
  same_plug (same_in_subject c a) s = same_case (same_plug c s) a

  same_beside : {f g v w : Exp} → Same N τ σ f g → Same N τ σ v w → (wf : Value f) (wg : Value g) (wv : Value v) (ww : Value w) →
      SameMeeting N τ σ (beside f v wf wv) (beside g w wg ww)
  unfolding beside
  same_beside (same_const (same_op {o = exch} t)) s is_const is_const wv ww = same_settled (same_app (same_const (same_op t)) s)
  same_beside (same_const (same_op {o = cell} t)) s is_const is_const wv ww = same_meet same_hole (same_app (same_const (same_op t)) s)
  same_beside (same_const (same_op {o = thread} t)) s is_const is_const wv ww = same_meet same_hole (same_app (same_const (same_op t)) s)
  same_beside (same_const (same_op {o = handle} t)) s is_const is_const wv ww = same_meet same_hole (same_app (same_const (same_op t)) s)
  same_beside (same_const same_unit) s is_const is_const wv ww = same_meet same_hole (same_app (same_const same_unit) s)
  same_beside (same_const same_num) s is_const is_const wv ww = same_meet same_hole (same_app (same_const same_num) s)
  same_beside (same_name p) s is_name is_name wv ww = same_meet same_hole (same_app (same_name p) s)
  same_beside (same_lam t e) s is_lam is_lam wv ww = same_meet same_hole (same_app (same_lam t e) s)
  same_beside (same_app (same_const (same_op t)) e) s (is_exch u) (is_exch u') wv ww = same_meet same_hole (same_app (same_app (same_const (same_op t)) e) s)
  same_beside (same_both t e f) s (is_both u u') (is_both x x') wv ww = same_meet same_hole (same_app (same_both t e f) s)
  same_beside same_var s wf wg wv ww = elim wf [ ]
  same_beside (same_app same_var e) s wf wg wv ww = elim wf [ ]
  same_beside (same_app (same_name _) e) s wf wg wv ww = elim wf [ ]
  same_beside (same_app (same_const same_unit) e) s wf wg wv ww = elim wf [ ]
  same_beside (same_app (same_const same_num) e) s wf wg wv ww = elim wf [ ]
  same_beside (same_app (same_lam _ _) e) s wf wg wv ww = elim wf [ ]
  same_beside (same_app (same_app _ _) e) s wf wg wv ww = elim wf [ ]
  same_beside (same_app (same_both _ _ _) e) s wf wg wv ww = elim wf [ ]
  same_beside (same_app (same_case _ _) e) s wf wg wv ww = elim wf [ ]
  same_beside (same_case _ _) s wf wg wv ww = elim wf [ ]

  -- a part of an expression, by its place
  same_within : {frame frame' : Context → Context} {p p' : Place} {right right' : (v : Exp) → Value v → Place} →
      ((F G : Context) → SameContext N τ σ F G → SameContext N τ σ (frame F) (frame' G)) → SameMeeting N τ σ p p' →
      ((v w : Exp) (wv : Value v) (ww : Value w) → Same N τ σ v w → SameMeeting N τ σ (right v wv) (right' w ww)) →
      SameMeeting N τ σ (within frame p right) (within frame' p' right')
  unfolding within
  same_within c (same_settled {wv = wv} {ww = ww} s) k = k _ _ wv ww s
  same_within c (same_meet d s) k = same_meet (c _ _ d) s
  same_within c same_loose k = same_loose

  -- the place where two values meet is the same
  pub same_meeting : {e f : Exp} → Same N τ σ e f → SameMeeting N τ σ (place e) (place f)
  unfolding place
  same_meeting same_var = same_loose
  same_meeting (same_name n) = same_settled (same_name n)
  same_meeting (same_const c) = same_settled (same_const c)
  same_meeting (same_lam t s) = same_settled (same_lam t s)
  same_meeting (same_app s u) = same_within (λ F G c. same_in_function c u) (same_meeting s) λ v w wv ww p. same_within (λ F G c. same_in_argument p c) (same_meeting u) λ v' w' wv' ww' q. same_beside p q wv ww wv' ww'
  same_meeting (same_both t s u) = same_within (λ F G c. same_in_first t c u) (same_meeting s) λ v w wv ww p. same_within (λ F G c. same_in_second t p c) (same_meeting u) λ v' w' wv' ww' q. same_settled (same_both t p q)
  same_meeting (same_case s u) = same_within (λ F G c. same_in_subject c u) (same_meeting s) λ v w wv ww p. same_meet same_hole (same_case p u)
