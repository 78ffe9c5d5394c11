-- That the places of a step are inside the image has one proof at most, so a value can carry it.
use mathlib.Core.Path.{◌≡◌, ap, ap₂, refl, subst, sym, ◌∙◌}
use mathlib.Core.List.{List}
use mathlib.Core.HLevel.{collapsible→set, ×_prop, Unit-prop}
use Prim.Native.Nat.{ℕ, suc, ◌<◌}
use Rattle.std.proofs.Props.{props}
use Rattle.calculus.specs.Syntax.{Exp, var, name, const, lam, app, both, case_of}
use Rattle.calculus.specs.Image.{Closed, closed_var, closed_name, closed_const, closed_lam, closed_app, closed_both, closed_case}
use Rattle.term.specs.Tree.{Tree, leaf, one, two}
use Rattle.term.specs.Reader.{Got}
use Rattle.term_redex.specs.declared.Meeting.{Meeting}
use Rattle.step_rules.specs.declared.Move.{Move}
use Rattle.step_rules.specs.declared.Move.TheVariants.{Beta, ThreadNew, FutureDeref, HandleNew, HandleBind, CellNew, CellExch, CasePair, CaseList}
use Rattle.step_rules.specs.declared.Step.{Step}
use Rattle.step_rules.specs.Stepped.{Has, Movable}

-- two trees are the same, node by node
abbrev Same : Tree → Tree → Type 0
Same (leaf a b) (leaf c d) = (a ≡ c) × (b ≡ d)
Same (one a b t) (one c d u) = (a ≡ c) × ((b ≡ d) × Same t u)
Same (two a b t v) (two c d u w) = (a ≡ c) × ((b ≡ d) × (Same t u × Same v w))
Same _ _ = ⊥

same_prop : (t u : Tree) → IsProp (Same t u)
same_prop (leaf a b) (leaf c d) = hlevel props
same_prop (leaf a b) (one c d u) = hlevel
same_prop (leaf a b) (two c d u w) = hlevel
same_prop (one a b t) (leaf c d) = hlevel
same_prop (one a b t) (one c d u) = hlevel (same_prop t u, props)
same_prop (one a b t) (two c d u w) = hlevel
same_prop (two a b t v) (leaf c d) = hlevel
same_prop (two a b t v) (one c d u) = hlevel
same_prop (two a b t v) (two c d u w) = hlevel (same_prop t u, same_prop v w, props)

itself : (t : Tree) → Same t t
itself (leaf a b) = (refl, refl)
itself (one a b t) = (refl, (refl, itself t))
itself (two a b t v) = (refl, (refl, (itself t, itself v)))

one_tree : (t u : Tree) → Same t u → t ≡ u
one_tree (leaf a b) (leaf c d) (p, q) = ap₂ leaf p q
one_tree (leaf a b) (one c d u) x = elim x [ ]
one_tree (leaf a b) (two c d u w) x = elim x [ ]
one_tree (one a b t) (leaf c d) x = elim x [ ]
one_tree (one a b t) (one c d u) (p, (q, r)) = rw (p, q, one_tree t u r) refl
one_tree (one a b t) (two c d u w) x = elim x [ ]
one_tree (two a b t v) (leaf c d) x = elim x [ ]
one_tree (two a b t v) (one c d u) x = elim x [ ]
one_tree (two a b t v) (two c d u w) (p, (q, (r, s))) = rw (p, q, one_tree t u r, one_tree v w s) refl

tree_set : IsSet Tree
tree_set = collapsible→set (λ t u p. one_tree t u (subst (Same t) p (itself t))) (λ t u p q. ap (one_tree t u) (same_prop t u _ _))

-- what was read is one thing or another, so an equation between two has one proof
got_set : IsSet Got
got_set = hlevel (tree_set, props)

-- an expression is closed, told by the expression
abbrev Bound : ℕ → Exp → Type 0
Bound depth (var i) = i < depth
Bound depth (name k) = Unit {0}
Bound depth (const c) = Unit {0}
Bound depth (lam t e) = Bound (suc depth) e
Bound depth (app f a) = Bound depth f × Bound depth a
Bound depth (both s t e₁ e₂) = Bound depth e₁ × Bound depth e₂
Bound depth (case_of s e₁ e₂) = Bound depth e₁ × Bound (suc (suc depth)) e₂

bound_prop : (depth : ℕ) (e : Exp) → IsProp (Bound depth e)
bound_prop depth (var i) = hlevel props
bound_prop depth (name k) = Unit-prop
bound_prop depth (const c) = Unit-prop
bound_prop depth (lam t e) = bound_prop (suc depth) e
bound_prop depth (app f a) = ×_prop (bound_prop depth f) (bound_prop depth a)
bound_prop depth (both s t e₁ e₂) = ×_prop (bound_prop depth e₁) (bound_prop depth e₂)
bound_prop depth (case_of s e₁ e₂) = ×_prop (bound_prop depth e₁) (bound_prop (suc (suc depth)) e₂)

bound : {depth : ℕ} {e : Exp} → Closed depth e → Bound depth e
bound (closed_var l) = l
bound closed_name = tt
bound closed_const = tt
bound (closed_lam c) = bound c
bound (closed_app c d) = (bound c, bound d)
bound (closed_both c d) = (bound c, bound d)
bound (closed_case c d) = (bound c, bound d)

closed : (depth : ℕ) (e : Exp) → Bound depth e → Closed depth e
closed depth (var i) l = closed_var l
closed depth (name k) _ = closed_name
closed depth (const c) _ = closed_const
closed depth (lam t e) b = closed_lam (closed (suc depth) e b)
closed depth (app f a) (b, c) = closed_app (closed depth f b) (closed depth a c)
closed depth (both s t e₁ e₂) (b, c) = closed_both (closed depth e₁ b) (closed depth e₂ c)
closed depth (case_of s e₁ e₂) (b, c) = closed_case (closed depth e₁ b) (closed (suc (suc depth)) e₂ c)

closed_bound : {depth : ℕ} {e : Exp} (c : Closed depth e) → closed depth e (bound c) ≡ c
unfolding closed bound
closed_bound (closed_var l) = refl
closed_bound closed_name = refl
closed_bound closed_const = refl
closed_bound (closed_lam c) = ap closed_lam (closed_bound c)
closed_bound (closed_app c d) = ap₂ closed_app (closed_bound c) (closed_bound d)
closed_bound (closed_both c d) = ap₂ closed_both (closed_bound c) (closed_bound d)
closed_bound (closed_case c d) = ap₂ closed_case (closed_bound c) (closed_bound d)

closed_prop : (depth : ℕ) (e : Exp) → IsProp (Closed depth e)
closed_prop depth e c d = sym (closed_bound c) ∙ ap (closed depth e) (bound_prop depth e (bound c) (bound d)) ∙ closed_bound d

-- what a move has, and all that a writer needs of a step
has_prop : (s : List ℕ) (m : Meeting) (by : Move) → IsProp (Has s m by)
has_prop s m Beta = hlevel (got_set, closed_prop, props)
has_prop s m ThreadNew = Unit-prop
has_prop s m (FutureDeref from to) = hlevel (got_set, props)
has_prop s m HandleNew = Unit-prop
has_prop s m (HandleBind handle future) = Unit-prop
has_prop s m CellNew = Unit-prop
has_prop s m (CellExch cell from to) = hlevel (got_set, props)
has_prop s m (CasePair rest) = hlevel (got_set, closed_prop, props)
has_prop s m (CaseList rest) = hlevel (got_set, closed_prop, props)

pub movable_prop : (s : List ℕ) (step : Step) → IsProp (Movable s step)
movable_prop s step = hlevel (has_prop, got_set, props)
