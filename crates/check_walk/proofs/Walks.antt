-- What the walk leaves of the marks, node form by node form.
use mathlib.Core.Path.{◌≡◌, refl, sym, ◌∙◌}
use mathlib.Core.Bool.{Bool, ◌&&◌, and-false, false, false≢true, not, true}
use mathlib.Core.Option.{some}
use mathlib.Core.List.{List, ◌∷◌}
use Prim.Native.Nat.{◌+◌, ◌<◌, ◌≤◌, suc, zero, ℕ}
use native.Mathlib.Nat.{add-zero}
use lib.Dec.{eqb, T}
use lib.ListN.{drop, get_or, length, set}
use Rattle.std.proofs.Math.ListN.{get_or-map}
use Rattle.calculus.specs.Syntax.{app, at as entry_at, both, case_of, const, Exp, lam, list, name, pair, Shape, unit, var}
use Rattle.calculus.specs.Table.{Entry, Table}
use Rattle.calculus.specs.Verdict.{is_function_kind, is_kind_of, second_number, type_number}
use Rattle.calculus.proofs.Theory.Tests.{eqb_complete, eqb_sound}
use Rattle.term.specs.declared.Node.{Node}
use Rattle.term.specs.Forms.{is_case_tag, variable_tag}
use Rattle.term.specs.Expressions.{both_tag, case_tag, leaf_exp, leaf_forms, term_at, two_exp, two_forms}
use Rattle.term.proofs.Leaves.{leaf_variable}
use Rattle.term.proofs.Table.{every_at}
use Rattle.term.proofs.Views.{OneAt}
use Rattle.check_linearity.specs.Spend.{due_mark, new_mark}
use Rattle.check_linearity.specs.Levels.{floor_under, LinearWalk}
use Rattle.check_linearity.proofs.Theory.Components.{Components, components}
use Rattle.check_linearity.proofs.Theory.Walks.{walked_application, walked_body, walked_both, walked_case, walked_case_body, walked_const, walked_first, walked_first_unused, walked_function, walked_lambda, walked_name, walked_second_unused, walked_subject, walked_unused}
use Rattle.check_types.specs.Entries.{entry_of}
use Rattle.check_types.specs.Two.{can_open, deciding, is_both_tag, is_list_tag, opened, scope_inside, second_component, shape_of}
use Rattle.check_types.proofs.Entries.{entry_there}
use Rattle.check_types.proofs.TwoNodes.{a_both, a_case, an_application, TwoNode}
use Rattle.check_walk.specs.declared.Mark.{Mark}
use Rattle.check_walk.specs.declared.Mark.TheVariants.{Many}
use Rattle.check_walk.specs.Marks.{number_of, numbers}
use Rattle.check_walk.specs.Walk.{all_used, LeafSpent, Opened}

not_due : {mark : ℕ} → eqb mark due_mark ≡ false → ¬ (mark ≡ due_mark)
not_due e z = false≢true (sym e ∙ eqb_complete _ _ z)

-- a node with no subterm that is no variable leaves the marks as they are
abbrev is_still : Exp → Bool
is_still (var i) = false
is_still (name k) = true
is_still (const c) = true
is_still (lam t e) = false
is_still (app f a) = false
is_still (both s t e₁ e₂) = false
is_still (case_of s e₁ e₂) = false

leaf_still : (tag arg : ℕ) → ¬ (tag ≡ variable_tag) → T (is_still (leaf_exp tag arg))
unfolding leaf_exp leaf_forms
leaf_still zero arg n = absurd (n refl)
leaf_still (suc tag) arg n = every_at is_still (drop 1 (leaf_forms arg)) (const unit) tt tt tag

pub still_leaf : (tag arg : ℕ) {above floor : ℕ} {marks : List ℕ} → ¬ (tag ≡ variable_tag) → LeafSpent tag arg above floor marks marks true
still_leaf tag arg {above} {floor} {marks} n = record { walked = λ types Δ. go types Δ (leaf_exp tag arg) (leaf_still tag arg n); same = refl }
  where
    go : (types : Table) (Δ : List ℕ) (e : Exp) → T (is_still e) → LinearWalk types Δ floor above marks e true marks
    go types Δ (var i) t = absurd t
    go types Δ (name k) t = walked_name k
    go types Δ (const c) t = walked_const c
    go types Δ (lam t e) x = absurd x
    go types Δ (app f a) t = absurd t
    go types Δ (both s t e₁ e₂) x = absurd x
    go types Δ (case_of s e₁ e₂) x = absurd x

pub variable_leaf : (tag arg : ℕ) {above floor : ℕ} {marks marks' : List ℕ} {k : Bool} → tag ≡ variable_tag → ((T : Table) (Δ : List ℕ) → LinearWalk T Δ floor above marks (var arg) k marks') →
    length marks' ≡ length marks → LeafSpent tag arg above floor marks marks' k
variable_leaf tag arg z w same = record { walked = λ T Δ. rw (leaf_variable tag arg z) (w T Δ); same = same }

-- a lambda of which the body was walked: the body breaks the rule, or it leaves its once-variable unused, or neither
module _ {T : Table} {Δ s : List ℕ} {at above floor : ℕ} {marks marks₁ : List ℕ} {h : Node} where
  pub lambda_spent : (k : Bool) (x : Entry) → OneAt s at h → entry_at T h.arg ≡ some x → is_function_kind x.kind ≡ true → floor ≤ above → above < length marks →
      LinearWalk T (x.p ∷ Δ) (floor_under x.kind floor above) (above + 1) (set marks above (new_mark T x.p)) (term_at s (at + h.size)) k marks₁ →
      LinearWalk T Δ floor above marks (term_at s at) (k && not (eqb (get_or marks₁ above 0) due_mark)) marks₁
  lambda_spent false x o g f low room w = rw o.term (walked_body h.arg x g f low room w)
  lambda_spent true x o g f low room w = rw o.term (go (eqb (get_or marks₁ above 0) due_mark) refl)
    where
      go : (b : Bool) → eqb (get_or marks₁ above 0) due_mark ≡ b → LinearWalk T Δ floor above marks (lam h.arg (term_at s (at + h.size))) (not b) marks₁
      go true e = walked_unused h.arg x g f low room w (eqb_sound _ _ e)
      go false e = walked_lambda h.arg x g f low room w (not_due e)

-- a case of which the subject keeps the rule: its body breaks it, or leaves one of its once-variables unused, or neither
module _ {T : Table} {Δ : List ℕ} {floor above : ℕ} {marks marks₁ marks₂ : List ℕ} {e f : Exp} {p q : ℕ} (s : Shape) (c : Components T s (type_number T Δ e) p q)
    (low : floor ≤ above) (room : above + 1 < length marks₁) (w : LinearWalk T Δ floor above marks e true marks₁) where
  case_spent : (k : Bool) → LinearWalk T (q ∷ p ∷ Δ) floor (above + 2) (set (set marks₁ above (new_mark T p)) (above + 1) (new_mark T q)) f k marks₂ →
      LinearWalk T Δ floor above marks (case_of s e f) ((not (eqb (get_or marks₂ above 0) due_mark) && not (eqb (get_or marks₂ (above + 1) 0) due_mark)) && k) marks₂
  case_spent false v = rw (and-false (not (eqb (get_or marks₂ above 0) due_mark) && not (eqb (get_or marks₂ (above + 1) 0) due_mark))) (walked_case_body s c low room w v)
  case_spent true v = go (eqb (get_or marks₂ above 0) due_mark) refl (eqb (get_or marks₂ (above + 1) 0) due_mark) refl
    where
      go : (a : Bool) → eqb (get_or marks₂ above 0) due_mark ≡ a → (b : Bool) → eqb (get_or marks₂ (above + 1) 0) due_mark ≡ b →
          LinearWalk T Δ floor above marks (case_of s e f) ((not a && not b) && true) marks₂
      go true d b d' = walked_first_unused s c low room w v (eqb_sound _ _ d)
      go false d true d' = walked_second_unused s c low room w v (eqb_sound _ _ d')
      go false d false d' = walked_case s c low room w v (not_due d') (not_due d)

-- the scope of a second subterm: no variable more, or a case's two
pub opened_none : {T : Table} {binders above : ℕ} (p q : ℕ) {env marks : List ℕ} → binders ≡ 0 → Opened T binders p q above env env marks marks above
unfolding opened
opened_none {above = above} p q e = record { types = rw e; due = rw e; level = rw (e, add-zero above) }

pub opened_both : {T : Table} (binders : ℕ) {p q above x y : ℕ} {env marks : List ℕ} → ¬ (binders ≡ 0) → x ≡ new_mark T p → y ≡ new_mark T q →
    Opened T binders p q above env (set (set env above p) (above + 1) q) marks (set (set marks above x) (above + 1) y) (above + binders)
unfolding opened
opened_both zero n first second = absurd (n refl)
opened_both (suc binders) n first second = record { types = refl; due = rw (first, second); level = refl }

-- whether these are used
pub both_used : (binders : ℕ) (marks : List Mark) (above : ℕ) {x y : Bool} → ¬ (binders ≡ 0) → x ≡ not (eqb (number_of (get_or marks above Many)) due_mark) →
    y ≡ not (eqb (number_of (get_or marks (above + 1) Many)) due_mark) → (x && y) ≡ all_used binders (numbers marks) above
unfolding all_used
both_used zero marks above n first second = absurd (n refl)
both_used (suc binders) marks above n first second = rw (first, second, get_or-map number_of marks above Many, get_or-map number_of marks (above + 1) Many)

-- an unused entry is neither pair nor list
unit_kind : (s : Shape) → is_kind_of s 0 ≡ false
unit_kind pair = refl
unit_kind list = refl

-- the components of a case's subject, whose type has number t
parted : (T : Table) (Δ : List ℕ) (e : Exp) (n t : ℕ) (x : Entry) (s : Shape) → type_number T Δ e ≡ some n → x ≡ entry_of T t → is_kind_of s x.kind ≡ true → t ≡ n →
    Components T s (type_number T Δ e) x.p (second_number s t x.q)
parted T Δ e n t x s first is k d = rw (first, ← d) (components t x (entry_there T t x (is_kind_of s) (unit_kind s) is k) k)

-- a node with two subterms: the first breaks the rule, or the second decides
module _ {T : Table} {Δ : List ℕ} {floor above : ℕ} {marks marks₁ marks₂ : List ℕ} {e f : Exp} (arg n t : ℕ) (x : Entry)
    (first : type_number T Δ e ≡ some n) (is : x ≡ entry_of T t) (low : floor ≤ above) (room : above + 1 < length marks₁) where
  pub two_spent : {tag binders : ℕ} → TwoNode tag binders → t ≡ deciding tag arg n → can_open tag x.kind ≡ true → (k k₂ : Bool) →
      LinearWalk T Δ floor above marks e k marks₁ →
      LinearWalk T (scope_inside binders x.p (second_component tag t x.q) Δ) floor (above + binders)
      (opened binders marks₁ above (new_mark T x.p) (new_mark T (second_component tag t x.q))) f k₂ marks₂ →
      LinearWalk T Δ floor above marks (two_exp tag arg e f) ((k && all_used binders marks₂ above) && k₂) marks₂
  unfolding two_exp two_forms both_tag case_tag all_used opened scope_inside can_open deciding is_case_tag is_both_tag is_list_tag shape_of
  two_spent an_application d c false k₂ w v = walked_function f w
  two_spent (a_both pair) d c false k₂ w v = walked_first pair arg f w
  two_spent (a_both list) d c false k₂ w v = walked_first list arg f w
  two_spent (a_case pair) d c false k₂ w v = walked_subject pair f w
  two_spent (a_case list) d c false k₂ w v = walked_subject list f w
  two_spent an_application d c true k₂ w v = walked_application w (rw (add-zero above) at v)
  two_spent (a_both pair) d c true k₂ w v = walked_both pair arg w (rw (add-zero above) at v)
  two_spent (a_both list) d c true k₂ w v = walked_both list arg w (rw (add-zero above) at v)
  two_spent (a_case pair) d c true k₂ w v = case_spent pair (parted T Δ e n t x pair first is c d) low room w k₂ v
  two_spent (a_case list) d c true k₂ w v = case_spent list (parted T Δ e n t x list first is c d) low room w k₂ v
