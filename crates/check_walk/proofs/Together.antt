-- Types and uses together: what the walk answers of a term from what it answers of the subterms.
use mathlib.Core.Path.{◌≡◌, ap, refl, sym, ◌∙◌}
use mathlib.Core.Bool.{◌&&◌, Bool, cond, false, not, true}
use mathlib.Core.Option.{Option, none, some}
use mathlib.Core.List.{List, ◌∷◌}
use Prim.Native.Nat.{◌+◌, ◌<◌, ◌≤◌, suc, ℕ}
use native.Mathlib.Numerals.{add-one}
use lib.Dec.{eqb}
use lib.ListN.{get_or, length, length-set, set}
use Rattle.calculus.specs.Table as calculus
use Rattle.calculus.specs.Verdict.{is_function_kind, lambda_number, on_number}
use Rattle.calculus.proofs.Theory.Tests.{clash}
use Rattle.term.specs.declared.Node.{Node}
use Rattle.term.specs.Expressions.{leaf_exp}
use Rattle.term.proofs.Views.{LeafAt, OneAt, past_first, TwoAt}
use Rattle.recipe_table.specs.declared.Entry.{Entry}
use Rattle.recipe_table.specs.Filled.{as_entry}
use Rattle.check_linearity.specs.Spend.{due_mark, new_mark}
use Rattle.check_linearity.specs.Levels.{floor_under}
use Rattle.check_linearity.proofs.Theory.Walks.{walked_whole as walk_decides}
use Rattle.std.proofs.Common.{None, Some}
use Rattle.check_types.specs.Entries.{entry_of}
use Rattle.check_types.specs.Two.{can_open, deciding, opened, scope_inside, second_component, two_number}
use Rattle.check_types.specs.Walk.{environment, has, HasNumber, typed_at, typed}
use Rattle.check_types.proofs.Entries.{entry_there}
use Rattle.check_types.proofs.Environments.{environment_more}
use Rattle.check_types.proofs.TwoNodes.{environment_inside, environment_outside, length_opened, TwoNode}
use Rattle.check_types.proofs.Walks.{first_number_is, leaf_type, one_nothing, one_type, second_at, two_closed, two_nothing, two_nothing_second, two_type}
use Rattle.check_walk.specs.Walk.{all_used, Answer, Decides, lambda_answer, Left, LeafSpent, Opened, two_answer, types_in, walked, WalkedAt, with_uses}
use Rattle.check_walk.proofs.Walks.{lambda_spent, two_spent}

-- a lambda that has a type has a function's entry
is_function : (x : calculus.Entry) (t : ℕ) (body : ℕ → Option ℕ) (n : ℕ) → lambda_number t (some x) body ≡ some n → is_function_kind x.kind ≡ true
unfolding lambda_number
is_function x t body n e = go (is_function_kind x.kind) e
  where
    go : (b : Bool) → cond (b && on_number (body x.p) (λ q. eqb q x.q)) (some t) none ≡ some n → b ≡ true
    go true e = refl
    go false e = absurd (clash (cc))

-- answers are equal with their parts
kept_in : Answer → Bool
kept_in None = false
kept_in (Some x) = x.kept

same_kept : {n m end end' : ℕ} {j k : Bool} → walked n end j ≡ walked m end' k → j ≡ k
unfolding kept_in
same_kept e = ap kept_in e

module _ {T : calculus.Table} {s : List ℕ} {at above floor : ℕ} {env marks : List ℕ} where
  nothing_at : {env' marks' : List ℕ} → None ≡ typed_at T (environment above env) s at → WalkedAt T s at above floor env env' marks marks' None
  unfolding types_in
  nothing_at e = record { types = e; left = λ n end kept q. absurd (clash (cc)) }

  has_at : {env' marks' : List ℕ} {n end : ℕ} {k : Bool} → has n end ≡ typed_at T (environment above env) s at →
      Left T s at above floor env env' marks marks' k → WalkedAt T s at above floor env env' marks marks' (walked n end k)
  unfolding types_in
  has_at {k = k} e l = record { types = e; left = λ m last kept q. let w : kept ≡ k = sym (same_kept q) in rw w l }

  -- a type that was found, with its uses
  found_at : {env' marks' : List ℕ} (o : Option ℕ) (end : ℕ) (k : Bool) → typed o end ≡ typed_at T (environment above env) s at →
      ((n : ℕ) → o ≡ some n → Left T s at above floor env env' marks marks' k) → WalkedAt T s at above floor env env' marks marks' (with_uses (typed o end) k)
  unfolding with_uses typed
  found_at none end k e l = nothing_at e
  found_at (some n) end k e l = has_at e (l n refl)

-- what a sub-walk answers
type_of : {T : calculus.Table} {s : List ℕ} {at above floor : ℕ} {env env' marks marks' : List ℕ} {r : Answer} {n end : ℕ} {k : Bool} →
    WalkedAt T s at above floor env env' marks marks' r → r ≡ walked n end k → has n end ≡ typed_at T (environment above env) s at
unfolding types_in
type_of w e = sym (ap types_in e) ∙ w.types

none_of : {T : calculus.Table} {s : List ℕ} {at above floor : ℕ} {env env' marks marks' : List ℕ} {r : Answer} →
    WalkedAt T s at above floor env env' marks marks' r → r ≡ None → None ≡ typed_at T (environment above env) s at
unfolding types_in
none_of w e = sym (ap types_in e) ∙ w.types

module _ (T : calculus.Table) (s : List ℕ) (at above floor : ℕ) (env marks : List ℕ) (h : Node) where
  pub walked_leaf : {marks' : List ℕ} {n : ℕ} {k : Bool} → LeafAt s at h → HasNumber (environment above env) (leaf_exp h.tag h.arg) n →
      LeafSpent h.tag h.arg above floor marks marks' k → WalkedAt T s at above floor env env marks marks' (walked n (at + h.size) k)
  walked_leaf {n = n} l t w = has_at (leaf_type T (environment above env) s at h l n t) (record { spent = rw l.term (w.walked T (environment above env)); same = w.same; around = refl; wide = refl })

  -- a lambda whose type has this entry
  module _ (o : OneAt s at h) (x : Entry) (entry : as_entry x ≡ entry_of T h.arg) (under mark : ℕ) (env₁ marks₁ : List ℕ)
      (room : above < length env) (space : above < length marks) (low : floor ≤ above) (is_under : under ≡ floor_under x.kind floor above) (is_mark : mark ≡ new_mark T x.p) where
    inner : environment (above + 1) (set env above x.p) ≡ (entry_of T h.arg).p ∷ environment above env
    inner = environment_more above env x.p room ∙ ap (λ (y : calculus.Entry). y.p ∷ environment above env) entry

    around : environment (above + 1) env₁ ≡ environment (above + 1) (set env above x.p) → environment above env₁ ≡ environment above env
    unfolding environment
    around e =
        let q : environment (suc above) env₁ ≡ (entry_of T h.arg).p ∷ environment above env = rw (add-one above) at (e ∙ inner) in
        cc

    pub walked_lambda : (r : Answer) {answer : Answer} → WalkedAt T s (at + h.size) (above + 1) under (set env above x.p) env₁ (set marks above mark) marks₁ r →
        answer ≡ lambda_answer (as_entry x) h.arg r (get_or marks₁ above 0) → WalkedAt T s at above floor env env₁ marks marks₁ answer
    unfolding lambda_answer
    walked_lambda None w q =
        rw q (nothing_at (one_nothing T (environment above env) s at h o (none_of w refl ∙ ap (λ (y : List ℕ). typed_at T y s (at + h.size)) inner)))
    walked_lambda (Some x₁) w q =
        let (b, (end, k)) : ℕ × (ℕ × Bool) = (x₁.number, (x₁.end, x₁.kept)) in
        let l = w.left b end k refl in
        let t = ap (λ (y : calculus.Entry). typed (lambda_number h.arg (some y) (λ p. some b)) end) entry in
        rw q
        (found_at (lambda_number h.arg (some (as_entry x)) (λ p. some b)) end (k && not (eqb (get_or marks₁ above 0) due_mark))
        (t ∙ one_type T (environment above env) s at h o b end (type_of w refl ∙ ap (λ (y : List ℕ). typed_at T y s (at + h.size)) inner))
        (λ n e.
        let f = is_function (as_entry x) h.arg (λ p. some b) n e in
        record {
          spent = lambda_spent k (as_entry x) o (entry_there T h.arg (as_entry x) is_function_kind refl entry f) f low space
              (rw (← is_under, ← is_mark, ← environment_more above env x.p room) l.spent);
          same = l.same ∙ length-set marks above mark;
          around = around l.around;
          wide = l.wide ∙ length-set env above x.p;
        }))

  -- a node with two subterms
  module _ (o : TwoAt s at h) (k : TwoNode h.tag h.binders) (env₁ marks₁ : List ℕ) {r : Answer} (w : WalkedAt T s (at + h.size) above floor env env₁ marks marks₁ r) where
    abbrev Δ : List ℕ
    Δ = environment above env

    pub walked_no_first : {env' marks' : List ℕ} → r ≡ None → WalkedAt T s at above floor env env' marks marks' None
    walked_no_first e = nothing_at (two_nothing T Δ s at h o k (none_of w e))

    module _ (n second : ℕ) (kept : Bool) (e : r ≡ walked n second kept) where
      pub second_is : past_first s at h ≡ second
      second_is = second_at T Δ s at h o k n second (type_of w e)

      -- the type with number t has entry x, which decides
      module _ (t : ℕ) (is_t : t ≡ deciding h.tag h.arg n) (x : Entry) (entry : as_entry x ≡ entry_of T t) where
        -- a case's subject is of another kind
        pub walked_closed : {env' marks' : List ℕ} → can_open h.tag x.kind ≡ false → WalkedAt T s at above floor env env' marks marks' None
        walked_closed c = nothing_at (two_closed T Δ s at h o k n second (type_of w e) t is_t (as_entry x) entry c)

        -- the second subterm was walked in its scope
        module _ (opens : can_open h.tag x.kind ≡ true) (low : floor ≤ above) (wide : above + 1 < length env₁) (long : above + 1 < length marks₁) where
          abbrev q : ℕ
          q = second_component h.tag t x.q

          scope : environment (above + h.binders) (opened h.binders env₁ above x.p q) ≡ scope_inside h.binders x.p q Δ
          scope = environment_inside k above env₁ x.p q wide ∙ ap (scope_inside h.binders x.p q) (w.left _ _ _ e).around

          two_answered : (env₂ marks₂ : List ℕ) (r₂ : Answer) → WalkedAt T s second (above + h.binders) floor
              (opened h.binders env₁ above x.p q) env₂ (opened h.binders marks₁ above (new_mark T x.p) (new_mark T q)) marks₂ r₂ →
              WalkedAt T s at above floor env env₂ marks marks₂ (two_answer h.tag (as_entry x) t n (kept && all_used h.binders marks₂ above) r₂)
          unfolding two_answer
          two_answered env₂ marks₂ None v =
              nothing_at (two_nothing_second T Δ s at h o k n second (type_of w e) t is_t (as_entry x) entry opens (none_of v refl ∙ ap (λ (y : List ℕ). typed_at T y s second) scope))
          two_answered env₂ marks₂ (Some x₂) v =
              let (a, (end, k₂)) : ℕ × (ℕ × Bool) = (x₂.number, (x₂.end, x₂.kept)) in
              let c = v.left a end k₂ refl in
              let b = w.left _ _ _ e in
              found_at (two_number h.tag (as_entry x) t n a) end ((kept && all_used h.binders marks₂ above) && k₂)
              (two_type T Δ s at h o k n second (type_of w e) t is_t (as_entry x) entry opens a end (type_of v refl ∙ ap (λ (y : List ℕ). typed_at T y s second) scope))
              (λ m z. record {
                spent = rw o.term (two_spent h.arg n t (as_entry x) (first_number_is T Δ s at h o k n second (type_of w e)) entry low long k is_t opens kept k₂ b.spent
                    (rw (second_is, ← scope) c.spent));
                same = c.same ∙ length_opened h.binders marks₁ above (new_mark T x.p) (new_mark T q) ∙ b.same;
                around = environment_outside k above env₁ env₂ x.p q wide c.around ∙ b.around;
                wide = c.wide ∙ length_opened h.binders env₁ above x.p q ∙ b.wide;
              })

          pub walked_two : (q' inside : ℕ) (env₂ marks₂ env₃ marks₃ : List ℕ) {r₂ answer : Answer} {used : Bool} → q' ≡ q →
              Opened T h.binders x.p q' above env₁ env₂ marks₁ marks₂ inside → WalkedAt T s second inside floor env₂ env₃ marks₂ marks₃ r₂ →
              used ≡ all_used h.binders marks₃ above → answer ≡ two_answer h.tag (as_entry x) t n (kept && used) r₂ →
              WalkedAt T s at above floor env env₃ marks marks₃ answer
          walked_two q' inside env₂ marks₂ env₃ marks₃ is_q b v u z =
              rw (z, u) (two_answered env₃ marks₃ _ (rw (b.types, b.due, b.level, is_q) at v))

-- the term that a part is
pub walked_whole : {T : calculus.Table} {s env env' marks marks' : List ℕ} {r : Answer} → WalkedAt T s 0 0 0 env env' marks marks' r → Decides T s r
unfolding environment
walked_whole w = record { types = w.types; uses = λ n end kept e. walk_decides (w.left n end kept e).spent }
