-- A walk with an array of marks, node form by node form.
use Rattle.std.specs.Prelude.{◌≡◌, Bool, ◌&&◌, List, [], ◌∷◌, eqb, get_or, length, set}
use Rattle.std.proofs.Common.{ap, sym, ◌∙◌, add-one}
use Rattle.std.proofs.Math.Path.{refl}
use Rattle.std.proofs.Math.Bool.{cond, false, true}
use Rattle.std.proofs.Math.Option.{Option, none, some}
use Prim.Native.Nat.{◌+◌, ◌-◌, ◌<◌, ◌≤◌, suc, ℕ}
use native.Mathlib.Omega.{arith}
use Rattle.std.proofs.Math.Dec.{ltb}
use Rattle.calculus.specs.Syntax.{Const, Shape, Exp, var, name, const, lam, app, both, case_of, at}
use Rattle.calculus.specs.Table.{Entry, Table}
use Rattle.calculus.specs.Verdict.{is_function_kind, type_number, linear}
use Rattle.calculus.proofs.Theory.Tests.{eqb_differ, ltb_sound, ltb_complete}
use Rattle.check_linearity.specs.Spend.{Marks, new_mark, spend_variable, spend_next, leave, spend, left_over, spends, many_mark, due_mark, spent_mark}
use Rattle.check_linearity.specs.Levels.{marks_of, floor_under, marks_left, LinearWalk}
use Rattle.check_linearity.proofs.Theory.Lambdas.{leave_some, spend_lambda_at}
use Rattle.check_linearity.proofs.Theory.Components.{Components, components_spend}
use Rattle.check_linearity.proofs.Theory.Levels.{marks_at, marks_push, marks_pop, marks_push_both, marks_pop_both, marks_set, reach_floor}
use Rattle.check_linearity.proofs.Theory.Linear.{spends_linear}

and_false : (b : Bool) → (b && false) ≡ false
and_false true = refl
and_false false = refl

left_answered : (keeps : Bool) (M : Marks) → left_over (marks_left keeps M) ≡ keeps
unfolding left_over marks_left
left_answered true M = refl
left_answered false M = refl

module _ {T : Table} {Δ : List ℕ} {floor above : ℕ} {a : List ℕ} where
  pub walked_name : (k : ℕ) → LinearWalk T Δ floor above a (name k) true a
  unfolding spend marks_left
  walked_name k = record { holds = refl }

  pub walked_const : (c : Const) → LinearWalk T Δ floor above a (const c) true a
  unfolding spend marks_left
  walked_const c = record { holds = refl }

  -- a many-variable
  pub walked_many : (i : ℕ) → i < above → get_or a (above - 1 - i) 0 ≡ many_mark → LinearWalk T Δ floor above a (var i) true a
  unfolding spend spend_variable marks_left
  walked_many i h m = record { holds = rw (marks_at above a i h, m) }

  -- a once-variable that is due and in reach
  pub walked_due : (i : ℕ) → i < above → above ≤ length a → get_or a (above - 1 - i) 0 ≡ due_mark → floor ≤ above - 1 - i →
      LinearWalk T Δ floor above a (var i) true (set a (above - 1 - i) spent_mark)
  unfolding spend spend_variable marks_left
  walked_due i h l m r = record { holds = rw (marks_at above a i h, m, ltb_complete i (above - floor) (omega arith), marks_set above a i spent_mark h l) }

  -- a once-variable that is not due, or not in reach
  pub walked_spent : {a' : List ℕ} (i : ℕ) → i < above → ¬ (get_or a (above - 1 - i) 0 ≡ many_mark) → ¬ (get_or a (above - 1 - i) 0 ≡ due_mark) →
      LinearWalk T Δ floor above a (var i) false a'
  unfolding spend spend_variable marks_left
  walked_spent i h m d = record { holds = rw (marks_at above a i h, eqb_differ (get_or a (above - 1 - i) 0) many_mark m, eqb_differ (get_or a (above - 1 - i) 0) due_mark d) }

  pub walked_past_reach : {a' : List ℕ} (i : ℕ) → i < above → ¬ (get_or a (above - 1 - i) 0 ≡ many_mark) → above - 1 - i < floor →
      LinearWalk T Δ floor above a (var i) false a'
  unfolding spend spend_variable marks_left
  walked_past_reach i h m r = record { holds = rw (marks_at above a i h, eqb_differ (get_or a (above - 1 - i) 0) many_mark m) (go (ltb i (above - floor)) refl) }
    where
      go : (b : Bool) → ltb i (above - floor) ≡ b → cond (eqb (get_or a (above - 1 - i) 0) due_mark && b) (some (set (marks_of above a) i spent_mark)) none ≡ none
      go true q = let l : i < above - floor = ltb_sound i (above - floor) q in absurd (omega arith)
      go false q = rw (and_false (eqb (get_or a (above - 1 - i) 0) due_mark))

-- a term with two subterms: the first fails, or what follows meets the array that it leaves
module _ {T : Table} {Δ : List ℕ} {floor above : ℕ} {a a₁ : List ℕ} {e₁ : Exp} where
  first_fails : {a' : List ℕ} {e : Exp} (next : Marks → Option Marks) →
      spend T Δ (above - floor) (marks_of above a) e ≡ spend_next (spend T Δ (above - floor) (marks_of above a) e₁) next →
      LinearWalk T Δ floor above a e₁ false a₁ → LinearWalk T Δ floor above a e false a'
  unfolding spend_next marks_left
  first_fails next q w = record { holds = q ∙ rw w.holds }

  second_answers : {a₂ : List ℕ} {e : Exp} {keeps : Bool} (next : Marks → Option Marks) →
      spend T Δ (above - floor) (marks_of above a) e ≡ spend_next (spend T Δ (above - floor) (marks_of above a) e₁) next →
      LinearWalk T Δ floor above a e₁ true a₁ → next (marks_of above a₁) ≡ marks_left keeps (marks_of above a₂) → LinearWalk T Δ floor above a e keeps a₂
  unfolding spend_next marks_left
  second_answers next q w h = record { holds = q ∙ rw w.holds h }

  -- an application
  pub walked_function : {a' : List ℕ} (g : Exp) → LinearWalk T Δ floor above a e₁ false a₁ → LinearWalk T Δ floor above a (app e₁ g) false a'
  unfolding spend
  walked_function g w = first_fails _ refl w

  pub walked_application : {a₂ : List ℕ} {g : Exp} {keeps : Bool} → LinearWalk T Δ floor above a e₁ true a₁ → LinearWalk T Δ floor above a₁ g keeps a₂ →
      LinearWalk T Δ floor above a (app e₁ g) keeps a₂
  unfolding spend
  walked_application w v = second_answers _ refl w v.holds

  -- a pair or front
  pub walked_first : {a' : List ℕ} (s : Shape) (t : ℕ) (e₂ : Exp) → LinearWalk T Δ floor above a e₁ false a₁ → LinearWalk T Δ floor above a (both s t e₁ e₂) false a'
  unfolding spend
  walked_first s t e₂ w = first_fails _ refl w

  pub walked_both : {a₂ : List ℕ} {e₂ : Exp} {keeps : Bool} (s : Shape) (t : ℕ) → LinearWalk T Δ floor above a e₁ true a₁ → LinearWalk T Δ floor above a₁ e₂ keeps a₂ →
      LinearWalk T Δ floor above a (both s t e₁ e₂) keeps a₂
  unfolding spend
  walked_both s t w v = second_answers _ refl w v.holds

  -- a case
  pub walked_subject : {a' : List ℕ} (s : Shape) (e₂ : Exp) → LinearWalk T Δ floor above a e₁ false a₁ → LinearWalk T Δ floor above a (case_of s e₁ e₂) false a'
  unfolding spend
  walked_subject s e₂ w = first_fails _ refl w

-- the body of a case of which the subject was walked: two more marks, of the components' types p and q
abbrev CaseBody : Table → List ℕ → ℕ → ℕ → List ℕ → ℕ → ℕ → Exp → Bool → List ℕ → Type 0
CaseBody T Δ floor above a p q e keeps a' =
    LinearWalk T (q ∷ p ∷ Δ) floor (above + 2) (set (set a above (new_mark T p)) (above + 1) (new_mark T q)) e keeps a'

-- a case of which the subject was walked, and then the body
module _ {T : Table} {Δ : List ℕ} {floor above : ℕ} {a a₁ a₂ : List ℕ} {e₁ e₂ : Exp} {p q : ℕ} (s : Shape) (c : Components T s (type_number T Δ e₁) p q)
    (l : floor ≤ above) (room : above + 1 < length a₁) (w : LinearWalk T Δ floor above a e₁ true a₁) where
  case_walks : {a' : List ℕ} (keeps kept : Bool) → CaseBody T Δ floor above a₁ p q e₂ keeps a₂ →
      leave (leave (marks_left keeps (get_or a₂ (above + 1) 0 ∷ get_or a₂ above 0 ∷ marks_of above a₂))) ≡ marks_left kept (marks_of above a') → LinearWalk T Δ floor above a (case_of s e₁ e₂) kept a'
  unfolding spend
  case_walks keeps kept v h =
      let r : above + 2 - floor ≡ suc (suc (above - floor)) = omega arith in
      let b = rw (r, marks_push_both above a₁ (new_mark T p) (new_mark T q) room, marks_pop_both above a₂) at v.holds in
      second_answers _ refl w (components_spend T s (marks_of above a₁) (λ p q M. spend T (q ∷ p ∷ Δ) (suc (suc (above - floor))) M e₂) c ∙ rw b h)

  -- its body fails
  pub walked_case_body : {a' : List ℕ} → CaseBody T Δ floor above a₁ p q e₂ false a₂ → LinearWalk T Δ floor above a (case_of s e₁ e₂) false a'
  unfolding marks_left leave
  walked_case_body v = case_walks false false v refl

  -- its second component is still due, or its first
  pub walked_second_unused : {a' : List ℕ} → CaseBody T Δ floor above a₁ p q e₂ true a₂ → get_or a₂ (above + 1) 0 ≡ due_mark → LinearWalk T Δ floor above a (case_of s e₁ e₂) false a'
  unfolding marks_left leave
  walked_second_unused v d = case_walks true false v (rw d)

  pub walked_first_unused : {a' : List ℕ} → CaseBody T Δ floor above a₁ p q e₂ true a₂ → get_or a₂ above 0 ≡ due_mark → LinearWalk T Δ floor above a (case_of s e₁ e₂) false a'
  unfolding marks_left leave
  walked_first_unused v d = case_walks true false v (go (eqb (get_or a₂ (above + 1) 0) due_mark))
    where
      go : (b : Bool) → leave (cond b none (some (get_or a₂ above 0 ∷ marks_of above a₂))) ≡ none
      go true = refl
      go false = rw d

  -- neither is due
  pub walked_case : CaseBody T Δ floor above a₁ p q e₂ true a₂ → ¬ (get_or a₂ (above + 1) 0 ≡ due_mark) → ¬ (get_or a₂ above 0 ≡ due_mark) → LinearWalk T Δ floor above a (case_of s e₁ e₂) true a₂
  unfolding marks_left
  walked_case v n m =
      case_walks true true v (rw (leave_some (get_or a₂ (above + 1) 0) (get_or a₂ above 0 ∷ marks_of above a₂) n) (leave_some (get_or a₂ above 0) (marks_of above a₂) m))

-- the body of a lambda with entry x: one more mark
abbrev LambdaBody : Table → List ℕ → ℕ → ℕ → List ℕ → Entry → Exp → Bool → List ℕ → Type 0
LambdaBody T Δ floor above a x e keeps a' =
    LinearWalk T (x.p ∷ Δ) (floor_under x.kind floor above) (above + 1) (set a above (new_mark T x.p)) e keeps a'

-- a lambda of which the body was walked
module _ {T : Table} {Δ : List ℕ} {floor above : ℕ} {a a₁ : List ℕ} {e : Exp} (t : ℕ) (x : Entry)
    (g : at T t ≡ some x) (k : is_function_kind x.kind ≡ true) (l : floor ≤ above) (room : above < length a) where
  lambda_walks : {a' : List ℕ} (keeps kept : Bool) → LambdaBody T Δ floor above a x e keeps a₁ →
      leave (marks_left keeps (get_or a₁ above 0 ∷ marks_of above a₁)) ≡ marks_left kept (marks_of above a') → LinearWalk T Δ floor above a (lam t e) kept a'
  unfolding spend
  lambda_walks keeps kept w q =
      let h = rw (add-one above, marks_push above a (new_mark T x.p) room, marks_pop above a₁) at w.holds in record {
        holds = spend_lambda_at T (above - floor) (marks_of above a) (at T t) (λ p reach M. spend T (p ∷ Δ) reach M e) x g k ∙ rw (reach_floor x.kind floor above l, h) q;
      }

  -- its body fails
  pub walked_body : {a' : List ℕ} → LambdaBody T Δ floor above a x e false a₁ → LinearWalk T Δ floor above a (lam t e) false a'
  unfolding marks_left leave
  walked_body w = lambda_walks false false w refl

  -- its variable is still due
  pub walked_unused : {a' : List ℕ} → LambdaBody T Δ floor above a x e true a₁ → get_or a₁ above 0 ≡ due_mark → LinearWalk T Δ floor above a (lam t e) false a'
  unfolding marks_left leave
  walked_unused w d = lambda_walks true false w (rw d)

  -- its variable is not due
  pub walked_lambda : LambdaBody T Δ floor above a x e true a₁ → ¬ (get_or a₁ above 0 ≡ due_mark) → LinearWalk T Δ floor above a (lam t e) true a₁
  unfolding marks_left leave
  walked_lambda w n = lambda_walks true true w (leave_some (get_or a₁ above 0) (marks_of above a₁) n)

-- a whole term: the walk answers whether it keeps the rule of cause 10
pub walked_whole : {T : Table} {a : List ℕ} {e : Exp} {keeps : Bool} {a' : List ℕ} → LinearWalk T [] 0 0 a e keeps a' → keeps ≡ linear T [] e
unfolding marks_of spends
walked_whole {T} {a} {e} {keeps} {a'} w = sym (left_answered keeps (marks_of 0 a')) ∙ sym (ap left_over w.holds) ∙ spends_linear T e
