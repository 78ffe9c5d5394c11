-- Where the walk may go on: from a term at a position to its subterms.
use mathlib.Core.Path.{◌≡◌, ap, refl, sym, ◌∙◌}
use mathlib.Core.Bool.{◌&&◌, false, false≢true, true}
use mathlib.Core.List.{List}
use Prim.Native.Nat.{◌+◌, ◌<◌, ◌≤◌, max, suc, ℕ}
use native.Mathlib.Nat.{add-zero}
use native.Mathlib.Numerals.{add-one}
use native.Mathlib.Omega.{arith}
use lib.Dec.{ltb}
use lib.ListN.{length}
use Rattle.calculus.specs.Limits.{max_entries, max_variables}
use Rattle.calculus.specs.Syntax.{Exp, list, pair}
use Rattle.calculus.specs.Table.{Table}
use Rattle.calculus.specs.Verdict.{scoped, scoped_const}
use Rattle.calculus.proofs.Theory.Tests.{and_parts, ltb_sound}
use Rattle.term.specs.declared.Node.{Node}
use Rattle.term.specs.Expressions.{both_tag, case_tag, nesting, term_at, two_exp, two_forms}
use Rattle.term.proofs.Leaves.{leaf_op, leaf_variable}
use Rattle.term.proofs.Shapes.{nesting_two}
use Rattle.std.proofs.Common.{Some}
use Rattle.term.specs.Forms.{lambda_tag}
use Rattle.term.specs.Reader.{GoodAt, node_at}
use Rattle.term.proofs.Views.{lambda_one, LeafAt, node_there, NodeAt, one_from, OneAt, past_first, rest_two, two_from, TwoAt}
use Rattle.check_types.specs.Two.{Annotated, is_both_tag}
use Rattle.check_types.specs.Walk.{LeafThere}
use Rattle.check_types.proofs.TwoNodes.{a_both, a_case, an_application, length_opened, two_node, TwoNode}
use Rattle.check_walk.specs.Walk.{InScope, Opened, Room, WalkReady, Whole}

-- what cause 7 says of a node with two subterms e and f
record ScopedTwo (types names above tag binders arg : ℕ) (e f : Exp) : Type 0 where
  pub type_number : is_both_tag tag ≡ true → arg < types
  pub first : scoped types names above e ≡ true
  pub second : scoped types names (above + binders) f ≡ true

-- a pair or front has its number of a type, a case's second subterm two more variables
module _ {types names above : ℕ} {e f : Exp} where
  both_scoped : {tag arg : ℕ} → (ltb arg types && (scoped types names above e && scoped types names above f)) ≡ true → ScopedTwo types names above tag 0 arg e f
  both_scoped {arg = arg} h =
      let (h₀, h₃) = and_parts (ltb arg types) _ h in
      let (h₁, h₂) = and_parts (scoped types names above e) (scoped types names above f) h₃ in
      record { type_number = λ b. ltb_sound arg types h₀; first = h₁; second = rw (add-zero above) h₂ }

  case_scoped : {tag arg : ℕ} → is_both_tag tag ≡ false → (scoped types names above e && scoped types names (suc (suc above)) f) ≡ true →
      ScopedTwo types names above tag 2 arg e f
  case_scoped n h =
      let (h₁, h₂) = and_parts (scoped types names above e) (scoped types names (suc (suc above)) f) h in
      let two : above + 2 ≡ suc (suc above) = omega arith in
      record { type_number = λ b. absurd (false≢true (sym n ∙ b)); first = h₁; second = rw two h₂ }

scoped_two : {types names above tag binders arg : ℕ} {e f : Exp} → TwoNode tag binders → scoped types names above (two_exp tag arg e f) ≡ true →
    ScopedTwo types names above tag binders arg e f
unfolding scoped two_exp two_forms both_tag case_tag is_both_tag
scoped_two {types} {names} {above} {e = e} {f = f} an_application h =
    let (h₁, h₂) = and_parts (scoped types names above e) (scoped types names above f) h in
    record { type_number = λ b. absurd (false≢true b); first = h₁; second = rw (add-zero above) h₂ }
scoped_two (a_both pair) h = both_scoped h
scoped_two (a_both list) h = both_scoped h
scoped_two (a_case pair) h = case_scoped refl h
scoped_two (a_case list) h = case_scoped refl h

-- what stands at a lambda, and at a node with two subterms
pub record LambdaThere (s : List ℕ) (at : ℕ) (h : Node) : Type 0 where
  pub here : NodeAt s at h
  pub one : OneAt s at h

pub lambda_there : {s : List ℕ} {at : ℕ} {h : Node} → GoodAt s at → node_at s at ≡ Some h → h.tag ≡ lambda_tag → LambdaThere s at h
lambda_there good is tag = let here = node_there good.inside is in record { here = here; one = one_from is good (lambda_one here tag) }

pub record TwoThere (s : List ℕ) (at : ℕ) (h : Node) : Type 0 where
  pub here : NodeAt s at h
  pub two : TwoAt s at h
  pub form : TwoNode h.tag h.binders

pub two_there : {s : List ℕ} {at : ℕ} {h : Node} → GoodAt s at → node_at s at ≡ Some h → (h.subterms ≡ 0 → ⊥) → (h.tag ≡ lambda_tag → ⊥) → TwoThere s at h
two_there good is some no_lambda =
    let here = node_there good.inside is in
    let subterms = rest_two here some no_lambda in
    record { here = here; two = two_from is good subterms; form = two_node here subterms }

pub ready_whole : {s env marks : List ℕ} → Whole s → length env ≡ max_variables → length marks ≡ max_variables → WalkReady s 0 0 0 env marks
ready_whole w wide long = record {
  good = w.good;
  shallow = omega (arith, w.shallow);
  types = w.types;
  few = w.few;
  names = w.names;
  scope = w.scope;
  low = omega arith;
  wide = wide;
  long = long;
}

module _ {s : List ℕ} {at above floor : ℕ} {env marks : List ℕ} {h : Node} (r : WalkReady s at above floor env marks) where
  -- a node with no subterm
  pub leaf_scope : LeafAt s at h → InScope h.tag h.arg above marks
  unfolding scoped
  leaf_scope l = record {
    bound = λ z. ltb_sound h.arg above (rw (l.term, leaf_variable h.tag h.arg z) at r.scope);
    room = omega (arith, r.shallow);
    long = r.long;
  }

  pub leaf_there : LeafAt s at h → LeafThere (length env) above h.tag h.arg
  unfolding scoped scoped_const
  leaf_there l = record {
    fits = omega (arith, r.shallow, r.wide);
    bound = (leaf_scope l).bound;
    entry = λ low high. let (o, is) = leaf_op h.tag h.arg low high in omega (arith, ltb_sound h.arg r.types (rw (l.term, is) at r.scope), r.few);
  }

  -- the body of a lambda
  module _ (o : OneAt s at h) where
    in_body : (ltb h.arg r.types && scoped r.types r.names (suc above) (term_at s (at + h.size))) ≡ true
    unfolding scoped
    in_body = rw o.term at r.scope

    body_nesting : nesting (term_at s at) ≡ suc (nesting (term_at s (at + h.size)))
    unfolding nesting
    body_nesting = ap nesting o.term

    pub type_below : h.arg < max_entries
    type_below = let l = ltb_sound h.arg r.types (and_parts (ltb h.arg r.types) _ in_body).0 in omega (arith, r.few)

    pub level_below : above < max_variables
    level_below = omega (arith, r.shallow, body_nesting)

    pub ready_body : {under : ℕ} {env' marks' : List ℕ} → under ≤ above + 1 → length env' ≡ length env → length marks' ≡ length marks →
        WalkReady s (at + h.size) (above + 1) under env' marks'
    ready_body low wide same = record {
      good = o.good;
      shallow = omega (arith, r.shallow, body_nesting);
      types = r.types;
      few = r.few;
      names = r.names;
      scope = rw (add-one above) (and_parts (ltb h.arg r.types) _ in_body).1;
      low = low;
      wide = wide ∙ r.wide;
      long = same ∙ r.long;
    }

  -- the subterms of a node with two
  module _ (o : TwoAt s at h) (k : TwoNode h.tag h.binders) where
    in_scope : ScopedTwo r.types r.names above h.tag h.binders h.arg (term_at s (at + h.size)) (term_at s (past_first s at h))
    in_scope = scoped_two k (rw o.term at r.scope)

    two_nesting : nesting (term_at s at) ≡ suc (max (nesting (term_at s (at + h.size))) (nesting (term_at s (past_first s at h))))
    two_nesting = ap nesting o.term ∙ nesting_two h.tag h.arg (term_at s (at + h.size)) (term_at s (past_first s at h))

    pub ready_first : WalkReady s (at + h.size) above floor env marks
    ready_first = record {
      good = o.good;
      shallow = omega (arith, r.shallow, two_nesting);
      types = r.types;
      few = r.few;
      names = r.names;
      scope = in_scope.first;
      low = r.low;
      wide = r.wide;
      long = r.long;
    }

    pub annotated : Annotated h.tag h.arg
    annotated = record { small = λ b. omega (arith, in_scope.type_number b, r.few) }

    -- its second subterm has room for two more variables
    pub room_inside : above + 2 ≤ max_variables
    room_inside = omega (arith, r.shallow, two_nesting)

    pub room_there : {env' marks' : List ℕ} → h.binders ≤ 2 → length env' ≡ length env → length marks' ≡ length marks → Room h.binders above env' marks'
    room_there few wide same = record { few = few; room = room_inside; wide = wide ∙ r.wide; long = same ∙ r.long }

    pub ready_second : {T : Table} {p q second inside : ℕ} {env₁ marks₁ env' marks' : List ℕ} → second ≡ past_first s at h → h.binders ≤ 2 →
        length env₁ ≡ length env → length marks₁ ≡ length marks → Opened T h.binders p q above env₁ env' marks₁ marks' inside → WalkReady s second inside floor env' marks'
    ready_second e few wide same b = rw (e, b.level) record {
      good = o.second;
      shallow = omega (arith, r.shallow, two_nesting, few);
      types = r.types;
      few = r.few;
      names = r.names;
      scope = in_scope.second;
      low = omega (arith, r.low);
      wide = ap length b.types ∙ length_opened _ _ _ _ _ ∙ wide ∙ r.wide;
      long = ap length b.due ∙ length_opened _ _ _ _ _ ∙ same ∙ r.long;
    }
