-- From stop to stop: the place is inside a stop, or the stop is it.
use mathlib.Core.Path.{◌≡◌, ap, ap₂, refl, subst, sym, ◌∙◌}
use mathlib.Core.Bool.{Bool, false, false≢true, not, true}
use mathlib.Core.List.{List}
use Prim.Native.Nat.{◌+◌, ◌≤◌, ℕ}
use native.Mathlib.Omega.{arith}
use Rattle.calculus.specs.Bytes.{Bytes}
use Rattle.calculus.specs.Syntax.{Exp, Shape}
use Rattle.calculus.specs.Step.{place}
use Rattle.calculus.specs.Image.{Closed, is_settled, size}
use Rattle.calculus.proofs.Theory.Tests.{clash}
use Rattle.calculus.proofs.Theory.ImageTest.{settled_value}
use Rattle.std.proofs.Common.{Some, Option, None}
use Rattle.term.specs.declared.Node.{Node}
use Rattle.term.specs.Forms.{application_tag}
use Rattle.term.specs.Reader.{end_at, GoodAt, node_at}
use Rattle.term.specs.Expressions.{case_tag, term_at}
use Rattle.term.proofs.Views.{app_from, both_from, case_from, end_onward, is_application, is_both, is_case as is_case_form, past_first, two_form, TwoForm, two_from, TwoAt, leaf_from, one_from}
use Rattle.term.proofs.Expressions.{term_stands}
use Rattle.term_redex.specs.declared.Meeting.{Meeting}
use Rattle.term_redex.specs.declared.Stop.{Stop}
use Rattle.term_redex.specs.declared.Stop.TheVariants.{At, Past}
use Rattle.term_redex.specs.Shapes.{is_case, is_stop}
use Rattle.term_redex.specs.Places.{place_of, Searchable}
use Rattle.term_redex.specs.Stops.{argument, body, first_of, passed, Stopped, stopped, StoppedBeside, StopsAt}
use Rattle.term_redex.proofs.Contexts.{closed_parts, closed_subject}
use Rattle.term_redex.proofs.Nodes.{application_size, by_form, case_size, node_of}
use Rattle.term_redex.proofs.Places.{first_applied, first_case, meeting_at}
use Rattle.term_redex.proofs.Search.{first_value}
use Rattle.term_redex.proofs.Tags.{leaf_open}

-- What a search of a term answers

module _ {l : List ℕ} {at : ℕ} where
  stops_at : {r : Stop} {here : ℕ} → Stopped l at r → r ≡ At here → StopsAt l at here
  stops_at {here = here} (stopped {here = there} s) e = let q : there ≡ here = cc in subst (StopsAt l at) q s
  stops_at (passed v) e = absurd (clash (cc))

  pub value_passed : {r : Stop} {end : ℕ} → Stopped l at r → r ≡ Past end → true ≡ is_settled (place (term_at l at))
  value_passed (passed v) e = sym v
  value_passed (stopped s) e = absurd (clash (cc))

  pub value_stopped : {r : Stop} {here : ℕ} → Stopped l at r → r ≡ At here → false ≡ is_settled (place (term_at l at))
  value_stopped s e = sym (stops_at s e).no_value

  -- past a value: where it ends, and what stands to its right decides
  passed_end : {r : Stop} {end : ℕ} → Stopped l at r → r ≡ Past end → end ≡ end_at l at
  passed_end (passed v) e = cc
  passed_end (stopped s) e = absurd (clash (cc))

  passed_place : {r : Stop} {end : ℕ} → Stopped l at r → r ≡ Past end → (rest : Option Meeting) → first_of Some None at (place (term_at l at)) rest ≡ rest
  passed_place s e = first_value Some None at (settled_value (term_at l at) (sym (value_passed s e)))

-- Inside a stop

-- what stands to the right of its first subterm: an argument has a place, the body of a case has none
unfoldable pub beside : List ℕ → Bool → ℕ → Option Meeting → Option Meeting
beside l true second rest = rest
beside l false second rest = first_of Some None second (place (term_at l second)) rest

module _ {l : List ℕ} {second : ℕ} where
  argument_stops : {case : Bool} {r : Stop} {inner : ℕ} → StoppedBeside l second case r → r ≡ At inner → (case ≡ false) × StopsAt l second inner
  argument_stops (argument s) e = (refl, stops_at s e)
  argument_stops body e = absurd (clash (cc))

  passed_beside : {case : Bool} {r : Stop} {end : ℕ} → StoppedBeside l second case r → r ≡ Past end → (end ≡ end_at l second) × ((rest : Option Meeting) → beside l case second rest ≡ rest)
  unfolding beside
  passed_beside (argument s) e = (passed_end s e, passed_place s e)
  passed_beside body e = (cc, λ rest. refl)

-- its subterms, from `first` on: one of those that are evaluated has its place, and where they are values, it is itself
pub record Inside (l : List ℕ) (node first : ℕ) : Type 0 where
  pub good : GoodAt l first
  pub closed : Closed 0 (term_at l first)
  pub second : GoodAt l (end_at l first)
  pub argument_closed : is_case (term_at l node) ≡ false → Closed 0 (term_at l (end_at l first))
  pub same :
      place_of node (place (term_at l node))
      ≡ first_of Some None first (place (term_at l first)) (beside l (is_case (term_at l node)) (end_at l first) (Some (record { at = node; second = end_at l first; end = end_at l (end_at l first) })))

module _ {l : List ℕ} {node : ℕ} (b : Bytes l) (c : Closed 0 (term_at l node)) (s : is_stop (term_at l node) ≡ true) {h : Node} (is : node_at l node ≡ Some h) (o : TwoAt l node h) where
  -- where it would meet
  here : h.size ≡ 1 →
      meeting_at node (size (term_at l (node + h.size))) (size (term_at l (past_first l node h)))
      ≡ record { at = node; second = past_first l node h; end = end_at l (past_first l node h) }
  here one =
      let p : node + 1 + size (term_at l (node + h.size)) ≡ past_first l node h = omega (arith, one, (term_stands b o.good).1) in
      let q : node + 1 + size (term_at l (node + h.size)) + size (term_at l (past_first l node h)) ≡ end_at l (past_first l node h) =
      omega (arith, p, (term_stands b o.second).1) in
      ap₂ (λ (m n : ℕ). record { at = node; second = m; end = n }) p q

  -- of an application both are evaluated
  inside_application : h.tag ≡ application_tag → Inside l node (node + h.size)
  unfolding is_stop is_case beside first_of place_of
  inside_application t =
      let p = app_from o t in
      let f = term_at l (node + h.size) in
      let a = term_at l (past_first l node h) in
      let one = application_size l node is t in
      let first : node + 1 ≡ node + h.size = ap (λ (n : ℕ). node + n) (sym one) in
      let next : node + 1 + size f ≡ past_first l node h = omega (arith, one, (term_stands b o.good).1) in
      let (cf, ca) = closed_parts (subst (Closed 0) p.term c) in
      let no : is_case (term_at l node) ≡ false = ap is_case p.term in
      record {
        good = o.good;
        closed = cf;
        second = o.second;
        argument_closed = λ n. ca;
        same = rw no
            (ap (λ (x : Exp). place_of node (place x)) p.term
            ∙ first_applied Some None node f a None (no_exch (sym (ap is_stop p.term) ∙ s))
            ∙ ap (λ (m : Meeting). first_of Some None (node + 1) (place f) (first_of Some None (node + 1 + size f) (place a) (Some m))) (here one)
            ∙ ap₂ (λ (m n : ℕ). first_of Some None m (place f) (first_of Some None n (place a) (Some (record { at = node; second = past_first l node h; end = end_at l (past_first l node h) })))) first next);
      }
    where
      no_exch : {x : Bool} → not x ≡ true → x ≡ false
      no_exch {x = true} e = absurd (false≢true e)
      no_exch {x = false} e = refl

  -- of a case the subject
  inside_case : (shape : Shape) → h.tag ≡ case_tag shape → Inside l node (node + h.size)
  unfolding is_case beside first_of place_of
  inside_case shape t =
      let p = case_from {s = shape} o t in
      let v = term_at l (node + h.size) in
      let e = term_at l (past_first l node h) in
      let one = case_size l node shape is t in
      let first : node + 1 ≡ node + h.size = ap (λ (n : ℕ). node + n) (sym one) in
      let (cv, ce) = closed_subject (subst (Closed 0) p.term c) in
      let yes : is_case (term_at l node) ≡ true = ap is_case p.term in
      record {
        good = o.good;
        closed = cv;
        second = o.second;
        argument_closed = λ n. absurd (false≢true (sym n ∙ yes));
        same = rw yes
            (ap (λ (x : Exp). place_of node (place x)) p.term
            ∙ first_case Some None node shape v e None
            ∙ ap (λ (m : Meeting). first_of Some None (node + 1) (place v) (Some m)) (here one)
            ∙ ap (λ (n : ℕ). first_of Some None n (place v) (Some (record { at = node; second = past_first l node h; end = end_at l (past_first l node h) }))) first);
      }

  inside_form : TwoForm h.tag → Inside l node (node + 1)
  unfolding is_stop
  inside_form (is_application t) = subst (λ (n : ℕ). Inside l node (node + n)) (application_size l node is t) (inside_application t)
  inside_form (is_case_form shape t) = subst (λ (n : ℕ). Inside l node (node + n)) (case_size l node shape is t) (inside_case shape t)
  inside_form (is_both shape t) = absurd (false≢true (sym (ap is_stop (both_from {s = shape} o t).term) ∙ s))

pub inside : {l : List ℕ} {node : ℕ} → Bytes l → GoodAt l node → Closed 0 (term_at l node) → is_stop (term_at l node) ≡ true → Inside l node (node + 1)
unfolding is_stop
inside {l} {node} b g c s =
    let (h, is) = node_of g in
    by_form is g
    (λ k f. absurd (leaf_open h.arg h.tag f (sym (ap is_stop (leaf_from is g k).term) ∙ s) (subst (Closed 0) (leaf_from is g k).term c)))
    (λ k f. absurd (false≢true (sym (ap is_stop (one_from is g k).term) ∙ s)))
    (λ k f. inside_form b c s is (two_from is g k) (two_form h.tag f))

-- The search for the place of the term at a position

-- a stop that has it
pub record Sought (l : List ℕ) (at node : ℕ) : Type 0 where
  pub good : GoodAt l node
  pub closed : Closed 0 (term_at l node)
  pub stop : is_stop (term_at l node) ≡ true
  pub same : place_of at (place (term_at l at)) ≡ place_of node (place (term_at l node))

pub sought_done : {l : List ℕ} {at : ℕ} {r : Stop} {end : ℕ} → Stopped l at r → r ≡ Past end → None ≡ place_of at (place (term_at l at))
unfolding first_of place_of
sought_done s e = sym (passed_place s e None)

pub sought_start : {l : List ℕ} {at node : ℕ} {r : Stop} → Searchable l at → Stopped l at r → r ≡ At node → Sought l at node
unfolding first_of place_of
sought_start p s e =
    let t = stops_at s e in
    record { good = t.good; closed = t.closed p.closed; stop = t.stop; same = t.same None }

module _ {l : List ℕ} {at node : ℕ} (b : Bytes l) (p : Sought l at node) where
  pub sought_inside : Inside l node (node + 1)
  sought_inside = inside b p.good p.closed p.stop

  module _ {r : Stop} (s : Stopped l (node + 1) r) where
    -- a stop in the first subterm
    pub sought_first : {inner : ℕ} → r ≡ At inner → Sought l at inner
    sought_first e =
        let t = stops_at s e in
        record { good = t.good; closed = t.closed sought_inside.closed; stop = t.stop; same = p.same ∙ sought_inside.same ∙ t.same _ }

    pub first_onward : {inner : ℕ} → r ≡ At inner → node + 1 ≤ inner
    first_onward e = (stops_at s e).onward

    module _ {second : ℕ} (past : r ≡ Past second) where
      pub second_good : GoodAt l second
      second_good = rw (passed_end s past) sought_inside.second

      second_closed : is_case (term_at l node) ≡ false → Closed 0 (term_at l second)
      second_closed n = rw (passed_end s past) (sought_inside.argument_closed n)

      -- past the first subterm, a value
      to_second : place_of at (place (term_at l at)) ≡ beside l (is_case (term_at l node)) second (Some (record { at = node; second = second; end = end_at l second }))
      to_second = rw (passed_end s past) (p.same ∙ sought_inside.same ∙ passed_place s past _)

      module _ {r' : Stop} (s' : StoppedBeside l second (is_case (term_at l node)) r') where
        -- a stop in the second, an argument
        pub sought_second : {inner : ℕ} → r' ≡ At inner → Sought l at inner
        unfolding beside
        sought_second e =
            let (n, t) = argument_stops s' e in
            record { good = t.good; closed = t.closed (second_closed n); stop = t.stop; same = rw n at to_second ∙ t.same _ }

        pub second_onward : {inner : ℕ} → r' ≡ At inner → node + 1 ≤ inner
        second_onward e = omega (arith, (argument_stops s' e).1.onward, passed_end s past, end_onward l (node + 1))

        -- no stop in either: it is the place itself
        pub sought_meets : {end : ℕ} → r' ≡ Past end → Some (record { at = node; second = second; end = end }) ≡ place_of at (place (term_at l at))
        sought_meets e = let (ends, past_both) = passed_beside s' e in rw ends (sym (to_second ∙ past_both _))
