-- The search: turn by turn over terms that stand one after the other, and from stop to stop.
use mathlib.Core.Path.{◌≡◌, ap, ap₂, refl, subst, sym, ◌∙◌}
use mathlib.Core.Bool.{Bool, false, false≢true, not, true}
use mathlib.Core.List.{List}
use Prim.Native.Nat.{◌+◌, ◌-◌, ◌<◌, ◌≤◌, suc, zero, ℕ}
use native.Mathlib.Omega.{arith}
use lib.ListN.{length}
use Rattle.calculus.specs.Bytes.{Bytes}
use Rattle.calculus.specs.Syntax.{Exp, is_both, is_const, is_exch, is_lam, is_name, Value}
use Rattle.calculus.specs.Step.{loose, meet, place, Place as CalculusPlace, settled}
use Rattle.calculus.specs.Image.{Closed, is_settled, size}
use Rattle.calculus.proofs.Theory.Places.{place_sound, place_value}
use Rattle.std.proofs.Common.{Some, Option, None}
use Rattle.term.specs.declared.Node.{Node}
use Rattle.term.specs.Tree.{HasForm}
use Rattle.term.specs.Reader.{end_at, GoodAt, node_at}
use Rattle.term.specs.Expressions.{term_at}
use Rattle.term.proofs.Views.{app_from, both_from, case_from, end_inside, end_onward, is_application, is_both as is_pair_or_front, is_case, leaf_from, node_there, past_first, two_form, TwoForm, two_from, TwoAt}
use Rattle.term.proofs.Expressions.{term_stands}
use Rattle.term_redex.specs.declared.Meeting.{Meeting}
use Rattle.term_redex.specs.declared.Stop.TheVariants.{At, Past}
use Rattle.term_redex.specs.Shapes.{const_is_exch, exp_is_exch, is_stop, op_is_exch}
use Rattle.term_redex.specs.Places.{place_of}
use Rattle.term_redex.specs.Stops.{first_of, passed, Stopped, stopped}
use Rattle.term_redex.proofs.Contexts.{closed_components, closed_parts}
use Rattle.term_redex.proofs.Nodes.{application_size, both_size, by_subterms, value_node}
use Rattle.term_redex.proofs.Places.{first_both, first_exch}

-- a value is no stop
value_no_stop : {e : Exp} → Value e → is_stop e ≡ false
unfolding is_stop exp_is_exch const_is_exch op_is_exch
value_no_stop is_name = refl
value_no_stop is_const = refl
value_no_stop is_lam = refl
value_no_stop (is_exch w) = refl
value_no_stop (is_both w w') = refl

stop_unsettled : (e : Exp) → is_stop e ≡ true → (v : Exp) (w : Value v) → ¬ (place e ≡ settled v w)
stop_unsettled e is v w q =
    let s : e ≡ v = rw q at (place_sound e) in
    false≢true (sym (value_no_stop w) ∙ ap is_stop (sym s) ∙ is)

module _ {A : Type 0} (meets : Meeting → A) (stuck : A) where
  -- of a value the right decides
  pub first_value : (base : ℕ) {e : Exp} → Value e → (rest : A) → first_of meets stuck base (place e) rest ≡ rest
  unfolding first_of
  first_value base w rest = ap (λ (p : CalculusPlace). first_of meets stuck base p rest) (place_value w)

  -- a stop is no value, so that nothing to its right matters
  stop_first : (base : ℕ) (e : Exp) → is_stop e ≡ true → (rest rest' : A) → first_of meets stuck base (place e) rest ≡ first_of meets stuck base (place e) rest'
  unfolding first_of
  stop_first base e is rest rest' = go (place e) refl
    where
      go : (p : CalculusPlace) → place e ≡ p → first_of meets stuck base p rest ≡ first_of meets stuck base p rest'
      go (settled v w) q = absurd (stop_unsettled e is v w q)
      go (meet F r d) q = refl
      go loose q = refl

  -- the subterms of a node that is opened stand for it
  opened : {l : List ℕ} {at : ℕ} {h : Node} → Bytes l → node_at l at ≡ Some h → (o : TwoAt l at h) → TwoForm h.tag → is_stop (term_at l at) ≡ false → (rest : A) →
      first_of meets stuck at (place (term_at l at)) rest
      ≡ first_of meets stuck (at + h.size) (place (term_at l (at + h.size))) (first_of meets stuck (past_first l at h) (place (term_at l (past_first l at h))) rest)
  unfolding is_stop
  opened {l} {at} {h} b is o (is_application t) passes rest =
      let p = app_from o t in
      let f = term_at l (at + h.size) in
      let a = term_at l (past_first l at h) in
      let exch : not (exp_is_exch f) ≡ false = sym (ap is_stop p.term) ∙ passes in
      let one : at + 1 ≡ at + h.size = ap (λ (n : ℕ). at + n) (sym (application_size l at is t)) in
      let next : at + 1 + size f ≡ past_first l at h = omega (arith, one, (term_stands b o.good).1) in
      ap (λ (e : Exp). first_of meets stuck at (place e) rest) p.term
      ∙ first_exch meets stuck at f a rest (not_not _ exch)
      ∙ ap₂ (λ (m n : ℕ). first_of meets stuck m (place f) (first_of meets stuck n (place a) rest)) one next
    where
      not_not : (x : Bool) → not x ≡ false → x ≡ true
      not_not true e = refl
      not_not false e = absurd (false≢true (sym e))
  opened {l} {at} {h} b is o (is_pair_or_front s t) passes rest =
      let p = both_from {s = s} o t in
      let e = term_at l (at + h.size) in
      let f = term_at l (past_first l at h) in
      let two : at + 2 ≡ at + h.size = ap (λ (n : ℕ). at + n) (sym (both_size l at s is t)) in
      let next : at + 2 + size e ≡ past_first l at h = omega (arith, two, (term_stands b o.good).1) in
      ap (λ (x : Exp). first_of meets stuck at (place x) rest) p.term
      ∙ first_both meets stuck at s h.arg e f rest
      ∙ ap₂ (λ (m n : ℕ). first_of meets stuck m (place e) (first_of meets stuck n (place f) rest)) two next
  opened {l} {at} {h} b is o (is_case s t) passes rest = absurd (false≢true (sym passes ∙ ap is_stop (case_from {s = s} o t).term))

-- Terms that stand one after the other: the first that is no value has the place

-- what comes of so many terms, the first at a position
unfoldable pub among : {A : Type 0} → (Meeting → A) → A → List ℕ → ℕ → ℕ → A → A
among meets stuck l at zero rest = rest
among meets stuck l at (suc terms) rest = first_of meets stuck at (place (term_at l at)) (among meets stuck l (end_at l at) terms rest)

-- the place among them, `rest` where all are values
unfoldable pub place_among : List ℕ → ℕ → ℕ → Option Meeting → Option Meeting
place_among l at terms rest = among Some None l at terms rest

-- whether all are values
unfoldable pub all_values : List ℕ → ℕ → ℕ → Bool
all_values l at terms = among (λ m. false) false l at terms true

-- where the last ends
unfoldable pub ends_among : List ℕ → ℕ → ℕ → ℕ
ends_among l at zero = at
ends_among l at (suc terms) = ends_among l (end_at l at) terms

-- so many terms stand there
pub data EachGood (l : List ℕ) : ℕ → ℕ → Type 0 where
  no_good : {at : ℕ} → EachGood l at zero
  good_term : {at terms : ℕ} → GoodAt l at → EachGood l (end_at l at) terms → EachGood l at (suc terms)

-- and their variables are bound in them
pub data EachClosed (l : List ℕ) : ℕ → ℕ → Type 0 where
  no_closed : {at : ℕ} → EachClosed l at zero
  closed_term : {at terms : ℕ} → Closed 0 (term_at l at) → EachClosed l (end_at l at) terms → EachClosed l at (suc terms)

good_first : {l : List ℕ} {at n : ℕ} → EachGood l at (suc n) → GoodAt l at × EachGood l (end_at l at) n
good_first (good_term g r) = (g, r)

closed_first : {l : List ℕ} {at n : ℕ} → EachClosed l at (suc n) → Closed 0 (term_at l at) × EachClosed l (end_at l at) n
closed_first (closed_term c r) = (c, r)

-- where the search of a term is: the terms still to come have its place, are values if it is one, and end where it ends
pub record Searching (l : List ℕ) (at here waits : ℕ) : Type 0 where
  pub good : EachGood l here waits
  pub onward : at ≤ here
  pub same : (rest : Option Meeting) → first_of Some None at (place (term_at l at)) rest ≡ place_among l here waits rest
  pub values : is_settled (place (term_at l at)) ≡ all_values l here waits
  pub ends : end_at l at ≡ ends_among l here waits
  pub closed : Closed 0 (term_at l at) → EachClosed l here waits

pub searching_start : {l : List ℕ} {at : ℕ} → GoodAt l at → Searching l at at 1
unfolding place_among all_values among ends_among is_settled first_of
searching_start g = record { good = good_term g no_good; onward = omega arith; same = λ rest. refl; values = refl; ends = refl; closed = λ c. closed_term c no_closed }

-- no term is to come
pub searching_done : {l : List ℕ} {at here waits : ℕ} → Searching l at here waits → ¬ (0 < waits) → Stopped l at (Past here)
unfolding all_values among ends_among
searching_done {l} {at} {waits = zero} s none = subst (λ (e : ℕ). Stopped l at (Past e)) s.ends (passed s.values)
searching_done {waits = suc n} s none = absurd (none (omega arith))

module _ {l : List ℕ} {at here n : ℕ} (s : Searching l at here (suc n)) where
  here_good : GoodAt l here
  here_good = (good_first s.good).0

  -- a value is passed
  past_value : Value (term_at l here) → Searching l at (end_at l here) n
  unfolding place_among all_values among ends_among
  past_value w = record {
    good = (good_first s.good).1;
    onward = omega (arith, s.onward, end_onward l here);
    same = λ rest. s.same rest ∙ first_value Some None here w _;
    values = s.values ∙ first_value (λ m. false) false here w _;
    ends = s.ends;
    closed = λ c. (closed_first (s.closed c)).1;
  }

  -- a node is opened
  past_node : {h : Node} → Bytes l → node_at l here ≡ Some h → h.subterms ≡ 2 → is_stop (term_at l here) ≡ false → Searching l at (here + h.size) (suc (suc n))
  unfolding place_among all_values among ends_among is_stop
  past_node {h} b is k passes =
      let o = two_from is here_good k in
      let f = two_form h.tag (subst (λ (i : ℕ). HasForm h.tag i) k (node_there here_good.inside is).form) in
      let e = o.ends in
      record {
        good = good_term o.good (good_term o.second (subst (λ (i : ℕ). EachGood l i n) e (good_first s.good).1));
        onward = omega (arith, s.onward);
        same = λ rest. s.same rest ∙ opened Some None b is o f passes _ ∙ ap (λ (i : ℕ). inside Some None (place_after rest i)) e;
        values = s.values ∙ opened (λ m. false) false b is o f passes _ ∙ ap (λ (i : ℕ). inside (λ m. false) false (values_after i)) e;
        ends = s.ends ∙ ap (λ (i : ℕ). ends_among l i n) e;
        closed = λ c. both_closed (closed_first (s.closed c)) f o;
      }
    where
      place_after : Option Meeting → ℕ → Option Meeting
      place_after rest i = among Some None l i n rest

      values_after : ℕ → Bool
      values_after i = among (λ m. false) false l i n true

      inside : {A : Type 0} → (Meeting → A) → A → A → A
      inside meets stuck rest =
          first_of meets stuck (here + h.size) (place (term_at l (here + h.size))) (first_of meets stuck (past_first l here h) (place (term_at l (past_first l here h))) rest)

      both_closed : Closed 0 (term_at l here) × EachClosed l (end_at l here) n → TwoForm h.tag → (o : TwoAt l here h) → EachClosed l (here + h.size) (suc (suc n))
      both_closed (c, r) f o =
          let (p, q) = parts f in
          closed_term p (closed_term q (subst (λ (i : ℕ). EachClosed l i n) o.ends r))
        where
          parts : TwoForm h.tag → Closed 0 (term_at l (here + h.size)) × Closed 0 (term_at l (past_first l here h))
          parts (is_application t) = closed_parts (subst (Closed 0) (app_from o t).term c)
          parts (is_pair_or_front s t) = closed_components (subst (Closed 0) (both_from {s = s} o t).term c)
          parts (is_case s t) = absurd (false≢true (sym passes ∙ ap is_stop (case_from {s = s} o t).term))

  never : (base : ℕ) (p : CalculusPlace) → first_of (λ m. false) false base p false ≡ false
  unfolding first_of
  never base (settled v w) = refl
  never base (meet F r d) = refl
  never base loose = refl

  -- it stops
  stops_here : is_stop (term_at l here) ≡ true → Stopped l at (At here)
  unfolding place_among all_values among first_of place_of
  stops_here is = stopped record {
    good = here_good;
    onward = s.onward;
    stop = is;
    same = λ rest. s.same rest ∙ stop_first Some None here _ is _ None;
    no_value = s.values ∙ stop_first (λ m. false) false here _ is _ false ∙ never here (place (term_at l here));
    closed = λ c. (closed_first (s.closed c)).0;
  }

-- Turn by turn, with the number of terms still to come as the loop has it

-- each term takes a byte or more
pub waits_inside : {l : List ℕ} {here waits : ℕ} → here ≤ length l → EachGood l here waits → here + waits ≤ length l
waits_inside inside no_good = omega arith
waits_inside {l} {here} inside (good_term g r) = omega (arith, waits_inside (end_inside g) r, end_onward l here)

some_left : {l : List ℕ} {at here waits : ℕ} → 0 < waits → Searching l at here waits → Searching l at here (suc (waits - 1))
some_left {l} {at} {here} {waits} some s = let e : waits ≡ suc (waits - 1) = omega arith in subst (Searching l at here) e s

module _ {l : List ℕ} {at here waits : ℕ} (some : 0 < waits) (s : Searching l at here waits) where
  pub turn_good : GoodAt l here
  turn_good = here_good (some_left some s)

  pub turn_stops : is_stop (term_at l here) ≡ true → Stopped l at (At here)
  turn_stops = stops_here (some_left some s)

  turn_value : Value (term_at l here) → Searching l at (end_at l here) (waits - 1)
  turn_value = past_value (some_left some s)

  turn_node : {h : Node} → Bytes l → node_at l here ≡ Some h → h.subterms ≡ 2 → is_stop (term_at l here) ≡ false → Searching l at (here + h.size) (waits + 1)
  turn_node {h} b is k passes =
      let e : suc (suc (waits - 1)) ≡ waits + 1 = omega arith in
      subst (Searching l at (here + h.size)) e (past_node (some_left some s) b is k passes)

  -- a lambda is passed with all that is in it
  pub turn_lambda : {h : Node} → node_at l here ≡ Some h → h.subterms ≡ 1 → is_stop (term_at l here) ≡ false → Searching l at (end_at l here) (waits - 1)
  turn_lambda is k passes = turn_value (value_node is turn_good (λ e. omega (arith, e, k)) passes)

  -- any other node makes way for its subterms
  pub turn_open : {h : Node} → Bytes l → node_at l here ≡ Some h → ¬ (h.subterms ≡ 1) → is_stop (term_at l here) ≡ false →
      Searching l at (here + h.size) (waits - 1 + h.subterms)
  turn_open {h} b is other passes = by_subterms h.subterms (node_there turn_good.inside is).few leaf (λ k. absurd (other k)) two
    where
      leaf : h.subterms ≡ 0 → Searching l at (here + h.size) (waits - 1 + h.subterms)
      leaf k =
          let e : waits - 1 ≡ waits - 1 + h.subterms = omega (arith, k) in
          subst (Searching l at (here + h.size)) e
          (subst (λ (i : ℕ). Searching l at i (waits - 1)) (leaf_from is turn_good k).ends (turn_value (value_node is turn_good (λ z. omega (arith, z, k)) passes)))

      two : h.subterms ≡ 2 → Searching l at (here + h.size) (waits - 1 + h.subterms)
      two k =
          let e : waits + 1 ≡ waits - 1 + h.subterms = omega (arith, k, some) in
          subst (Searching l at (here + h.size)) e (turn_node b is k passes)
