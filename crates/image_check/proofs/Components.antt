-- What `component_nodes` answers: one law for each return.
use mathlib.Core.Path.{◌∙◌, ◌≡◌, ap, refl, sym}
use mathlib.Core.Bool.{Bool, ◌&&◌, ◌||◌, false, false≢true, true}
use mathlib.Core.List.{List}
use Prim.Native.Nat.{◌<◌, ◌≤◌, suc, zero, ℕ}
use native.Mathlib.Decide.{dec_lt}
use native.Mathlib.Omega.{arith}
use borrow.Author.Tests.{le-leb}
use lib.Dec.{leb}
use Rattle.calculus.specs.Syntax.{Exp, sum_in}
use Rattle.calculus.specs.Step.{place}
use Rattle.calculus.specs.Image.{expression_test, is_settled, nodes}
use Rattle.calculus.proofs.Theory.Tests.{and_parts, and_true, leb_complete, leb_sound}
use Rattle.term.specs.Reader.{GoodAt, one_term, read_term}
use Rattle.term.specs.Expressions.{term_at}
use Rattle.std.proofs.Common.{None, Some}
use Rattle.calculus.specs.Kinds.{thread_kind, cell_kind, open_handle_kind, future_kind}
use Rattle.image_layout.specs.Slice.{kind_at, expression_at}
use Rattle.image_layout.specs.Readable.{HasHead, HasExpression}
use Rattle.image_layout.proofs.Theory.Reading.{has_expression, has_head}
use Rattle.image_layout.proofs.Theory.Test.{heads_stand_iff}
use Rattle.image_check.specs.Parts.{component_of, component_part, expression_keeps, expression_part, expression_stands, Named, nodes_of, term_stands}
use Rattle.image_check.proofs.Theory.Names.{cell_component, future_component, open_component, thread_component, used_component}
use Rattle.image_check.proofs.Picks.{pick_none, pick_some, picked, unpicked}
use Rattle.image_check.proofs.Expressions.{part_none, part_reads, Reads, whole_term}

module _ {s : List ℕ} {k : ℕ} (n : Named s k) where
  -- a name has a kind, a head, and room for its expression
  pub known_kind : (thread_kind ≤ kind_at s k) × (kind_at s k ≤ future_kind)
  known_kind = (((heads_stand_iff s).0 n.heads).heads k n.below).kinds

  pub named_head : HasHead s k
  named_head = has_head s n.heads k n.below

  pub named_expression : HasExpression s k
  named_expression = has_expression s n.heads k n.below

-- what an answer says
pub record Stood (s : List ℕ) (m left k : ℕ) : Type 0 where
  pub stands : expression_stands s m k ≡ true
  pub few : nodes_of s k ≤ left

module _ (s : List ℕ) (m left k : ℕ) where
  stood_test : Stood s m left k → (expression_stands s m k && leb (nodes_of s k) left) ≡ true
  stood_test r = and_true r.stands (leb_complete (nodes_of s k) left r.few)

  test_stood : (expression_stands s m k && leb (nodes_of s k) left) ≡ true → Stood s m left k
  test_stood h = let (t, l) = and_parts (expression_stands s m k) (leb (nodes_of s k) left) h in record { stands = t; few = leb_sound (nodes_of s k) left l }

  pub stood_part : (n : ℕ) → Stood s m left k → nodes_of s k ≡ n → Some n ≡ component_part s m left k
  unfolding component_part
  stood_part n r e = pick_some (expression_stands s m k && leb (nodes_of s k) left) n (nodes_of s k) (stood_test r) e

  pub fallen_part : ¬ Stood s m left k → None ≡ component_part s m left k
  unfolding component_part
  fallen_part h = pick_none (expression_stands s m k && leb (nodes_of s k) left) (nodes_of s k) (λ t. h (test_stood t))

  pub part_stood : (n : ℕ) → Some n ≡ component_part s m left k → Stood s m left k × (nodes_of s k ≡ n)
  unfolding component_part
  part_stood n h = let (t, e) = picked (expression_stands s m k && leb (nodes_of s k) left) n (nodes_of s k) h in (test_stood t, e)

  pub part_fallen : None ≡ component_part s m left k → ¬ Stood s m left k
  unfolding component_part
  part_fallen h r = unpicked (expression_stands s m k && leb (nodes_of s k) left) (nodes_of s k) h (stood_test r)

  -- a handle or a future has no expression
  no_expression : (kind : ℕ) → kind_at s k ≡ kind → open_handle_kind ≤ kind → kind ≤ future_kind → (expression_keeps m (component_of s k) ≡ true) × (sum_in nodes (component_of s k) ≡ 0)
  unfolding expression_keeps sum_in
  no_expression zero e low high = absurd (omega arith)
  no_expression (suc zero) e low high = absurd (omega arith)
  no_expression (suc (suc zero)) e low high = absurd (omega arith)
  no_expression (suc (suc (suc zero))) e low high = rw (open_component s k e) (refl, refl)
  no_expression (suc (suc (suc (suc zero)))) e low high = rw (used_component s k e) (refl, refl)
  no_expression (suc (suc (suc (suc (suc zero))))) e low high = rw (future_component s k e) (refl, refl)
  no_expression (suc (suc (suc (suc (suc (suc kind)))))) e low high = absurd (omega arith)

  pub part_empty : Named s k → {kind : ℕ} → kind ≡ kind_at s k → cell_kind < kind → Some 0 ≡ component_part s m left k
  unfolding expression_stands term_stands nodes_of
  part_empty n is h =
      let (keeps, none) = no_expression (kind_at s k) refl (omega arith) (known_kind n).1 in
      stood_part 0
      record {
        stands = and_true (ap (λ (b : Bool). b || one_term (read_term (expression_at s k))) (le-leb open_handle_kind (kind_at s k) (omega arith))) keeps;
        few = omega (arith, none);
      }
      none

  -- the expression of a thread, and of a cell
  abbrev here : Exp
  here = term_at (expression_at s k) 0

  thread_stands : kind_at s k ≡ thread_kind → expression_stands s m k ≡ (one_term (read_term (expression_at s k)) && expression_test m 0 here)
  unfolding expression_stands term_stands expression_keeps
  thread_stands e = rw (thread_component s k e, e) refl

  cell_stands : kind_at s k ≡ cell_kind → expression_stands s m k ≡ (one_term (read_term (expression_at s k)) && (expression_test m 0 here && is_settled (place here)))
  unfolding expression_stands term_stands expression_keeps
  cell_stands e = rw (cell_component s k e, e) refl

  thread_nodes : kind_at s k ≡ thread_kind → nodes_of s k ≡ nodes here
  unfolding nodes_of sum_in
  thread_nodes e = rw (thread_component s k e) refl

  cell_nodes : kind_at s k ≡ cell_kind → nodes_of s k ≡ nodes here
  unfolding nodes_of sum_in
  cell_nodes e = rw (cell_component s k e) refl

  -- in both cases the expression is one term within the budget, and what it names is there
  thread_reads : kind_at s k ≡ thread_kind → Stood s m left k → Reads m left (expression_at s k)
  thread_reads e r =
      let (one, scope) = and_parts (one_term (read_term (expression_at s k))) (expression_test m 0 here) (sym (thread_stands e) ∙ r.stands) in
      record { one = one; scope = scope; few = omega (arith, thread_nodes e, r.few) }

  cell_reads : kind_at s k ≡ cell_kind → Stood s m left k → Reads m left (expression_at s k) × (is_settled (place here) ≡ true)
  cell_reads e r =
      let (one, rest) = and_parts (one_term (read_term (expression_at s k))) (expression_test m 0 here && is_settled (place here)) (sym (cell_stands e) ∙ r.stands) in
      let (scope, settles) = and_parts (expression_test m 0 here) (is_settled (place here)) rest in
      (record { one = one; scope = scope; few = omega (arith, cell_nodes e, r.few) }, settles)

  module _ (named : Named s k) {kind : ℕ} (is : kind ≡ kind_at s k) (low : kind ≤ cell_kind) {l : List ℕ} (bytes : l ≡ expression_at s k) where
    is_cell : (kind ≡ thread_kind → ⊥) → kind_at s k ≡ cell_kind
    is_cell h = omega (arith, known_kind named)

    stood_reads : Stood s m left k → Reads m left (expression_at s k)
    stood_reads r = elim (dec_lt (kind_at s k) cell_kind) [
      | yes l ↦ thread_reads (omega (arith, known_kind named)) r
      | no l ↦ (cell_reads (omega arith) r).0
    ]

    pub part_broken : None ≡ expression_part m left l → None ≡ component_part s m left k
    part_broken h = fallen_part (λ r. part_none m left (expression_at s k) (h ∙ ap (expression_part m left) bytes) (stood_reads r))

    module _ (n : ℕ) (h : Some n ≡ expression_part m left l) where
      both : Reads m left (expression_at s k) × (nodes here ≡ n)
      both = part_reads m left (expression_at s k) n (h ∙ ap (expression_part m left) bytes)

      pub part_thread : kind ≡ thread_kind → Some n ≡ component_part s m left k
      part_thread t =
          let (reads, count) = both in
          let e : kind_at s k ≡ thread_kind = sym is ∙ t in
          stood_part n record { stands = thread_stands e ∙ and_true reads.one reads.scope; few = omega (arith, thread_nodes e, reads.few) } (thread_nodes e ∙ count)

      module _ (other : kind ≡ thread_kind → ⊥) where
        pub part_valueless : is_settled (place (term_at l 0)) ≡ false → None ≡ component_part s m left k
        part_valueless f = fallen_part (λ r. false≢true (sym f ∙ ap (λ (x : List ℕ). is_settled (place (term_at x 0))) bytes ∙ (cell_reads (is_cell other) r).1))

        pub part_cell : is_settled (place (term_at l 0)) ≡ true → Some n ≡ component_part s m left k
        part_cell t =
            let (reads, count) = both in
            let e = is_cell other in
            let settles = ap (λ (x : List ℕ). is_settled (place (term_at x 0))) (sym bytes) ∙ t in
            stood_part n record { stands = cell_stands e ∙ and_true reads.one (and_true reads.scope settles); few = omega (arith, cell_nodes e, reads.few) } (cell_nodes e ∙ count)

-- an expression that was read can be searched
pub part_good : (m left : ℕ) (l : List ℕ) (n : ℕ) → Some n ≡ expression_part m left l → GoodAt l 0
part_good m left l n h = (whole_term l (part_reads m left l n h).0.one).0
