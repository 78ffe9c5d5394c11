-- The type of a term from those of its subterms.
use mathlib.Core.Path.{◌≡◌, ap, refl, subst, sym}
use mathlib.Core.Bool.{and-false, false, true}
use mathlib.Core.Option.{Option, none, some}
use mathlib.Core.List.{List, ◌∷◌}
use Prim.Native.Nat.{◌+◌, ℕ}
use Rattle.calculus.specs.Syntax.{at as entry_at}
use Rattle.calculus.specs.Table.{Entry, Table}
use Rattle.calculus.specs.Options.{on_some}
use Rattle.calculus.specs.Verdict.{lambda_number, on_number, type_number}
use Rattle.calculus.proofs.Theory.Tests.{clash}
use Rattle.term.specs.declared.Node.{Node}
use Rattle.term.specs.Reader.{end_at}
use Rattle.term.specs.Expressions.{leaf_exp, term_at}
use Rattle.term.proofs.Views.{LeafAt, OneAt, past_first, TwoAt}
use Rattle.std.proofs.Common.{None, Option as Answer, Some}
use Rattle.check_types.specs.declared.Typed.{Typed}
use Rattle.check_types.specs.Entries.{entry_of}
use Rattle.check_types.specs.Two.{can_open, deciding, scope_inside, second_component, two_number}
use Rattle.check_types.specs.Walk.{has, HasNumber, typed_at, typed}
use Rattle.check_types.proofs.Entries.{lambda_is}
use Rattle.check_types.proofs.TwoNodes.{no_first, not_open, two_is, TwoNode}

-- types are equal with their parts
number_in : Answer Typed → ℕ
number_in None = 0
number_in (Some x) = x.number

end_in : Answer Typed → ℕ
end_in None = 0
end_in (Some x) = x.end

pub same_number : {n m end end' : ℕ} → has n end ≡ has m end' → n ≡ m
unfolding number_in
same_number e = ap number_in e

same_end : {n m end end' : ℕ} → has n end ≡ has m end' → end ≡ end'
unfolding end_in
same_end e = ap end_in e

record Found (o : Option ℕ) (n end end' : ℕ) : Type 0 where
  pub number : o ≡ some n
  pub ends : end ≡ end'

found : (o : Option ℕ) (n end end' : ℕ) → has n end' ≡ typed o end → Found o n end end'
unfolding typed
found none n end end' e = absurd (clash (cc))
found (some m) n end end' e = record { number = ap some (sym (same_number e)); ends = sym (same_end e) }

missing : (o : Option ℕ) (end : ℕ) → None ≡ typed o end → o ≡ none
unfolding typed
missing none end e = refl
missing (some m) end e = absurd (clash (cc))

no_body : (x : Entry) (t : ℕ) (body : ℕ → Option ℕ) → body x.p ≡ none → lambda_number t (some x) body ≡ none
unfolding lambda_number on_number
no_body x t body e = simp (e, and-false)

body_is : (x : Entry) (t b : ℕ) (body : ℕ → Option ℕ) → body x.p ≡ some b → lambda_number t (some x) body ≡ lambda_number t (some x) (λ p. some b)
unfolding lambda_number
body_is x t b body e = rw e refl

module _ (T : Table) (Δ l : List ℕ) (at : ℕ) (h : Node) where
  pub leaf_type : LeafAt l at h → (n : ℕ) → HasNumber Δ (leaf_exp h.tag h.arg) n → has n (at + h.size) ≡ typed_at T Δ l at
  unfolding typed_at typed
  leaf_type o n i = rw (o.term, o.ends, i.number T) refl

  module _ (o : OneAt l at h) where
    abbrev body : ℕ → Option ℕ
    body p = type_number T (p ∷ Δ) (term_at l (at + h.size))

    lambda : type_number T Δ (term_at l at) ≡ lambda_number h.arg (some (entry_of T h.arg)) body
    unfolding type_number entry_of
    lambda = rw o.term (lambda_is (entry_at T h.arg) h.arg body)

    pub one_nothing : None ≡ typed_at T ((entry_of T h.arg).p ∷ Δ) l (at + h.size) → None ≡ typed_at T Δ l at
    unfolding typed_at typed
    one_nothing e =
        rw (lambda, no_body (entry_of T h.arg) h.arg body (missing (body (entry_of T h.arg).p) (end_at l (at + h.size)) e)) refl

    pub one_type : (b end : ℕ) → has b end ≡ typed_at T ((entry_of T h.arg).p ∷ Δ) l (at + h.size) →
        typed (lambda_number h.arg (some (entry_of T h.arg)) (λ p. some b)) end ≡ typed_at T Δ l at
    unfolding typed_at
    one_type b end e =
        let f = found (body (entry_of T h.arg).p) b (end_at l (at + h.size)) end e in
        rw (lambda, body_is (entry_of T h.arg) h.arg b body f.number, o.ends, f.ends) refl

  -- a node with two subterms
  module _ (o : TwoAt l at h) (k : TwoNode h.tag h.binders) where
    abbrev first_number : Option ℕ
    first_number = type_number T Δ (term_at l (at + h.size))

    pub two_nothing : None ≡ typed_at T Δ l (at + h.size) → None ≡ typed_at T Δ l at
    unfolding typed_at typed
    two_nothing e = rw (o.term, no_first T Δ h.arg _ (term_at l (past_first l at h)) k (missing first_number (past_first l at h) e)) refl

    module _ (n second : ℕ) (first : has n second ≡ typed_at T Δ l (at + h.size)) where
      first_found : Found first_number n (past_first l at h) second
      unfolding typed_at
      first_found = found first_number n (past_first l at h) second first

      pub first_number_is : first_number ≡ some n
      first_number_is = first_found.number

      -- the second subterm begins where the first ends
      pub second_at : past_first l at h ≡ second
      second_at = first_found.ends

      -- t has the entry that decides
      module _ (t : ℕ) (is_t : t ≡ deciding h.tag h.arg n) (x : Entry) (is : x ≡ entry_of T t) where
        -- a case's subject is of another kind
        pub two_closed : can_open h.tag x.kind ≡ false → None ≡ typed_at T Δ l at
        unfolding typed_at typed
        two_closed c = rw (o.term, not_open T Δ h.arg _ (term_at l (past_first l at h)) n first_found.number k (rw (is, is_t) at c)) refl

        abbrev inside : List ℕ
        inside = scope_inside h.binders x.p (second_component h.tag t x.q) Δ

        abbrev second_number : Option ℕ
        second_number = type_number T inside (term_at l (past_first l at h))

        module _ (opens : can_open h.tag x.kind ≡ true) where
          node_number : type_number T Δ (term_at l at) ≡ on_some second_number (two_number h.tag x t n)
          node_number = rw (o.term, is, is_t)
              (two_is T Δ h.arg (term_at l (at + h.size)) (term_at l (past_first l at h)) n first_found.number k (rw (is, is_t) at opens))

          pub two_nothing_second : None ≡ typed_at T inside l second → None ≡ typed_at T Δ l at
          unfolding typed_at typed
          two_nothing_second e =
              let e' : None ≡ typed_at T inside l (past_first l at h) = subst (λ y. None ≡ typed_at T inside l y) (sym second_at) e in
              rw (node_number, missing second_number (end_at l (past_first l at h)) e') refl

          pub two_type : (a end : ℕ) → has a end ≡ typed_at T inside l second → typed (two_number h.tag x t n a) end ≡ typed_at T Δ l at
          unfolding typed_at
          two_type a end e =
              let e' : has a end ≡ typed_at T inside l (past_first l at h) = subst (λ y. has a end ≡ typed_at T inside l y) (sym second_at) e in
              let g = found second_number a (end_at l (past_first l at h)) end e' in
              rw (node_number, g.number, o.ends, g.ends) refl
