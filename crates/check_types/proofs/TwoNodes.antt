-- A node with two subterms, form by form: its type from those of its subterms, and the variables that the second has more.
use mathlib.Core.Path.{◌≡◌, ap, refl, sym, ◌∙◌}
use mathlib.Core.Bool.{Bool, ◌&&◌, and-false, cond, false, false≢true, true}
use mathlib.Core.Option.{Option, none, some}
use mathlib.Core.List.{List, ◌∷◌}
use Prim.Native.Nat.{◌+◌, ◌<◌, suc, zero, ℕ}
use native.Mathlib.Nat.{add-zero}
use lib.Dec.{eqb}
use lib.ListN.{get_or, length, length-set}
use Rattle.calculus.specs.Options.{on_some}
use Rattle.calculus.specs.Syntax.{Shape, pair, list, Exp, at as entry_at}
use Rattle.calculus.specs.Table.{Entry, Table}
use Rattle.calculus.specs.Verdict.{is_kind_of, second_number, with_components, on_number, result_number, applied_number, both_number, case_number, type_number}
use Rattle.term.specs.declared.Node.{Node}
use Rattle.term.specs.Forms.{application_tag, binders_of, form_of, forms, is_case_tag}
use Rattle.term.specs.Expressions.{both_tag, case_tag, two_exp, two_forms}
use Rattle.term.proofs.Views.{NodeAt, two_form, TwoForm, is_application, is_both, is_case}
use Rattle.check_types.specs.Entries.{entry_of, known_entry}
use Rattle.check_types.specs.Two.{is_both_tag, is_list_tag, shape_of, deciding, can_open, two_number, second_component, scope_inside, opened}
use Rattle.check_types.specs.Walk.{environment}
use Rattle.check_types.proofs.Entries.{result_is, components_is}
use Rattle.check_types.proofs.Environments.{environment_both, environment_below}

-- an application, a pair or front, a case: its tag, and how many variables its second subterm has more
pub data TwoNode : ℕ → ℕ → Type 0 where
  an_application : TwoNode application_tag 0
  a_both : (s : Shape) → TwoNode (both_tag s) 0
  a_case : (s : Shape) → TwoNode (case_tag s) 2

pub two_node : {l : List ℕ} {at : ℕ} {h : Node} → NodeAt l at h → h.subterms ≡ 2 → TwoNode h.tag h.binders
unfolding form_of forms both_tag case_tag
two_node {h = h} n e = go (two_form h.tag (rw e at n.form))
  where
    go : TwoForm h.tag → TwoNode h.tag h.binders
    go (is_application q) = let b : h.binders ≡ 0 = sym n.binds ∙ ap binders_of q in rw (q, b) an_application
    go (is_both pair q) = let b : h.binders ≡ 0 = sym n.binds ∙ ap binders_of q in rw (q, b) (a_both pair)
    go (is_both list q) = let b : h.binders ≡ 0 = sym n.binds ∙ ap binders_of q in rw (q, b) (a_both list)
    go (is_case pair q) = let b : h.binders ≡ 2 = sym n.binds ∙ ap binders_of q in rw (q, b) (a_case pair)
    go (is_case list q) = let b : h.binders ≡ 2 = sym n.binds ∙ ap binders_of q in rw (q, b) (a_case list)

-- a test of two components that fails for any
components_fail : (s : Shape) (t : ℕ) (o : Option Entry) (test : ℕ → ℕ → Bool) → ((p q : ℕ) → test p q ≡ false) → with_components false s t o test ≡ false
unfolding with_components
components_fail s t none test fails = refl
components_fail s t (some x) test fails = go (is_kind_of s x.kind)
  where
    go : (k : Bool) → cond k (test x.p (second_number s t x.q)) false ≡ false
    go true = fails x.p (second_number s t x.q)
    go false = refl

no_first_component : (s : Shape) (t : ℕ) (o : Option Entry) (n : Option ℕ) → both_number s t o none n ≡ none
unfolding both_number on_number
no_first_component s t o n = rw (components_fail s t o (λ p q. false && on_number n (λ m. eqb m q)) (λ p q. refl))

no_second_component : (s : Shape) (t : ℕ) (o : Option Entry) (n : Option ℕ) → both_number s t o n none ≡ none
unfolding both_number on_number
no_second_component s t o n = rw (components_fail s t o (λ p q. on_number n (λ m. eqb m p) && false) (λ p q. and-false (on_number n (λ m. eqb m p))))

both_is : (s : Shape) (t : ℕ) (o : Option Entry) (n₁ n₂ : Option ℕ) → both_number s t o n₁ n₂ ≡ both_number s t (some (known_entry o)) n₁ n₂
unfolding both_number
both_is s t o n₁ n₂ = rw (components_is false s o t (λ p q. on_number n₁ (λ n. eqb n p) && on_number n₂ (λ n. eqb n q)))

-- the type of an application, a pair or front, from that of the second subterm
result_known : (o : Option Entry) (a : Option ℕ) → on_some a (λ n. result_number o n) ≡ on_some a (λ n. result_number (some (known_entry o)) n)
result_known o none = refl
result_known o (some n) = result_is o n

both_known : (s : Shape) (t : ℕ) (o : Option Entry) (n : ℕ) (a : Option ℕ) →
    both_number s t o (some n) a ≡ on_some a (λ m. both_number s t (some (known_entry o)) (some n) (some m))
both_known s t o n none = no_second_component s t o (some n)
both_known s t o n (some m) = both_is s t o (some n) (some m)

-- the types of the components, from the type of the subject
parts_known : (T : Table) (s : Shape) (n : ℕ) (body : ℕ → ℕ → Option ℕ) →
    case_number s T (some n) body ≡ cond (is_kind_of s (entry_of T n).kind) (body (entry_of T n).p (second_number s n (entry_of T n).q)) none
unfolding case_number with_components entry_of
parts_known T s n body = components_is none s (entry_at T n) n body

same_some : (o : Option ℕ) → o ≡ on_some o (λ n. some n)
same_some none = refl
same_some (some n) = refl

module _ (T : Table) (Δ : List ℕ) (arg : ℕ) (e f : Exp) where
  -- the first subterm has no type
  pub no_first : {tag binders : ℕ} → TwoNode tag binders → type_number T Δ e ≡ none → type_number T Δ (two_exp tag arg e f) ≡ none
  unfolding type_number two_exp two_forms both_tag case_tag applied_number case_number
  no_first an_application h = rw h
  no_first (a_both pair) h = rw h (no_first_component pair arg (entry_at T arg) (type_number T Δ f))
  no_first (a_both list) h = rw h (no_first_component list arg (entry_at T arg) (type_number T Δ f))
  no_first (a_case pair) h = rw h
  no_first (a_case list) h = rw h

  module _ (n : ℕ) (first : type_number T Δ e ≡ some n) where
    -- a case's subject is of another kind
    pub not_open : {tag binders : ℕ} → TwoNode tag binders → can_open tag (entry_of T (deciding tag arg n)).kind ≡ false → type_number T Δ (two_exp tag arg e f) ≡ none
    unfolding type_number two_exp two_forms both_tag case_tag can_open deciding is_case_tag is_both_tag is_list_tag shape_of
    not_open an_application h = absurd (false≢true (sym h))
    not_open (a_both pair) h = absurd (false≢true (sym h))
    not_open (a_both list) h = absurd (false≢true (sym h))
    not_open (a_case pair) h = rw (first, parts_known T pair n (λ p q. type_number T (q ∷ p ∷ Δ) f), h)
    not_open (a_case list) h = rw (first, parts_known T list n (λ p q. type_number T (q ∷ p ∷ Δ) f), h)

    -- the type from that of the second subterm
    abbrev Second : ℕ → ℕ → Entry → Option ℕ
    Second tag binders x = type_number T (scope_inside binders x.p (second_component tag (deciding tag arg n) x.q) Δ) f

    pub two_is : {tag binders : ℕ} → TwoNode tag binders → can_open tag (entry_of T (deciding tag arg n)).kind ≡ true →
        type_number T Δ (two_exp tag arg e f) ≡ on_some (Second tag binders (entry_of T (deciding tag arg n))) (two_number tag (entry_of T (deciding tag arg n)) (deciding tag arg n) n)
    unfolding type_number two_exp two_forms both_tag case_tag can_open deciding is_case_tag is_both_tag is_list_tag shape_of two_number scope_inside applied_number entry_of
    two_is an_application h = rw first (result_known (entry_at T n) (type_number T Δ f))
    two_is (a_both pair) h = rw first (both_known pair arg (entry_at T arg) n (type_number T Δ f))
    two_is (a_both list) h = rw first (both_known list arg (entry_at T arg) n (type_number T Δ f))
    two_is (a_case pair) h = rw (first, parts_known T pair n (λ p q. type_number T (q ∷ p ∷ Δ) f), h) (same_some _)
    two_is (a_case list) h = rw (first, parts_known T list n (λ p q. type_number T (q ∷ p ∷ Δ) f), h) (same_some _)

-- the environment of the second subterm
pub environment_inside : {tag binders : ℕ} → TwoNode tag binders → (above : ℕ) (a : List ℕ) (p q : ℕ) → above + 1 < length a →
    environment (above + binders) (opened binders a above p q) ≡ scope_inside binders p q (environment above a)
unfolding opened scope_inside
environment_inside an_application above a p q room = rw (add-zero above)
environment_inside (a_both s) above a p q room = rw (add-zero above)
environment_inside (a_case s) above a p q room = environment_both above a p q room

-- and that of the node, where it is left as it was
pub environment_outside : {tag binders : ℕ} → TwoNode tag binders → (above : ℕ) (a a' : List ℕ) (p q : ℕ) → above + 1 < length a →
    environment (above + binders) a' ≡ environment (above + binders) (opened binders a above p q) → environment above a' ≡ environment above a
unfolding opened
environment_outside an_application above a a' p q room e = rw (add-zero above) at e
environment_outside (a_both s) above a a' p q room e = rw (add-zero above) at e
environment_outside (a_case s) above a a' p q room e =
    let h : get_or a' (above + 1) 0 ∷ get_or a' above 0 ∷ environment above a' ≡ q ∷ p ∷ environment above a =
    sym (environment_below above a') ∙ e ∙ environment_both above a p q room in
    cc

pub length_opened : (binders : ℕ) (a : List ℕ) (level x y : ℕ) → length (opened binders a level x y) ≡ length a
unfolding opened
length_opened zero a level x y = refl
length_opened (suc binders) a level x y = simp length-set
