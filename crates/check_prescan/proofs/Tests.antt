-- Causes 6 to 8 of a node, by the tests of the code.
use mathlib.Core.Path.{◌≡◌, ap, refl, subst, sym, ◌∙◌}
use mathlib.Core.Bool.{Bool, ◌&&◌, and-true, cond, false, not, true}
use Prim.Native.Nat.{◌<◌, ◌≤◌, ℕ}
use native.Mathlib.Omega.{arith}
use borrow.Author.Tests.{eq-eqb, le-ltb, lt-ltb, ne_eqb}
use lib.Dec.{T as So, eqb, leb, ltb}
use lib.ListN.{length}
use Rattle.calculus.specs.Limits.{max_entries, max_nesting}
use Rattle.calculus.specs.Syntax.{at}
use Rattle.calculus.specs.Table as calculus
use Rattle.calculus.specs.Table.{Table}
use Rattle.calculus.specs.Verdict.{annotated, annotated_const, is_function_kind, with_components}
use Rattle.calculus.proofs.Theory.Tests.{and_parts, leb_sound, ltb_sound, true_of}
use Rattle.std.proofs.Common.{Option, None, Some}
use Rattle.term.specs.declared.Node.{Node}
use Rattle.term.specs.Forms.{application_tag, cell_tag, exch_tag, form_of, forms, handle_tag, lambda_tag, list_tag, num_tag, pair_tag, refers_of, tags, to_name, to_nothing, thread_tag, to_type, to_variable, unit_tag, variable_tag}
use Rattle.term.specs.Expressions.{leaf_exp, leaf_forms}
use Rattle.term.proofs.Table.{below, end_of_row, Row, ◌∣◌}
use Rattle.term_scan.specs.Scopes.{bound_of, operand_scoped}
use Rattle.recipe_table.specs.declared.Entry.{Entry}
use Rattle.recipe_table.specs.Filled.{as_entry}
use Rattle.check_types.specs.Entries.{entry_of}
use Rattle.check_types.specs.Two.{is_both_tag, shape_of}
use Rattle.check_types.proofs.Entries.{on_function_is}
use Rattle.check_prescan.specs.Stands.{around_of, level_of, next_node, node_annotated, node_stands}
use Rattle.check_prescan.specs.Nodes.{Known, TypedNode}

-- what a number refers to is no type
other : {P : Type 0} (n : ℕ) → So (not (eqb n to_type)) → n ≡ to_type → P
other n f e = absurd (subst So (ap not (eq-eqb n to_type e)) f)

-- a tag is on one side of the constants' last one
past : {P : Type 0} (tag : ℕ) → So (ltb handle_tag tag) → tag ≤ handle_tag → P
past tag s h = absurd (omega (arith, ltb_sound handle_tag tag (true_of _ s), h))

upto : {P : Type 0} (tag : ℕ) → So (leb tag handle_tag) → handle_tag < tag → P
upto tag s h = absurd (omega (arith, leb_sound tag handle_tag (true_of _ s), h))

-- a node that refers to a type is a lambda, a constant with a type, or one of T-03's
pub typed_constant : {tag arg : ℕ} → TypedNode tag arg → (tag ≡ lambda_tag → ⊥) → tag ≤ handle_tag → (cell_tag ≤ tag) × (tag ≤ handle_tag)
unfolding form_of forms
typed_constant {tag} t = below row tag t.known t.typed
  where
    constant : (tag : ℕ) → So (leb cell_tag tag && leb tag handle_tag) → (cell_tag ≤ tag) × (tag ≤ handle_tag)
    constant tag t = let (low, high) = and_parts (leb cell_tag tag) (leb tag handle_tag) (true_of _ t) in (leb_sound cell_tag tag low, leb_sound tag handle_tag high)

    row : Row (λ tag. refers_of tag ≡ to_type → (tag ≡ lambda_tag → ⊥) → tag ≤ handle_tag → (cell_tag ≤ tag) × (tag ≤ handle_tag)) 0 tags
    row =
        (λ e l h. other to_variable tt e) ∣
        (λ e l h. absurd (l refl)) ∣
        (λ e l h. other to_nothing tt e) ∣
        (λ e l h. other to_nothing tt e) ∣
        (λ e l h. other to_nothing tt e) ∣
        (λ e l h. constant cell_tag tt) ∣
        (λ e l h. constant exch_tag tt) ∣
        (λ e l h. constant thread_tag tt) ∣
        (λ e l h. constant handle_tag tt) ∣
        (λ e l h. other to_name tt e) ∣
        (λ e l. past pair_tag tt) ∣
        (λ e l. past list_tag tt) ∣
        (λ e l h. other to_nothing tt e) ∣
        (λ e l h. other to_nothing tt e) ∣
        end_of_row

module _ (T : Table) (tag arg : ℕ) where
  pub lambda_annotated : (x : Entry) → as_entry x ≡ entry_of T arg → tag ≡ lambda_tag → is_function_kind x.kind ≡ node_annotated T tag arg
  unfolding node_annotated
  lambda_annotated x e t =
      rw (t, on_function_is T arg (λ p q. true)) (ap (λ (y : calculus.Entry). is_function_kind y.kind) e ∙ sym (and-true (is_function_kind (entry_of T arg).kind)))

  pub constant_annotated : (tag ≡ lambda_tag → ⊥) → tag ≤ handle_tag → annotated T (leaf_exp tag arg) ≡ node_annotated T tag arg
  unfolding node_annotated is_both_tag
  constant_annotated l h = rw (ne_eqb tag lambda_tag l, ne_eqb tag pair_tag (omega arith), ne_eqb tag list_tag (omega arith)) refl

  pub both_annotated : TypedNode tag arg → handle_tag < tag → with_components false (shape_of tag) arg (at T arg) (λ p q. true) ≡ node_annotated T tag arg
  unfolding node_annotated is_both_tag form_of forms
  both_annotated t = below row tag t.known t.typed
    where
      row : Row (λ tag. refers_of tag ≡ to_type → handle_tag < tag → with_components false (shape_of tag) arg (at T arg) (λ p q. true) ≡ node_annotated T tag arg) 0 tags
      row =
          (λ e. upto variable_tag tt) ∣ (λ e. upto lambda_tag tt) ∣ (λ e. upto application_tag tt) ∣ (λ e. upto unit_tag tt) ∣ (λ e. upto num_tag tt) ∣ (λ e. upto cell_tag tt) ∣ (λ e. upto exch_tag tt) ∣ (λ e. upto thread_tag tt)
          ∣ (λ e. upto handle_tag tt) ∣ (λ e h. other to_name tt e)
          ∣ (λ e h. refl) ∣ (λ e h. refl) ∣ (λ e h. other to_nothing tt e) ∣ (λ e h. other to_nothing tt e) ∣ end_of_row

  -- a node that refers to no type has no annotation
  pub not_annotated : tag < tags → (refers_of tag ≡ to_type → ⊥) → node_annotated T tag arg ≡ true
  unfolding node_annotated annotated annotated_const leaf_exp leaf_forms form_of forms is_both_tag
  not_annotated known = below row tag known
    where
      row : Row (λ tag. (refers_of tag ≡ to_type → ⊥) → node_annotated T tag arg ≡ true) 0 tags
      row =
          (λ f. refl) ∣ (λ f. absurd (f refl)) ∣ (λ f. refl) ∣ (λ f. refl) ∣ (λ f. refl) ∣ (λ f. absurd (f refl)) ∣ (λ f. absurd (f refl)) ∣ (λ f. absurd (f refl))
          ∣ (λ f. absurd (f refl)) ∣ (λ f. refl) ∣ (λ f. absurd (f refl)) ∣ (λ f. absurd (f refl)) ∣ (λ f. refl) ∣ (λ f. refl) ∣ end_of_row

-- the tests of a node in the order of the code
module _ (forms : ℕ) (T : Table) (names frame : ℕ) (h : Node) where
  pub node_unknown : forms ≤ h.tag → false ≡ node_stands forms T names frame h
  unfolding node_stands
  node_unknown high = rw (le-ltb h.tag forms high) refl

  module _ (has : h.tag < forms) where
    pub node_deep : max_nesting ≤ level_of frame → false ≡ node_stands forms T names frame h
    unfolding node_stands
    node_deep low = rw (lt-ltb h.tag forms has, le-ltb (level_of frame) max_nesting low) refl

    module _ (high : level_of frame < max_nesting) where
      pub node_loose : operand_scoped (length T) names (around_of frame) h.refers h.arg ≡ false → false ≡ node_stands forms T names frame h
      unfolding node_stands
      node_loose f = rw (lt-ltb h.tag forms has, lt-ltb (level_of frame) max_nesting high, f) refl

      module _ (there : operand_scoped (length T) names (around_of frame) h.refers h.arg ≡ true) where
        pub node_typed : node_annotated T h.tag h.arg ≡ node_stands forms T names frame h
        unfolding node_stands
        node_typed = rw (lt-ltb h.tag forms has, lt-ltb (level_of frame) max_nesting high, there) refl

        pub node_plain : Known h → (h.refers ≡ to_type → ⊥) → true ≡ node_stands forms T names frame h
        node_plain k f = sym (not_annotated T h.tag h.arg k.known (λ z. f (sym k.refers ∙ z))) ∙ node_typed

        pub node_type : Known h → h.refers ≡ to_type → length T ≤ max_entries → TypedNode h.tag h.arg
        unfolding operand_scoped bound_of
        node_type k t few =
            record { known = k.known; typed = k.refers ∙ t; small = omega (arith, few, ltb_sound h.arg (length T) (rw t at there)) }

-- the next node
module _ (forms : ℕ) (T : Table) (names frame : ℕ) {front : Option Node} where
  pub next_bad : front ≡ None → None ≡ next_node forms T names frame front
  unfolding next_node
  next_bad e = rw e refl

  pub next_picked : {h : Node} {b : Bool} → front ≡ Some h → node_stands forms T names frame h ≡ b → cond b (Some h) None ≡ next_node forms T names frame front
  unfolding next_node
  next_picked e f = rw (e, f) refl
