-- A leaf by its tag.
use Rattle.std.proofs.Common.{◌≡◌, refl, false, true, ◌≤◌, ℕ}
use Rattle.calculus.specs.Syntax.{const, Op, op, cell, exch, thread, handle}
use Rattle.calculus.specs.Table.{Table}
use Rattle.calculus.specs.Verdict.{annotated, annotated_const, cell_parts, exch_parts, handle_parts, is_function_kind, thread_parts}
use Rattle.term.specs.Forms.{cell_tag, exch_tag, thread_tag, handle_tag}
use Rattle.term.specs.Expressions.{leaf_exp, leaf_forms}
use Rattle.term.proofs.Leaves.{leaf_op}
use Rattle.recipe_table.specs.declared.Entry.{Entry}
use Rattle.recipe_table.specs.Filled.{as_entry}
use Rattle.check_types.specs.Entries.{entry_of}
use Rattle.check_types.proofs.Entries.{on_function_is}

-- a constant whose type has entry w
module _ (T : Table) (tag arg : ℕ) (w : Entry) (whole : as_entry w ≡ entry_of T arg) where
  -- that is no function
  pub no_function : cell_tag ≤ tag → tag ≤ handle_tag → is_function_kind w.kind ≡ false → false ≡ annotated T (leaf_exp tag arg)
  unfolding annotated annotated_const
  no_function low high f = let (o, is) = leaf_op tag arg low high in rw is (go o)
    where
      go : (o : Op) → false ≡ annotated T (const (op o arg))
      go cell = rw (on_function_is T arg (cell_parts T), ← whole, f) refl
      go exch = rw (on_function_is T arg (exch_parts T), ← whole, f) refl
      go thread = rw (on_function_is T arg (thread_parts T), ← whole, f) refl
      go handle = rw (on_function_is T arg (handle_parts T), ← whole, f) refl

  -- or a function from p to q
  module _ (f : is_function_kind w.kind ≡ true) where
    pub cell_leaf : tag ≡ cell_tag → cell_parts T w.p w.q ≡ annotated T (leaf_exp tag arg)
    unfolding leaf_exp leaf_forms annotated annotated_const
    cell_leaf e = rw (e, on_function_is T arg (cell_parts T), ← whole, f) refl

    pub exch_leaf : tag ≡ exch_tag → exch_parts T w.p w.q ≡ annotated T (leaf_exp tag arg)
    unfolding leaf_exp leaf_forms annotated annotated_const
    exch_leaf e = rw (e, on_function_is T arg (exch_parts T), ← whole, f) refl

    pub thread_leaf : tag ≡ thread_tag → thread_parts T w.p w.q ≡ annotated T (leaf_exp tag arg)
    unfolding leaf_exp leaf_forms annotated annotated_const
    thread_leaf e = rw (e, on_function_is T arg (thread_parts T), ← whole, f) refl

    pub handle_leaf : tag ≡ handle_tag → handle_parts T w.p w.q ≡ annotated T (leaf_exp tag arg)
    unfolding leaf_exp leaf_forms annotated annotated_const
    handle_leaf e = rw (e, on_function_is T arg (handle_parts T), ← whole, f) refl

pub ruleset constants = (no_function, cell_leaf, exch_leaf, thread_leaf, handle_leaf)
