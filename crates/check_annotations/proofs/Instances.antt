-- The types of constants, on the entries that their numbers name.
use Rattle.std.proofs.Common.{◌≡◌, refl, ◌&&◌, Bool, false, true, ℕ, eqb}
use Rattle.calculus.specs.Kinds.{cell_type_kind, unit_entry}
use Rattle.calculus.specs.Table.{is_many, Table}
use Rattle.calculus.specs.Verdict.{cell_parts, exch_parts, handle_parts, is_function_kind, on_function, on_once_function, thread_parts}
use Rattle.recipe_table.specs.declared.Entry.{Entry}
use Rattle.recipe_table.specs.Filled.{as_entry}
use Rattle.check_types.specs.Entries.{entry_of}
use Rattle.check_types.proofs.Entries.{on_cell_is, on_function_is, on_once_is}
use Rattle.check_annotations.specs.Nodes.{handle_of, maps}

maps_and : (x : Entry) (p q : ℕ) (d : Bool) → (is_function_kind x.kind && (eqb x.p p && (eqb x.q q && d))) ≡ (maps x p q && d)
unfolding maps
maps_and x p q d = regroup (is_function_kind x.kind) (eqb x.p p) (eqb x.q q) where
  regroup : (a b c : Bool) → (a && (b && (c && d))) ≡ ((a && (b && c)) && d)
  regroup false b c = refl
  regroup true false c = refl
  regroup true true c = refl

-- the type of a constant, a function from p to q, by the entries that it names
module _ (T : Table) (p q : ℕ) where
  pub cell_tests : (x : Entry) → as_entry x ≡ entry_of T q → cell_parts T p q ≡ (eqb x.kind cell_type_kind && eqb x.p p)
  cell_tests x result = rw (on_cell_is T q (λ a'. eqb a' p), ← result) refl

  pub exch_tests : (x y : Entry) → as_entry x ≡ entry_of T p → as_entry y ≡ entry_of T q → exch_parts T p q ≡ (eqb x.kind cell_type_kind && maps y x.p x.p)
  unfolding maps
  exch_tests x y parameter result =
      rw (
        on_cell_is T p (λ a. on_function T q λ a' a''. eqb a' a && eqb a'' a),
        ← parameter,
        on_function_is T q (λ a' a''. eqb a' x.p && eqb a'' x.p),
        ← result,
      ) refl

  pub thread_tests : (x : Entry) → as_entry x ≡ entry_of T p → thread_parts T p q ≡ (maps x q q && is_many T q)
  thread_tests x parameter = rw (on_function_is T p (λ a' a''. eqb a' q && (eqb a'' q && is_many T q)), ← parameter, maps_and x q q (is_many T q)) refl

  pub handle_type_tests : (o i h : Entry) → as_entry o ≡ entry_of T p → as_entry i ≡ entry_of T o.q → as_entry h ≡ entry_of T i.p →
      handle_parts T p q ≡ (is_function_kind o.kind && (is_function_kind i.kind && (handle_of h o.p && (eqb i.q q && is_many T o.p))))
  unfolding handle_of
  handle_type_tests o i h outer inner handle =
      rw (
        on_function_is T p (λ a g. on_function T g λ h r'. on_once_function T h (λ a' u. eqb a' a && eqb u unit_entry) && (eqb r' q && is_many T a)),
        ← outer,
        on_function_is T o.q (λ h r'. on_once_function T h (λ a' u. eqb a' o.p && eqb u unit_entry) && (eqb r' q && is_many T o.p)),
        ← inner,
        on_once_is T i.p (λ a' u. eqb a' o.p && eqb u unit_entry),
        ← handle,
      ) refl
