-- The derivations of document 01's bay cases B and C and of document 02's handle in a cell by Figs. 8 and 9, and why D to H have none of a many type.
use Rattle.std.specs.Prelude.{◌≡◌, [], ◌∷◌}
use Rattle.std.proofs.Math.Path.{refl}
use Rattle.std.proofs.Math.Option.{none, some}
use Rattle.calculus.specs.Types.{once, LinType, unit_type, num_type, ref, fun, multiplicity}
use Rattle.calculus.specs.Syntax.{unit, num, op, cell, exch, thread, handle, Exp, var, const, lam, app}
use Rattle.calculus.specs.Typing.{TypeNumbers, NameTypes, of_unit, of_num, of_op, fig8_cell, fig8_exch, fig8_thread, fig8_handle, NoOnce, no_once_nil, no_once_gone, no_once_many, Split, split_nil, split_both, split_left, split_right, only_here, only_past_gone, Derivation, d_const, d_name, d_var, d_many, d_once, d_app}
use Rattle.calculus.specs.Table.{entry, Table, read_entry, read_at, read_deep, type_at, one_part, two_parts}
use Rattle.calculus.proofs.Theory.Tests.{clash}
use Rattle.calculus.proofs.Theory.OneType.{closed_one_type}
use Rattle.calculus.proofs.Theory.Cases.{T5, T7, term_B, term_C}

-- B: exch, the setting of bay 0, and a num, has type num
case_B : Derivation (type_at T5) (ref num_type ∷ []) [] term_B num_type
unfolding type_at read_deep read_at read_entry one_part two_parts
case_B = d_app split_nil (d_app split_nil (d_const no_once_nil (of_op refl fig8_exch)) (d_name no_once_nil refl)) (d_const no_once_nil of_num)

-- C: the handle goes to the function's side of the split, its future stays on both
case_C : Derivation (type_at T7) (ref num_type ∷ []) [] term_C unit_type
unfolding type_at read_deep read_at read_entry one_part two_parts
case_C = d_app split_nil (d_const no_once_nil (of_op refl (fig8_handle refl)))
    (d_many refl no_once_nil (d_many refl future (d_app (split_left refl (split_both refl split_nil)) (d_var (only_here future)) (d_var (only_past_gone (only_here no_once_nil))))))
  where
    future : NoOnce (some num_type ∷ [])
    future = no_once_many refl no_once_nil

-- handle (λ x. λ h. exch (cell h) (λ n. unit) 5) keeps a handle in a cell and takes it out again (document 02, T-02): h goes into the cell, and what exch gives
-- in its place is usable once too
abbrev T11 : Table
T11 = entry 0 0 0 ∷ entry 1 0 0 ∷ entry 2 1 0 ∷ entry 3 1 0 ∷ entry 4 3 0 ∷ entry 4 1 4 ∷ entry 4 5 0 ∷ entry 2 3 0 ∷ entry 4 3 7 ∷ entry 4 3 3 ∷ entry 4 7 9 ∷ []

abbrev kept_handle : Exp
kept_handle = app (const (op handle 6)) (lam 5 (lam 4
    (app (app (app (const (op exch 10)) (app (const (op cell 8)) (var 0))) (lam 3 (const unit))) (const (num 5)))))

case_kept_handle : Derivation (type_at T11) (ref num_type ∷ []) [] kept_handle unit_type
unfolding type_at read_deep read_at read_entry one_part two_parts
case_kept_handle = d_app split_nil (d_const no_once_nil (of_op refl (fig8_handle refl)))
    (d_many refl no_once_nil (d_many refl future (d_app handle_left
    (d_app handle_left
    (d_app handle_right (d_const (no_once_gone future) (of_op refl fig8_exch)) (d_app handle_right (d_const (no_once_gone future) (of_op refl fig8_cell)) (d_var (only_here future))))
    (d_once refl (d_const (no_once_many refl (no_once_gone future)) of_unit)))
    (d_const (no_once_gone future) of_num))))
  where
    future : NoOnce (some num_type ∷ [])
    future = no_once_many refl no_once_nil

    handle_left : Split (some (fun once num_type unit_type) ∷ some num_type ∷ []) (some (fun once num_type unit_type) ∷ some num_type ∷ []) (none ∷ some num_type ∷ [])
    handle_left = split_left refl (split_both refl split_nil)

    handle_right : Split (some (fun once num_type unit_type) ∷ some num_type ∷ []) (none ∷ some num_type ∷ []) (some (fun once num_type unit_type) ∷ some num_type ∷ [])
    handle_right = split_right refl (split_both refl split_nil)

module _ (Σ : NameTypes) where
  -- D: the parameter is usable once and is not used: once(Γ) = ∅ fails at unit
  case_D : (α : LinType) → ¬ Derivation (type_at T7) Σ [] (lam 4 (const unit)) α
  unfolding type_at read_deep read_at read_entry one_part two_parts
  case_D α (d_many t n (d_const (no_once_many m n') c)) = clash (cc)
  case_D α (d_once t d) = clash (cc)

  -- E: it has the type with number 3 and no other, of multiplicity once
  case_E : Derivation (type_at T7) Σ [] (lam 3 (const unit)) (fun once num_type unit_type)
  unfolding type_at read_deep read_at read_entry one_part two_parts
  case_E = d_once refl (d_const (no_once_many refl no_once_nil) of_unit)

  case_E_once : (α : LinType) → Derivation (type_at T7) Σ [] (lam 3 (const unit)) α → multiplicity α ≡ once
  case_E_once α d = rw (closed_one_type d case_E) refl

  -- F: the type with number 3 is no instance of thread's in Fig. 8
  case_F : (α : LinType) → ¬ Derivation (type_at T7) Σ [] (const (op thread 3)) α
  unfolding type_at read_deep read_at read_entry one_part two_parts
  case_F α (d_const n (of_op t (fig8_thread m))) = clash (cc)

  -- G: unit is no function
  case_G : (τ : TypeNumbers) (α : LinType) → ¬ Derivation τ Σ [] (app (const unit) (const unit)) α
  case_G τ α (d_app s (d_const n t) d) = elim t [ ]

  -- H: there is no lambda around the variable
  case_H : (τ : TypeNumbers) (α : LinType) → ¬ Derivation τ Σ [] (var 0) α
  case_H τ α (d_var o) = elim o [ ]
