-- The entry that a type number names, in the bytes of a table; tests that fail on an unused entry need not ask whether there is one.
use mathlib.Core.Path.{◌≡◌, ap, refl, sym, ◌∙◌}
use mathlib.Core.Bool.{Bool, ◌&&◌, false, false≢true, not, true}
use mathlib.Core.Option.{Option, none, some}
use mathlib.Core.List.{List, [], ◌∷◌}
use Prim.Native.Nat.{◌*◌, ◌+◌, ◌<◌, ◌≤◌, suc, zero, ℕ}
use native.Mathlib.Omega.{arith}
use lib.Dec.{eqb}
use lib.ListN.{get_or, length}
use Rattle.recipe_file.specs.File.{entry_length}
use Rattle.calculus.specs.Kinds.{cell_type_kind, once_type_kind}
use Rattle.calculus.specs.Syntax.{Shape, pair, list, at}
use Rattle.calculus.specs.Table as calculus
use Rattle.calculus.specs.Verdict.{is_function_kind, lambda_number, on_cell, on_function, on_once_function, result_number, with_components}
use Rattle.recipe_table.specs.Entries.{table_of}
use Rattle.recipe_table.specs.Filled.{as_entry, unused}
use Rattle.check_types.specs.Entries.{entry_of, known_entry}

-- a test that fails on an unused entry is a test of the entry
known_test : (o : Option calculus.Entry) (test : ℕ → ℕ → ℕ → Bool) → test 0 0 0 ≡ false →
    calculus.test_entry o test ≡ test (known_entry o).kind (known_entry o).p (known_entry o).q
unfolding known_entry calculus.test_entry
known_test none test fails = sym fails
known_test (some x) test fails = refl

module _ (T : calculus.Table) (t : ℕ) where
  pub on_function_is : (test : ℕ → ℕ → Bool) → on_function T t test ≡ (is_function_kind (entry_of T t).kind && test (entry_of T t).p (entry_of T t).q)
  unfolding on_function entry_of
  on_function_is test = known_test (at T t) (λ kind p q. is_function_kind kind && test p q) refl

  pub on_once_is : (test : ℕ → ℕ → Bool) → on_once_function T t test ≡ (eqb (entry_of T t).kind once_type_kind && test (entry_of T t).p (entry_of T t).q)
  unfolding on_once_function entry_of
  on_once_is test = known_test (at T t) (λ kind p q. eqb kind once_type_kind && test p q) refl

  pub on_cell_is : (test : ℕ → Bool) → on_cell T t test ≡ (eqb (entry_of T t).kind cell_type_kind && test (entry_of T t).p)
  unfolding on_cell entry_of
  on_cell_is test = known_test (at T t) (λ kind p q. eqb kind cell_type_kind && test p) refl

-- an entry of a kind that no unused one has is there
pub entry_there : (T : calculus.Table) (t : ℕ) (x : calculus.Entry) (test : ℕ → Bool) → test 0 ≡ false → x ≡ entry_of T t → test x.kind ≡ true → at T t ≡ some x
unfolding entry_of known_entry
entry_there T t x test fails e f = go (at T t) e
  where
    go : (o : Option calculus.Entry) → x ≡ known_entry o → o ≡ some x
    go none e = absurd (false≢true (sym fails ∙ ap (λ (y : calculus.Entry). test y.kind) (sym e) ∙ f))
    go (some y) e = ap some (sym e)

pub lambda_is : (o : Option calculus.Entry) (t : ℕ) (body : ℕ → Option ℕ) → lambda_number t o body ≡ lambda_number t (some (known_entry o)) body
unfolding lambda_number known_entry
lambda_is none t body = refl
lambda_is (some x) t body = refl

pub result_is : (o : Option calculus.Entry) (a : ℕ) → result_number o a ≡ result_number (some (known_entry o)) a
unfolding result_number known_entry
result_is none a = refl
result_is (some x) a = refl

pub components_is : {A : Type 0} (otherwise : A) (s : Shape) (o : Option calculus.Entry) (t : ℕ) (follows : ℕ → ℕ → A) →
    with_components otherwise s t o follows ≡ with_components otherwise s t (some (known_entry o)) follows
unfolding with_components known_entry
components_is otherwise pair none t follows = refl
components_is otherwise list none t follows = refl
components_is otherwise s (some x) t follows = refl

-- the entry in the bytes of a table
pub at_bytes : (l : List ℕ) (t j : ℕ) → j ≡ entry_length * t → j + 2 < length l →
    at (table_of l) t ≡ some (calculus.entry (get_or l j 0) (get_or l (j + 1) 0) (get_or l (j + 2) 0))
unfolding table_of
at_bytes [] t j e h = absurd (omega arith)
at_bytes (a ∷ []) t j e h = absurd (omega arith)
at_bytes (a ∷ b ∷ []) t j e h = absurd (omega arith)
at_bytes (a ∷ b ∷ c ∷ l) zero j e h = let z : j ≡ 0 = omega arith in rw z refl
at_bytes (a ∷ b ∷ c ∷ l) (suc t) j e h =
    let z : j ≡ suc (suc (suc (entry_length * t))) = omega arith in
    let z₁ : j + 1 ≡ suc (suc (suc (entry_length * t + 1))) = omega arith in
    let z₂ : j + 2 ≡ suc (suc (suc (entry_length * t + 2))) = omega arith in
    rw (z₁, z₂, z) (at_bytes l t (entry_length * t) refl (omega arith))

pub past_bytes : (l : List ℕ) (t j : ℕ) → j ≡ entry_length * t → length l ≤ j + 2 → at (table_of l) t ≡ none
unfolding table_of
past_bytes [] t j e h = refl
past_bytes (a ∷ []) t j e h = refl
past_bytes (a ∷ b ∷ []) t j e h = refl
past_bytes (a ∷ b ∷ c ∷ l) zero j e h = absurd (omega arith)
past_bytes (a ∷ b ∷ c ∷ l) (suc t) j e h = past_bytes l t (entry_length * t) refl (omega arith)

module _ (l : List ℕ) (t : ℕ) where
  pub bytes_found : entry_length * t + 2 < length l → calculus.entry (get_or l (entry_length * t) 0) (get_or l (entry_length * t + 1) 0) (get_or l (entry_length * t + 2) 0) ≡ entry_of (table_of l) t
  unfolding entry_of known_entry
  bytes_found h = rw (at_bytes l t (entry_length * t) refl h)

  pub bytes_missing : length l ≤ entry_length * t + 2 → as_entry unused ≡ entry_of (table_of l) t
  unfolding entry_of known_entry
  bytes_missing h = rw (past_bytes l t (entry_length * t) refl h)

  pub bytes_many : entry_length * t + 2 < length l → not (calculus.is_once_kind (entry_of (table_of l) t).kind) ≡ calculus.is_many (table_of l) t
  unfolding calculus.is_many calculus.test_entry entry_of known_entry
  bytes_many h = rw (at_bytes l t (entry_length * t) refl h)

  pub bytes_none : length l ≤ entry_length * t + 2 → false ≡ calculus.is_many (table_of l) t
  unfolding calculus.is_many calculus.test_entry
  bytes_none h = rw (past_bytes l t (entry_length * t) refl h)
