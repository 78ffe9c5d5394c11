-- A type applied to as many arguments as applications stand open: one application after the other.
use Rattle.std.proofs.Common.{◌≡◌, refl, sym, ◌∙◌, ◌&&◌, false, true, ◌-◌, ◌<◌, ◌≤◌, suc, zero, ℕ, arith, eqb}
use Rattle.calculus.specs.Limits.{byte_values}
use Rattle.calculus.specs.Table.{is_many, Table}
use Rattle.calculus.specs.Verdict.{is_function_kind}
use Rattle.calculus.proofs.Theory.Tests.{eqb_differ}
use Rattle.recipe_table.specs.declared.Entry.{Entry}
use Rattle.recipe_table.specs.Filled.{as_entry}
use Rattle.check_types.specs.Entries.{entry_of}
use Rattle.check_types.proofs.Entries.{on_function_is}
use Rattle.list_spec.specs.Goals.{meets}
use Rattle.list_place.specs.Places.{any_type, want_of}

module _ (T : Table) (spine want number : ℕ) where
  -- what is asked of type t, with so many applications still open, is what was asked of the first
  pub record Asked (left t : ℕ) : Type 0 where
    pub byte : t < byte_values
    pub same : meets T spine (want_of want) number ≡ meets T left (want_of want) t

  pub asked_first : number < byte_values → (left : ℕ) → left ≡ spine → Asked left number
  asked_first b left e = rw e record { byte = b; same = refl }

  module _ (left t : ℕ) (a : Asked left t) where
    -- one application: the type is a function, and its result is asked
    opened : 0 < left → meets T left (want_of want) t ≡ (is_function_kind (entry_of T t).kind && meets T (left - 1) (want_of want) (entry_of T t).q)
    unfolding meets
    opened h = go left h
      where
        go : (n : ℕ) → 0 < n → meets T n (want_of want) t ≡ (is_function_kind (entry_of T t).kind && meets T (n - 1) (want_of want) (entry_of T t).q)
        go zero l = absurd (omega arith)
        go (suc n) l = let e : suc n - 1 ≡ n = omega arith in rw e (on_function_is T t (λ p q. meets T n (want_of want) q))

    module _ (x : Entry) (h : 0 < left) (e : as_entry x ≡ entry_of T t) where
      pub asked_none : is_function_kind x.kind ≡ false → false ≡ meets T spine (want_of want) number
      asked_none f = sym (a.same ∙ opened h ∙ rw (← e, f) refl)

      pub asked_next : is_function_kind x.kind ≡ true → x.q < byte_values → (rest : ℕ) → rest ≡ left - 1 → Asked rest x.q
      asked_next f b rest r = rw r record { byte = b; same = a.same ∙ opened h ∙ rw (← e, f) refl }

    module _ (h : left ≤ 0) where
      closed : left ≡ 0
      closed = omega arith

      pub asked_any : want ≡ any_type → is_many T t ≡ meets T spine (want_of want) number
      unfolding meets want_of
      asked_any e = sym (a.same ∙ rw (closed, e) refl)

      pub asked_is : ¬ (want ≡ any_type) → eqb t want ≡ meets T spine (want_of want) number
      unfolding meets want_of
      asked_is n = sym (a.same ∙ rw (closed, eqb_differ want any_type n) refl)
