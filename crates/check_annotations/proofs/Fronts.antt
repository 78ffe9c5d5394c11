-- A pair or list front by the entry of its type.
use Rattle.std.proofs.Common.{◌≡◌, ap, refl, sym, ◌∙◌, Bool, cond, false, true, ℕ}
use Rattle.calculus.specs.Syntax.{Shape, at}
use Rattle.calculus.specs.Table as calculus
use Rattle.calculus.specs.Verdict.{is_kind_of, with_components}
use Rattle.recipe_table.specs.declared.Entry.{Entry}
use Rattle.recipe_table.specs.Filled.{as_entry}
use Rattle.check_types.specs.Entries.{entry_of}
use Rattle.check_types.proofs.Entries.{components_is}

-- its type is of the right kind
pub front_kind : (T : calculus.Table) (s : Shape) (t : ℕ) (x : Entry) → as_entry x ≡ entry_of T t → is_kind_of s x.kind ≡ with_components false s t (at T t) (λ p q. true)
unfolding with_components entry_of
front_kind T s t x e =
    ap (λ (y : calculus.Entry). is_kind_of s y.kind) e
    ∙ sym (components_is false s (at T t) t (λ p q. true) ∙ same (is_kind_of s (entry_of T t).kind))
  where
    same : (b : Bool) → cond b true false ≡ b
    same true = refl
    same false = refl
