-- Document 01, cause 9, as the type walk answers it: the number of the type of the term at a position, and where that term ends.
use Rattle.std.specs.Prelude.{None, Option as Answer, Some, ◌≡◌, true, List, [], ◌∷◌, ◌*◌, ◌+◌, ◌<◌, ◌≤◌, suc, zero, ℕ, get_or}
use Rattle.std.proofs.Math.Option.{Option, none, some}
use Rattle.calculus.specs.Limits.{byte_values, max_entries, max_variables}
use Rattle.calculus.specs.Syntax.{Exp}
use Rattle.calculus.specs.Table.{Table}
use Rattle.calculus.specs.Verdict.{scoped, type_number}
use Rattle.term.specs.Forms.{cell_tag, handle_tag, variable_tag}
use Rattle.term.specs.Reader.{end_at}
use Rattle.term.specs.Expressions.{nesting, term_at}
use Rattle.check_types.specs.declared.Typed.{Typed}

-- the numbers of the types of the `above` variables in scope, innermost first, from an array that has them outermost first
unfoldable pub environment : ℕ → List ℕ → List ℕ
environment zero a = []
environment (suc above) a = get_or a above 0 ∷ environment above a

-- a type's number, and where the term ends
abbrev pub has : ℕ → ℕ → Answer Typed
has n end = Some (record { number = n; end = end })

-- the same where there is a type
unfoldable pub typed : Option ℕ → ℕ → Answer Typed
typed none end = None
typed (some n) end = has n end

-- document 01, cause 9, of the term at a position
unfoldable pub typed_at : Table → List ℕ → List ℕ → ℕ → Answer Typed
typed_at T Δ l at = typed (type_number T Δ (term_at l at)) (end_at l at)

-- an expression whose type has number n by any table
pub record HasNumber (Δ : List ℕ) (e : Exp) (n : ℕ) : Type 0 where
  pub number : (T : Table) → type_number T Δ e ≡ some n

-- an expression with `above` variables in scope to which no cause below 8 fits; the table has `count` entries
pub record ScopedExp (count above : ℕ) (e : Exp) : Type 0 where
  pub entries : count ≤ max_entries
  pub nests : above + 2 * nesting e ≤ max_variables
  pub names : ℕ
  pub scope : scoped count names above e ≡ true

-- a term with no subterm, with `above` variables in scope whose types stand in an array of `room` elements
pub record LeafThere (room above tag arg : ℕ) : Type 0 where
  pub fits : above ≤ room
  pub bound : tag ≡ variable_tag → arg < above
  pub entry : cell_tag ≤ tag → tag ≤ handle_tag → arg < byte_values
