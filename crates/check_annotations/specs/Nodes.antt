-- Document 01, cause 8: tests of one entry.
use Rattle.std.specs.Prelude.{Bool, ◌&&◌, ℕ, eqb}
use Rattle.calculus.specs.Kinds.{once_type_kind, unit_entry}
use Rattle.calculus.specs.Verdict.{is_function_kind}
use Rattle.recipe_table.specs.declared.Entry.{Entry}

-- a function from p to q
unfoldable pub maps : Entry → ℕ → ℕ → Bool
maps x p q = is_function_kind x.kind && (eqb x.p p && eqb x.q q)

-- a function from a to unit, usable once
unfoldable pub handle_of : Entry → ℕ → Bool
handle_of x a = eqb x.kind once_type_kind && (eqb x.p a && eqb x.q unit_entry)
