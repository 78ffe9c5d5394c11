-- Whether what a node refers to is there, its subterms apart.
use Rattle.std.specs.Prelude.{Bool, cond, true, [], ◌∷◌, ℕ, eqb, ltb, get_or}
use Rattle.calculus.specs.Bytes.{two_byte_values}
use Rattle.term.specs.Forms.{to_nothing}

-- what the operand of a node is below, by what it refers to: nothing, a variable around, a type, a name
unfoldable pub bound_of : ℕ → ℕ → ℕ → ℕ → ℕ
bound_of types names around refers = get_or (two_byte_values ∷ around ∷ types ∷ names ∷ []) refers 0

-- document 01, cause 7, "index with no lambda, name not below b, type number not below t"
unfoldable pub operand_scoped : ℕ → ℕ → ℕ → ℕ → ℕ → Bool
operand_scoped types names around refers arg = cond (eqb refers to_nothing) true (ltb arg (bound_of types names around refers))
