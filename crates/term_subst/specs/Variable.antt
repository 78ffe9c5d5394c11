-- The variables that are substituted.
use Rattle.std.specs.Prelude.{Bool, ◌&&◌, ℕ, eqb}
use Rattle.term.specs.Forms.{to_variable}

-- a node with this operand refers to the variable with number `depth` around it
unfoldable pub is_variable : ℕ → ℕ → ℕ → Bool
is_variable refers arg depth = eqb refers to_variable && eqb arg depth
