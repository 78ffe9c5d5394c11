-- What stands so far of a term, in 18 bytes with zeros behind it, and what it still has to come after.
use Rattle.std.specs.Prelude.{◌≡◌, Bool, cond, List, ◌++◌, ◌+◌, ◌≤◌, ℕ, drop, take, Option, None, Some}
use Rattle.calculus.specs.Limits.{max_term_length}
use Rattle.term.specs.Forms.{operand_of}
use Rattle.list_spec.specs.Order.{above, behind, Bound, free, on, Passed}
use Rattle.list_spec.specs.Goals.{head, piece_of}
use Rattle.list_spec.specs.NextTerm.{with_zeros}
use Rattle.list_place.specs.Candidates.{arg_in, tag_in}

-- what a term of which `at` bytes stand has to come after: nothing any more, or what is left of the bytes given, of which those bytes are a beginning
unfoldable pub low_of : Bool → ℕ → List ℕ → Bound
low_of passed at after = cond passed free (above (drop at after))

-- what an answer says, where `at` bytes stand then
unfoldable pub says : ℕ → List ℕ → Option Bool → Passed
says at after None = behind
says at after (Some passed) = on (low_of passed at after)

-- the bytes of the node of a code
abbrev pub code_bytes : ℕ → List ℕ
code_bytes code = piece_of (head (tag_in code) (arg_in code))

-- how many they are
abbrev pub code_length : ℕ → ℕ
code_length code = 1 + operand_of (tag_in code)

-- so many bytes stand in the array, with zeros behind them
pub record Stand (out : List ℕ) (len : ℕ) : Type 0 where
  pub zeros : out ≡ with_zeros (take len out)
  pub short : len ≤ max_term_length

-- the bytes of a node more
pub record Written (out : List ℕ) (len code : ℕ) (out' : List ℕ) : Type 0 where
  pub stands : Stand out' (len + code_length code)
  pub more : take (len + code_length code) out' ≡ take len out ++ code_bytes code
