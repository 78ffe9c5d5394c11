-- A cause's number, and the number that an answer says.
use native.Mathlib.Omega.{arith}
use mathlib.Core.Path.{◌≡◌, ap}
use Rattle.std.specs.Prelude.{Result, Ok, Err, IsErrAnd}
use denote.Enum.Declared.{tag_of}
use Prim.Native.Nat.{◌+◌}
use Rattle.numbers.specs.contracts.Cause.{the_type}
use Rattle.numbers.specs.declared.Cause.{Cause}
use Rattle.numbers.specs.Refusals.{number_of, refusal_number}

-- no cause has the number 0
pub some_number : (cause : Cause) → number_of cause ≡ 0 → ⊥
some_number cause e = grind arith

-- what a `?` hands on says the number of its cause
pub handed_on : {A : Type 0} (r : Result A Cause) (cause : Cause) → IsErrAnd r (λ e. e ≡ cause) → refusal_number r ≡ number_of cause
handed_on (Ok a) cause p = absurd p
handed_on (Err e) cause p = ap number_of p

-- the number that `as` makes of a cause
pub number_by_as : (cause : Cause) → tag_of the_type cause + 1 ≡ number_of cause
number_by_as cause = grind arith
