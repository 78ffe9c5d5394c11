-- The place of some expressions in bytes, by computing it.
use Rattle.term_redex.specs.declared.Meeting.{Meeting}
use mathlib.Core.Path.{◌≡◌, refl}
use mathlib.Core.List.{List, [], ◌∷◌}
use Prim.Native.Nat.{ℕ}
use Rattle.calculus.specs.Bytes.{two_bytes, word}
use Rattle.calculus.specs.Step.{beside, place, within}
use Rattle.calculus.specs.Image.{const_size, size}
use Rattle.term.specs.Forms.{form_of, forms}
use Rattle.term.specs.Numbers.{value_of}
use Rattle.term.specs.Reader.{read, read_term}
use Rattle.term.specs.Expressions.{bytes, const_bytes, exp_of, leaf_exp, leaf_forms, both_tag, case_tag, op_tag, term_at, term_of, two_exp, two_forms}
use Rattle.std.proofs.Common.{Option, None, Some}
use Rattle.term_redex.specs.Contexts.{front, hole_at}
use Rattle.term_redex.specs.Places.{meeting_of, place_of}

-- the bytes of an expression, and its place
pub record Row : Type 0 where
  pub term : List ℕ
  pub place_is : Option Meeting

abbrev Hold : List Row → Type 0
Hold [] = Unit {0}
Hold (r ∷ rs) = (place_of 0 (place (term_at r.term 0)) ≡ r.place_is) × Hold rs

-- unit; a lambda, whose body is not searched; exch of exch of unit; case B; case C; a function searched before its argument; an argument whose
-- exch is no value;
-- T-03: a pair of values, a name in it not followed; exch of a list front; the first component before the second; the second; a pair as function; a case whose
-- body is not searched; a name as subject; a case in a component of a subject
abbrev rows : List Row
rows =
    record { term = 3 ∷ []; place_is = None }
    ∷ record { term = 1 ∷ 0 ∷ 2 ∷ 3 ∷ 3 ∷ []; place_is = None }
    ∷ record { term = 2 ∷ 6 ∷ 0 ∷ 2 ∷ 6 ∷ 0 ∷ 3 ∷ []; place_is = None }
    ∷ record { term = 2 ∷ 2 ∷ 6 ∷ 4 ∷ 9 ∷ 0 ∷ 4 ∷ 250 ∷ 0 ∷ []; place_is = Some (record { at = 0; second = 6; end = 9 }) }
    ∷ record { term = 2 ∷ 8 ∷ 6 ∷ 1 ∷ 5 ∷ 1 ∷ 4 ∷ 2 ∷ 0 ∷ 0 ∷ 0 ∷ 1 ∷ []; place_is = Some (record { at = 0; second = 3; end = 12 }) }
    ∷ record { term = 2 ∷ 2 ∷ 9 ∷ 0 ∷ 3 ∷ 2 ∷ 9 ∷ 1 ∷ 3 ∷ []; place_is = Some (record { at = 1; second = 4; end = 5 }) }
    ∷ record { term = 2 ∷ 9 ∷ 0 ∷ 2 ∷ 6 ∷ 0 ∷ 2 ∷ 9 ∷ 1 ∷ 3 ∷ []; place_is = Some (record { at = 6; second = 9; end = 10 }) }
    ∷ record { term = 10 ∷ 5 ∷ 3 ∷ 9 ∷ 1 ∷ []; place_is = None }
    ∷ record { term = 2 ∷ 6 ∷ 0 ∷ 11 ∷ 5 ∷ 3 ∷ 3 ∷ []; place_is = None }
    ∷ record { term = 11 ∷ 6 ∷ 2 ∷ 9 ∷ 0 ∷ 3 ∷ 2 ∷ 9 ∷ 1 ∷ 3 ∷ []; place_is = Some (record { at = 2; second = 5; end = 6 }) }
    ∷ record { term = 10 ∷ 5 ∷ 9 ∷ 0 ∷ 2 ∷ 9 ∷ 1 ∷ 3 ∷ []; place_is = Some (record { at = 4; second = 7; end = 8 }) }
    ∷ record { term = 2 ∷ 10 ∷ 5 ∷ 3 ∷ 3 ∷ 2 ∷ 9 ∷ 0 ∷ 3 ∷ []; place_is = Some (record { at = 5; second = 8; end = 9 }) }
    ∷ record { term = 12 ∷ 10 ∷ 5 ∷ 3 ∷ 3 ∷ 2 ∷ 0 ∷ 0 ∷ 3 ∷ []; place_is = Some (record { at = 0; second = 5; end = 9 }) }
    ∷ record { term = 13 ∷ 9 ∷ 1 ∷ 3 ∷ []; place_is = Some (record { at = 0; second = 3; end = 4 }) }
    ∷ record { term = 12 ∷ 10 ∷ 5 ∷ 13 ∷ 9 ∷ 0 ∷ 3 ∷ 3 ∷ 3 ∷ []; place_is = Some (record { at = 3; second = 6; end = 7 }) }
    ∷ []

pub cases : Hold rows
unfolding place_of meeting_of hole_at front place within beside size const_size bytes const_bytes op_tag both_tag case_tag term_of exp_of leaf_exp leaf_forms two_exp two_forms read_term read form_of forms value_of word two_bytes
cases = (refl, (refl, (refl, (refl, (refl, (refl, (refl, (refl, (refl, (refl, (refl, (refl, (refl, (refl, (refl, tt)))))))))))))))
