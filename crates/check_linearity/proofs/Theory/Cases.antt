-- The pass on small terms, by computation: document 01's case D and the first plausible mistake, and the other ways to break the rule or keep it.
use Rattle.std.specs.Prelude.{◌≡◌, refl, [], ◌∷◌, ◌++◌}
use Rattle.std.proofs.Math.Option.{none, some}
use Rattle.calculus.specs.Syntax.{unit, num, op, handle, pair, list, Exp, var, const, lam, app, both, case_of}
use Rattle.calculus.specs.Table.{entry, Table, test_entry, is_many}
use Rattle.calculus.specs.Verdict.{with_components, const_number, on_number, result_number, applied_number, lambda_number, both_number, case_number, type_number}
use Rattle.check_linearity.specs.Spend.{new_mark, reach_under, spend_variable, spend_next, leave, spend_lambda, spend_case, spend}

-- T7 of document 01, and then: 7 from a num once-function to unit, usable once; 8 from unit to unit, usable once; 9 the same, usable many times
abbrev T10 : Table
T10 = entry 0 0 0 ∷ entry 1 0 0 ∷ entry 2 1 0 ∷ entry 3 1 0 ∷ entry 4 3 0 ∷ entry 4 1 4 ∷ entry 4 5 0 ∷ entry 3 3 0 ∷ entry 3 0 0 ∷ entry 4 0 0 ∷ []

-- what a whole term leaves, and what an open one leaves of marks and reach given
cases :
    -- not used: document 01, case D, 01 04 03
    (spend T10 [] 0 [] (lam 4 (const unit)) ≡ none) ×
    -- used once, its lambda usable many times or once; case C's term
    (spend T10 [] 0 [] (lam 4 (var 0)) ≡ some []) ×
    (spend T10 [] 0 [] (lam 7 (var 0)) ≡ some []) ×
    (spend T10 [] 0 [] (app (const (op handle 6)) (lam 5 (lam 4 (app (var 0) (var 1))))) ≡ some []) ×
    -- used twice
    (spend T10 [] 0 [] (lam 4 (app (var 0) (var 0))) ≡ none) ×
    -- "Counting a once-variable's uses but letting a many-lambda close over it", also with a once-lambda inside or outside that one
    (spend T10 [] 0 [] (lam 4 (lam 9 (var 1))) ≡ none) ×
    (spend T10 [] 0 [] (lam 4 (lam 9 (lam 8 (var 2)))) ≡ none) ×
    (spend T10 [] 0 [] (lam 4 (lam 8 (lam 9 (var 2)))) ≡ none) ×
    -- a once-lambda may close over it
    (spend T10 [] 0 [] (lam 4 (lam 8 (var 1))) ≡ some []) ×
    -- a many-variable is used at will, under a many-lambda too
    (spend T10 [] 0 [] (lam 9 (const unit)) ≡ some []) ×
    (spend T10 [] 0 [] (lam 9 (app (var 0) (lam 9 (app (var 1) (var 1))))) ≡ some []) ×
    -- variables outside: in reach and due, out of reach, spent before
    (spend T10 [] 2 (1 ∷ 0 ∷ 1 ∷ []) (app (var 0) (var 1)) ≡ some (2 ∷ 0 ∷ 1 ∷ [])) ×
    (spend T10 [] 2 (1 ∷ 0 ∷ 1 ∷ []) (var 2) ≡ none) ×
    (spend T10 [] 2 (2 ∷ 0 ∷ 1 ∷ []) (var 0) ≡ none)
unfolding spend spend_lambda spend_next spend_variable leave new_mark reach_under is_many test_entry
cases = (refl, refl, refl, refl, refl, refl, refl, refl, refl, refl, refl, refl, refl, refl)

-- T10, and then: 10 a once pair of a num once-function and a num, 11 of a num and such a function, 12 of two such functions, 13 of two nums; 14 a many pair
-- of nums, 15 a many list of nums, 16 a once list of nums; 17 to 19 from entries 13, 15 and 16 to unit, usable many times;
-- 20 a once pair of entry 13 and a num
abbrev T21 : Table
T21 =
    T10 ++ (entry 5 3 1 ∷ entry 5 1 3 ∷ entry 5 3 3 ∷ entry 5 1 1 ∷ entry 6 1 1 ∷ entry 8 1 0 ∷ entry 7 1 0 ∷ entry 4 13 0 ∷ entry 4 15 0 ∷ entry 4 16 0 ∷ entry 5 13 1 ∷ [])

abbrev five : Exp
five = const (num 5)

-- λ h. case (h, 5) of (x, y) ⇒ e, and with the components the other way round; λ h. case (5, 5) of (x, y) ⇒ e, a many pair: h is var 2 in e
abbrev first_once : Exp → Exp
first_once e = lam 4 (case_of pair (both pair 10 (var 0) five) e)

abbrev second_once : Exp → Exp
second_once e = lam 4 (case_of pair (both pair 11 five (var 0)) e)

abbrev outside_once : Exp → Exp
outside_once e = lam 4 (case_of pair (both pair 14 five five) e)

pairs :
    -- a once-variable in both components; in the second only
    (spend T21 [] 0 [] (lam 4 (both pair 12 (var 0) (var 0))) ≡ none) ×
    (spend T21 [] 0 [] (lam 4 (both pair 11 five (var 0))) ≡ some []) ×
    -- a once pair: used twice, not at all, taken apart; its components are many-variables here
    (spend T21 [] 0 [] (lam 17 (both pair 14 (var 0) (var 0))) ≡ none) ×
    (spend T21 [] 0 [] (lam 17 (const unit)) ≡ none) ×
    (spend T21 [] 0 [] (lam 17 (case_of pair (var 0) (const unit))) ≡ some []) ×
    (spend T21 [] 0 [] (lam 17 (case_of pair (var 0) (app (var 0) (var 0)))) ≡ some []) ×
    -- a handle goes by way of a once pair: its component is used once, not at all, twice; index 0 is the second component
    (spend T21 [] 0 [] (first_once (app (var 1) (var 0))) ≡ some []) ×
    (spend T21 [] 0 [] (first_once (var 0)) ≡ none) ×
    (spend T21 [] 0 [] (first_once (app (var 1) (var 1))) ≡ none) ×
    (spend T21 [] 0 [] (second_once (app (var 0) (var 1))) ≡ some []) ×
    (spend T21 [] 0 [] (second_once (var 1)) ≡ none) ×
    (spend T21 [] 0 [] (second_once (app (var 0) (var 0))) ≡ none) ×
    -- the subject has used it
    (spend T21 [] 0 [] (first_once (app (var 1) (var 2))) ≡ none) ×
    -- a component under a many-lambda, under a once-lambda
    (spend T21 [] 0 [] (first_once (lam 9 (app (var 2) (var 1)))) ≡ none) ×
    (spend T21 [] 0 [] (first_once (lam 8 (app (var 2) (var 1)))) ≡ some []) ×
    -- a once-variable from outside stands in a case's body: a case is no lambda. But a many-lambda around the case is one, and so is one in the body.
    (spend T21 [] 0 [] (outside_once (app (var 2) (var 0))) ≡ some []) ×
    (spend T21 [] 0 [] (outside_once (var 0)) ≡ none) ×
    (spend T21 [] 0 [] (outside_once (lam 9 (app (var 3) (var 1)))) ≡ none) ×
    (spend T21 [] 0 [] (lam 4 (lam 9 (case_of pair (both pair 14 five five) (app (var 3) (var 0))))) ≡ none) ×
    -- a component is taken apart, and the other is not
    (spend T21 [] 0 [] (lam 17 (case_of pair (both pair 20 (var 0) five) (case_of pair (var 1) (var 2)))) ≡ some []) ×
    (spend T21 [] 0 [] (lam 17 (case_of pair (both pair 20 (var 0) five) (case_of pair (var 0) (var 2)))) ≡ none) ×
    -- a many list, a once list: the rest is a list of the same type
    (spend T21 [] 0 [] (lam 18 (case_of list (var 0) (var 1))) ≡ some []) ×
    (spend T21 [] 0 [] (lam 19 (case_of list (var 0) (var 0))) ≡ some []) ×
    (spend T21 [] 0 [] (lam 19 (case_of list (var 0) (var 1))) ≡ none) ×
    (spend T21 [] 0 [] (lam 19 (both list 16 five (var 0))) ≡ some []) ×
    -- a subject of another kind
    (spend T21 [] 0 [] (lam 18 (case_of pair (var 0) (var 1))) ≡ none) ×
    (spend T21 [] 0 [] (case_of pair (const unit) (var 0)) ≡ none) ×
    -- variables outside, of types 3, 1 and 3, of which two are in reach: both components go, and the others keep their places
    (spend T21 (3 ∷ 1 ∷ 3 ∷ []) 2 (1 ∷ 0 ∷ 1 ∷ []) (case_of pair (both pair 10 (var 0) (var 1)) (app (var 1) (var 3))) ≡ some (2 ∷ 0 ∷ 1 ∷ [])) ×
    (spend T21 (3 ∷ 1 ∷ 3 ∷ []) 2 (1 ∷ 0 ∷ 1 ∷ []) (case_of pair (both pair 14 (var 1) (var 1)) (app (var 2) (var 3))) ≡ some (2 ∷ 0 ∷ 1 ∷ [])) ×
    (spend T21 (3 ∷ 1 ∷ 3 ∷ []) 2 (1 ∷ 0 ∷ 1 ∷ []) (case_of pair (both pair 14 (var 1) (var 1)) (var 4)) ≡ none)
unfolding spend spend_lambda spend_case spend_next spend_variable leave new_mark reach_under is_many test_entry with_components const_number on_number result_number applied_number lambda_number both_number case_number type_number
pairs = (refl, refl, refl, refl, refl, refl, refl, refl, refl, refl, refl, refl, refl, refl, refl, refl, refl, refl, refl, refl, refl, refl, refl, refl, refl, refl, refl, refl, refl, refl)
