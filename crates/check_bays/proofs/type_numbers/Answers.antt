-- `check_bays::type_numbers` meets its contract: each cause by what is answered of all bays.
use Rattle.std.proofs.lemmas.Bool.{not-false, not-true}
use Rattle.check_bays.proofs.Typing.{first_not_linear, first_not_many, first_untyped, none_first, typed}
use Rattle.check_bays.proofs.type_numbers.Goals as goal

pub returns-in_default-clause-refusal : goal.returns-in_default-clause-refusal
returns-in_default-clause-refusal c = first_untyped c.types_of.ensures c.in_default.is

pub returns-then-not-found-clause-refusal : goal.returns-then-not-found-clause-refusal
returns-then-not-found-clause-refusal c = first_not_linear c.types_of.ensures c.in-Some.is (not-true _ c.if-not-found.true)

pub returns-then-not-found-2-clause-refusal : goal.returns-then-not-found-2-clause-refusal
returns-then-not-found-2-clause-refusal c = first_not_many c.types_of.ensures c.in-Some.is (not-false _ c.if-not-found.false) (not-true _ c.if-not-found-2.true)

pub returns-clause-refusal : goal.returns-clause-refusal
returns-clause-refusal c = none_first c.types_of.ensures c.in-Some.is (not-false _ c.if-not-found.false) (not-false _ c.if-not-found-2.false)

pub returns-clause-types : goal.returns-clause-types
returns-clause-types c = (typed c.types_of.ensures c.in-Some.is).numbers
