-- `list_place::leaf_stands` meets its contract (proofs/Asking.antt).
use Rattle.std.proofs.Common.{arith, sym, ◌∙◌}
use Rattle.list_place.proofs.Asking.{bound_variable, stands_met, stands_out, stands_plain}
use Rattle.list_place.proofs.leaf_stands.Goals as goal

pub returns-then-bound_of-arg : goal.returns-then-bound_of-arg
returns-then-bound_of-arg c =
    let p = c.requires in
    stands_out _ _ _ _ _ _ p.few_types p.form (rw (← c.bound_of.ensures) c.if-bound_of-arg.true)

pub returns-then-not-is_annotated : goal.returns-then-not-is_annotated
returns-then-not-is_annotated c =
    let p = c.requires in
    stands_plain _ _ _ _ _ _ p.few_types p.form (sym (c.is_annotated.ensures.answers _ p.known p.first_forms) ∙ c.if-not-is_annotated.true)

pub leaf_type-requires : goal.leaf_type-requires
leaf_type-requires c =
    let p = c.requires in
    record {
      fits = omega (arith, p.few);
      bound = λ e. bound_variable _ _ _ e (rw (← c.bound_of.ensures) c.if-bound_of-arg.false);
      entry = λ low high. omega arith;
    }

pub returns : goal.returns
returns c =
    let p = c.requires in
    stands_met _ _ _ _ _ _ p.few_types p.form (rw (← c.bound_of.ensures) c.if-bound_of-arg.false)
    (sym (c.is_annotated.ensures.answers _ p.known p.first_forms) ∙ c.if-not-is_annotated.false) _ c.leaf_type.ensures _ c.is_met.ensures
