-- `check_walk::spend_leaf` meets its contract: one law of the pass for each way.
use Rattle.std.proofs.Common.{arith, refl, length-set}
use Rattle.std.proofs.lemmas.List.{map-set}
use Rattle.check_linearity.proofs.Theory.Walks.{walked_due, walked_many, walked_past_reach, walked_spent}
use Rattle.check_walk.proofs.Marks.{at_level}
use Rattle.check_walk.proofs.Walks.{still_leaf, variable_leaf}
use Rattle.check_walk.proofs.spend_leaf.Goals as goal

pub returns-then-tag-ne-VARIABLE : goal.returns-then-tag-ne-VARIABLE
returns-then-tag-ne-VARIABLE c = still_leaf _ _ c.if-tag-ne-VARIABLE.true

pub returns-in-Many : goal.returns-in-Many
returns-in-Many c =
    let z = c.if-tag-ne-VARIABLE.false in
    variable_leaf _ _ z (λ T Δ. walked_many _ (c.requires.bound z) (at_level c.args.marks.now _ c.in-Many.is)) refl

pub returns-in-Spent : goal.returns-in-Spent
returns-in-Spent c =
    let z = c.if-tag-ne-VARIABLE.false in
    let m = at_level c.args.marks.now _ c.in-Spent.is in
    variable_leaf _ _ z (λ T Δ. walked_spent _ (c.requires.bound z) (omega (arith, m)) (omega (arith, m))) refl

pub returns-then-level-floor : goal.returns-then-level-floor
returns-then-level-floor c =
    let z = c.if-tag-ne-VARIABLE.false in
    let m = at_level c.args.marks.now _ c.in-Due.is in
    variable_leaf _ _ z (λ T Δ. walked_past_reach _ (c.requires.bound z) (omega (arith, m)) c.if-level-floor.true) refl

pub returns-else-level-floor : goal.returns-else-level-floor
returns-else-level-floor c =
    let z = c.if-tag-ne-VARIABLE.false in
    rw map-set
    (variable_leaf _ _ z (λ T Δ. walked_due _ (c.requires.bound z) (omega (arith, c.requires.room, c.requires.long)) (at_level c.args.marks.now _ c.in-Due.is) c.if-level-floor.false) (simp length-set))
