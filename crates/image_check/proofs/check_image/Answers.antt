-- `image_check::check_image` meets its contract: a law for each return.
use mathlib.Core.Path.{◌≡◌, sym, ◌∙◌}
use native.Mathlib.Omega.{arith}
use Rattle.std.proofs.Common.{Some}
use Rattle.image_check.specs.Answer.{checked}
use Rattle.image_check.proofs.Answers.{all_stand, no_expressions, no_layout, no_pairs, too_many, too_short}
use Rattle.image_check.proofs.Theory.Answers.{answered}
use Rattle.image_check.proofs.check_image.Goals as goal
use Rattle.image_check.proofs.check_image.Goals.{Else-not-pairs_stand}

pub returns-then-image-lt-FIRST_HEAD-clause-answer : goal.returns-then-image-lt-FIRST_HEAD-clause-answer
returns-then-image-lt-FIRST_HEAD-clause-answer c = too_short _ c.if-image-lt-FIRST_HEAD.true

pub returns-then-names_of-gt-MAX_NAMES-clause-answer : goal.returns-then-names_of-gt-MAX_NAMES-clause-answer
returns-then-names_of-gt-MAX_NAMES-clause-answer c = too_many _ c.names_of.ensures.0 c.if-names_of-gt-MAX_NAMES.true

pub returns-then-not-heads_stand-clause-answer : goal.returns-then-not-heads_stand-clause-answer
returns-then-not-heads_stand-clause-answer c = no_layout _ (sym c.heads_stand.ensures ∙ c.if-not-heads_stand.true)

pub all_nodes-requires : goal.all_nodes-requires
all_nodes-requires c = sym c.heads_stand.ensures ∙ c.if-not-heads_stand.false

pub returns-in_err-nodes-clause-answer : goal.returns-in_err-nodes-clause-answer
returns-in_err-nodes-clause-answer c = rw c.from_residual.ensures (no_expressions _ (sym c.in_err-nodes.was ∙ c.all_nodes.ensures))

pub pairs_stand-requires : goal.pairs_stand-requires
pairs_stand-requires c = (sym c.heads_stand.ensures ∙ c.if-not-heads_stand.false, omega (arith, c.names_of.ensures.0))

pub returns-then-not-pairs_stand-clause-answer : goal.returns-then-not-pairs_stand-clause-answer
returns-then-not-pairs_stand-clause-answer c = no_pairs _ (sym c.pairs_stand.ensures ∙ c.if-not-pairs_stand.true)

-- nothing is left to be asked
stands : (c : Else-not-pairs_stand) → Some c.in_ok-nodes.nodes ≡ checked c.args.image.now
stands c =
    all_stand _ c.names_of.ensures.0 c.if-names_of-gt-MAX_NAMES.false (sym c.heads_stand.ensures ∙ c.if-not-heads_stand.false)
    (sym c.in_ok-nodes.was ∙ c.all_nodes.ensures)
    (sym c.pairs_stand.ensures ∙ c.if-not-pairs_stand.false)

pub invariant_of-result : goal.invariant_of-result
invariant_of-result c = let (stood, counted) = answered _ _ (stands c) in record { stands = stood; counted = counted; fit = λ i. (c.type_inv.image i).fits }

pub returns-clause-answer : goal.returns-clause-answer
returns-clause-answer c = stands (goal.at.returns-clause-answer c).Else-not-pairs_stand
