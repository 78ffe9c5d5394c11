-- `image_layout::heads_stand` meets its contract. The loop's invariant: k names have stood, and what is left of the test is the test of the others.
use mathlib.Core.Path.{sym, ◌∙◌}
use native.Mathlib.Omega.{arith}
use Rattle.image_layout.proofs.Pass.{no_room, passed_none, passed_all, next_head, passed_fault, passed_one}
use Rattle.image_layout.proofs.heads_stand.Goals as goal

pub returns-then-image-lt-FIRST_HEAD : goal.returns-then-image-lt-FIRST_HEAD
returns-then-image-lt-FIRST_HEAD c = no_room c.args.image.now (omega arith)

pub returns-then-image-end : goal.returns-then-image-end
returns-then-image-end c = no_room c.args.image.now (omega (arith, c.names_of-names.ensures.0))

pub loop-k-init : goal.loop-k-init
loop-k-init c = passed_none _ _ c.names_of-names.ensures.0 c.if-image-end.false

pub head_stands-requires : goal.head_stands-requires
head_stands-requires c = let p = c.loop-k.invariant in (next_head p c.loop-k-test.true, p.inside)

pub returns-then-not-head_stands : goal.returns-then-not-head_stands
returns-then-not-head_stands c = passed_fault c.loop-k.invariant c.loop-k-test.true (sym c.head_stands.ensures ∙ c.if-not-head_stands.true)

pub length_at-end-requires : goal.length_at-end-requires
length_at-end-requires c = next_head c.loop-k.invariant c.loop-k-test.true

pub overflow_add-end-in-loop-k : goal.overflow_add-end-in-loop-k
overflow_add-end-in-loop-k c = omega (arith, c.loop-k.invariant.inside, c.length_at-end.ensures.1, c.well_formed.0.1)

pub loop-k-preserved : goal.loop-k-preserved
loop-k-preserved c = passed_one c.loop-k.invariant c.loop-k-test.true (sym c.head_stands.ensures ∙ c.if-not-head_stands.false) c.length_at-end.ensures.0

pub returns : goal.returns
returns c = passed_all c.loop-k.invariant c.loop-k-test.false
