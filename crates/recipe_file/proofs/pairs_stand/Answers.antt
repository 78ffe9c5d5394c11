-- `recipe_file::pairs_stand` meets its contract. The loop's invariant: the pairs passed keep the layout, so that those still to come decide.
use Rattle.recipe_file.proofs.Walks.{walked_start, walked_elsewhere, walked_empty, walked_next, walked_end}
use Rattle.recipe_file.proofs.pairs_stand.Goals as goal

pub loop-pair-init : goal.loop-pair-init
loop-pair-init c = walked_start _ _ c.pair_offset-end.ensures

pub returns-then-offset_of-end : goal.returns-then-offset_of-end
returns-then-offset_of-end c = walked_elsewhere c.loop-pair.invariant c.loop-pair-test.true _ c.offset_of.ensures.0 c.if-offset_of-end.true

pub returns-then-size-eq0 : goal.returns-then-size-eq0
returns-then-size-eq0 c =
    walked_empty c.loop-pair.invariant c.loop-pair-test.true _ c.offset_of.ensures.0
    c.if-offset_of-end.false _ c.length_of-size.ensures.0 c.if-size-eq0.true

pub loop-pair-preserved : goal.loop-pair-preserved
loop-pair-preserved c =
    walked_next c.loop-pair.invariant c.loop-pair-test.true _ c.offset_of.ensures.0
    c.if-offset_of-end.false _ c.length_of-size.ensures.0 c.if-size-eq0.false c.length_of-size.ensures.1

pub returns : goal.returns
returns c = walked_end c.loop-pair.invariant c.loop-pair-test.false
