-- `draw_text::put_draw` meets its contract: one draw more, by its outcome.
use Rattle.draw_text.proofs.Onward.{onward_rule, onward_same, ready_line}
use Rattle.draw_text.proofs.put_draw.Goals as goal

pub put_line-next-requires : goal.put_line-next-requires
put_line-next-requires c =
    let drew = c.alternate-drawn.ensures.came in
    let same = c.alternate-drawn.ensures.first_unchanged in
    let (small, thread) = ready_line c.args.at _ _ c.requires.0 c.next_state-state.ensures drew same c.alternate-drawn.auto.first c.alternate-drawn.auto.second in
    (small, (thread, c.requires.1))

pub returns-in_default : goal.returns-in_default
returns-in_default c =
    let drew = c.alternate-drawn.ensures.came in
    let same = c.alternate-drawn.ensures.first_unchanged in
    onward_same c.args.at _ _ c.requires.0 c.next_state-state.ensures drew same c.alternate-drawn.auto.first c.alternate-drawn.auto.second c.put_line-next.ensures c.in_default.not-Rule

pub returns : goal.returns
returns c =
    let drew = c.alternate-drawn.ensures.came in
    let same = c.alternate-drawn.ensures.first_unchanged in
    onward_rule c.args.at _ _ c.requires.0 c.next_state-state.ensures drew same c.alternate-drawn.auto.first c.alternate-drawn.auto.second c.put_line-next.ensures c.in-Rule.is
