-- `draw_thread::draw` meets its contract.
use Rattle.draw_spec.proofs.Theory.Alive.{alive_heads, alive_some}
use Rattle.draw_thread.proofs.Stepped.{stepped_answers, stepped_counts, stepped_leaves}
use Rattle.draw_thread.proofs.draw.Goals as goal

pub pick-thread-requires : goal.pick-thread-requires
pick-thread-requires c = (alive_heads c.requires.0, alive_some c.requires.0)

pub returns : goal.returns
returns c =
    let (p, long) = c.requires in
    let x = c.pick-thread.result in
    let answer = c.step_checked-answer.ensures in
    record {
      picks = c.pick-thread.ensures;
      answers = stepped_answers p x c.args.out.now long answer.outcome_value;
      leaves = stepped_leaves p x c.args.out.now long answer.out_after;
      counts = stepped_counts p x c.args.image.counted answer.nodes_value;
    }
